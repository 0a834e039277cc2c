use Rattle.gathering_laws.proofs.ExactlyOne.{exactly_one_gathering}
use Rattle.gathering_laws.proofs.SomeGathering.{gathering_of_files}
use Rattle.gathering_laws.proofs.one_gathering.Goals as goal

pub returns-clause-one : goal.returns-clause-one
returns-clause-one c = exactly_one_gathering

pub returns-clause-of_files : goal.returns-clause-of_files
returns-clause-of_files c = gathering_of_files
