use Rattle.gathering_laws.proofs.ExactlyOne.{exactly_one_reading}
use Rattle.gathering_laws.proofs.one_reading.Goals as goal

pub returns : goal.returns
returns c = exactly_one_reading
