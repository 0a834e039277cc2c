use Rattle.reading_laws.proofs.LeftOfStatements.{stop_needed}
use Rattle.reading_laws.proofs.no_rest_is_read.Goals as goal

pub returns : goal.returns
returns c = λ w most n p s none d. stop_needed d none
