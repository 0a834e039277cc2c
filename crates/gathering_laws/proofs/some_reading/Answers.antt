use Rattle.gathering_laws.proofs.SomeReading.{has_tokens, has_file}
use Rattle.gathering_laws.proofs.some_reading.Goals as goal

pub returns-clause-tokens : goal.returns-clause-tokens
returns-clause-tokens c = has_tokens

pub returns-clause-file : goal.returns-clause-file
returns-clause-file c = has_file
