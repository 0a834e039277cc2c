use Rattle.grammar_laws.proofs.ExactFiles.{one_file_spelled, no_file, one_fault}
use Rattle.grammar_laws.proofs.one_file.Goals as goal

pub returns-clause-file : goal.returns-clause-file
returns-clause-file c = one_file_spelled

pub returns-clause-either : goal.returns-clause-either
returns-clause-either c = λ p bytes ts f k d e. no_file d e

pub returns-clause-fault : goal.returns-clause-fault
returns-clause-fault c = λ p bytes ts j k d e. one_fault d e
