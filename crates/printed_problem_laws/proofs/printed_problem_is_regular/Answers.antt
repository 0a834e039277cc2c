use Rattle.printed_problem_laws.proofs.PrintedStatements.{printed_regular, printed_levels}
use Rattle.printed_problem_laws.proofs.printed_problem_is_regular.Goals as goal

pub returns : goal.returns
returns c = record { regular = printed_regular; levels = printed_levels }
