use Rattle.printed_problem_laws.proofs.PrintedStatements.{printed_regular, printed_levels}
use Rattle.printed_text_laws.proofs.PrintedProblem.{printed_spelled, printed_only}
use Rattle.printed_text_laws.proofs.printed_problem_can_be_read.Goals as goal

pub returns-clause-regular : goal.returns-clause-regular
returns-clause-regular c = printed_regular

pub returns-clause-levels : goal.returns-clause-levels
returns-clause-levels c = printed_levels

pub returns-clause-spelled : goal.returns-clause-spelled
returns-clause-spelled c = λ sig file h. printed_spelled sig file h.well_formed h.regular h.levels

pub returns-clause-only : goal.returns-clause-only
returns-clause-only c = λ sig file h other s. printed_only sig file other h.well_formed h.regular h.levels s
