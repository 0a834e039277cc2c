use Rattle.tptp_lex.proofs.Spans.{in_order, within}
use Rattle.tptp_lex.proofs.lexer.spans_in_order.Goals as goal

pub returns-clause-order : goal.returns-clause-order
returns-clause-order c = in_order

pub returns-clause-within : goal.returns-clause-within
returns-clause-within c = within
