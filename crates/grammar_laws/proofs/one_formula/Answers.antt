use Rattle.grammar_laws.proofs.Exact.{one}
use Rattle.grammar_laws.proofs.one_formula.Goals as goal

pub returns : goal.returns
returns c = one
