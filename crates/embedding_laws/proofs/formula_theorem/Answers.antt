use Rattle.embedding_laws.proofs.Whole.{formula_theorem}
use Rattle.embedding_laws.proofs.formula_theorem.Goals as goal

pub returns : goal.returns
returns c = formula_theorem
