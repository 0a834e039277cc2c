use Rattle.embedding_laws.proofs.Whole.{axioms_theorem}
use Rattle.embedding_laws.proofs.axioms_theorem.Goals as goal

pub returns : goal.returns
returns c = axioms_theorem
