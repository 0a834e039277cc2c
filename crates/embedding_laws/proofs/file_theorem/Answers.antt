use Rattle.embedding_laws.proofs.FileTheorem.{file-theorem}
use Rattle.embedding_laws.proofs.file_theorem.Goals as goal

pub returns : goal.returns
returns c = file-theorem
