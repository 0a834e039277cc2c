use Rattle.embedding_laws.proofs.FileLaw.{file-law}
use Rattle.embedding_laws.proofs.file_law.Goals as goal

pub returns : goal.returns
returns c = file-law
