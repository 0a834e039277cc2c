-- The embedding theorem at the signature of the file.
use Rattle.signature_laws.specs.FileSignature.{IsGoodReading}
use Rattle.embedding_laws.specs.Laws.{FileTheorem}
use Rattle.embedding_laws.proofs.FileLaw.{file-law}
use Rattle.embedding_laws.proofs.Whole.{embedding_theorem}
use Rattle.signature_laws.proofs.FileReading.{profile-law}

pub file-theorem : FileTheorem
file-theorem file p h =
    let r : IsGoodReading file p.signature = profile-law file p h in
    record { over = file-law p.signature file r.names r.numbers r.sorted; same = embedding_theorem p.signature file }
