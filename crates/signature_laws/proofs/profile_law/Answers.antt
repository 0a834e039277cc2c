use Rattle.signature_laws.proofs.FileReading.{profile-law}
use Rattle.signature_laws.proofs.profile_law.Goals as goal

pub returns : goal.returns
returns c = profile-law
