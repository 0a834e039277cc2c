use Rattle.answer_laws.proofs.OneReading.{exactly_one_reading}
use Rattle.answer_laws.proofs.one_reading.Goals as goal

pub returns : goal.returns
returns c = exactly_one_reading
