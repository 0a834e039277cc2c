use Rattle.kripke_text_laws.proofs.Refusals.{one-refusal, no-refusal}
use Rattle.kripke_text_laws.proofs.refusals_law.Goals as goal

pub returns : goal.returns
returns c = record { one = one-refusal; none = no-refusal }
