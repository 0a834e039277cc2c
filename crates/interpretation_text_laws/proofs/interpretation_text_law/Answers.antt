use Rattle.interpretation_text_laws.proofs.Fitting.{interpretation_fits, interpretation_spelled, interpretation_only}
use Rattle.interpretation_text_laws.proofs.interpretation_text_law.Goals as goal

pub returns : goal.returns
returns c = record { fits = interpretation_fits; spells = interpretation_spelled; only = interpretation_only }
