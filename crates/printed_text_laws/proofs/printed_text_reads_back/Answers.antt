use Rattle.printed_text_laws.proofs.RoundTrip.{no_other_spelled}
use Rattle.printed_text_laws.proofs.printed_text_reads_back.Goals as goal

pub returns : goal.returns
returns c = λ p f g h s. no_other_spelled p f g h.plain h.regular h.levels s
