use Rattle.printed_text_laws.proofs.RoundTrip.{regular_file_printable, regular_file_spelled}
use Rattle.printed_text_laws.proofs.regular_file_is_printed.Goals as goal

pub returns-clause-printable : goal.returns-clause-printable
returns-clause-printable c = regular_file_printable

pub returns-clause-spelled : goal.returns-clause-spelled
returns-clause-spelled c = λ p f h. regular_file_spelled p f h.plain h.regular h.levels
