-- What other crates cite of the lemmas of this one.
pub use Rattle.tptp_lex.proofs.Classes.{class_digit, class_upper}
pub use Rattle.tptp_lex.proofs.Closed.{quote_front}
pub use Rattle.tptp_lex.proofs.Complete.{reaches}
pub use Rattle.tptp_lex.proofs.Pieces.{IsSoFar, all_lexed, bad_place, no_bad_place, none_there, one_bad_place, one_lexing}
pub use Rattle.tptp_lex.proofs.Printed.{spelled_longest, word_longest}
pub use Rattle.tptp_lex.proofs.Runs.{run_exact, stops}
pub use Rattle.tptp_lex.proofs.Sound.{sound}
pub use Rattle.tptp_lex.proofs.Spans.{all_spelled, within}
