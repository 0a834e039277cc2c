-- What other crates cite of the lemmas of this one.
pub use Rattle.check_answer.proofs.Judged.{handed_on, unread, has_fault, meets_all}
