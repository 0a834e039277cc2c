-- What other crates cite of the lemmas of this one.
pub use Rattle.nxf_terminals.proofs.Spelled.{Permits, digits_printable, items_spelled, name_printable, name_word}
pub use Rattle.nxf_terminals.proofs.Tools.{Item, Ran, after_seen, after_unseen, bound, end_is_no_and, end_is_no_at, end_is_no_boxes, end_is_no_close, end_is_no_colon, end_is_no_comma, end_is_no_greater, end_is_no_hash, end_is_no_is, end_is_no_left_bracket, end_is_no_open, end_is_no_or, end_is_no_right_brace, end_is_no_right_bracket, end_is_no_sort_type, end_is_no_stop, end_is_no_upper, expected, item_at, moved, no, ran, same_true_sign, with_bound, with_expected, yes}
pub use Rattle.nxf_terminals.proofs.Turns.{no_more, one_more}
