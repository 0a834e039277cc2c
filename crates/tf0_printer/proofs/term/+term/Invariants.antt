use Rattle.std.proofs.Common.{◌≡◌, ◌++◌, take}
use Rattle.nxf_tree.specs.Text.{terms_text}
use Rattle.tf0_printer.proofs.term.+term.Given as goal

abbrev pub invariant-write_terms-loop-at : goal.invariant-write_terms-loop-at
invariant-write_terms-loop-at l = l.out.items ≡ l.initial.out.items ++ terms_text (take l.at l.terms)
