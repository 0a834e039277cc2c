use Rattle.std.proofs.Common.{◌-◌, ◌≡◌, ◌≤◌, decimal}
use Rattle.std.specs.List.{list_any, range_with_len}
use Rattle.nxf_tree.specs.Names.{same_text}
use Rattle.nxf_run.specs.Forms as forms
use Rattle.nxf_run.proofs.words.is_number.Given as goal

-- none of the numbers before this one
abbrev pub invariant-loop-number : goal.invariant-loop-number
invariant-loop-number l =
    (forms.is_number l.word ≡ list_any (λ n. same_text (decimal n) l.word) (range_with_len l.number (201 - l.number))) × (l.number ≤ 201)

abbrev pub decreases-loop-number : goal.decreases-loop-number
decreases-loop-number l = 201 - l.number
