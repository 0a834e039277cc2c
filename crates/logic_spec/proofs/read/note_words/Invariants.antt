use Rattle.std.proofs.Common.{◌≡◌, ℕ, List, length}
use Rattle.std.specs.Prelude.{slice_get}
use Rattle.std.specs.Option.{unwrap_or}
use Rattle.nxf_tree.specs.declared.tree.SortName.{SortName}
use Rattle.nxf_tree.specs.Specification.{overrides_of, override_or, sort_key}
use Rattle.logic_spec.specs.Asked.{override_of, text_of_sort}
use Rattle.logic_spec.proofs.read.note_words.Given as goal

abbrev pub invariant-loop-items : goal.invariant-loop-items
invariant-loop-items l = (words : List (List ℕ)) (s : SortName) →
    unwrap_or (override_of l.overrides (text_of_sort s)) (slice_get (override_or words (overrides_of l.items) (sort_key s)) 0)
    ≡ unwrap_or (override_of l.initial.overrides (text_of_sort s)) (slice_get (override_or words (overrides_of l.initial.items) (sort_key s)) 0)

abbrev pub decreases-loop-items : goal.decreases-loop-items
decreases-loop-items l = length l.items
