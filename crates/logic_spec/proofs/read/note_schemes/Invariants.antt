use Rattle.std.proofs.Common.{◌≡◌, ℕ, List, length}
use Rattle.std.specs.Option.{unwrap_or}
use Rattle.nxf_tree.specs.declared.tree.IndexName.{IndexName}
use Rattle.nxf_tree.specs.declared.tree.SpecKey.TheVariants.{Index}
use Rattle.logic_spec.specs.steps.Noting.{schemes_said}
use Rattle.nxf_tree.specs.Specification.{overrides_of, override_or}
use Rattle.logic_spec.specs.Asked.{override_of, text_of_index}
use Rattle.logic_spec.proofs.read.note_schemes.Given as goal

abbrev pub invariant-loop-items : goal.invariant-loop-items
invariant-loop-items l = (words : List (List ℕ)) (i : IndexName) →
    unwrap_or (override_of l.overrides (text_of_index i)) (schemes_said (override_or words (overrides_of l.items) (Index i)))
    ≡ unwrap_or (override_of l.initial.overrides (text_of_index i)) (schemes_said (override_or words (overrides_of l.initial.items) (Index i)))

abbrev pub decreases-loop-items : goal.decreases-loop-items
decreases-loop-items l = length l.items
