use Rattle.std.proofs.Common.{◌≡◌, ◌++◌, take}
use Rattle.std.specs.Prelude.{flat_map}
use Rattle.interpretation_definitions.specs.Parts.{parts_in}
use Rattle.interpretation_parts.specs.steps.Items.{items_in, numbered}
use Rattle.interpretation_parts.proofs.items.+leaves.Given as goal

abbrev pub invariant-all_leaves-loop-formula : goal.invariant-all_leaves-loop-formula
invariant-all_leaves-loop-formula l = items_in l.items.items ≡ items_in l.initial.items.items ++ numbered l.statement (flat_map parts_in (take l.formula-index l.formulas))
