use Rattle.std.proofs.Common.{◌≡◌, take}
use Rattle.nxf_tree.specs.declared.tree.SortName.TheVariants.{Individual}
use Rattle.interpretation_definitions.specs.Context.{sort_number}
use Rattle.interpretation_parts.proofs.known.individual_number.Given as goal

abbrev pub invariant-loop-number : goal.invariant-loop-number
invariant-loop-number l = l.found ≡ sort_number (take l.number l.sorts) Individual
