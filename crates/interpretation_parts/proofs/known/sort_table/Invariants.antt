use Rattle.std.proofs.Common.{◌≡◌, ℕ, List, take}
use Rattle.std.specs.Map.{lookup}
use Rattle.nxf_tree.specs.declared.tree.SortName.TheVariants.{User}
use Rattle.nxf_tree.specs.Names.{same_text}
use Rattle.interpretation_definitions.specs.Context.{sort_number}
use Rattle.interpretation_parts.proofs.known.sort_table.Given as goal

abbrev pub invariant-loop-number : goal.invariant-loop-number
invariant-loop-number l = (q : List ℕ) → lookup (same_text q) l.map.entries ≡ sort_number (take l.number l.sorts) (User q)
