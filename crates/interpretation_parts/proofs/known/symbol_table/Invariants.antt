use Rattle.std.proofs.Common.{◌≡◌, ℕ, List, ◌∷◌, take}
use Rattle.std.specs.Map.{lookup}
use Rattle.std.specs.Option.{option_map}
use Rattle.nxf_tree.specs.Names.{same_text}
use Rattle.interpretation_definitions.specs.Context.{symbol_in, actual_entry}
use Rattle.interpretation_parts.proofs.known.symbol_table.Given as goal

abbrev pub invariant-loop-number : goal.invariant-loop-number
invariant-loop-number l = (q : List ℕ) → lookup (same_text q) l.map.entries ≡ option_map (λ p. p.0) (symbol_in (actual_entry ∷ take l.number l.tables) q)
