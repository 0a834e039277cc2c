-- The walk over the formulas of a file and their parts, side by side.
use mathlib.Core.Bool.{beq}
use Rattle.std.specs.Prelude.{◌≡◌, ℕ, ◌+◌, Bool, true, nat_eq, if◌then◌else◌, List, [], ◌∷◌, drop, Option, None, Some}
use Rattle.nxf_tree.specs.declared.tree.Part.{Part}
use Rattle.nxf_tree.specs.declared.tree.PartEntry.{PartEntry}
use Rattle.nxf_tree.specs.Parts.{is_conjecture}
use Rattle.fin_struct.specs.declared.condition.Condition.{Condition}
use Rattle.fin_struct.specs.KripkeTables.{KripkeTables}
use Rattle.numbered_definitions.specs.declared.node.Node.{Node}
use Rattle.numbered_definitions.specs.declared.node.Numbered.{Numbered}
use Rattle.kripke_evaluation_definitions.specs.FileConditions.{condition_of, node_meets}

-- whether a formula is as its part asks; only premises are judged, or only the conjecture
abbrev pub passes : KripkeTables → Bool → Part → Node → Bool
passes view conjecture part n = if beq (is_conjecture (Some part)) conjecture then node_meets view part n else true

-- the first that doesn't pass of the formulas whose places have parts; both lists are in the order of places
abbrev pub first_unmet : (Part → Node → Bool) → List Numbered → List PartEntry → Option Condition
first_unmet test [] ps = None
first_unmet test (n ∷ ns) [] = None
first_unmet test (n ∷ ns) (p ∷ ps) =
    if nat_eq p.place n.place then (if test p.part n.node then first_unmet test ns ps else Some (condition_of p.place p.part)) else first_unmet test ns (p ∷ ps)

-- the same from a place among the formulas and a place among the parts on
abbrev pub unmet_from : KripkeTables → Bool → List Numbered → List PartEntry → ℕ → ℕ → Option Condition
unmet_from view conjecture ns ps at next = first_unmet (passes view conjecture) (drop at ns) (drop next ps)

-- from these places on the first is the same as from the next formula and this part on; or it is this condition
abbrev pub PassesOn : KripkeTables → Bool → List Numbered → List PartEntry → ℕ → ℕ → ℕ → Type 0
PassesOn view conjecture ns ps at next after = unmet_from view conjecture ns ps at next ≡ unmet_from view conjecture ns ps (at + 1) after

abbrev pub StopsWith : KripkeTables → Bool → List Numbered → List PartEntry → ℕ → ℕ → Condition → Type 0
StopsWith view conjecture ns ps at next condition = unmet_from view conjecture ns ps at next ≡ Some condition
