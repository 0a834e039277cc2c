-- Each prepared formula is no deeper than the deepest, and its numbered formula is as deep as it is.
use Rattle.std.proofs.Common.{◌≡◌, ℕ, zero, suc, ◌≤◌, List, [], ◌∷◌, Option, None, Some, refl, ap, arith}
use Rattle.std.specs.Prelude.{slice_get}
use Rattle.std.specs.Option.{option_map}
use Rattle.nxf_tree.specs.declared.tree.Formula.{Formula}
use Rattle.nxf_tree.specs.Depth.{formula_depth}
use Rattle.numbered_definitions.specs.declared.node.Node.{Node}
use Rattle.kripke_evaluation_definitions.specs.NumberedDepth.{node_depth}
use Rattle.classical_evaluation_definitions.specs.ClassicalFaults.{RoleFormula}
use Rattle.classical_evaluation_laws.proofs.DepthLemmas.{depth-same}
use Rattle.classical_numbering.specs.Prepared.{PreparedFormulas, StandsFor, deepest}
use Rattle.tf0_eval.specs.Evaluating.{Room, HasRoomAt}

pub within-deepest : (fs : List RoleFormula) (at : ℕ) (entry : RoleFormula) → slice_get fs at ≡ Some entry → formula_depth entry.formula ≤ deepest fs
within-deepest [] at entry e = absurd cc
within-deepest (f ∷ fs) zero entry e = let same : formula_depth f.formula ≡ formula_depth entry.formula = ap (λ (g : RoleFormula). formula_depth g.formula) (some-same f entry e) in omega (arith, same)
  where
    some-same : (f g : RoleFormula) → Some f ≡ Some g → f ≡ g
    some-same f g e = cc
within-deepest (f ∷ fs) (suc at) entry e = omega (arith, within-deepest fs at entry e)

-- there is room for the numbered formula that stands at a place
pub node-room : (room : Room) (prepared : PreparedFormulas) (at : ℕ) (n : Node) (f : Formula) → HasRoomAt room prepared at
    → option_map (λ (entry : RoleFormula). entry.formula) (slice_get prepared.formulas at) ≡ Some f → StandsFor prepared.signature n f → node_depth n ≤ room.depth
node-room room prepared at n f has is s = by (slice_get prepared.formulas at) refl is
  where
    by : (o : Option RoleFormula) → slice_get prepared.formulas at ≡ o → option_map (λ (entry : RoleFormula). entry.formula) o ≡ Some f → node_depth n ≤ room.depth
    by None there e = absurd cc
    by (Some entry) there e =
        let same : entry.formula ≡ f = cc in
        omega (arith, depth-same prepared.signature n [] f s.named, ap formula_depth same, has entry there)

-- what is asked of the formula at a place
pub of-formula : {X : Type 0} (ask : Formula → X) (o : Option RoleFormula) (f : Formula) → option_map (λ (entry : RoleFormula). entry.formula) o ≡ Some f
    → option_map (λ (entry : RoleFormula). ask entry.formula) o ≡ Some (ask f)
of-formula ask None f e = absurd cc
of-formula ask (Some entry) f e = let same : entry.formula ≡ f = cc in ap (λ g. Some (ask g)) same
