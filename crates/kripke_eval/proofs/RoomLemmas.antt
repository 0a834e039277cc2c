-- Formulas that are each well sorted have named forms, each no deeper than the deepest.
use Rattle.std.proofs.Common.{◌≡◌, ℕ, zero, suc, ◌≤◌, List, [], ◌∷◌, Option, None, Some, refl, sym, ap, ◌∙◌, arith}
use Rattle.std.specs.Prelude.{max, slice_get}
use Rattle.std.specs.Option.{option_map}
use Rattle.std.specs.List.{All}
use Rattle.std.proofs.lemmas.List.Elements.{All-head, All-tail}
use Rattle.nxf_tree.specs.declared.tree.Signature.{Signature}
use Rattle.nxf_tree.specs.declared.tree.Formula.{Formula}
use Rattle.nxf_tree.specs.Depth.{formula_depth}
use Rattle.numbered_definitions.specs.declared.node.Node.{Node}
use Rattle.numbered_definitions.specs.declared.node.Numbered.{Numbered}
use Rattle.numbered_definitions.specs.NamedForm.{FormulaStatement, both, named_form, named, all_named, IsSortedFormula}
use Rattle.formula_cells.specs.Checked.{CheckedFile, deepest, GreatestDepth}
use Rattle.kripke_evaluation_definitions.specs.NumberedDepth.{node_depth}
use Rattle.evaluation_laws.proofs.DepthLemmas.{depth-same}
use Rattle.kripke_eval.specs.Evaluating.{stands_for, Room, HasRoomAt}

module _ (sig : Signature) where
  record Named (ns : List Numbered) : Type 0 where
    pub forms : List FormulaStatement
    pub are : all_named sig ns ≡ Some forms
    pub within : (at : ℕ) (f : Formula) → stands_for sig (slice_get ns at) ≡ Some f → formula_depth f ≤ deepest forms

  all-named : (ns : List Numbered) → All (λ (n : Numbered). IsSortedFormula sig n.node) ns → Named ns
  all-named [] h = record { forms = []; are = refl; within = λ at f e. absurd cc }
  all-named (n ∷ ns) h =
      let own : IsSortedFormula sig n.node = All-head (λ (m : Numbered). IsSortedFormula sig m.node) n ns h in
      let rest = all-named ns (All-tail (λ (m : Numbered). IsSortedFormula sig m.node) n ns h) in
      let first : FormulaStatement = record { place = n.place; name = n.name; formula = own.formula } in
      let is : named sig n ≡ Some first = ap (option_map (λ (f : Formula). record { place = n.place; name = n.name; formula = f })) own.named in
      record { forms = first ∷ rest.forms; are = λ i. both (λ f fs. f ∷ fs) (is i) (rest.are i); within = within own rest }
    where
      some-same : (f g : Formula) → Some f ≡ Some g → f ≡ g
      some-same f g e = cc

      within : (own : IsSortedFormula sig n.node) (rest : Named ns) (at : ℕ) (f : Formula) → stands_for sig (slice_get (n ∷ ns) at) ≡ Some f → formula_depth f ≤ max (formula_depth own.formula) (deepest rest.forms)
      within own rest zero f e = let same : formula_depth f ≡ formula_depth own.formula = ap formula_depth (some-same f own.formula (sym e ∙ own.named)) in omega (arith, same)
      within own rest (suc at) f e = omega (arith, rest.within at f e)

  pub room-for-all : (ns : List Numbered) (depth : ℕ) → All (λ (n : Numbered). IsSortedFormula sig n.node) ns → GreatestDepth sig ns depth → (at : ℕ) (f : Formula) → stands_for sig (slice_get ns at) ≡ Some f → formula_depth f ≤ depth
  room-for-all ns depth sorted greatest at f e =
      let n = all-named ns sorted in
      omega (arith, greatest n.forms n.are, n.within at f e)

  -- the formula of a cell is the one of its place
  pub of-node : (o : Option Numbered) (n : Node) (f : Formula) → option_map (λ (m : Numbered). m.node) o ≡ Some n → named_form sig [] n ≡ Some f → stands_for sig o ≡ Some f
  of-node None n f e h = absurd cc
  of-node (Some m) n f e h = let same : m.node ≡ n = cc in ap (named_form sig []) same ∙ h

-- there is room for the numbered formula that stands at a place
pub node-room : (room : Room) (checked : CheckedFile) (at : ℕ) (n : Node) → HasRoomAt room checked at → option_map (λ (m : Numbered). m.node) (slice_get checked.formulas at) ≡ Some n → IsSortedFormula checked.signature n → node_depth n ≤ room.depth
node-room room checked at n has is s =
    omega (arith, depth-same checked.signature n [] s.formula s.named, has s.formula (of-node checked.signature (slice_get checked.formulas at) n s.formula is s.named))
