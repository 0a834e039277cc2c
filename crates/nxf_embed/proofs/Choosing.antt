-- The formulas that have parts, one by one.
use Rattle.std.proofs.Common.{◌≡◌, ℕ, zero, suc, ◌+◌, ◌<◌, ◌≤◌, false, List, [], ◌∷◌, ◌++◌, length, get_or, drop, refl, sym, ap, ◌∙◌, append_assoc, append-nil, add-one, arith}
use Rattle.std.specs.Prelude.{nat_eq, if◌then◌else◌, slice_get, Some}
use Rattle.std.proofs.Math.Seq.{drop-cons}
use Rattle.std.proofs.lemmas.Bool.{eqb-true, eq-eqb}
use Rattle.std.proofs.lemmas.Option.{get_or_from_slice_get}
use Rattle.nxf_tree.specs.declared.tree.Signature.{Signature}
use Rattle.nxf_tree.specs.declared.tree.PartEntry.{PartEntry}
use Rattle.nxf_tree.specs.declared.tree.Formula.{Formula, True}
use Rattle.nxf_tree.specs.declared.tree.Statement.{Statement}
use Rattle.name_laws.proofs.Spelling.{never}
use Rattle.numbered_definitions.specs.declared.node.Numbered.{Numbered}
use Rattle.numbered_definitions.specs.NamedForm.{FormulaStatement, named, named_form, all_named}
use Rattle.numbered_definitions.proofs.CallerLemmas.{mapped, joined}
use Rattle.nxf_embed.specs.steps.Chosen.{part_statement, chosen}

pub differ : (a b : ℕ) → (a ≡ b → ⊥) → nat_eq a b ≡ false
differ a b h = never (nat_eq a b) (λ e. h (eqb-true a b e))

pub none-chosen : (sig : Signature) (fs : List FormulaStatement) → chosen sig fs [] ≡ []
none-chosen sig [] = refl
none-chosen sig (f ∷ fs) = refl

-- where the next part isn't that of the formula, the formula has none
pub not-chosen : (sig : Signature) (f : FormulaStatement) (fs : List FormulaStatement) (p : PartEntry) (ps : List PartEntry) → (p.place ≡ f.place → ⊥) → chosen sig (f ∷ fs) (p ∷ ps) ≡ chosen sig fs (p ∷ ps)
not-chosen sig f fs p ps h =
    ap (λ b. if b then part_statement sig f.name f.formula p.part ∷ chosen sig fs ps else chosen sig fs (p ∷ ps)) (differ p.place f.place h)

pub is-chosen : (sig : Signature) (f : FormulaStatement) (fs : List FormulaStatement) (p : PartEntry) (ps : List PartEntry) → p.place ≡ f.place → chosen sig (f ∷ fs) (p ∷ ps) ≡ part_statement sig f.name f.formula p.part ∷ chosen sig fs ps
is-chosen sig f fs p ps h =
    ap (λ b. if b then part_statement sig f.name f.formula p.part ∷ chosen sig fs ps else chosen sig fs (p ∷ ps)) (eq-eqb p.place f.place h)

-- the parts from a place on
pub from-place : (ps : List PartEntry) (i : ℕ) (p : PartEntry) → i < length ps → slice_get ps i ≡ Some p → drop i ps ≡ p ∷ drop (i + 1) ps
from-place ps i p l h =
    drop-cons ps i p l ∙ (λ j. get_or_from_slice_get ps i p p h j ∷ drop (sym (add-one i) j) ps)

past-end : {A : Type 0} (xs : List A) (i : ℕ) → length xs ≤ i → drop i xs ≡ []
past-end [] zero h = refl
past-end [] (suc i) h = refl
past-end (x ∷ xs) zero h = absurd (omega arith)
past-end (x ∷ xs) (suc i) h = past-end xs i (omega arith)

module _ (sig : Signature) (n : Numbered) (f : FormulaStatement) (is : named sig n ≡ Some f) where
  pub place-is : n.place ≡ f.place
  place-is = mapped (λ g. record { place = n.place; name = n.name; formula = g }) (named_form sig [] n.node) f is (λ g e i. ap (λ (s : FormulaStatement). s.place) i)

  pub name-is : n.name ≡ f.name
  name-is = mapped (λ g. record { place = n.place; name = n.name; formula = g }) (named_form sig [] n.node) f is (λ g e i. ap (λ (s : FormulaStatement). s.name) i)

  pub form-is : named_form sig [] n.node ≡ Some f.formula
  form-is = mapped (λ g. record { place = n.place; name = n.name; formula = g }) (named_form sig [] n.node) f is (λ g e i. e ∙ ap (λ (s : FormulaStatement). Some s.formula) i)

  -- no part is left
  pub step-none : (ps : List PartEntry) (next : ℕ) (made : List Statement) (fs : List FormulaStatement) → length ps ≤ next → made ++ chosen sig fs (drop next ps) ≡ made ++ chosen sig (f ∷ fs) (drop next ps)
  step-none ps next made fs h =
      ap (λ ss. made ++ ss) (ap (chosen sig fs) (past-end ps next h) ∙ none-chosen sig fs ∙ sym (ap (chosen sig (f ∷ fs)) (past-end ps next h)))

  -- the next part is that of a later formula
  pub step-later : (ps : List PartEntry) (next : ℕ) (p : PartEntry) (made : List Statement) (fs : List FormulaStatement) → next < length ps → slice_get ps next ≡ Some p → (p.place ≡ n.place → ⊥)
      → made ++ chosen sig fs (drop next ps) ≡ made ++ chosen sig (f ∷ fs) (drop next ps)
  step-later ps next p made fs l at h =
      ap (λ ss. made ++ ss)
      (ap (chosen sig fs) (from-place ps next p l at)
      ∙ sym (not-chosen sig f fs p (drop (next + 1) ps) (λ e. h (e ∙ sym place-is)))
      ∙ sym (ap (chosen sig (f ∷ fs)) (from-place ps next p l at)))

  -- the next part is that of the formula
  pub step-own : (ps : List PartEntry) (next : ℕ) (p : PartEntry) (made more : List Statement) (s : Statement) (fs : List FormulaStatement) → next < length ps → slice_get ps next ≡ Some p → p.place ≡ n.place
      → more ≡ made ++ s ∷ [] → ((g : Formula) → named_form sig [] n.node ≡ Some g → s ≡ part_statement sig n.name g p.part)
      → more ++ chosen sig fs (drop (next + 1) ps) ≡ made ++ chosen sig (f ∷ fs) (drop next ps)
  step-own ps next p made more s fs l at h e t =
      let this : s ≡ part_statement sig f.name f.formula p.part = t f.formula form-is ∙ ap (λ name. part_statement sig name f.formula p.part) name-is in
      ap (λ ss. ss ++ chosen sig fs (drop (next + 1) ps)) e
      ∙ append_assoc made (s ∷ []) (chosen sig fs (drop (next + 1) ps))
      ∙ ap (λ t. made ++ (t ∷ chosen sig fs (drop (next + 1) ps))) this
      ∙ ap (λ ss. made ++ ss) (sym (is-chosen sig f fs p (drop (next + 1) ps) (h ∙ place-is)))
      ∙ ap (λ all. made ++ chosen sig (f ∷ fs) all) (sym (from-place ps next p l at))

-- there are as many formulas as numbered ones, each at its place
pub named-length : (sig : Signature) (ns : List Numbered) (fs : List FormulaStatement) → all_named sig ns ≡ Some fs → length ns ≡ length fs
named-length sig [] [] h = refl
named-length sig [] (f ∷ fs) h = absurd cc
named-length sig (n ∷ ns) fs h =
    joined (λ f fs. f ∷ fs) (named sig n) (all_named sig ns) fs h (λ g gs e i j. omega (arith, named-length sig ns gs i, ap length j))

pub named-at : (sig : Signature) (ns : List Numbered) (fs : List FormulaStatement) (k : ℕ) (n : Numbered) (d : FormulaStatement) → all_named sig ns ≡ Some fs → slice_get ns k ≡ Some n → named sig n ≡ Some (get_or fs k d)
named-at sig [] fs k n d h at = absurd cc
named-at sig (m ∷ ns) fs zero n d h at =
    let is : m ≡ n = cc in
    joined (λ f fs. f ∷ fs) (named sig m) (all_named sig ns) fs h (λ g gs e i j. ap (named sig) (sym is) ∙ e ∙ ap (λ all. Some (get_or all 0 d)) j)
named-at sig (m ∷ ns) fs (suc k) n d h at =
    joined (λ f fs. f ∷ fs) (named sig m) (all_named sig ns) fs h (λ g gs e i j. named-at sig ns gs k n d i at ∙ ap (λ all. Some (get_or all (suc k) d)) j)

-- one formula more of all
pub loop-step : (sig : Signature) (ns : List Numbered) (fs : List FormulaStatement) (ps : List PartEntry) (at next after : ℕ) (n : Numbered) (made more all : List Statement)
    → all_named sig ns ≡ Some fs → at < length ns → slice_get ns at ≡ Some n
    → ((f : FormulaStatement) → named sig n ≡ Some f → (rest : List FormulaStatement) → more ++ chosen sig rest (drop after ps) ≡ made ++ chosen sig (f ∷ rest) (drop next ps))
    → made ++ chosen sig (drop at fs) (drop next ps) ≡ all
    → more ++ chosen sig (drop (at + 1) fs) (drop after ps) ≡ all
loop-step sig ns fs ps at next after n made more all h l there step e =
    let len : length ns ≡ length fs = named-length sig ns fs h in
    let d : FormulaStatement = record { place = 0; name = []; formula = True } in
    let front : drop at fs ≡ get_or fs at d ∷ drop (at + 1) fs = drop-cons fs at d (omega arith) ∙ (λ j. get_or fs at d ∷ drop (sym (add-one at) j) fs) in
    step (get_or fs at d) (named-at sig ns fs at n d h there) (drop (at + 1) fs)
    ∙ ap (λ rest. made ++ chosen sig rest (drop next ps)) (sym front)
    ∙ e

pub loop-end : (sig : Signature) (ns : List Numbered) (fs : List FormulaStatement) (ps : List PartEntry) (at : ℕ) (made all : List Statement)
    → all_named sig ns ≡ Some fs → length ns ≤ at → made ++ chosen sig (drop at fs) ps ≡ all → made ≡ all
loop-end sig ns fs ps at made all h l e =
    let len : length ns ≡ length fs = named-length sig ns fs h in
    sym (append-nil made) ∙ ap (λ rest. made ++ chosen sig rest ps) (sym (past-end fs at (omega arith))) ∙ e
