-- Rows of elements, element by element.
use Rattle.std.proofs.Common.{◌≡◌, ℕ, zero, suc, ◌+◌, ◌<◌, Bool, true, false, List, [], ◌∷◌, ◌++◌, length, get_or, take, refl, ap, ◌∙◌, arith}
use Rattle.std.specs.Prelude.{map, if◌then◌else◌}
use Rattle.nxf_tree.specs.declared.tree.Signature.{Signature}
use Rattle.nxf_tree.specs.declared.tree.SortName.{SortName}
use Rattle.nxf_tree.specs.declared.tree.Op.TheVariants.{Implies}
use Rattle.nxf_tree.specs.declared.tree.Term.{Term, App}
use Rattle.nxf_tree.specs.declared.tree.Formula.{Formula, Atom, And}
use Rattle.nxf_tree.specs.Shapes.{Pair2}
use Rattle.nxf_tree.specs.Signature.{is_constant, sort_at}
use Rattle.nxf_tree.specs.Axioms.{world, element, value_is_there, exists_at, elements_from, row_guards, under_guards}
use Rattle.nxf_tree.specs.Embedding.{at_world}
use Rattle.std.proofs.lemmas.List.{map_more, length-map, length-take-le}
use Rattle.nxf_tree.specs.Names.{user_name, existence_name}
use Rattle.nxf_tree.specs.Conditions.{argument_sorts}
use Rattle.nxf_tree.specs.declared.tree.SymbolEntry.{SymbolEntry}
use Rattle.condition_axioms.specs.steps.Listed.{IsListed, elements_upto, value_of}

pub elements-upto : (k : ℕ) (sorts : List SortName) → elements_from k sorts ≡ elements_upto k (length sorts)
elements-upto k [] = refl
elements-upto k (s ∷ sorts) = ap (λ rest. element k ∷ rest) (elements-upto (suc k) sorts)

pub elements-more : (k n : ℕ) → elements_upto k (suc n) ≡ elements_upto k n ++ element (k + n) ∷ []
elements-more k zero = ap (λ j. element j ∷ []) (omega arith)
elements-more k (suc n) =
    ap (λ rest. element k ∷ rest) (elements-more (suc k) n)
    ∙ ap (λ j. element k ∷ (elements_upto (suc k) n ++ element j ∷ [])) (omega arith)

pub elements-next : (n : ℕ) → elements_upto 0 (suc n) ≡ elements_upto 0 n ++ element n ∷ []
elements-next n = elements-more 0 n ∙ ap (λ j. elements_upto 0 n ++ element j ∷ []) (omega arith)

pub at_world-append : (flexible : Bool) (w : Term) (xs ys : List Term) → at_world flexible w (xs ++ ys) ≡ at_world flexible w xs ++ ys
at_world-append true w xs ys = refl
at_world-append false w xs ys = refl

guards-step : (sig : Signature) (k : ℕ) (x : SortName) (xs : List SortName) (s : SortName) (more : List Formula) → row_guards sig (suc k) (xs ++ s ∷ []) ≡ row_guards sig (suc k) xs ++ more → (b : Bool)
    → (if b then row_guards sig (suc k) (xs ++ s ∷ []) else exists_at x 0 k ∷ row_guards sig (suc k) (xs ++ s ∷ [])) ≡ (if b then row_guards sig (suc k) xs else exists_at x 0 k ∷ row_guards sig (suc k) xs) ++ more
guards-step sig k x xs s more e true = e
guards-step sig k x xs s more e false = ap (λ rest. exists_at x 0 k ∷ rest) e

pub guards-more : (sig : Signature) (k : ℕ) (xs : List SortName) (s : SortName) → row_guards sig k (xs ++ s ∷ []) ≡ row_guards sig k xs ++ (if is_constant sig s then [] else exists_at s 0 (k + length xs) ∷ [])
guards-more sig k [] s = ap (λ j. if is_constant sig s then [] else exists_at s 0 j ∷ []) (omega arith)
guards-more sig k (x ∷ xs) s =
    guards-step sig k x xs s _ (guards-more sig (suc k) xs s) (is_constant sig x)
    ∙ ap (λ j. row_guards sig k (x ∷ xs) ++ (if is_constant sig s then [] else exists_at s 0 j ∷ [])) (omega arith)

pub guards-next : (sig : Signature) (f : ℕ → SortName) (xs : List ℕ) (i : ℕ) → i < length xs → row_guards sig 0 (map f (take (i + 1) xs)) ≡ row_guards sig 0 (map f (take i xs)) ++ (if is_constant sig (f (get_or xs i 0)) then [] else exists_at (f (get_or xs i 0)) 0 i ∷ [])
guards-next sig f xs i l =
    let there : 0 + length (map f (take i xs)) ≡ i = omega (arith, length-map (take i xs) f, length-take-le i xs (omega arith)) in
    ap (row_guards sig 0) (map_more f xs i 0 l)
    ∙ guards-more sig 0 (map f (take i xs)) (f (get_or xs i 0))
    ∙ ap (λ j. row_guards sig 0 (map f (take i xs)) ++ (if is_constant sig (f (get_or xs i 0)) then [] else exists_at (f (get_or xs i 0)) 0 j ∷ [])) there

-- the value of a listed function by its entry
pub value-is : (sig : Signature) (symbol : SymbolEntry) (r : SortName) → IsListed sig symbol → value_is_there sig symbol.name (argument_sorts sig symbol) r ≡ value_of symbol r
value-is sig symbol r h =
    let row : elements_from 0 (argument_sorts sig symbol) ≡ elements_upto 0 (length symbol.args) =
    elements-upto 0 (argument_sorts sig symbol) ∙ ap (elements_upto 0) (length-map symbol.args (sort_at sig.sorts)) in
    λ i. Atom (existence_name r) (world 0 ∷ App (user_name symbol.name) (at_world (h.designation i) (world 0) (row i)) ∷ [])

pub several : (guards : List Formula) (body : Formula) → 1 < length guards → under_guards guards body ≡ Pair2 Implies (And guards) body
several [] body h = absurd (omega arith)
several (g ∷ []) body h = absurd (omega arith)
several (g ∷ h ∷ gs) body l = refl
