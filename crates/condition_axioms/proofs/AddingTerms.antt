-- The axiom of one symbol more.
use Rattle.std.proofs.Common.{◌≡◌, ℕ, zero, suc, Bool, true, List, [], ◌∷◌, ◌++◌, refl, sym, ap, ◌∙◌, append_assoc, append-nil}
use Rattle.std.specs.Prelude.{slice_get, Some}
use Rattle.std.specs.List.{list_all}
use Rattle.nxf_tree.specs.declared.tree.Signature.{Signature}
use Rattle.nxf_tree.specs.declared.tree.SymbolEntry.{SymbolEntry}
use Rattle.nxf_tree.specs.Axioms.{result_axioms, term_axioms_of}
use Rattle.nxf_tree.specs.Conditions.{argument_sorts, local_result}
use Rattle.nxf_tree.specs.WellFormed.{IsWellFormed, has_sorts_in_range}
use Rattle.name_laws.proofs.Types.{split}
use Rattle.classical_syntax.proofs.CallerLemmas.{is_flexible-place}
use Rattle.condition_axioms.specs.steps.Listed.{IsListed}

term_axioms_of-append : (sig : Signature) (xs ys : List SymbolEntry) → term_axioms_of sig (xs ++ ys) ≡ term_axioms_of sig xs ++ term_axioms_of sig ys
term_axioms_of-append sig [] ys = refl
term_axioms_of-append sig (x ∷ xs) ys =
    ap (λ rest. result_axioms sig x.name (argument_sorts sig x) (local_result sig x.gives x.locality) ++ rest) (term_axioms_of-append sig xs ys)
    ∙ sym (append_assoc (result_axioms sig x.name (argument_sorts sig x) (local_result sig x.gives x.locality)) (term_axioms_of sig xs) (term_axioms_of sig ys))

pub term_axioms-more : (sig : Signature) (xs : List SymbolEntry) (x : SymbolEntry) → term_axioms_of sig (xs ++ x ∷ []) ≡ term_axioms_of sig xs ++ result_axioms sig x.name (argument_sorts sig x) (local_result sig x.gives x.locality)
term_axioms-more sig xs x =
    term_axioms_of-append sig xs (x ∷ [])
    ∙ ap (λ rest. term_axioms_of sig xs ++ rest) (append-nil (result_axioms sig x.name (argument_sorts sig x) (local_result sig x.gives x.locality)))

all-at : (p : SymbolEntry → Bool) (xs : List SymbolEntry) (k : ℕ) (x : SymbolEntry) → list_all p xs ≡ true → slice_get xs k ≡ Some x → p x ≡ true
all-at p [] k x h e = absurd cc
all-at p (y ∷ ys) zero x h e =
    let is : y ≡ x = cc in
    ap p (sym is) ∙ (split _ _ h).0
all-at p (y ∷ ys) (suc k) x h e = all-at p ys k x (split _ _ h).1 e

-- each symbol of a well-formed signature is listed
pub listed-at : (sig : Signature) → IsWellFormed sig → (k : ℕ) (x : SymbolEntry) → slice_get sig.symbols k ≡ Some x → IsListed sig x
listed-at sig h k x e = record {
  designation = is_flexible-place sig h.different k x e;
  in_range = all-at (has_sorts_in_range sig) sig.symbols k x h.in_range e;
}
