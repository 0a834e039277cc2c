-- The axioms of one sort more.
use Rattle.std.proofs.Common.{◌≡◌, ℕ, List, [], ◌∷◌, ◌++◌, refl, sym, ap, ◌∙◌, append_assoc, append-nil}
use Rattle.std.specs.Prelude.{if◌then◌else◌, slice_get, Some}
use Rattle.nxf_tree.specs.declared.tree.Signature.{Signature}
use Rattle.nxf_tree.specs.declared.tree.SortEntry.{SortEntry}
use Rattle.nxf_tree.specs.Axioms.{someone_axiom, everyone_axiom, monotone_axioms, sort_axioms, domain_axioms_of}
use Rattle.nxf_tree.specs.WellFormed.{HasDifferentNames}
use Rattle.classical_syntax.proofs.CallerLemmas.{is_constant-place}
use Rattle.condition_axioms.specs.steps.SortAxioms.{entry_axioms}

domain_axioms_of-append : (sig : Signature) (xs ys : List SortEntry) → domain_axioms_of sig (xs ++ ys) ≡ domain_axioms_of sig xs ++ domain_axioms_of sig ys
domain_axioms_of-append sig [] ys = refl
domain_axioms_of-append sig (x ∷ xs) ys =
    ap (λ rest. sort_axioms sig x ++ rest) (domain_axioms_of-append sig xs ys)
    ∙ sym (append_assoc (sort_axioms sig x) (domain_axioms_of sig xs) (domain_axioms_of sig ys))

-- the axioms by the entry are those of the definition
sort_axioms-entry : (sig : Signature) → HasDifferentNames sig → (k : ℕ) (entry : SortEntry) → slice_get sig.sorts k ≡ Some entry → sort_axioms sig entry ≡ entry_axioms sig.indexes entry
sort_axioms-entry sig h k entry e =
    ap (λ b. if b then [] else someone_axiom entry.name ∷ everyone_axiom entry.name ∷ monotone_axioms sig.indexes entry.name entry.regime) (is_constant-place sig h k entry e)

pub domain_axioms-more : (sig : Signature) → HasDifferentNames sig → (xs : List SortEntry) (k : ℕ) (x : SortEntry) → slice_get sig.sorts k ≡ Some x → domain_axioms_of sig (xs ++ x ∷ []) ≡ domain_axioms_of sig xs ++ entry_axioms sig.indexes x
domain_axioms-more sig h xs k x e =
    domain_axioms_of-append sig xs (x ∷ [])
    ∙ ap (λ rest. domain_axioms_of sig xs ++ rest) (append-nil (sort_axioms sig x) ∙ sort_axioms-entry sig h k x e)
