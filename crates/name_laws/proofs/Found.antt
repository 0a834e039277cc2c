-- In a list of different names, each stands for what is at its place.
use Rattle.std.proofs.Common.{◌≡◌, ℕ, zero, suc, Bool, true, false, List, [], ◌∷◌, sym, ap, ◌∙◌}
use Rattle.std.specs.Prelude.{◌||◌, not, if◌then◌else◌, slice_get, Some}
use Rattle.std.proofs.lemmas.Bool.{or_right, not-true}
use Rattle.nxf_tree.specs.Names.{same_text}
use Rattle.nxf_tree.specs.Counting.{has, all_different}
use Rattle.nxf_tree.specs.Signature.{same_sort, same_index, sort_names, existence_sorts, symbol_names, index_names}
use Rattle.nxf_tree.specs.Rows.{Rows, beside, under}
use Rattle.nxf_tree.specs.Structures.{table_names}
use Rattle.nxf_tree.specs.ClassicalSignature.{classical_signature_of}
use Rattle.name_laws.specs.NameLaws.{Found, FoundLaw}
use Rattle.name_laws.proofs.Spelling.{same_text-refl, never, true-false}
use Rattle.name_laws.proofs.SameNames.{same_text-sym, same_sort-sym, same_index-sym, same_index-refl}
use Rattle.name_laws.proofs.SortedFormulas.{same_sort-refl}
use Rattle.name_laws.proofs.GoodSymbols.{DifferentParts, parts-of-names}
use Rattle.name_laws.proofs.NamesDiffer.{sorts-differ, tables-differ, existence-sorts-different}
use Rattle.name_laws.proofs.Types.{split}

module _ {N A : Type 0} (same : N → N → Bool) (none : A) (reflexive : (n : N) → same n n ≡ true) (symmetric : (m n : N) → same m n ≡ same n m) where
  -- what is the same as a name at some place is in the list
  listed : (names : List N) (k : ℕ) (name n : N) → slice_get names k ≡ Some name → same n name ≡ true → has same n names ≡ true
  listed [] k name n h e = absurd cc
  listed (m ∷ names) zero name n h e =
      let is : m ≡ name = cc in
      ap (λ b. b || has same n names) (ap (λ x. same x n) is ∙ (symmetric name n ∙ e))
  listed (m ∷ names) (suc k) name n h e = or_right (same m n) _ (listed names k name n h e)

  pub found : (names : List N) → all_different same names ≡ true → (things : List A) → Found same none names things
  found [] d things k name thing h t = absurd cc
  found (n ∷ names) d [] k name thing h t = absurd cc
  found (n ∷ names) d (x ∷ things) zero name thing h t =
      let is : n ≡ name = cc in
      let that : x ≡ thing = cc in
      ap (λ b. if b then x else under same none (beside names things) name) (ap (λ m. same m name) is ∙ reflexive name) ∙ that
  found (n ∷ names) d (x ∷ things) (suc k) name thing h t =
      let parts : (not (has same n names) ≡ true) × (all_different same names ≡ true) = split _ _ d in
      let apart : same n name ≡ false = never (same n name) (λ e. true-false (sym (listed names k name n h e) ∙ not-true _ parts.0)) in
      ap (λ b. if b then x else under same none (beside names things) name) apart ∙ found names parts.1 things k name thing h t

pub found-law : FoundLaw
found-law sig h =
    let d : DifferentParts sig = parts-of-names sig h in
    record {
      sizes = found same_sort 0 same_sort-refl same_sort-sym (sort_names sig.sorts) d.sorts;
      relations = found same_index [] same_index-refl same_index-sym (index_names sig.indexes) d.indexes;
      existing = found same_sort [] same_sort-refl same_sort-sym (existence_sorts sig.sorts) (existence-sorts-different sig.sorts d.sorts);
      symbols = found same_text (Rows []) same_text-refl same_text-sym (symbol_names sig.symbols) d.symbols;
      classical_sizes = found same_sort 0 same_sort-refl same_sort-sym (classical_signature_of sig).sorts (sorts-differ sig d);
      tables = found same_text (Rows []) same_text-refl same_text-sym (table_names (classical_signature_of sig).tables) (split _ _ (tables-differ sig d)).1;
    }
