-- Names by their numbers.
use Rattle.std.proofs.Common.{◌≡◌, ℕ, zero, suc, ◌<◌, ◌≤◌, List, [], ◌∷◌, length, get_or, None, Some, refl, sym, ap, subst, ◌∙◌}
use Rattle.std.specs.Prelude.{slice_get}
use Rattle.std.proofs.lemmas.Option.{slice_get_read, slice_get_past}
use Rattle.nxf_tree.specs.declared.tree.SortEntry.{SortEntry}
use Rattle.nxf_tree.specs.declared.tree.SymbolEntry.{SymbolEntry}
use Rattle.nxf_tree.specs.declared.tree.IndexEntry.{IndexEntry}
use Rattle.nxf_tree.specs.declared.tree.IndexName.TheVariants.{Plain}
use Rattle.nxf_tree.specs.declared.tree.SortName.TheVariants.{Individual}
use Rattle.nxf_tree.specs.Signature.{sort_at}
use Rattle.fin_struct.specs.FirstFault.{index_at}
use Rattle.answer_definitions.specs.FaultNames.{symbol_words}

same : {A : Type 0} (x y : A) → Some x ≡ Some y → x ≡ y
same x y h = cc

pub symbol_words-place : (entries : List SymbolEntry) (f : ℕ) (entry : SymbolEntry) → slice_get entries f ≡ Some entry → symbol_words entries f ≡ entry.name
symbol_words-place [] f entry h = absurd cc
symbol_words-place (first ∷ entries) zero entry h = ap (λ (e : SymbolEntry). e.name) (same first entry h)
symbol_words-place (first ∷ entries) (suc f) entry h = symbol_words-place entries f entry h

pub sort_at-place : (entries : List SortEntry) (s : ℕ) (entry : SortEntry) → slice_get entries s ≡ Some entry → sort_at entries s ≡ entry.name
sort_at-place [] s entry h = absurd cc
sort_at-place (first ∷ entries) zero entry h = ap (λ (e : SortEntry). e.name) (same first entry h)
sort_at-place (first ∷ entries) (suc s) entry h = sort_at-place entries s entry h

-- numbers of nothing

pub no_symbol_words : (entries : List SymbolEntry) (f : ℕ) → slice_get entries f ≡ None → symbol_words entries f ≡ []
no_symbol_words [] f h = refl
no_symbol_words (first ∷ entries) zero h = absurd cc
no_symbol_words (first ∷ entries) (suc f) h = no_symbol_words entries f h

pub no_index : (entries : List IndexEntry) (i : ℕ) → slice_get entries i ≡ None → index_at entries i ≡ Plain
no_index [] i h = refl
no_index (first ∷ entries) zero h = absurd cc
no_index (first ∷ entries) (suc i) h = no_index entries i h

pub no_sort : (entries : List SortEntry) (s : ℕ) → slice_get entries s ≡ None → sort_at entries s ≡ Individual
no_sort [] s h = refl
no_sort (first ∷ entries) zero h = absurd cc
no_sort (first ∷ entries) (suc s) h = no_sort entries s h

-- ---- what is said of the name that is read under a number

module _ {A B : Type 0} (name_at : List A → ℕ → B) (entries given : List A) (i : ℕ) (same_list : given ≡ entries) (IsSaid : B → Type 0) where
  pub said_of_entry : (entry : A) (name : B) → (slice_get given i ≡ Some entry → name_at given i ≡ name) → i < length given → entry ≡ get_or given i entry → IsSaid name → IsSaid (name_at entries i)
  said_of_entry entry name there below is said =
      subst IsSaid (sym (there (slice_get_read given _ i entry refl below is)) ∙ ap (λ (xs : List A). name_at xs i) same_list) said

  pub said_of_none : (name : B) → (slice_get given i ≡ None → name_at given i ≡ name) → length given ≤ i → IsSaid name → IsSaid (name_at entries i)
  said_of_none name nothing past said = subst IsSaid (sym (nothing (slice_get_past given i past)) ∙ ap (λ (xs : List A). name_at xs i) same_list) said
