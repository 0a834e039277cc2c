-- The values of the tables of a classical signature are of its sorts, where the numbers of sorts are in range.
use Rattle.std.proofs.Common.{◌≡◌, ℕ, zero, suc, ◌<◌, true, List, [], ◌∷◌, ◌++◌, length, get_or, Option, None, Some, inl, inr, ap, ◌∙◌, arith}
use Rattle.std.specs.List.{list_all}
use Rattle.std.specs.Option.{option_map}
use Rattle.std.proofs.lemmas.Bool.{cases_Bool}
use Rattle.std.proofs.lemmas.List.{length-map}
use Rattle.nxf_tree.specs.declared.tree.Signature.{Signature}
use Rattle.nxf_tree.specs.declared.tree.SortEntry.{SortEntry}
use Rattle.nxf_tree.specs.declared.tree.SymbolEntry.{SymbolEntry}
use Rattle.nxf_tree.specs.declared.tree.IndexEntry.{IndexEntry}
use Rattle.nxf_tree.specs.declared.tree.TableEntry.{TableEntry}
use Rattle.nxf_tree.specs.Names.{user_sort}
use Rattle.nxf_tree.specs.Signature.{constant_regime, sort_names}
use Rattle.nxf_tree.specs.Sorting.{gives_in_range}
use Rattle.nxf_tree.specs.WellFormed.{HasSortsInRange, has_sorts_in_range}
use Rattle.nxf_tree.specs.ClassicalSignature.{classical_signature_of, relation_entries, existence_entries, symbol_entries}
use Rattle.name_laws.proofs.Types.{split}
use Rattle.classical_syntax.proofs.CallerLemmas.{in_range-below}
use Rattle.classical_signature_laws.specs.ClassicalSignatures.{GivesBelow, HasSorts}

-- the values of each table are of the first n sorts
abbrev AllGive : ℕ → List TableEntry → Type 0
AllGive n [] = Unit {0}
AllGive n (entry ∷ entries) = GivesBelow n entry.gives × AllGive n entries

gives-at : (n : ℕ) (entries : List TableEntry) (t : ℕ) (d : TableEntry) → AllGive n entries → t < length entries → GivesBelow n (get_or entries t d).gives
gives-at n [] t d all h = absurd (omega arith)
gives-at n (entry ∷ entries) zero d all h = all.0
gives-at n (entry ∷ entries) (suc t) d all h = gives-at n entries t d all.1 (omega arith)

give-append : (n : ℕ) (xs ys : List TableEntry) → AllGive n xs → AllGive n ys → AllGive n (xs ++ ys)
give-append n [] ys p q = q
give-append n (x ∷ xs) ys p q = (p.0, give-append n xs ys p.1 q)

relations-give : (n : ℕ) (entries : List IndexEntry) → AllGive n (relation_entries entries)
relations-give n [] = tt
relations-give n (entry ∷ entries) = (tt, relations-give n entries)

existence-gives : (n k : ℕ) (entries : List SortEntry) → AllGive n (existence_entries k entries)
existence-gives n k [] = tt
existence-gives n k (entry ∷ entries) = elim (cases_Bool (constant_regime entry.regime)) [
  | inl constant ↦ (rw constant (existence-gives n (suc k) entries))
  | inr varying ↦ (rw varying (tt, existence-gives n (suc k) entries))
]

value-gives : (sorts : List SortEntry) (gives : Option ℕ) → gives_in_range sorts gives ≡ true → GivesBelow (suc (length sorts)) (option_map suc gives)
value-gives sorts None h = tt
value-gives sorts (Some number) h = omega (arith, in_range-below sorts number h)

symbols-give : (sig : Signature) (entries : List SymbolEntry) → list_all (has_sorts_in_range sig) entries ≡ true → AllGive (suc (length sig.sorts)) (symbol_entries entries)
symbols-give sig [] h = tt
symbols-give sig (entry ∷ entries) h =
    let parts = split _ _ h in
    (value-gives sig.sorts entry.gives (split _ _ parts.0).1, symbols-give sig entries parts.1)

pub sorts_in_range : (sig : Signature) → HasSortsInRange sig → HasSorts (classical_signature_of sig)
sorts_in_range sig h =
    let n = suc (length sig.sorts) in
    let count : length (classical_signature_of sig).sorts ≡ n = ap suc (length-map (sort_names sig.sorts) user_sort ∙ length-map sig.sorts (λ (e : SortEntry). e.name)) in
    let all : AllGive n (classical_signature_of sig).tables = give-append n (relation_entries sig.indexes) (existence_entries 0 sig.sorts ++ symbol_entries sig.symbols) (relations-give n sig.indexes)
    (give-append n (existence_entries 0 sig.sorts) (symbol_entries sig.symbols) (existence-gives n 0 sig.sorts) (symbols-give sig sig.symbols h)) in
    record {
      some_sort = omega (arith, count);
      values = λ t d below. rw count (gives-at n (classical_signature_of sig).tables t d all below);
    }
