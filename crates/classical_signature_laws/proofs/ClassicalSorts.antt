-- The arguments and the values of the tables of a printed problem are of its sorts.
use Rattle.std.proofs.Common.{◌≡◌, ℕ, zero, suc, ◌+◌, ◌<◌, ◌≤◌, Bool, true, false, List, [], ◌∷◌, ◌++◌, map, length, get_or, Option, None, Some, inl, inr, refl, sym, subst, ap, ◌∙◌, arith}
use Rattle.std.specs.Prelude.{if◌then◌else◌}
use Rattle.std.specs.List.{list_all}
use Rattle.std.specs.Option.{option_map}
use Rattle.std.proofs.lemmas.Bool.{cases_Bool}
use Rattle.std.proofs.lemmas.List.{length-map}
use Rattle.nxf_tree.specs.declared.tree.Signature.{Signature}
use Rattle.nxf_tree.specs.declared.tree.SortEntry.{SortEntry}
use Rattle.nxf_tree.specs.declared.tree.SymbolEntry.{SymbolEntry}
use Rattle.nxf_tree.specs.declared.tree.IndexEntry.{IndexEntry}
use Rattle.nxf_tree.specs.declared.tree.TableEntry.{TableEntry}
use Rattle.nxf_tree.specs.Names.{user_sort}
use Rattle.nxf_tree.specs.Rows.{AllBelow}
use Rattle.nxf_tree.specs.Signature.{constant_regime, takes_world, sort_names}
use Rattle.nxf_tree.specs.Sorting.{in_range, gives_in_range}
use Rattle.nxf_tree.specs.WellFormed.{IsWellFormed, has_sorts_in_range}
use Rattle.nxf_tree.specs.ClassicalSignature.{classical_signature_of, relation_entries, existence_entries, symbol_entries}
use Rattle.name_laws.specs.NameLaws.{HasDifferentClassicalNames}
use Rattle.name_laws.proofs.NamesDiffer.{names-differ}
use Rattle.name_laws.proofs.Types.{split}
use Rattle.classical_syntax.proofs.CallerLemmas.{in_range-below}
use Rattle.classical_signature_laws.specs.ClassicalSignatures.{IsClassicalOf, GivesBelow, HasSorts, HasArguments, HasSortsLaw, HasArgumentsLaw, ClassicalNamesLaw}

-- the table's arguments and values are of the first n sorts
record IsBelow (n : ℕ) (entry : TableEntry) : Type 0 where
  pub args : AllBelow n entry.args
  pub gives : GivesBelow n entry.gives

abbrev AllFit : ℕ → List TableEntry → Type 0
AllFit n [] = Unit {0}
AllFit n (entry ∷ entries) = IsBelow n entry × AllFit n entries

fit-at : (n : ℕ) (entries : List TableEntry) (t : ℕ) (d : TableEntry) → AllFit n entries → t < length entries → IsBelow n (get_or entries t d)
fit-at n [] t d all h = absurd (omega arith)
fit-at n (entry ∷ entries) zero d all h = all.0
fit-at n (entry ∷ entries) (suc t) d all h = fit-at n entries t d all.1 (omega arith)

fit-append : (n : ℕ) (xs ys : List TableEntry) → AllFit n xs → AllFit n ys → AllFit n (xs ++ ys)
fit-append n [] ys p q = q
fit-append n (x ∷ xs) ys p q = (p.0, fit-append n xs ys p.1 q)

relations-fit : (n : ℕ) (entries : List IndexEntry) → AllFit (suc n) (relation_entries entries)
relations-fit n [] = tt
relations-fit n (entry ∷ entries) = (record { args = (omega arith, (omega arith, tt)); gives = tt }, relations-fit n entries)

existence-fits : (n k : ℕ) (entries : List SortEntry) → k + length entries ≤ n → AllFit (suc n) (existence_entries k entries)
existence-fits n k [] h = tt
existence-fits n k (entry ∷ entries) h = elim (cases_Bool (constant_regime entry.regime)) [
  | inl constant ↦ (rw constant (existence-fits n (suc k) entries (omega arith)))
  | inr varying ↦ (rw varying (record { args = (omega arith, (omega arith, tt)); gives = tt }, existence-fits n (suc k) entries (omega arith)))
]

gives-up : (sorts : List SortEntry) (gives : Option ℕ) → gives_in_range sorts gives ≡ true → GivesBelow (suc (length sorts)) (option_map suc gives)
gives-up sorts None h = tt
gives-up sorts (Some number) h = omega (arith, in_range-below sorts number h)

args-up : (sorts : List SortEntry) (args : List ℕ) → list_all (in_range sorts) args ≡ true → AllBelow (suc (length sorts)) (map suc args)
args-up sorts [] h = tt
args-up sorts (number ∷ args) h =
    let parts = split _ _ h in
    (omega (arith, in_range-below sorts number parts.0), args-up sorts args parts.1)

with-front : (b : Bool) (n : ℕ) (args : List ℕ) → AllBelow (suc n) args → AllBelow (suc n) (if b then 0 ∷ args else args)
with-front true n args h = (omega arith, h)
with-front false n args h = h

symbols-fit : (sig : Signature) (entries : List SymbolEntry) → list_all (has_sorts_in_range sig) entries ≡ true → AllFit (suc (length sig.sorts)) (symbol_entries entries)
symbols-fit sig [] h = tt
symbols-fit sig (entry ∷ entries) h =
    let parts = split _ _ h in
    let numbers = split _ _ parts.0 in (
      record {
        args = with-front (takes_world entry) (length sig.sorts) (map suc entry.args) (args-up sig.sorts entry.args numbers.0);
        gives = gives-up sig.sorts entry.gives numbers.1;
      },
      symbols-fit sig entries parts.1,
    )

all-fit : (sig : Signature) → IsWellFormed sig → AllFit (suc (length sig.sorts)) (classical_signature_of sig).tables
all-fit sig well =
    let n = length sig.sorts in
    fit-append (suc n) (relation_entries sig.indexes) (existence_entries 0 sig.sorts ++ symbol_entries sig.symbols) (relations-fit n sig.indexes)
    (fit-append (suc n) (existence_entries 0 sig.sorts) (symbol_entries sig.symbols) (existence-fits n 0 sig.sorts (omega arith)) (symbols-fit sig sig.symbols well.in_range))

sorts-count : (sig : Signature) → length (classical_signature_of sig).sorts ≡ suc (length sig.sorts)
sorts-count sig = ap suc (length-map (sort_names sig.sorts) user_sort ∙ length-map sig.sorts (λ (e : SortEntry). e.name))

-- the word, for the signature that the definitions give
pub is-classical : (sig : Signature) → IsWellFormed sig → IsClassicalOf sig (classical_signature_of sig)
is-classical sig well = record { well_formed = well; is = refl }

pub has-sorts : HasSortsLaw
has-sorts sig csig h =
    let made : HasSorts (classical_signature_of sig) = record {
      some_sort = omega (arith, sorts-count sig);
      values = λ t d below. rw (sorts-count sig) (fit-at (suc (length sig.sorts)) (classical_signature_of sig).tables t d (all-fit sig h.well_formed) below).gives;
    } in
    subst HasSorts (sym h.is) made

pub has-arguments : HasArgumentsLaw
has-arguments sig csig h =
    let made : HasArguments (classical_signature_of sig) = λ t d below. rw (sorts-count sig) (fit-at (suc (length sig.sorts)) (classical_signature_of sig).tables t d (all-fit sig h.well_formed) below).args in
    subst HasArguments (sym h.is) made

pub classical-names : ClassicalNamesLaw
classical-names sig csig h = subst HasDifferentClassicalNames (sym h.is) (names-differ sig h.well_formed.different)
