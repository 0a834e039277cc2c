-- The classical signature of a well-formed signature is well formed, and what is well sorted in a printed problem is so here.
use Rattle.std.proofs.Common.{◌≡◌, ℕ, zero, suc, ◌+◌, ◌≤◌, Bool, true, false, List, [], ◌∷◌, ◌++◌, length, refl, sym, ap, ◌∙◌, subst, arith}
use Rattle.std.specs.Prelude.{if◌then◌else◌, map, Option, None, Some}
use Rattle.std.specs.Option.{option_map}
use Rattle.std.specs.List.{list_all, All as Each}
use Rattle.std.proofs.lemmas.Bool.{and_from}
use Rattle.std.proofs.lemmas.List.{length-map, length-append}
use Rattle.nxf_tree.specs.declared.tree.Signature.{Signature}
use Rattle.nxf_tree.specs.declared.tree.ClassicalSignature.{ClassicalSignature}
use Rattle.nxf_tree.specs.declared.tree.SortEntry.{SortEntry}
use Rattle.nxf_tree.specs.declared.tree.SymbolEntry.{SymbolEntry}
use Rattle.nxf_tree.specs.declared.tree.IndexEntry.{IndexEntry}
use Rattle.nxf_tree.specs.declared.tree.TableEntry.{TableEntry}
use Rattle.nxf_tree.specs.declared.tree.Formula.{Formula, True, False, Atom, Same, Differ, And', Or', Distinct, Row_of-Formula, end_of-Formula, more_of-Formula}
use Rattle.nxf_tree.specs.declared.tree.Body.TheVariants.{Formula as IsFormula, Typing as IsTyping, Logic as IsLogic}
use Rattle.nxf_tree.specs.declared.tree.Statement.{Statement}
use Rattle.nxf_tree.specs.declared.tree.Statement.TheVariants.{Annotated, Include}
use Rattle.nxf_tree.specs.Shapes.{Not1, Pair2, Quant1, Modal1}
use Rattle.nxf_tree.specs.Names.{user_sort, existence_name}
use Rattle.nxf_tree.specs.Rows.{AllBelow}
use Rattle.nxf_tree.specs.Signature.{constant_regime, takes_world, sort_names}
use Rattle.nxf_tree.specs.Sorting.{Language, Bound, is_sorted, are_sorted, statement_is_sorted, classical_language, in_range, gives_in_range}
use Rattle.nxf_tree.specs.ClassicalSignature.{classical_signature_of, relation_entries, existence_entries, symbol_entries}
use Rattle.nxf_tree.specs.WellFormed.{has_sorts_in_range}
use Rattle.name_laws.proofs.NamesDiffer.{names-differ}
use Rattle.name_laws.proofs.Spelling.{true-false}
use Rattle.name_laws.proofs.Types.{split}
use Rattle.classical_syntax.proofs.CallerLemmas.{in_range-below}
use Rattle.classical_signature_laws.specs.ClassicalSignatures.{GivesBelow}
use Rattle.classical_evaluation_definitions.specs.ClassicalSorting.{is_classical, are_classical, statement_is_classical, IsGoodTable}
use Rattle.classical_evaluation_laws.specs.ClassicalLaws.{WellFormedLaw, SortedFileLaw}

-- each of the tables is good
abbrev AreGood : ℕ → List TableEntry → Type 0
AreGood n [] = Unit {0}
AreGood n (entry ∷ entries) = IsGoodTable n entry × AreGood n entries

good-append : (n : ℕ) (xs ys : List TableEntry) → AreGood n xs → AreGood n ys → AreGood n (xs ++ ys)
good-append n [] ys h k = k
good-append n (x ∷ xs) ys h k = (h.0, good-append n xs ys h.1 k)

each-good : (n : ℕ) (xs : List TableEntry) → AreGood n xs → Each (IsGoodTable n) xs
each-good n [] h k d l = absurd (omega (arith, l))
each-good n (x ∷ xs) h zero d l = h.0
each-good n (x ∷ xs) h (suc k) d l = each-good n xs h.1 k d (omega (arith, l))

relations-good : (n : ℕ) (entries : List IndexEntry) → AreGood (suc n) (relation_entries entries)
relations-good n [] = tt
relations-good n (entry ∷ entries) = (record { args = (omega arith, (omega arith, tt)); gives = tt; few = omega arith }, relations-good n entries)

existence-good : (n k : ℕ) (entries : List SortEntry) → k + length entries ≤ n → AreGood (suc n) (existence_entries k entries)
existence-good n k [] h = tt
existence-good n k (entry ∷ entries) h = by (constant_regime entry.regime) (existence-good n (suc k) entries (omega (arith, h)))
  where
    by : (b : Bool) → AreGood (suc n) (existence_entries (suc k) entries) → AreGood (suc n) (if b then existence_entries (suc k) entries else record { name = existence_name entry.name; args = 0 ∷ suc k ∷ []; gives = None } ∷ existence_entries (suc k) entries)
    by true rest = rest
    by false rest = (record { args = (omega arith, (omega (arith, h), tt)); gives = tt; few = omega arith }, rest)

up-below : (sorts : List SortEntry) (args : List ℕ) → list_all (in_range sorts) args ≡ true → AllBelow (suc (length sorts)) (map suc args)
up-below sorts [] h = tt
up-below sorts (k ∷ args) h =
    let parts : (in_range sorts k ≡ true) × (list_all (in_range sorts) args ≡ true) = split _ _ h in
    (omega (arith, in_range-below sorts k parts.0), up-below sorts args parts.1)

up-gives : (sorts : List SortEntry) (gives : Option ℕ) → gives_in_range sorts gives ≡ true → GivesBelow (suc (length sorts)) (option_map suc gives)
up-gives sorts None h = tt
up-gives sorts (Some k) h = omega (arith, in_range-below sorts k h)

front-below : (n : ℕ) (b : Bool) (args : List ℕ) → AllBelow (suc n) args → AllBelow (suc n) (if b then 0 ∷ args else args)
front-below n true args h = (omega arith, h)
front-below n false args h = h

front-few : (b : Bool) (args : List ℕ) → length args ≤ 1000 → length (if b then 0 ∷ args else args) ≤ 1001
front-few true args h = omega (arith, h)
front-few false args h = omega (arith, h)

symbols-good : (sorts : List SortEntry) (sig : Signature) → sig.sorts ≡ sorts → (entries : List SymbolEntry) → list_all (has_sorts_in_range sig) entries ≡ true → Each (λ (entry : SymbolEntry). length entry.args ≤ 1000) entries → AreGood (suc (length sorts)) (symbol_entries entries)
symbols-good sorts sig e [] h few = tt
symbols-good sorts sig e (entry ∷ entries) h few =
    let parts : (has_sorts_in_range sig entry ≡ true) × (list_all (has_sorts_in_range sig) entries ≡ true) = split _ _ h in
    let ranges : (list_all (in_range sig.sorts) entry.args ≡ true) × (gives_in_range sig.sorts entry.gives ≡ true) = split _ _ parts.0 in
    let args : list_all (in_range sorts) entry.args ≡ true = ap (λ ss. list_all (in_range ss) entry.args) (sym e) ∙ ranges.0 in
    let gives : gives_in_range sorts entry.gives ≡ true = ap (λ ss. gives_in_range ss entry.gives) (sym e) ∙ ranges.1 in
    let own : length entry.args ≤ 1000 = few 0 entry (omega arith) in (
      record {
        args = front-below (length sorts) (takes_world entry) (map suc entry.args) (up-below sorts entry.args args);
        gives = up-gives sorts entry.gives gives;
        few = front-few (takes_world entry) (map suc entry.args) (omega (arith, own, length-map entry.args suc));
      },
      symbols-good sorts sig e entries parts.1 (λ k d l. few (suc k) d (omega arith)),
    )

-- there are as many tables as indexes, sorts that aren't constant, and symbols
relations-count : (entries : List IndexEntry) → length (relation_entries entries) ≡ length entries
relations-count [] = refl
relations-count (entry ∷ entries) = ap suc (relations-count entries)

existence-count : (k : ℕ) (entries : List SortEntry) → length (existence_entries k entries) ≤ length entries
existence-count k [] = omega arith
existence-count k (entry ∷ entries) = by (constant_regime entry.regime) (existence-count (suc k) entries)
  where
    by : (b : Bool) → length (existence_entries (suc k) entries) ≤ length entries → length (if b then existence_entries (suc k) entries else record { name = existence_name entry.name; args = 0 ∷ suc k ∷ []; gives = None } ∷ existence_entries (suc k) entries) ≤ suc (length entries)
    by true h = omega (arith, h)
    by false h = omega (arith, h)

symbols-count : (entries : List SymbolEntry) → length (symbol_entries entries) ≡ length entries
symbols-count [] = refl
symbols-count (entry ∷ entries) = ap suc (symbols-count entries)

tables-count : (sig : Signature) → length (classical_signature_of sig).tables ≤ length sig.indexes + (length sig.sorts + length sig.symbols)
tables-count sig =
    let relations = relation_entries sig.indexes in
    let existing = existence_entries 0 sig.sorts in
    let symbols = symbol_entries sig.symbols in
    omega (arith, length-append relations (existing ++ symbols), length-append existing symbols, relations-count sig.indexes, existence-count 0 sig.sorts, symbols-count sig.symbols)

pub well-formed-law : WellFormedLaw
well-formed-law sig wf =
    let n = length sig.sorts in
    let count : length (map user_sort (sort_names sig.sorts)) ≡ n = length-map (sort_names sig.sorts) user_sort ∙ length-map sig.sorts (λ (e : SortEntry). e.name) in
    let good : AreGood (suc n) (classical_signature_of sig).tables = good-append (suc n) (relation_entries sig.indexes) (existence_entries 0 sig.sorts ++ symbol_entries sig.symbols) (relations-good n sig.indexes)
    (good-append (suc n) (existence_entries 0 sig.sorts) (symbol_entries sig.symbols) (existence-good n 0 sig.sorts (omega arith)) (symbols-good sig.sorts sig refl sig.symbols wf.in_range wf.arguments)) in
    record {
      different = names-differ sig wf.different;
      worlds = refl;
      tables = subst (λ m. Each (λ (entry : TableEntry). IsGoodTable m entry) (classical_signature_of sig).tables) (sym (ap suc count)) (each-good (suc n) (classical_signature_of sig).tables good);
      few_sorts = omega (arith, wf.size, count);
      few_tables = omega (arith, wf.size, tables-count sig);
    }

module _ (csig : ClassicalSignature) where
  abbrev L : Language
  L = classical_language csig

  mutual
    pub sorted-law : (b : Bound) (f : Formula) → is_sorted L b f ≡ true → is_classical L b f ≡ true
    sorted-law b True h = refl
    sorted-law b False h = refl
    sorted-law b (Atom p ts) h = h
    sorted-law b (Same t u) h = h
    sorted-law b (Differ t u) h = h
    sorted-law b (Not1 f) h = sorted-law b f h
    sorted-law b (And' shape fs) h = sorted-row b fs h
    sorted-law b (Or' shape fs) h = sorted-row b fs h
    sorted-law b (Pair2 op f g) h =
        let parts : (is_sorted L b f ≡ true) × (is_sorted L b g ≡ true) = split _ _ h in
        and_from _ _ (sorted-law b f parts.0) (sorted-law b g parts.1)
    sorted-law b (Quant1 q x s f) h =
        let parts : (L.knows_sort s ≡ true) × (is_sorted L ((x, s) ∷ b) f ≡ true) = split _ _ h in
        and_from _ _ parts.0 (sorted-law ((x, s) ∷ b) f parts.1)
    sorted-law b (Modal1 m i f) h = absurd (true-false (sym h))
    sorted-law b (Distinct ts) h = absurd (true-false (sym h))

    pub sorted-row : {m : _} (b : Bound) (fs : Row_of-Formula m) → are_sorted L b fs ≡ true → are_classical L b fs ≡ true
    sorted-row b end_of-Formula h = refl
    sorted-row b (more_of-Formula f fs) h =
        let parts : (is_sorted L b f ≡ true) × (are_sorted L b fs ≡ true) = split _ _ h in
        and_from _ _ (sorted-law b f parts.0) (sorted-row b fs parts.1)

  statements-sorted : (ss : List Statement) → list_all (statement_is_sorted L) ss ≡ true → list_all (statement_is_classical L) ss ≡ true
  statements-sorted [] h = refl
  statements-sorted (Annotated name role (IsFormula f) ∷ ss) h =
      let parts : (is_sorted L [] f ≡ true) × (list_all (statement_is_sorted L) ss ≡ true) = split _ _ h in
      and_from _ _ (sorted-law [] f parts.0) (statements-sorted ss parts.1)
  statements-sorted (Annotated name role (IsTyping t) ∷ ss) h = statements-sorted ss h
  statements-sorted (Annotated name role (IsLogic l) ∷ ss) h = statements-sorted ss h
  statements-sorted (Include file names ∷ ss) h = statements-sorted ss h

pub file-law : SortedFileLaw
file-law csig file over = statements-sorted csig file.statements over.sorted
