-- What a well-formed classical signature says of the table and of the sort with a number.
use Rattle.std.proofs.Common.{◌≡◌, ℕ, zero, suc, ◌<◌, true, false, List, [], ◌∷◌, length, refl, sym, ap, ◌∙◌, arith}
use Rattle.std.specs.Prelude.{◌||◌, not, map, if◌then◌else◌, slice_get, Some}
use Rattle.std.specs.Option.{option_map}
use Rattle.std.proofs.lemmas.Bool.{or_right, not-true}
use Rattle.nxf_tree.specs.declared.tree.TableEntry.{TableEntry}
use Rattle.nxf_tree.specs.declared.tree.SortName.{SortName}
use Rattle.nxf_tree.specs.Names.{same_text}
use Rattle.nxf_tree.specs.Counting.{has, all_different}
use Rattle.nxf_tree.specs.Problem.{classical_sort_at}
use Rattle.nxf_tree.specs.Sorting.{SymbolType, table_type_among}
use Rattle.nxf_tree.specs.Structures.{table_names}
use Rattle.name_laws.proofs.Spelling.{same_text-refl, same_text-true, never, true-false}
use Rattle.name_laws.proofs.Types.{split}

-- the type of a table
abbrev pub table_type : List SortName → TableEntry → SymbolType
table_type sorts entry = record { args = map (classical_sort_at sorts) entry.args; gives = option_map (classical_sort_at sorts) entry.gives }

pub sort-at : (sorts : List SortName) (k : ℕ) → k < length sorts → slice_get sorts k ≡ Some (classical_sort_at sorts k)
sort-at [] k h = absurd (omega arith)
sort-at (s ∷ sorts) zero h = refl
sort-at (s ∷ sorts) (suc k) h = sort-at sorts k (omega arith)

pub listed-table : (entries : List TableEntry) (k : ℕ) (entry : TableEntry) → slice_get entries k ≡ Some entry → has same_text entry.name (table_names entries) ≡ true
listed-table [] k entry h = absurd cc
listed-table (first ∷ entries) zero entry h =
    let is : first ≡ entry = cc in
    ap (λ (e : TableEntry). same_text e.name entry.name || has same_text entry.name (table_names entries)) is
    ∙ ap (λ b. b || has same_text entry.name (table_names entries)) (same_text-refl entry.name)
listed-table (first ∷ entries) (suc k) entry h = or_right (same_text first.name entry.name) _ (listed-table entries k entry h)

-- the type of the table with a number is that of its entry
pub type-place : (sorts : List SortName) (entries : List TableEntry) → all_different same_text (table_names entries) ≡ true → (k : ℕ) (entry : TableEntry) → slice_get entries k ≡ Some entry → table_type_among sorts entries entry.name ≡ Some (table_type sorts entry)
type-place sorts [] d k entry h = absurd cc
type-place sorts (first ∷ entries) d zero entry h =
    let is : first ≡ entry = cc in
    ap (λ (e : TableEntry). if same_text e.name entry.name then Some (table_type sorts e) else table_type_among sorts entries entry.name) is
    ∙ ap (λ b. if b then Some (table_type sorts entry) else table_type_among sorts entries entry.name) (same_text-refl entry.name)
type-place sorts (first ∷ entries) d (suc k) entry h =
    let parts : (not (has same_text first.name (table_names entries)) ≡ true) × (all_different same_text (table_names entries) ≡ true) = split _ _ d in
    let apart : same_text first.name entry.name ≡ false = never (same_text first.name entry.name) (λ e. true-false (sym (same-listed e) ∙ not-true _ parts.0)) in
    ap (λ b. if b then Some (table_type sorts first) else table_type_among sorts entries entry.name) apart ∙ type-place sorts entries parts.1 k entry h
  where
    same-listed : same_text first.name entry.name ≡ true → has same_text first.name (table_names entries) ≡ true
    same-listed e = ap (λ n. has same_text n (table_names entries)) (same_text-true first.name entry.name e) ∙ listed-table entries k entry h
