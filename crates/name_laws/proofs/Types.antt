-- The classical language has what the modal language has, under the printed names.
use Rattle.std.proofs.Common.{◌≡◌, ℕ, zero, suc, ◌+◌, Bool, true, false, List, [], ◌∷◌, ◌++◌, refl, sym, ap, ◌∙◌, arith}
use Rattle.std.specs.Prelude.{◌&&◌, ◌||◌, if◌then◌else◌, map, Option, None, Some}
use Rattle.std.specs.Option.{option_map}
use Rattle.nxf_tree.specs.declared.tree.Signature.{Signature}
use Rattle.nxf_tree.specs.declared.tree.SortEntry.{SortEntry}
use Rattle.nxf_tree.specs.declared.tree.SymbolEntry.{SymbolEntry}
use Rattle.nxf_tree.specs.declared.tree.IndexEntry.{IndexEntry}
use Rattle.nxf_tree.specs.declared.tree.TableEntry.{TableEntry}
use Rattle.nxf_tree.specs.declared.tree.IndexName.{IndexName}
use Rattle.nxf_tree.specs.declared.tree.SortName.{SortName}
use Rattle.nxf_tree.specs.declared.tree.SortName.TheVariants.{User}
use Rattle.nxf_tree.specs.Counting.{has}
use Rattle.nxf_tree.specs.Names.{same_text, user_name, user_sort, world_name, actual_name, relation_name, existence_name}
use Rattle.nxf_tree.specs.declared.tree.Designation.{Designation}
use Rattle.nxf_tree.specs.Signature.{same_sort, same_index, constant_regime, flexible_designation, constant_among, flexible_among, is_constant, is_flexible, world_in_front, takes_world, sort_at, sort_names, index_names}
use Rattle.nxf_tree.specs.ClassicalSignature.{classical_signature_of, relation_entries, existence_entries, symbol_entries}
use Rattle.nxf_tree.specs.Problem.{classical_sort_at}
use Rattle.nxf_tree.specs.Sorting.{SymbolType, Language, type_among, modal_language, table_type_among, classical_language}
use Rattle.name_laws.proofs.Spelling.{same_text-refl, true-false}
use Rattle.name_laws.proofs.Naming.{same-user_name, same-relation_name, same-existence_name, apart-relation-existence, relation-mk, existence-mk, actual-mk, apart-user, same-user_sort}
use Rattle.name_laws.proofs.Apart.{sort-true, actual-relation, actual-existence}

abbrev pub world_sort : SortName
world_sort = User world_name

pub split : (a b : Bool) → a && b ≡ true → (a ≡ true) × (b ≡ true)
split true b e = (refl, e)
split false b e = absurd (true-false (sym e))

-- numbers of sorts
pub up-sort : (sorts : List SortEntry) (k : ℕ) → classical_sort_at (map user_sort (sort_names sorts)) k ≡ user_sort (sort_at sorts k)
up-sort [] k = refl
up-sort (entry ∷ sorts) zero = refl
up-sort (entry ∷ sorts) (suc k) = up-sort sorts k

abbrev csorts : List SortEntry → List SortName
csorts sorts = world_sort ∷ map user_sort (sort_names sorts)

up-sorts : (sorts : List SortEntry) (ks : List ℕ) → map (classical_sort_at (csorts sorts)) (map suc ks) ≡ map user_sort (map (sort_at sorts) ks)
up-sorts sorts [] = refl
up-sorts sorts (k ∷ ks) = λ i. up-sort sorts k i ∷ up-sorts sorts ks i

up-gives : (sorts : List SortEntry) (o : Option ℕ) → option_map (classical_sort_at (csorts sorts)) (option_map suc o) ≡ option_map user_sort (option_map (sort_at sorts) o)
up-gives sorts None = refl
up-gives sorts (Some k) = ap Some (up-sort sorts k)

-- the type of a symbol in the printed problem
abbrev pub with_world : Bool → List SortName → List SortName
with_world b sorts = if b then world_sort ∷ sorts else sorts

abbrev pub up_type : Bool → SymbolType → SymbolType
up_type b type = record { args = with_world b (map user_sort type.args); gives = option_map user_sort type.gives }

abbrev pub takes : Option SortName → Bool → Bool
takes None b = true
takes (Some s) b = b

up-args : (sorts : List SortEntry) (b : Bool) (ks : List ℕ) → map (classical_sort_at (csorts sorts)) (if b then 0 ∷ map suc ks else map suc ks) ≡ with_world b (map user_sort (map (sort_at sorts) ks))
up-args sorts true ks = ap (λ l. world_sort ∷ l) (up-sorts sorts ks)
up-args sorts false ks = up-sorts sorts ks

takes-same : (sorts : List SortEntry) (d : Designation) (o : Option ℕ) → world_in_front o d ≡ takes (option_map (sort_at sorts) o) (flexible_designation d)
takes-same sorts d None = refl
takes-same sorts d (Some k) = refl

abbrev pub own_type : List SortEntry → SymbolEntry → SymbolType
own_type sorts entry = record { args = map (sort_at sorts) entry.args; gives = option_map (sort_at sorts) entry.gives }

printed-type : (sorts : List SortEntry) (entry : SymbolEntry) → record { args = map (classical_sort_at (csorts sorts)) (if takes_world entry then 0 ∷ map suc entry.args else map suc entry.args); gives = option_map (classical_sort_at (csorts sorts)) (option_map suc entry.gives) } ≡ up_type (takes (own_type sorts entry).gives (flexible_designation entry.designation)) (own_type sorts entry)
printed-type sorts entry = λ i. record {
  args = (up-args sorts (takes_world entry) entry.args ∙ ap (λ b. with_world b (map user_sort (map (sort_at sorts) entry.args))) (takes-same sorts entry.designation entry.gives)) i;
  gives = up-gives sorts entry.gives i;
}

symbol-type-at : (sorts : List SortEntry) (entries : List SymbolEntry) (f : List ℕ) (type : SymbolType) → type_among sorts entries f ≡ Some type → table_type_among (csorts sorts) (symbol_entries entries) (user_name f) ≡ Some (up_type (takes type.gives (flexible_among entries f)) type)
symbol-type-at sorts [] f type h = absurd cc
symbol-type-at sorts (entry ∷ entries) f type h =
    ap (λ b. if b then Some (record { args = map (classical_sort_at (csorts sorts)) (if takes_world entry then 0 ∷ map suc entry.args else map suc entry.args); gives = option_map (classical_sort_at (csorts sorts)) (option_map suc entry.gives) }) else table_type_among (csorts sorts) (symbol_entries entries) (user_name f)) (same-user_name entry.name f)
    ∙ chosen (symbol-type-at sorts entries f type) (same_text entry.name f) h
  where
    chosen : (type_among sorts entries f ≡ Some type → table_type_among (csorts sorts) (symbol_entries entries) (user_name f) ≡ Some (up_type (takes type.gives (flexible_among entries f)) type)) → (b : Bool) → (if b then Some (own_type sorts entry) else type_among sorts entries f) ≡ Some type → (if b then Some (record { args = map (classical_sort_at (csorts sorts)) (if takes_world entry then 0 ∷ map suc entry.args else map suc entry.args); gives = option_map (classical_sort_at (csorts sorts)) (option_map suc entry.gives) }) else table_type_among (csorts sorts) (symbol_entries entries) (user_name f)) ≡ Some (up_type (takes type.gives (if b then flexible_designation entry.designation else flexible_among entries f)) type)
    chosen next true e =
        let own : own_type sorts entry ≡ type = cc in
        (ap Some (printed-type sorts entry) ∙ ap (λ t. Some (up_type (takes t.gives (flexible_designation entry.designation)) t)) own)
    chosen next false e = next e

-- tables in the order of the classical signature
module _ (sorts : List SortName) where
  beyond : (entries rest : List TableEntry) (n : List ℕ) → table_type_among sorts entries n ≡ None → table_type_among sorts (entries ++ rest) n ≡ table_type_among sorts rest n
  beyond [] rest n h = refl
  beyond (entry ∷ entries) rest n h = chosen (beyond entries rest n) (same_text entry.name n) h
    where
      chosen : (table_type_among sorts entries n ≡ None → table_type_among sorts (entries ++ rest) n ≡ table_type_among sorts rest n) → (b : Bool) → (if b then Some (record { args = map (classical_sort_at sorts) entry.args; gives = option_map (classical_sort_at sorts) entry.gives }) else table_type_among sorts entries n) ≡ None → (if b then Some (record { args = map (classical_sort_at sorts) entry.args; gives = option_map (classical_sort_at sorts) entry.gives }) else table_type_among sorts (entries ++ rest) n) ≡ table_type_among sorts rest n
      chosen next true e = absurd cc
      chosen next false e = next e

  within : (entries rest : List TableEntry) (n : List ℕ) (type : SymbolType) → table_type_among sorts entries n ≡ Some type → table_type_among sorts (entries ++ rest) n ≡ Some type
  within [] rest n type h = absurd cc
  within (entry ∷ entries) rest n type h = chosen (within entries rest n type) (same_text entry.name n) h
    where
      chosen : (table_type_among sorts entries n ≡ Some type → table_type_among sorts (entries ++ rest) n ≡ Some type) → (b : Bool) → (if b then Some (record { args = map (classical_sort_at sorts) entry.args; gives = option_map (classical_sort_at sorts) entry.gives }) else table_type_among sorts entries n) ≡ Some type → (if b then Some (record { args = map (classical_sort_at sorts) entry.args; gives = option_map (classical_sort_at sorts) entry.gives }) else table_type_among sorts (entries ++ rest) n) ≡ Some type
      chosen next true e = e
      chosen next false e = next e

no-relation : (sorts : List SortName) (entries : List IndexEntry) (n : List ℕ) → ((i : IndexName) → same_text (relation_name i) n ≡ false) → table_type_among sorts (relation_entries entries) n ≡ None
no-relation sorts [] n h = refl
no-relation sorts (entry ∷ entries) n h = rw (h entry.name) (no-relation sorts entries n h)

no-existence : (sorts : List SortName) (k : ℕ) (entries : List SortEntry) (n : List ℕ) → ((s : SortName) → same_text (existence_name s) n ≡ false) → table_type_among sorts (existence_entries k entries) n ≡ None
no-existence sorts k [] n h = refl
no-existence sorts k (entry ∷ entries) n h = chosen (no-existence sorts (suc k) entries n h) (constant_regime entry.regime)
  where
    chosen : table_type_among sorts (existence_entries (suc k) entries) n ≡ None → (b : Bool) → table_type_among sorts (if b then existence_entries (suc k) entries else record { name = existence_name entry.name; args = 0 ∷ suc k ∷ []; gives = None } ∷ existence_entries (suc k) entries) n ≡ None
    chosen next true = next
    chosen next false = rw (h entry.name) next

abbrev pub relation_type : SymbolType
relation_type = record { args = world_sort ∷ world_sort ∷ []; gives = None }

abbrev pub existence_type : SortName → SymbolType
existence_type s = record { args = world_sort ∷ user_sort s ∷ []; gives = None }

relation-at : (sorts : List SortEntry) (entries : List IndexEntry) (i : IndexName) → has same_index i (index_names entries) ≡ true → table_type_among (csorts sorts) (relation_entries entries) (relation_name i) ≡ Some relation_type
relation-at sorts [] i h = absurd (true-false (sym h))
relation-at sorts (entry ∷ entries) i h =
    ap (λ b. if b then Some relation_type else table_type_among (csorts sorts) (relation_entries entries) (relation_name i)) (same-relation_name entry.name i)
    ∙ chosen (relation-at sorts entries i) (same_index entry.name i) h
  where
    chosen : (has same_index i (index_names entries) ≡ true → table_type_among (csorts sorts) (relation_entries entries) (relation_name i) ≡ Some relation_type) → (b : Bool) → b || has same_index i (index_names entries) ≡ true → (if b then Some relation_type else table_type_among (csorts sorts) (relation_entries entries) (relation_name i)) ≡ Some relation_type
    chosen next true e = refl
    chosen next false e = next e

existence-at : (sorts entries : List SortEntry) (k : ℕ) → ((j : ℕ) → sort_at sorts (k + j) ≡ sort_at entries j) → (s : SortName) → constant_among entries s ≡ false → table_type_among (csorts sorts) (existence_entries k entries) (existence_name s) ≡ Some (existence_type s)
existence-at sorts [] k p s h = absurd (true-false h)
existence-at sorts (entry ∷ entries) k p s h =
    by (existence-at sorts entries (suc k) (λ j. let e : suc k + j ≡ k + suc j = omega arith in (ap (sort_at sorts) e ∙ p (suc j))) s) (same_sort entry.name s) (constant_regime entry.regime) refl h
  where
    own : same_sort entry.name s ≡ true → classical_sort_at (csorts sorts) (suc k) ≡ user_sort s
    own q = let e : k ≡ k + 0 = omega arith in (up-sort sorts k ∙ ap user_sort (ap (sort_at sorts) e ∙ p 0 ∙ sort-true entry.name s q))

    by : (constant_among entries s ≡ false → table_type_among (csorts sorts) (existence_entries (suc k) entries) (existence_name s) ≡ Some (existence_type s)) → (b c : Bool) → same_sort entry.name s ≡ b → (if b then c else constant_among entries s) ≡ false → table_type_among (csorts sorts) (if c then existence_entries (suc k) entries else record { name = existence_name entry.name; args = 0 ∷ suc k ∷ []; gives = None } ∷ existence_entries (suc k) entries) (existence_name s) ≡ Some (existence_type s)
    by next true true q e = absurd (true-false e)
    by next true false q e = rw (same-existence_name entry.name s, q) (λ i. Some (record { args = world_sort ∷ own q i ∷ []; gives = None }))
    by next false true q e = next e
    by next false false q e = rw (same-existence_name entry.name s, q) (next e)

module _ (sig : Signature) where
  abbrev pub CL : Language
  CL = classical_language (classical_signature_of sig)

  abbrev lookup : List ℕ → Option SymbolType
  lookup = table_type_among (csorts sig.sorts) (classical_signature_of sig).tables

  pub symbol-type : (f : List ℕ) (type : SymbolType) → (modal_language sig).type_of f ≡ Some type → CL.type_of (user_name f) ≡ Some (up_type (takes type.gives (is_flexible sig f)) type)
  unfolding is_flexible
  symbol-type f type h =
      ap (λ b. if b then Some (record { args = []; gives = Some world_sort }) else lookup (user_name f)) (apart-user f actual_name actual-mk)
      ∙ beyond (csorts sig.sorts) (relation_entries sig.indexes) _ (user_name f) (no-relation (csorts sig.sorts) sig.indexes (user_name f) (λ i. apart-user f (relation_name i) (relation-mk i)))
      ∙ beyond (csorts sig.sorts) (existence_entries 0 sig.sorts) _ (user_name f) (no-existence (csorts sig.sorts) 0 sig.sorts (user_name f) (λ s. apart-user f (existence_name s) (existence-mk s)))
      ∙ symbol-type-at sig.sorts sig.symbols f type h

  pub relation-type : (i : IndexName) → (modal_language sig).knows_index i ≡ true → CL.type_of (relation_name i) ≡ Some relation_type
  relation-type i h =
      ap (λ b. if b then Some (record { args = []; gives = Some world_sort }) else lookup (relation_name i)) (actual-relation i)
      ∙ within (csorts sig.sorts) (relation_entries sig.indexes) _ (relation_name i) relation_type (relation-at sig.sorts sig.indexes i h)

  pub existence-type : (s : SortName) → is_constant sig s ≡ false → CL.type_of (existence_name s) ≡ Some (existence_type s)
  unfolding is_constant
  existence-type s h =
      ap (λ b. if b then Some (record { args = []; gives = Some world_sort }) else lookup (existence_name s)) (actual-existence s)
      ∙ beyond (csorts sig.sorts) (relation_entries sig.indexes) _ (existence_name s) (no-relation (csorts sig.sorts) sig.indexes (existence_name s) (λ i. apart-relation-existence i s))
      ∙ within (csorts sig.sorts) (existence_entries 0 sig.sorts) _ (existence_name s) (existence_type s) (existence-at sig.sorts sig.sorts 0 (λ j. let e : 0 + j ≡ j = omega arith in ap (sort_at sig.sorts) e) s h)

  pub actual-type : CL.type_of actual_name ≡ Some (record { args = []; gives = Some world_sort })
  actual-type = rw (same_text-refl actual_name)

  knows-at : (entries : List SortEntry) (s : SortName) → has same_sort s (sort_names entries) ≡ true → has same_sort (user_sort s) (map user_sort (sort_names entries)) ≡ true
  knows-at [] s h = h
  knows-at (entry ∷ entries) s h = rw (same-user_sort entry.name s) (chosen (knows-at entries s) (same_sort entry.name s) h)
    where
      chosen : (has same_sort s (sort_names entries) ≡ true → has same_sort (user_sort s) (map user_sort (sort_names entries)) ≡ true) → (b : Bool) → b || has same_sort s (sort_names entries) ≡ true → b || has same_sort (user_sort s) (map user_sort (sort_names entries)) ≡ true
      chosen next true e = refl
      chosen next false e = next e

  or-right : (a b : Bool) → b ≡ true → a || b ≡ true
  or-right true b e = refl
  or-right false b e = e

  pub knows-sort : (s : SortName) → (modal_language sig).knows_sort s ≡ true → CL.knows_sort (user_sort s) ≡ true
  knows-sort s h = or-right _ _ (knows-at sig.sorts s h)

  pub knows-world : CL.knows_sort world_sort ≡ true
  knows-world = rw (same_text-refl world_name)
