-- Structures that correspond agree.
use Rattle.std.proofs.Common.{◌≡◌, ℕ, suc, Bool, true, false, List, [], ◌∷◌, ◌++◌, refl, ap, ◌∙◌}
use Rattle.std.specs.Prelude.{if◌then◌else◌, map}
use Rattle.nxf_tree.specs.declared.tree.IndexName.{IndexName}
use Rattle.nxf_tree.specs.declared.tree.SortName.{SortName}
use Rattle.nxf_tree.specs.declared.tree.Signature.{Signature}
use Rattle.nxf_tree.specs.declared.tree.IndexEntry.{IndexEntry}
use Rattle.nxf_tree.specs.declared.tree.SortEntry.{SortEntry}
use Rattle.nxf_tree.specs.declared.tree.SymbolEntry.{SymbolEntry}
use Rattle.nxf_tree.specs.declared.tree.TableEntry.{TableEntry}
use Rattle.nxf_tree.specs.Names.{same_text, user_name, user_sort, world_name, actual_name, relation_name, existence_name}
use Rattle.nxf_tree.specs.Signature.{same_sort, same_index, constant_regime, sort_names, existence_sorts, index_names, symbol_names}
use Rattle.nxf_tree.specs.Rows.{Table, Rows, Shape, AreTables, is_true_row, value_at_row, beside, under}
use Rattle.nxf_tree.specs.Structures.{KripkeStructure, ClassicalStructure, relation_shapes, existence_shapes, IsOver, Corresponds, tables_with, table_names, kripke_model, classical_model}
use Rattle.nxf_tree.specs.ClassicalSignature.{classical_signature_of, relation_entries, existence_entries, symbol_entries}
use Rattle.name_laws.specs.Agreement.{Agrees}
use Rattle.name_laws.proofs.Spelling.{same_text-refl}
use Rattle.name_laws.proofs.Naming.{same-user_name, same-relation_name, same-existence_name, apart-relation-existence, apart-existence-relation, relation-mk, existence-mk, actual-mk, user-apart, apart-user, same-user_sort, world-apart}

abbrev pub SameLength : {A B : Type 0} → List A → List B → Type 0
SameLength [] [] = Unit {0}
SameLength [] (y ∷ ys) = ⊥
SameLength (x ∷ xs) [] = ⊥
SameLength (x ∷ xs) (y ∷ ys) = SameLength xs ys

-- look-ups of names
choice : {A B : Type 0} (g : A → B) (b : Bool) (x y : A) → (if b then g x else g y) ≡ g (if b then x else y)
choice g true x y = refl
choice g false x y = refl

module _ {M N A B : Type 0} (name : M → N) (same : M → M → Bool) (same' : N → N → Bool) (none : A) (g : A → B) where
  under-front : ((a b : M) → same' (name a) (name b) ≡ same a b) → (ns : List M) (xs : List A) (rn : List N) (rx : List B) (n : M) → SameLength ns xs → under same' (g none) (beside rn rx) (name n) ≡ g none → under same' (g none) (beside (map name ns ++ rn) (map g xs ++ rx)) (name n) ≡ g (under same none (beside ns xs) n)
  under-front h [] [] rn rx n l e = e
  under-front h [] (x ∷ xs) rn rx n l e = absurd l
  under-front h (m ∷ ns) [] rn rx n l e = absurd l
  under-front h (m ∷ ns) (x ∷ xs) rn rx n l e =
      (λ i. if h m n i then g x else under-front h ns xs rn rx n l e i) ∙ choice g (same m n) x (under same none (beside ns xs) n)

module _ {M N A : Type 0} (name : M → N) (same : M → M → Bool) (same' : N → N → Bool) (none : A) where
  under-last : ((a b : M) → same' (name a) (name b) ≡ same a b) → (ns : List M) (xs : List A) (n : M) → under same' none (beside (map name ns) xs) (name n) ≡ under same none (beside ns xs) n
  under-last h [] xs n = refl
  under-last h (m ∷ ns) [] n = refl
  under-last h (m ∷ ns) (x ∷ xs) n = λ i. if h m n i then x else under-last h ns xs n i

module _ {M N A : Type 0} (name : M → N) (same' : N → N → Bool) (none : A) where
  under-skipped : (ns : List M) (xs : List A) (rn : List N) (rx : List A) (n : N) → ((a : M) → same' (name a) n ≡ false) → SameLength ns xs → under same' none (beside (map name ns ++ rn) (xs ++ rx)) n ≡ under same' none (beside rn rx) n
  under-skipped [] [] rn rx n h l = refl
  under-skipped [] (x ∷ xs) rn rx n h l = absurd l
  under-skipped (m ∷ ns) [] rn rx n h l = absurd l
  under-skipped (m ∷ ns) (x ∷ xs) rn rx n h l =
      ap (λ b. if b then x else under same' none (beside (map name ns ++ rn) (xs ++ rx)) n) (h m) ∙ under-skipped ns xs rn rx n h l

  under-absent : (ns : List M) (xs : List A) (n : N) → ((a : M) → same' (name a) n ≡ false) → under same' none (beside (map name ns) xs) n ≡ none
  under-absent [] xs n h = refl
  under-absent (m ∷ ns) [] n h = refl
  under-absent (m ∷ ns) (x ∷ xs) n h = ap (λ b. if b then x else under same' none (beside (map name ns) xs) n) (h m) ∙ under-absent ns xs n h

-- the names of the classical signature
names-append : (xs ys : List TableEntry) → table_names (xs ++ ys) ≡ table_names xs ++ table_names ys
names-append [] ys = refl
names-append (x ∷ xs) ys = ap (λ l. x.name ∷ l) (names-append xs ys)

relations-named : (entries : List IndexEntry) → table_names (relation_entries entries) ≡ map relation_name (index_names entries)
relations-named [] = refl
relations-named (entry ∷ entries) = ap (λ l. relation_name entry.name ∷ l) (relations-named entries)

chosen_names : (b : Bool) (entry : TableEntry) (entries : List TableEntry) (s : SortName) (ss : List SortName) → entry.name ≡ existence_name s → table_names entries ≡ map existence_name ss → table_names (if b then entries else entry ∷ entries) ≡ map existence_name (if b then ss else s ∷ ss)
chosen_names true entry entries s ss e h = h
chosen_names false entry entries s ss e h = λ i. e i ∷ h i

existence-named : (k : ℕ) (entries : List SortEntry) → table_names (existence_entries k entries) ≡ map existence_name (existence_sorts entries)
existence-named k [] = refl
existence-named k (entry ∷ entries) = chosen_names (constant_regime entry.regime) _ _ entry.name _ refl (existence-named (suc k) entries)

symbols-named : (entries : List SymbolEntry) → table_names (symbol_entries entries) ≡ map user_name (symbol_names entries)
symbols-named [] = refl
symbols-named (entry ∷ entries) = ap (λ l. user_name entry.name ∷ l) (symbols-named entries)

abbrev pub printed_names : Signature → List (List ℕ)
printed_names sig = map relation_name (index_names sig.indexes) ++ (map existence_name (existence_sorts sig.sorts) ++ map user_name (symbol_names sig.symbols))

pub tables-named : (sig : Signature) → table_names (classical_signature_of sig).tables ≡ printed_names sig
tables-named sig =
    names-append (relation_entries sig.indexes) _
    ∙ (λ i. relations-named sig.indexes i ++ names-append (existence_entries 0 sig.sorts) (symbol_entries sig.symbols) i)
    ∙ ap (λ l. map relation_name (index_names sig.indexes) ++ l) (λ i. existence-named 0 sig.sorts i ++ symbols-named sig.symbols i)

-- a structure over the signature has a table for each name
relations-length : (n : ℕ) (entries : List IndexEntry) (rs : List (List (List ℕ))) → AreTables (relation_shapes n entries) (map Rows rs) → SameLength (index_names entries) rs
relations-length n [] [] t = tt
relations-length n [] (r ∷ rs) t = t
relations-length n (entry ∷ entries) [] t = t
relations-length n (entry ∷ entries) (r ∷ rs) t = relations-length n entries rs t.1

chosen-length : (b : Bool) (shape : Shape) (shapes : List Shape) (s : SortName) (ss : List SortName) (rs : List (List (List ℕ))) → ((qs : List (List (List ℕ))) → AreTables shapes (map Rows qs) → SameLength ss qs) → AreTables (if b then shapes else shape ∷ shapes) (map Rows rs) → SameLength (if b then ss else s ∷ ss) rs
chosen-length true shape shapes s ss rs h t = h rs t
chosen-length false shape shapes s ss [] h t = t
chosen-length false shape shapes s ss (r ∷ rs) h t = h rs t.1

existing-length : (n : ℕ) (sizes : List ℕ) (k : ℕ) (entries : List SortEntry) (rs : List (List (List ℕ))) → AreTables (existence_shapes n sizes k entries) (map Rows rs) → SameLength (existence_sorts entries) rs
existing-length n sizes k [] [] t = tt
existing-length n sizes k [] (r ∷ rs) t = t
existing-length n sizes k (entry ∷ entries) rs t = chosen-length (constant_regime entry.regime) _ _ entry.name _ rs (existing-length n sizes (suc k) entries) t

rows-length : {M : Type 0} (ns : List M) (rs : List (List (List ℕ))) → SameLength ns rs → SameLength ns (map Rows rs)
rows-length [] [] l = tt
rows-length [] (r ∷ rs) l = l
rows-length (n ∷ ns) [] l = l
rows-length (n ∷ ns) (r ∷ rs) l = rows-length ns rs l

-- the structure that corresponds
abbrev pub structure_of : KripkeStructure → ClassicalStructure
structure_of K = record { actual = K.actual; sizes = K.worlds ∷ K.sizes; tables = tables_with K }

pub corresponding : (K : KripkeStructure) (S : ClassicalStructure) → Corresponds K S → S ≡ structure_of K
corresponding K S c = λ i. record { actual = c.actual i; sizes = c.sizes i; tables = c.tables i }

module _ (sig : Signature) (K : KripkeStructure) (over : IsOver sig K) where
  abbrev found : List ℕ → Table
  found = under same_text (Rows []) (beside (printed_names sig) (tables_with K))

  no_symbol : (n : List ℕ) → ((a : List ℕ) → same_text (user_name a) n ≡ false) → under same_text (Rows []) (beside (map user_name (symbol_names sig.symbols)) K.symbols) n ≡ Rows []
  no_symbol n h = under-absent user_name same_text (Rows []) (symbol_names sig.symbols) K.symbols n h

  pub relations-fit : SameLength (index_names sig.indexes) K.relations
  relations-fit = relations-length K.worlds sig.indexes K.relations over.relations

  pub existing-fit : SameLength (existence_sorts sig.sorts) K.existing
  existing-fit = existing-length K.worlds K.sizes 0 sig.sorts K.existing over.existing

  at_relation : (i : IndexName) → found (relation_name i) ≡ Rows (under same_index [] (beside (index_names sig.indexes) K.relations) i)
  at_relation i =
      under-front relation_name same_index same_text [] Rows same-relation_name (index_names sig.indexes) K.relations _ _ i relations-fit
      (under-skipped existence_name same_text (Rows []) (existence_sorts sig.sorts) (map Rows K.existing) _ _ (relation_name i) (λ s. apart-existence-relation s i) (rows-length (existence_sorts sig.sorts) K.existing existing-fit)
      ∙ no_symbol (relation_name i) (λ a. user-apart a (relation_name i) (relation-mk i)))

  at_existence : (s : SortName) → found (existence_name s) ≡ Rows (under same_sort [] (beside (existence_sorts sig.sorts) K.existing) s)
  at_existence s =
      under-skipped relation_name same_text (Rows []) (index_names sig.indexes) (map Rows K.relations) _ _ (existence_name s) (λ i. apart-relation-existence i s) (rows-length (index_names sig.indexes) K.relations relations-fit)
      ∙ under-front existence_name same_sort same_text [] Rows same-existence_name (existence_sorts sig.sorts) K.existing _ _ s existing-fit
      (no_symbol (existence_name s) (λ a. user-apart a (existence_name s) (existence-mk s)))

  at_symbol : (f : List ℕ) → found (user_name f) ≡ under same_text (Rows []) (beside (symbol_names sig.symbols) K.symbols) f
  at_symbol f =
      under-skipped relation_name same_text (Rows []) (index_names sig.indexes) (map Rows K.relations) _ _ (user_name f) (λ i. apart-user f (relation_name i) (relation-mk i)) (rows-length (index_names sig.indexes) K.relations relations-fit)
      ∙ under-skipped existence_name same_text (Rows []) (existence_sorts sig.sorts) (map Rows K.existing) _ _ (user_name f) (λ s. apart-user f (existence_name s) (existence-mk s)) (rows-length (existence_sorts sig.sorts) K.existing existing-fit)
      ∙ under-last user_name same_text same_text (Rows []) same-user_name (symbol_names sig.symbols) K.symbols f

  at_size : (s : SortName) → under same_sort 0 (beside (map user_sort (sort_names sig.sorts)) K.sizes) (user_sort s) ≡ under same_sort 0 (beside (sort_names sig.sorts) K.sizes) s
  at_size s = under-last user_sort same_sort same_sort 0 same-user_sort (sort_names sig.sorts) K.sizes s

  abbrev S : ClassicalStructure
  S = structure_of K

  by_printed : (n : List ℕ) → under same_text (Rows []) (beside (table_names (classical_signature_of sig).tables) (tables_with K)) n ≡ found n
  by_printed n = ap (λ names. under same_text (Rows []) (beside names (tables_with K)) n) (tables-named sig)

  value-of_symbol : (f : List ℕ) (row : List ℕ) → (classical_model (classical_signature_of sig) S).value (user_name f) row ≡ value_at_row (under same_text (Rows []) (beside (symbol_names sig.symbols) K.symbols) f) row
  value-of_symbol f row =
      ap (λ b. if b then K.actual else value_at_row (under same_text (Rows []) (beside (table_names (classical_signature_of sig).tables) (tables_with K)) (user_name f)) row) (apart-user f actual_name actual-mk)
      ∙ ap (λ t. value_at_row t row) (by_printed (user_name f) ∙ at_symbol f)

  pub structures_agree : Agrees sig (kripke_model sig K) (classical_model (classical_signature_of sig) S)
  structures_agree = record {
    worlds = rw (same_text-refl world_name);
    actual = rw (same_text-refl actual_name);
    sizes = λ s. rw (world-apart s) (at_size s);
    related = λ i w v. ap (λ t. is_true_row t (w ∷ v ∷ [])) (by_printed (relation_name i) ∙ at_relation i);
    present = λ s w a q. rw q (ap (λ t. is_true_row t (w ∷ a ∷ [])) (by_printed (existence_name s) ∙ at_existence s));
    everywhere = λ s w a q. rw q;
    flexible = λ f w args q. rw q (value-of_symbol f (w ∷ args));
    rigid = λ f w args q. rw q (value-of_symbol f args);
    holds = λ p w args. ap (λ t. is_true_row t (w ∷ args)) (by_printed (user_name p) ∙ at_symbol p);
  }
