-- What a file's type statements without a fault say of its signature: numbers of sorts are in range; and, whatever they are, its sorts have
-- different names and it has each index of the file.
use Rattle.std.proofs.Common.{◌≡◌, ℕ, suc, ◌+◌, Bool, true, false, List, [], ◌∷◌, ◌++◌, refl, sym, ap, ◌∙◌, arith}
use Rattle.std.specs.Prelude.{◌&&◌, ◌||◌, not, if◌then◌else◌, map, filter, Option, None, Some, is_some}
use Rattle.std.specs.Option.{option_map, unwrap_or}
use Rattle.std.specs.List.{list_all, position_or_len}
use Rattle.std.proofs.lemmas.Bool.{or_left, or_right, and_from, and_parts}
use Rattle.std.proofs.lemmas.List.Folds.{list_all-append, list_all-map}
use Rattle.nxf_tree.specs.declared.tree.SortName.{SortName}
use Rattle.nxf_tree.specs.declared.tree.SortName.TheVariants.{Individual, User}
use Rattle.nxf_tree.specs.declared.tree.IndexName.{IndexName}
use Rattle.nxf_tree.specs.declared.tree.IndexName.TheVariants.{Plain, Named}
use Rattle.nxf_tree.specs.declared.tree.SortEntry.{SortEntry}
use Rattle.nxf_tree.specs.declared.tree.SymbolEntry.{SymbolEntry}
use Rattle.nxf_tree.specs.declared.tree.Signature.{Signature}
use Rattle.nxf_tree.specs.declared.tree.Typing.TheVariants.{Individual as IsIndividual, Sort, Symbol}
use Rattle.nxf_tree.specs.declared.tree.Body.TheVariants.{Formula as IsFormula, Typing as IsTyping, Logic as IsLogic}
use Rattle.nxf_tree.specs.declared.tree.Statement.{Statement}
use Rattle.nxf_tree.specs.declared.tree.Statement.TheVariants.{Annotated, Include}
use Rattle.nxf_tree.specs.declared.tree.File.{File}
use Rattle.nxf_tree.specs.Counting.{implies, has, all_different}
use Rattle.nxf_tree.specs.Signature.{same_sort, same_index, sort_names, index_names}
use Rattle.nxf_tree.specs.Faults.{first_fault}
use Rattle.nxf_tree.specs.Sorting.{SymbolType, Language, modal_language, in_range, gives_in_range}
use Rattle.nxf_tree.specs.WellFormed.{HasSortsInRange}
use Rattle.nxf_tree.specs.Specification.{Specification}
use Rattle.nxf_tree.specs.Occurrences.{Use, uses, indexes, declared, declared_sorts, occurrences_in}
use Rattle.nxf_tree.specs.SignatureOf.{firsts, same_symbol, type_in, typed, symbols_of, is_individual, mentions_individual, has_individual, sorts_of_file, is_named, indexes_of_file, sort_number, symbol_entry, signature_of}
use Rattle.nxf_tree.specs.SortFaults.{unknown_sort, unknown_sorts, gives_list, type_statement_fault}
use Rattle.name_laws.proofs.Spelling.{true-false}
use Rattle.name_laws.proofs.Apart.{index-true}
use Rattle.name_laws.proofs.Firsts.{split_bool, firsts-different, firsts-none, has-filter, has-firsts, all-by_has, firsts-all, implies-any}
use Rattle.signature_laws.proofs.NoFault.{or-none, test-passes}
use Rattle.name_laws.proofs.SameNames.{same_sort-sym, same_index-refl}
use Rattle.signature_laws.proofs.Declared.{declared-known, is_plain_gives, is_plain_type, is_good_use, statements-good}
use Rattle.name_laws.proofs.Entries.{sorts_named, indexes_named}

pub front-different : {A : Type 0} (same : A → A → Bool) (b : Bool) (x : A) (xs : List A) → has same x xs ≡ false → all_different same xs ≡ true → all_different same (if b then x ∷ xs else xs) ≡ true
front-different same true x xs h k = rw h k
front-different same false x xs h k = k

pub no-individual : (ss : List Statement) → has same_sort Individual (declared_sorts ss) ≡ false
no-individual [] = refl
no-individual (Annotated name role (IsTyping (Sort s)) ∷ ss) = no-individual ss
no-individual (Annotated name role (IsTyping (Symbol f args gives)) ∷ ss) = no-individual ss
no-individual (Annotated name role (IsTyping IsIndividual) ∷ ss) = no-individual ss
no-individual (Annotated name role (IsFormula f) ∷ ss) = no-individual ss
no-individual (Annotated name role (IsLogic l) ∷ ss) = no-individual ss
no-individual (Include file names ∷ ss) = no-individual ss

-- a sort that is in the list has a number
number-in-range : (f : SortName → SortEntry) (ss : List SortName) (s : SortName) → has same_sort s ss ≡ true → in_range (map f ss) (sort_number ss s) ≡ true
number-in-range f [] s h = h
number-in-range f (r ∷ ss) s h = split_bool (same_sort r s)
    (λ e. ap (λ b. in_range (map f (r ∷ ss)) (if not b then 1 + position_or_len (same_sort s) ss else 0)) (same_sort-sym s r ∙ e))
    (λ e. ap (λ b. in_range (map f (r ∷ ss)) (if not b then 1 + position_or_len (same_sort s) ss else 0)) (same_sort-sym s r ∙ e)
    ∙ (ap (in_range (map f (r ∷ ss))) (one-more (position_or_len (same_sort s) ss)) ∙ number-in-range f ss s (sym (rw e refl) ∙ h)))
  where
    one-more : (n : ℕ) → 1 + n ≡ suc n
    one-more n = omega arith

module _ (spec : Specification) (file : File) where
  abbrev ss : List Statement
  ss = file.statements

  abbrev sig : Signature
  sig = signature_of spec file

  abbrev L : Language
  L = modal_language sig

  abbrev entry : SortName → SortEntry
  entry s = record { name = s; regime = spec.regime s }

  pub sort-names : sort_names sig.sorts ≡ sorts_of_file ss
  sort-names = sorts_named entry (λ s. refl) (sorts_of_file ss)

  pub index-names : index_names sig.indexes ≡ indexes_of_file ss
  index-names = indexes_named (λ i. record { name = i; schemes = spec.schemes i }) (λ i. refl) (indexes_of_file ss)

  -- the sorts have different names
  pub sorts_differ : all_different same_sort (sort_names sig.sorts) ≡ true
  sorts_differ = ap (all_different same_sort) sort-names
      ∙ front-different same_sort (has_individual ss) Individual _ (firsts-none same_sort Individual (declared_sorts ss) (no-individual ss)) (firsts-different same_sort same_sort-sym (declared_sorts ss))

  -- each index is known
  index-known : (i : IndexName) → has same_index i (indexes (occurrences_in ss)) ≡ true → L.knows_index i ≡ true
  index-known i h = ap (has same_index i) index-names ∙ by i h
    where
      front : (b : Bool) (j : IndexName) (is : List IndexName) → has same_index j is ≡ true → has same_index j (if b then Plain ∷ is else is) ≡ true
      front true j is k = or_right _ _ k
      front false j is k = k

      by : (j : IndexName) → has same_index j (indexes (occurrences_in ss)) ≡ true → has same_index j (indexes_of_file ss) ≡ true
      by Plain k = ap (λ b. has same_index Plain (if b then Plain ∷ firsts same_index (filter is_named (indexes (occurrences_in ss))) else firsts same_index (filter is_named (indexes (occurrences_in ss))))) k
      by (Named a) k = front (has same_index Plain (indexes (occurrences_in ss))) (Named a) (firsts same_index (filter is_named (indexes (occurrences_in ss))))
          (has-firsts same_index (λ x y z e. ap (same_index x) (index-true y z e)) (Named a) (filter is_named (indexes (occurrences_in ss)))
          (has-filter same_index is_named (Named a) (indexes (occurrences_in ss)) (λ y e. ap is_named (index-true y (Named a) e)) k))

  pub indexes-known : list_all L.knows_index (indexes (occurrences_in ss)) ≡ true
  indexes-known = all-by_has same_index same_index-refl L.knows_index (indexes (occurrences_in ss)) index-known

  module _ (fine : first_fault (type_statement_fault L) 1 [] ss ≡ None) where
    -- the sorts of each symbol are known
    abbrev known : List SortName → Bool
    known = list_all L.knows_sort

    abbrev known_type : SymbolType → Bool
    known_type t = known t.args && known (gives_list t.gives)

    unknown-known : (rs : List SortName) → unknown_sorts L rs ≡ None → known rs ≡ true
    unknown-known [] h = refl
    unknown-known (r ∷ rs) h =
        let parts : (unknown_sort L r ≡ None) × (unknown_sorts L rs ≡ None) = or-none _ _ h in
        and_from _ _ (test-passes (L.knows_sort r) _ parts.0) (unknown-known rs parts.1)

    individual-known : has_individual ss ≡ true → L.knows_sort Individual ≡ true
    individual-known h = ap (has same_sort Individual) (sort-names ∙ ap (λ b. if b then Individual ∷ firsts same_sort (declared_sorts ss) else firsts same_sort (declared_sorts ss)) h)

    plain-args : (b : Bool) → (b ≡ true → L.knows_sort Individual ≡ true) → (rs : List SortName) → list_all (λ s. same_sort s Individual) rs ≡ true → implies (has same_sort Individual rs) b ≡ true → known rs ≡ true
    plain-args b k [] h m = refl
    plain-args b k (Individual ∷ rs) h m = and_from _ _ (k m) (plain-args b k rs h (later (has same_sort Individual rs)))
      where
        later : (c : Bool) → implies c b ≡ true
        later true = m
        later false = refl
    plain-args b k (User a ∷ rs) h m = absurd (true-false (sym h))

    plain-gives : (b : Bool) → (b ≡ true → L.knows_sort Individual ≡ true) → (gives : Option SortName) → is_plain_gives gives ≡ true → implies (is_individual gives) b ≡ true → known (gives_list gives) ≡ true
    plain-gives b k None h m = refl
    plain-gives b k (Some Individual) h m = and_from _ _ (k m) refl
    plain-gives b k (Some (User a)) h m = absurd (true-false (sym h))

    either : (a c b : Bool) → implies (a || c) b ≡ true → (implies a b ≡ true) × (implies c b ≡ true)
    either true true b h = (h, h)
    either true false b h = (h, refl)
    either false true b h = (refl, h)
    either false false b h = (refl, refl)

    type-known : (u : Use) (o : Option SymbolType) → type_in (declared ss) u.name ≡ o → (is_some o || is_plain_type u.type) ≡ true → implies (mentions_individual (record { name = u.name; type = unwrap_or o u.type })) (has_individual ss) ≡ true → known_type (unwrap_or o u.type) ≡ true
    type-known u None e h m =
        let plain : (list_all (λ s. same_sort s Individual) u.type.args ≡ true) × (is_plain_gives u.type.gives ≡ true) = and_parts _ _ h in
        let mentioned : (implies (has same_sort Individual u.type.args) (has_individual ss) ≡ true) × (implies (is_individual u.type.gives) (has_individual ss) ≡ true) = either (has same_sort Individual u.type.args) (is_individual u.type.gives) (has_individual ss) m in
        and_from _ _ (plain-args (has_individual ss) individual-known u.type.args plain.0 mentioned.0) (plain-gives (has_individual ss) individual-known u.type.gives plain.1 mentioned.1)
    type-known u (Some t) e h m =
        let all : known (t.args ++ gives_list t.gives) ≡ true = unknown-known _ (declared-known L 1 [] ss fine u.name t refl e) in
        let parts : (known t.args ≡ true) × (known (gives_list t.gives) ≡ true) = and_parts _ _ (sym (list_all-append L.knows_sort t.args (gives_list t.gives)) ∙ all) in
        and_from _ _ parts.0 parts.1

    each-known : (us : List Use) → list_all (is_good_use (declared ss)) us ≡ true → list_all (λ u. implies (mentions_individual (typed (declared ss) u)) (has_individual ss)) us ≡ true → list_all (λ (u : Use). known_type u.type) (map (typed (declared ss)) us) ≡ true
    each-known [] h k = refl
    each-known (u ∷ us) h k =
        let hs : (is_good_use (declared ss) u ≡ true) × (list_all (is_good_use (declared ss)) us ≡ true) = and_parts _ _ h in
        let ks : (implies (mentions_individual (typed (declared ss) u)) (has_individual ss) ≡ true) × (list_all (λ v. implies (mentions_individual (typed (declared ss) v)) (has_individual ss)) us ≡ true) = and_parts _ _ k in
        and_from _ _ (type-known u (type_in (declared ss) u.name) refl hs.0 ks.0) (each-known us hs.1 ks.1)

    all-known : list_all (λ (u : Use). known_type u.type) (symbols_of ss) ≡ true
    all-known = each-known (firsts same_symbol (uses (occurrences_in ss)))
        (firsts-all same_symbol (is_good_use (declared ss)) (uses (occurrences_in ss)) (statements-good (declared ss) ss (λ f h. h)))
        (sym (list_all-map (λ u. implies (mentions_individual u) (has_individual ss)) (typed (declared ss)) (firsts same_symbol (uses (occurrences_in ss))))
        ∙ implies-any mentions_individual (has_individual ss) (symbols_of ss) (λ h. or_left _ _ h))

    sort-in-range : (s : SortName) → L.knows_sort s ≡ true → in_range sig.sorts (sort_number (sorts_of_file ss) s) ≡ true
    sort-in-range s h = number-in-range entry (sorts_of_file ss) s (sym (ap (has same_sort s) sort-names) ∙ h)

    args-in-range : (rs : List SortName) → known rs ≡ true → list_all (in_range sig.sorts) (map (sort_number (sorts_of_file ss)) rs) ≡ true
    args-in-range [] h = refl
    args-in-range (r ∷ rs) h = let parts : (L.knows_sort r ≡ true) × (known rs ≡ true) = and_parts _ _ h in and_from _ _ (sort-in-range r parts.0) (args-in-range rs parts.1)

    gives-range : (gives : Option SortName) → known (gives_list gives) ≡ true → gives_in_range sig.sorts (option_map (sort_number (sorts_of_file ss)) gives) ≡ true
    gives-range None h = refl
    gives-range (Some s) h = sort-in-range s (and_parts _ _ h).0

    abbrev in_range_entry : SymbolEntry → Bool
    in_range_entry e = list_all (in_range sig.sorts) e.args && gives_in_range sig.sorts e.gives

    entries-in-range : (us : List Use) → list_all (λ (u : Use). known_type u.type) us ≡ true → list_all in_range_entry (map (symbol_entry (sorts_of_file ss) spec) us) ≡ true
    entries-in-range [] h = refl
    entries-in-range (u ∷ us) h =
        let parts : (known_type u.type ≡ true) × (list_all (λ (v : Use). known_type v.type) us ≡ true) = and_parts _ _ h in
        let types : (known u.type.args ≡ true) × (known (gives_list u.type.gives) ≡ true) = and_parts _ _ parts.0 in
        and_from _ _ (and_from _ _ (args-in-range u.type.args types.0) (gives-range u.type.gives types.1)) (entries-in-range us parts.1)

    pub typed_in_range : HasSortsInRange sig
    typed_in_range = entries-in-range (symbols_of ss) all-known
