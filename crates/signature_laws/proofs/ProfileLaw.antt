-- A file in the profile has a good signature, and is well sorted over it.
use Rattle.std.proofs.Common.{◌≡◌, ℕ, suc, ◌+◌, Bool, true, false, List, [], ◌∷◌, ◌++◌, refl, sym, ap, ◌∙◌}
use Rattle.std.specs.Prelude.{◌&&◌, ◌||◌, not, if◌then◌else◌, map, filter, None}
use Rattle.std.specs.Option.{option_map}
use Rattle.std.specs.List.{list_all}
use Rattle.std.proofs.lemmas.Bool.{and_from, and_parts, not-true}
use Rattle.std.proofs.lemmas.List.Folds.{list_all-append}
use Rattle.nxf_tree.specs.declared.tree.SortName.{SortName}
use Rattle.nxf_tree.specs.declared.tree.SortName.TheVariants.{Individual, User}
use Rattle.nxf_tree.specs.declared.tree.IndexName.{IndexName}
use Rattle.nxf_tree.specs.declared.tree.IndexName.TheVariants.{Plain, Named}
use Rattle.nxf_tree.specs.declared.tree.SortEntry.{SortEntry}
use Rattle.nxf_tree.specs.declared.tree.Signature.{Signature}
use Rattle.nxf_tree.specs.declared.tree.Body.TheVariants.{Formula as IsFormula, Typing as IsTyping, Logic as IsLogic}
use Rattle.nxf_tree.specs.declared.tree.Statement.{Statement}
use Rattle.nxf_tree.specs.declared.tree.Statement.TheVariants.{Annotated, Include}
use Rattle.nxf_tree.specs.declared.tree.File.{File}
use Rattle.nxf_tree.specs.Names.{same_text}
use Rattle.nxf_tree.specs.Counting.{has, all_different}
use Rattle.nxf_tree.specs.Signature.{same_sort, same_index, sort_names, symbol_names}
use Rattle.nxf_tree.specs.Faults.{first_fault}
use Rattle.nxf_tree.specs.Sorting.{Language, modal_language, statement_is_sorted, IsWellSorted}
use Rattle.nxf_tree.specs.WellFormed.{HasDifferentNames, HasSortsInRange}
use Rattle.nxf_tree.specs.Specification.{Specification}
use Rattle.nxf_tree.specs.Occurrences.{Use, uses, indexes, declared, declared_sorts, statement_occurrences, occurrences_in}
use Rattle.nxf_tree.specs.SignatureOf.{firsts, same_symbol, typed, has_individual, sorts_of_file, is_named, symbol_entry, signature_of}
use Rattle.nxf_tree.specs.SortFaults.{type_statement_fault, formula_statement_fault, sort_fault_of}
use Rattle.name_laws.proofs.Firsts.{firsts-different, firsts-none, firsts-all}
use Rattle.signature_laws.proofs.NoFault.{or-none, map-none, index-append, no-fault}
use Rattle.name_laws.proofs.GoodSymbols.{users-different, different-together}
use Rattle.signature_laws.proofs.NamesOfFile.{is_apart, apart, statements-apart, disjoint, walked}
use Rattle.name_laws.proofs.SameNames.{same_text-sym, same_sort-sym, same_index-sym}
use Rattle.signature_laws.proofs.TypedSignature.{front-different, no-individual, sort-names, index-names, indexes-known, typed_in_range}

symbols-named : (ss : List SortName) (spec : Specification) (us vs : List Use) → symbol_names (map (symbol_entry ss spec) (map (typed us) vs)) ≡ map (λ v. v.name) vs
symbols-named ss spec us [] = refl
symbols-named ss spec us (v ∷ vs) = ap (λ l. v.name ∷ l) (symbols-named ss spec us vs)

named-has : (u : Use) (vs : List Use) → has same_text u.name (map (λ v. v.name) vs) ≡ has same_symbol u vs
named-has u [] = refl
named-has u (v ∷ vs) = ap (λ b. same_text v.name u.name || b) (named-has u vs)

named-different : (vs : List Use) → all_different same_text (map (λ v. v.name) vs) ≡ all_different same_symbol vs
named-different [] = refl
named-different (v ∷ vs) = λ i. not (named-has v vs i) && named-different vs i

no-plain : (is : List IndexName) → has same_index Plain (filter is_named is) ≡ false
no-plain [] = refl
no-plain (Plain ∷ is) = no-plain is
no-plain (Named a ∷ is) = no-plain is

module _ (spec : Specification) (file : File) (ok : sort_fault_of spec file ≡ None) where
  abbrev ss : List Statement
  ss = file.statements

  abbrev sig : Signature
  sig = signature_of spec file

  abbrev L : Language
  L = modal_language sig

  abbrev entry : SortName → SortEntry
  entry s = record { name = s; regime = spec.regime s }

  -- the three lists of faults are empty
  no-typing-fault : first_fault (type_statement_fault L) 1 [] ss ≡ None
  no-typing-fault = (or-none _ _ ok).0

  no-formula-fault : first_fault (λ before s. formula_statement_fault L (declared ss) s) 1 [] ss ≡ None
  no-formula-fault = (or-none _ _ (or-none (first_fault (type_statement_fault L) 1 [] ss) _ ok).1).0

  -- names differ
  names-parted : symbol_names sig.symbols ≡ map (λ v. v.name) (firsts same_symbol (uses (occurrences_in ss)))
  names-parted = symbols-named (sorts_of_file ss) spec (declared ss) (firsts same_symbol (uses (occurrences_in ss)))

  declared-apart : apart L (declared ss) (declared ss) ≡ true
  declared-apart = alike (declared ss) (walked L 1 [] ss no-typing-fault refl)
    where
      unknown-name : (f : List ℕ) → has same_sort (User f) (declared_sorts ss) ≡ false → L.knows_sort (User f) ≡ false
      unknown-name f e = ap (has same_sort (User f)) (sort-names spec file) ∙ by (has_individual ss)
        where
          by : (c : Bool) → has same_sort (User f) (if c then Individual ∷ firsts same_sort (declared_sorts ss) else firsts same_sort (declared_sorts ss)) ≡ false
          by true = firsts-none same_sort (User f) (declared_sorts ss) e
          by false = firsts-none same_sort (User f) (declared_sorts ss) e

      alike : (us : List Use) → disjoint us (declared_sorts ss) ≡ true → apart L (declared ss) us ≡ true
      alike [] d = refl
      alike (u ∷ us) d =
          let parts : (not (has same_sort (User u.name) (declared_sorts ss)) ≡ true) × (disjoint us (declared_sorts ss) ≡ true) = and_parts _ _ d in
          and_from _ _ (ap not (unknown-name u.name (not-true _ parts.0))) (alike us parts.1)

  uses-apart : apart L (declared ss) (uses (occurrences_in ss)) ≡ true
  uses-apart = statements-apart L (declared ss) 1 [] ss no-formula-fault declared-apart

  apart-from-sorts : (vs : List Use) → apart L (declared ss) vs ≡ true → list_all (λ s. not (has same_sort s (sort_names sig.sorts))) (map User (map (λ v. v.name) vs)) ≡ true
  apart-from-sorts [] h = refl
  apart-from-sorts (v ∷ vs) h = let parts : (not (L.knows_sort (User v.name)) ≡ true) × (apart L (declared ss) vs ≡ true) = and_parts _ _ h in and_from _ _ parts.0 (apart-from-sorts vs parts.1)

  pub different : HasDifferentNames sig
  different = record {
    names = different-together same_sort (map User (symbol_names sig.symbols)) (sort_names sig.sorts)
        (users-different (symbol_names sig.symbols)
        ∙ (ap (all_different same_text) names-parted
        ∙ (named-different (firsts same_symbol (uses (occurrences_in ss))) ∙ firsts-different same_symbol (λ u v. same_text-sym u.name v.name) (uses (occurrences_in ss)))))
        (ap (all_different same_sort) (sort-names spec file)
        ∙ front-different same_sort (has_individual ss) Individual _ (firsts-none same_sort Individual (declared_sorts ss) (no-individual ss)) (firsts-different same_sort same_sort-sym (declared_sorts ss)))
        (ap (λ l. list_all (λ s. not (has same_sort s (sort_names sig.sorts))) (map User l)) names-parted
        ∙ apart-from-sorts (firsts same_symbol (uses (occurrences_in ss))) (firsts-all same_symbol (is_apart L (declared ss)) (uses (occurrences_in ss)) uses-apart));
    indexes = ap (all_different same_index) (index-names spec file)
        ∙ front-different same_index (has same_index Plain (indexes (occurrences_in ss))) Plain _ (firsts-none same_index Plain (filter is_named (indexes (occurrences_in ss))) (no-plain (indexes (occurrences_in ss)))) (firsts-different same_index same_index-sym (filter is_named (indexes (occurrences_in ss))));
  }

  pub in-range : HasSortsInRange sig
  in-range = typed_in_range spec file no-typing-fault

  statements-sorted : (k : ℕ) (before rest : List Statement) → first_fault (λ earlier s. formula_statement_fault L (declared ss) s) k before rest ≡ None → list_all L.knows_index (indexes (occurrences_in rest)) ≡ true → list_all (statement_is_sorted L) rest ≡ true
  statements-sorted k before [] h i = refl
  statements-sorted k before (s ∷ rest) h i =
      let parts : (option_map (λ fault. (k, fault)) (formula_statement_fault L (declared ss) s) ≡ None) × (first_fault (λ earlier t. formula_statement_fault L (declared ss) t) (suc k) (before ++ s ∷ []) rest ≡ None) = or-none _ _ h in
      let is : (list_all L.knows_index (indexes (statement_occurrences s)) ≡ true) × (list_all L.knows_index (indexes (occurrences_in rest)) ≡ true) = and_parts _ _ (sym (ap (list_all L.knows_index) (index-append (statement_occurrences s) (occurrences_in rest)) ∙ list_all-append L.knows_index (indexes (statement_occurrences s)) (indexes (occurrences_in rest))) ∙ i) in
      and_from _ _ (one s (map-none _ _ parts.0) is.0) (statements-sorted (suc k) (before ++ s ∷ []) rest parts.1 is.1)
    where
      one : (t : Statement) → formula_statement_fault L (declared ss) t ≡ None → list_all L.knows_index (indexes (statement_occurrences t)) ≡ true → statement_is_sorted L t ≡ true
      one (Annotated name role (IsFormula f)) e j = no-fault L (declared ss) f [] e j
      one (Annotated name role (IsTyping t)) e j = refl
      one (Annotated name role (IsLogic l)) e j = refl
      one (Include other names) e j = refl

  pub well-sorted : IsWellSorted sig file
  well-sorted = statements-sorted 1 [] ss no-formula-fault (indexes-known spec file)
