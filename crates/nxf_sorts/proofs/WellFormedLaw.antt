-- The signature of a regular file without a fault is well formed.
use Rattle.std.proofs.Common.{◌≡◌, ℕ, suc, ◌+◌, ◌≤◌, ◌^◌, Bool, true, false, List, [], ◌∷◌, length, Option, None, Some, refl, sym, ap, ◌∙◌, subst, arith}
use Rattle.std.specs.Prelude.{if◌then◌else◌, nat_le, map, filter, Ok}
use Rattle.std.specs.Option.{unwrap_or}
use Rattle.std.specs.List.{list_all, All}
use Rattle.std.proofs.lemmas.Bool.{and_parts, and_from, leb-true}
use Rattle.std.proofs.lemmas.List.Elements.{All-nil, All-cons}
use Rattle.nxf_base.specs.declared.status.SpecKind.{SpecKind}
use Rattle.nxf_tree.specs.Profiles.{Allowed}
use Rattle.nxf_tree.specs.declared.tree.SortName.{SortName}
use Rattle.nxf_tree.specs.declared.tree.SortName.TheVariants.{Individual}
use Rattle.nxf_tree.specs.declared.tree.IndexName.{IndexName}
use Rattle.nxf_tree.specs.declared.tree.IndexName.TheVariants.{Plain}
use Rattle.nxf_tree.specs.declared.tree.SymbolEntry.{SymbolEntry}
use Rattle.nxf_tree.specs.declared.tree.IndexEntry.{IndexEntry}
use Rattle.nxf_tree.specs.declared.tree.LogicSpec.{LogicSpec}
use Rattle.nxf_tree.specs.declared.tree.Setting.TheVariants.{Modalities}
use Rattle.nxf_tree.specs.declared.tree.SpecKey.TheVariants.{Index}
use Rattle.nxf_tree.specs.declared.tree.File.{File}
use Rattle.nxf_tree.specs.Names.{same_text}
use Rattle.nxf_tree.specs.Counting.{has}
use Rattle.nxf_tree.specs.Faults.{unless}
use Rattle.nxf_tree.specs.Signature.{same_sort, same_index, symbol_names}
use Rattle.nxf_tree.specs.Sorting.{SymbolType}
use Rattle.nxf_tree.specs.Specification.{Specification, specification, logic_fault, only_logic, logic_statements, words_for}
use Rattle.nxf_tree.specs.WellFormed.{is_name, is_sort_name, is_index_name, AreOrdered, IsWellFormed}
use Rattle.nxf_tree.specs.Occurrences.{Use, uses, indexes, declared, declared_sorts, occurrences_in}
use Rattle.nxf_tree.specs.SignatureOf.{firsts, same_symbol, type_in, typed, symbols_of, has_individual, sorts_of_file, is_named, indexes_of_file, sort_number, symbol_entry, signature_of}
use Rattle.nxf_tree.specs.SortFaults.{sort_fault_of}
use Rattle.name_laws.proofs.Firsts.{firsts-all, filter-all}
use Rattle.signature_laws.proofs.ProfileLaw.{different, in-range}
use Rattle.signature_laws.proofs.Schemes.{schemes-ordered}
use Rattle.name_laws.proofs.Entries.{sorts_named, indexes_named}
use Rattle.nxf_tree.specs.Regular.{is_regular_statement}
use Rattle.signature_laws.proofs.RegularNames.{is_fine, file_fine, IsFineFile}

-- the types of declared symbols are short
type_short : (us : List Use) (f : List ℕ) (t : SymbolType) → list_all is_fine us ≡ true → type_in us f ≡ Some t → nat_le (length t.args) 1000 ≡ true
type_short [] f t h e = absurd cc
type_short (u ∷ us) f t h e =
    let parts : (is_fine u ≡ true) × (list_all is_fine us ≡ true) = and_parts _ _ h in
    by (same_text u.name f) (and_parts _ _ parts.0).1 (type_short us f t parts.1) e
  where
    by : (b : Bool) → nat_le (length u.type.args) 1000 ≡ true → (type_in us f ≡ Some t → nat_le (length t.args) 1000 ≡ true) → (if b then Some u.type else type_in us f) ≡ Some t → nat_le (length t.args) 1000 ≡ true
    by true own next k = let is : u.type ≡ t = cc in ap (λ (s : SymbolType). nat_le (length s.args) 1000) (sym is) ∙ own
    by false own next k = next k

typed_fine : (us : List Use) (u : Use) → list_all is_fine us ≡ true → is_fine u ≡ true → is_fine (typed us u) ≡ true
typed_fine us u h k = and_from _ _ (and_parts _ _ k).0 (by (type_in us u.name) refl)
  where
    by : (o : Option SymbolType) → type_in us u.name ≡ o → nat_le (length (unwrap_or o u.type).args) 1000 ≡ true
    by None e = (and_parts _ _ k).1
    by (Some t) e = type_short us u.name t h e

all_typed : (us vs : List Use) → list_all is_fine us ≡ true → list_all is_fine vs ≡ true → list_all is_fine (map (typed us) vs) ≡ true
all_typed us [] h k = refl
all_typed us (v ∷ vs) h k = let parts : (is_fine v ≡ true) × (list_all is_fine vs ≡ true) = and_parts _ _ k in and_from _ _ (typed_fine us v h parts.0) (all_typed us vs h parts.1)

map_length : {A B : Type 0} (g : A → B) (xs : List A) → length (map g xs) ≡ length xs
map_length g [] = refl
map_length g (x ∷ xs) = ap suc (map_length g xs)

entries_named : (ss : List SortName) (spec : Specification) (us : List Use) → list_all is_fine us ≡ true → list_all is_name (symbol_names (map (symbol_entry ss spec) us)) ≡ true
entries_named ss spec [] h = refl
entries_named ss spec (u ∷ us) h = let parts : (is_fine u ≡ true) × (list_all is_fine us ≡ true) = and_parts _ _ h in and_from _ _ (and_parts _ _ parts.0).0 (entries_named ss spec us parts.1)

entries_short : (ss : List SortName) (spec : Specification) (us : List Use) → list_all is_fine us ≡ true → All (λ (entry : SymbolEntry). length entry.args ≤ 1000) (map (symbol_entry ss spec) us)
entries_short ss spec [] h = All-nil (λ (entry : SymbolEntry). length entry.args ≤ 1000)
entries_short ss spec (u ∷ us) h =
    let parts : (is_fine u ≡ true) × (list_all is_fine us ≡ true) = and_parts _ _ h in
    All-cons (λ (entry : SymbolEntry). length entry.args ≤ 1000) (symbol_entry ss spec u) (map (symbol_entry ss spec) us)
    (omega (arith, map_length (sort_number ss) u.type.args, leb-true (length u.type.args) 1000 (and_parts _ _ parts.0).1)) (entries_short ss spec us parts.1)

-- the schemes of a specification are in order
ordered : (ls : List (ℕ × LogicSpec)) (spec : Specification) → only_logic ls ≡ Ok spec → (i : IndexName) → AreOrdered (spec.schemes i)
ordered [] spec h = absurd cc
ordered (l ∷ []) spec h = by (logic_fault l.1) h
  where
    by : (fault : Option SpecKind) → unless fault (specification l.0 l.1.entries) ≡ Ok spec → (i : IndexName) → AreOrdered (spec.schemes i)
    by None e = let is : specification l.0 l.1.entries ≡ spec = cc in λ i. subst (λ (q : Specification). AreOrdered (q.schemes i)) is (schemes-ordered (words_for Modalities l.1.entries (Index i)))
    by (Some kind) e = absurd cc
ordered (l ∷ m ∷ ls) spec h = absurd cc

indexes_ordered : (spec : Specification) → ((i : IndexName) → AreOrdered (spec.schemes i)) → (is : List IndexName) → All (λ (entry : IndexEntry). AreOrdered entry.schemes) (map (λ i. record { name = i; schemes = spec.schemes i }) is)
indexes_ordered spec h [] = All-nil (λ (entry : IndexEntry). AreOrdered entry.schemes)
indexes_ordered spec h (i ∷ is) = All-cons (λ (entry : IndexEntry). AreOrdered entry.schemes) (record { name = i; schemes = spec.schemes i }) (map (λ j. record { name = j; schemes = spec.schemes j }) is) (h i) (indexes_ordered spec h is)

front_all : {A : Type 0} (p : A → Bool) (b : Bool) (x : A) (xs : List A) → p x ≡ true → list_all p xs ≡ true → list_all p (if b then x ∷ xs else xs) ≡ true
front_all p true x xs h k = and_from _ _ h k
front_all p false x xs h k = k

module _ (l : Allowed) (most : l.arguments ≡ 1000) (spec : Specification) (file : File) (asked : only_logic (logic_statements 1 file.statements) ≡ Ok spec)
    (regular : list_all (is_regular_statement l) file.statements ≡ true) (ok : sort_fault_of spec file ≡ None) where
  all_fine : IsFineFile l most file.statements
  all_fine = file_fine l most file.statements regular

  symbols_fine : list_all is_fine (symbols_of file.statements) ≡ true
  symbols_fine = all_typed (declared file.statements) (firsts same_symbol (uses (occurrences_in file.statements))) all_fine.declarations
      (firsts-all same_symbol is_fine (uses (occurrences_in file.statements)) all_fine.symbols)

  pub well_formed : length (signature_of spec file).sorts + length (signature_of spec file).symbols + length (signature_of spec file).indexes ≤ 2 ^ 31 → IsWellFormed (signature_of spec file)
  well_formed small = record {
    different = different spec file ok;
    sort_texts = ap (list_all is_sort_name) (sorts_named (λ s. record { name = s; regime = spec.regime s }) (λ s. refl) (sorts_of_file file.statements))
        ∙ front_all is_sort_name (has_individual file.statements) Individual _ refl (firsts-all same_sort is_sort_name (declared_sorts file.statements) all_fine.sorts);
    symbol_texts = entries_named (sorts_of_file file.statements) spec (symbols_of file.statements) symbols_fine;
    index_texts = ap (list_all is_index_name) (indexes_named (λ i. record { name = i; schemes = spec.schemes i }) (λ i. refl) (indexes_of_file file.statements))
        ∙ front_all is_index_name (has same_index Plain (indexes (occurrences_in file.statements))) Plain _ refl
        (firsts-all same_index is_index_name (filter is_named (indexes (occurrences_in file.statements))) (filter-all is_index_name is_named (indexes (occurrences_in file.statements)) all_fine.indexes_named));
    in_range = in-range spec file ok;
    arguments = entries_short (sorts_of_file file.statements) spec (symbols_of file.statements) symbols_fine;
    schemes = indexes_ordered spec (ordered (logic_statements 1 file.statements) spec asked) (indexes_of_file file.statements);
    size = small;
  }
