-- The signature of a file: its sorts, symbols and indexes in the order of first occurrence, with what the logic statement says of them.
use Rattle.std.specs.Prelude.{ℕ, Bool, true, false, ◌||◌, not, if◌then◌else◌, List, [], ◌∷◌, map, filter, Option, None, Some}
use Rattle.std.specs.Option.{unwrap_or, option_map}
use Rattle.std.specs.List.{list_any, position_or_len}
use Rattle.nxf_tree.specs.declared.tree.IndexName.{IndexName}
use Rattle.nxf_tree.specs.declared.tree.IndexName.TheVariants.{Plain, Named}
use Rattle.nxf_tree.specs.declared.tree.SortName.{SortName}
use Rattle.nxf_tree.specs.declared.tree.SortName.TheVariants.{Individual}
use Rattle.nxf_tree.specs.declared.tree.Statement.{Statement}
use Rattle.nxf_tree.specs.declared.tree.File.{File}
use Rattle.nxf_tree.specs.declared.tree.SymbolEntry.{SymbolEntry}
use Rattle.nxf_tree.specs.declared.tree.Signature.{Signature}
use Rattle.nxf_tree.specs.declared.tree.Designation.{Designation}
use Rattle.nxf_tree.specs.declared.tree.Designation.TheVariants.{Flexible}
use Rattle.nxf_tree.specs.declared.tree.Locality.{Locality}
use Rattle.nxf_tree.specs.declared.tree.Locality.TheVariants.{Global}
use Rattle.nxf_tree.specs.Names.{same_text}
use Rattle.nxf_tree.specs.Counting.{has}
use Rattle.nxf_tree.specs.Signature.{same_sort, same_index}
use Rattle.nxf_tree.specs.Sorting.{SymbolType}
use Rattle.nxf_tree.specs.Specification.{Specification}
use Rattle.nxf_tree.specs.Occurrences.{Use, uses, sorts, indexes, declared, declared_sorts, occurrences_in}

-- each thing once, in the order of first occurrence
abbrev pub firsts : {A : Type 0} → (A → A → Bool) → List A → List A
firsts same [] = []
firsts same (x ∷ xs) = x ∷ filter (λ y. not (same x y)) (firsts same xs)

-- whether the uses are of one symbol
abbrev pub same_symbol : Use → Use → Bool
same_symbol u v = same_text u.name v.name

-- the first type that the name has in the list
abbrev pub type_in : List Use → List ℕ → Option SymbolType
type_in [] f = None
type_in (u ∷ us) f = if same_text u.name f then Some u.type else type_in us f

-- a symbol with its type: as the first declaration says, or else that of this use
abbrev pub typed : List Use → Use → Use
typed declarations u = record { name = u.name; type = unwrap_or (type_in declarations u.name) u.type }

-- the symbols of the file, each with its type
abbrev pub symbols_of : List Statement → List Use
symbols_of ss = map (typed (declared ss)) (firsts same_symbol (uses (occurrences_in ss)))

-- whether `$i` is a sort in the type
abbrev pub is_individual : Option SortName → Bool
is_individual None = false
is_individual (Some s) = same_sort s Individual

-- whether `$i` is a sort in the type of the symbol
abbrev pub mentions_individual : Use → Bool
mentions_individual u = has same_sort Individual u.type.args || is_individual u.type.gives

-- `$i` occurs in the type of a symbol, as the sort of a variable, or as the subject of a type statement
abbrev pub has_individual : List Statement → Bool
has_individual ss = list_any mentions_individual (symbols_of ss) || has same_sort Individual (sorts (occurrences_in ss))

-- `$i` first where it occurs, and then the declared sorts
abbrev pub sorts_of_file : List Statement → List SortName
sorts_of_file ss = if has_individual ss then Individual ∷ firsts same_sort (declared_sorts ss) else firsts same_sort (declared_sorts ss)

-- whether the index has a name
abbrev pub is_named : IndexName → Bool
is_named Plain = false
is_named (Named a) = true

-- the unindexed modality first where it occurs, and then the named indexes
abbrev pub indexes_of_file : List Statement → List IndexName
indexes_of_file ss =
    if has same_index Plain (indexes (occurrences_in ss)) then Plain ∷ firsts same_index (filter is_named (indexes (occurrences_in ss)))
    else firsts same_index (filter is_named (indexes (occurrences_in ss)))

-- the number of a sort in the list
abbrev pub sort_number : List SortName → SortName → ℕ
sort_number ss s = position_or_len (same_sort s) ss

-- a predicate is flexible and global, without meaning
abbrev pub designation_for : Specification → List ℕ → Option SortName → Designation
designation_for spec f None = Flexible
designation_for spec f (Some s) = spec.designation f

abbrev pub locality_for : Specification → List ℕ → Option SortName → Locality
locality_for spec f None = Global
locality_for spec f (Some s) = spec.locality f

-- the entry of a symbol, with the numbers of its sorts in the list
abbrev pub symbol_entry : List SortName → Specification → Use → SymbolEntry
symbol_entry ss spec u = record {
  name = u.name;
  args = map (sort_number ss) u.type.args;
  gives = option_map (sort_number ss) u.type.gives;
  designation = designation_for spec u.name u.type.gives;
  locality = locality_for spec u.name u.type.gives;
}

-- the signature of a file with what its logic statement says
abbrev pub signature_of : Specification → File → Signature
signature_of spec file = record {
  sorts = map (λ s. record { name = s; regime = spec.regime s }) (sorts_of_file file.statements);
  symbols = map (symbol_entry (sorts_of_file file.statements) spec) (symbols_of file.statements);
  indexes = map (λ i. record { name = i; schemes = spec.schemes i }) (indexes_of_file file.statements);
}
