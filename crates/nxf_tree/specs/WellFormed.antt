-- Well-formed signatures: what each call that takes a signature may rely on, and what the reading of a file gives.
use Rattle.std.specs.Prelude.{◌≡◌, ℕ, ◌+◌, ◌^◌, ◌≤◌, Bool, true, false, ◌&&◌, nat_lt, List, [], ◌∷◌, ◌++◌, map, filter, length}
use Rattle.std.specs.List.{list_all, All}
use Rattle.nxf_tree.specs.declared.tree.SortName.{SortName}
use Rattle.nxf_tree.specs.declared.tree.SortName.TheVariants.{Individual, User}
use Rattle.nxf_tree.specs.declared.tree.IndexName.{IndexName}
use Rattle.nxf_tree.specs.declared.tree.IndexName.TheVariants.{Plain, Named}
use Rattle.nxf_tree.specs.declared.tree.SymbolEntry.{SymbolEntry}
use Rattle.nxf_tree.specs.declared.tree.IndexEntry.{IndexEntry}
use Rattle.nxf_tree.specs.declared.tree.Scheme.{Scheme}
use Rattle.nxf_tree.specs.declared.tree.Signature.{Signature}
use Rattle.nxf_tree.specs.Counting.{has, all_different}
use Rattle.nxf_tree.specs.Signature.{same_sort, same_index, sort_names, symbol_names, index_names}
use Rattle.nxf_tree.specs.Sorting.{in_range, gives_in_range}
use Rattle.nxf_tree.specs.SpecificationWords.{same_scheme, scheme_order}

-- whether a text can be printed as a name: one or more bytes from 32 to 126
abbrev pub is_name : List ℕ → Bool
is_name [] = false
is_name (b ∷ bs) = list_all (λ c. nat_lt 31 c && nat_lt c 127) (b ∷ bs)

abbrev pub is_sort_name : SortName → Bool
is_sort_name Individual = true
is_sort_name (User s) = is_name s

abbrev pub is_index_name : IndexName → Bool
is_index_name Plain = true
is_index_name (Named a) = is_name a

-- the names of a signature differ: sorts and symbols share one name space, and indexes have their own
pub record HasDifferentNames (sig : Signature) : Type 0 where
  pub names : all_different same_sort (map User (symbol_names sig.symbols) ++ sort_names sig.sorts) ≡ true
  pub indexes : all_different same_index (index_names sig.indexes) ≡ true

-- each number of a sort in a symbol's type is one of the signature's
abbrev pub has_sorts_in_range : Signature → SymbolEntry → Bool
has_sorts_in_range sig entry = list_all (in_range sig.sorts) entry.args && gives_in_range sig.sorts entry.gives

abbrev pub HasSortsInRange : Signature → Type 0
HasSortsInRange sig = list_all (has_sorts_in_range sig) sig.symbols ≡ true

-- the schemes of an index stand in scheme order without repeats
abbrev pub AreOrdered : List Scheme → Type 0
AreOrdered schemes = schemes ≡ filter (λ scheme. has same_scheme scheme schemes) scheme_order

-- the signature is well formed
pub record IsWellFormed (sig : Signature) : Type 0 where
  pub different : HasDifferentNames sig
  pub sort_texts : list_all is_sort_name (sort_names sig.sorts) ≡ true
  pub symbol_texts : list_all is_name (symbol_names sig.symbols) ≡ true
  pub index_texts : list_all is_index_name (index_names sig.indexes) ≡ true
  pub in_range : HasSortsInRange sig
  pub arguments : All (λ (entry : SymbolEntry). length entry.args ≤ 1000) sig.symbols
  pub schemes : All (λ (entry : IndexEntry). AreOrdered entry.schemes) sig.indexes
  pub size : length sig.sorts + length sig.symbols + length sig.indexes ≤ 2 ^ 31
