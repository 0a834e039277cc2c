-- What callers see of the names of a file, and what keeps its tables in step with the signature.
use Rattle.std.specs.Prelude.{◌≡◌, ℕ, ◌+◌, ◌^◌, ◌-◌, ◌<◌, Bool, List, length}
use Rattle.std.specs.Map.{keys_of}
use Rattle.nxf_tree.specs.declared.tree.Signature.{Signature}
use Rattle.nxf_tree.specs.Signature.{sort_names, symbol_names, index_names}
use Rattle.nxf_tree.specs.Sorting.{SymbolType}
use Rattle.nxf_tree.specs.Occurrences.{Use}
use Rattle.nxf_signatures.specs.Places.{sort_list, index_list}

-- the signature, and the declared symbols with their first types
pub record Naming : Type 0 where
  pub signature : Signature
  pub declared : List Use

-- the tables have the names of the signature, each at its number, and the numbers fit 32 bits
pub record HasNames (sig : Signature) (individual : Bool) (user_sorts : List (List ℕ)) (typed_symbols : List (List ℕ × SymbolType)) (plain : Bool) (named_indexes : List (List ℕ)) : Type 0 where
  pub sorts : sort_names sig.sorts ≡ sort_list individual user_sorts
  pub symbols : symbol_names sig.symbols ≡ keys_of typed_symbols
  pub indexes : index_names sig.indexes ≡ index_list plain named_indexes
  pub small : length user_sorts + length typed_symbols + length named_indexes < 2 ^ 31 - 1
