-- The signatures that tests are over.
use Rattle.std.specs.Prelude.{ℕ, List, [], ◌∷◌, codes, Option, None, Some}
use Rattle.nxf_tree.specs.declared.tree.Signature.{Signature}
use Rattle.nxf_tree.specs.declared.tree.SortEntry.{SortEntry}
use Rattle.nxf_tree.specs.declared.tree.SymbolEntry.{SymbolEntry}
use Rattle.nxf_tree.specs.declared.tree.IndexName.TheVariants.{Plain}
use Rattle.nxf_tree.specs.declared.tree.SortName.TheVariants.{Individual, User}
use Rattle.nxf_tree.specs.declared.tree.Regime.TheVariants.{Constant, Varying}
use Rattle.nxf_tree.specs.declared.tree.Designation.{Designation}
use Rattle.nxf_tree.specs.declared.tree.Designation.TheVariants.{Rigid, Flexible}
use Rattle.nxf_tree.specs.declared.tree.Locality.TheVariants.{Local}

-- a local symbol
abbrev pub local_symbol : List ℕ → List ℕ → Option ℕ → Designation → SymbolEntry
local_symbol name args gives designation = record { name = name; args = args; gives = gives; designation = designation; locality = Local }

-- `$i`, whose domains vary, and a constant sort
abbrev pub two_sorts : List SortEntry
two_sorts = record { name = Individual; regime = Varying } ∷ record { name = User (codes "s"); regime = Constant } ∷ []

-- a predicate on both, a rigid function from the one to the other, and a flexible constant
abbrev pub three_symbols : List SymbolEntry
three_symbols = local_symbol (codes "p") (0 ∷ 1 ∷ []) None Flexible ∷ local_symbol (codes "f") (0 ∷ []) (Some 1) Rigid ∷ local_symbol (codes "c") [] (Some 0) Flexible ∷ []

-- with the index `[.]`, which has no schemes
abbrev pub small_signature : Signature
small_signature = record { sorts = two_sorts; symbols = three_symbols; indexes = record { name = Plain; schemes = [] } ∷ [] }
