-- The places of names in lists.
use Rattle.std.specs.Prelude.{ℕ, suc, ◌+◌, Bool, if◌then◌else◌, List, [], ◌∷◌, map, Option, None, Some}
use Rattle.std.specs.Option.{option_map}
use Rattle.nxf_tree.specs.declared.tree.IndexName.{IndexName}
use Rattle.nxf_tree.specs.declared.tree.IndexName.TheVariants.{Plain, Named}
use Rattle.nxf_tree.specs.declared.tree.SortName.{SortName}
use Rattle.nxf_tree.specs.declared.tree.SortName.TheVariants.{Individual, User}
use Rattle.nxf_tree.specs.declared.tree.SymbolEntry.{SymbolEntry}
use Rattle.nxf_tree.specs.Names.{same_text}

-- the first place at which the test passes
abbrev pub place : {A : Type 0} → (A → Bool) → List A → Option ℕ
place test [] = None
place test (x ∷ xs) = if test x then Some 0 else option_map suc (place test xs)

-- a place after the one that may stand before all of them
abbrev pub shifted : Bool → ℕ → ℕ
shifted first k = if first then k + 1 else k

-- `$i`, where it occurs, and the user's sorts
abbrev pub sort_list : Bool → List (List ℕ) → List SortName
sort_list individual texts = if individual then Individual ∷ map User texts else map User texts

-- the unindexed modality, where it occurs, and the named indexes
abbrev pub index_list : Bool → List (List ℕ) → List IndexName
index_list plain texts = if plain then Plain ∷ map Named texts else map Named texts

-- the first entry of the name, with its number
abbrev pub numbered_entry : List SymbolEntry → List ℕ → Option (ℕ × SymbolEntry)
numbered_entry [] f = None
numbered_entry (entry ∷ entries) f = if same_text entry.name f then Some (0, entry) else option_map (λ p. (suc p.0, p.1)) (numbered_entry entries f)
