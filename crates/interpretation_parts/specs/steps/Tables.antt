-- Tables in which the first entry of a name stays.
use Rattle.std.specs.Prelude.{◌≡◌, ℕ, ◌<◌, Bool, false, ◌||◌, length, slice_index, if◌then◌else◌, List, [], ◌∷◌, ◌++◌, Option, None, Some, is_some}
use Rattle.std.specs.List.{list_any}
use Rattle.std.specs.Map.{lookup}
use Rattle.indexmap.specs.IndexSet.{insert_key}
use Rattle.std.specs.Option.{option_map, option_or}
use Rattle.nxf_tree.specs.declared.tree.SortName.{SortName}
use Rattle.nxf_tree.specs.declared.tree.SortName.TheVariants.{Individual, User}
use Rattle.nxf_tree.specs.declared.tree.ClassicalSignature.{ClassicalSignature}
use Rattle.nxf_tree.specs.Names.{same_text}
use Rattle.nxf_tree.specs.Signature.{same_sort}
use Rattle.interpretation_definitions.specs.Context.{sort_number, symbol_number, symbols_of, count_for}
use Rattle.interpretation_definitions.specs.declared.element.Element.{Element}

-- a new name goes last, and one that is there stays as it is
abbrev pub noted : {V : Type 0} → List (List ℕ × V) → List ℕ → V → List (List ℕ × V)
noted entries name value = if is_some (lookup (same_text name) entries) then entries else entries ++ (name, value) ∷ []

-- the value for that name alone
abbrev pub only_at : {V : Type 0} → List ℕ → List ℕ → V → Option V
only_at q name value = if same_text q name then Some value else None

-- the tables have the numbers of the sorts and symbols of the classical signature
pub record Knows (over : ClassicalSignature) (users : List (List ℕ × ℕ)) (own : Option ℕ) (names : List (List ℕ × ℕ)) : Type 0 where
  pub sorts : (q : List ℕ) → lookup (same_text q) users ≡ sort_number over.sorts (User q)
  pub individual : own ≡ sort_number over.sorts Individual
  pub symbols : (q : List ℕ) → lookup (same_text q) names ≡ symbol_number (symbols_of over) q

-- the table has these numbers for names
abbrev pub GivesNumbers : List (List ℕ × ℕ) → (List ℕ → Option ℕ) → Type 0
GivesNumbers names number = (q : List ℕ) → lookup (same_text q) names ≡ number q

-- a name that had no number before has one now where it is given one
abbrev pub IsExtended : List (List ℕ × ℕ) → (List ℕ → Option ℕ) → List (List ℕ × ℕ) → Type 0
IsExtended old number new = GivesNumbers new (λ q. option_or (lookup (same_text q) old) (number q))

-- the number, for the user's sort of that name alone
abbrev pub own_number : List ℕ → SortName → ℕ → Option ℕ
own_number q s number = if same_sort (User q) s then Some number else None

-- the number, for the symbol of that name alone
abbrev pub own_symbol : List ℕ → List ℕ → ℕ → Option ℕ
own_symbol q name number = if same_text name q then Some number else None

-- the number, for `$i` alone
abbrev pub own_individual : SortName → ℕ → Option ℕ
own_individual s number = if same_sort Individual s then Some number else None

-- the counts are those of the elements of each sort
abbrev pub Counted : List (List ℕ × Element) → List ℕ → Type 0
Counted elements counts = (k : ℕ) → k < length counts → slice_index counts k ≡ count_for k elements

-- what a look-up gives after a key was written
abbrev pub written : List ℕ → List ℕ → ℕ → Option ℕ → Option ℕ
written q key value old = if same_text q key then Some value else old

-- the table has the value for the key, and all else as it was
abbrev pub IsWritten : List (List ℕ × ℕ) → List ℕ → ℕ → List (List ℕ × ℕ) → Type 0
IsWritten old key value new = (q : List ℕ) → lookup (same_text q) new ≡ written q key value (lookup (same_text q) old)

-- whether one of the texts is among the keys, or among the texts before it
abbrev pub repeated : List (List ℕ) → List (List ℕ) → Bool
repeated keys [] = false
repeated keys (x ∷ xs) = list_any (same_text x) keys || repeated (insert_key same_text keys x) xs

-- an element as a text of two numbers
abbrev pub pair_of : Element → List ℕ
pair_of e = e.sort ∷ e.number ∷ []
