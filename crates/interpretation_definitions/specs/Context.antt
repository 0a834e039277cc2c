-- What the statements of an interpretation are judged against: the classical signature, and of the whole file its closures and its declarations.
use Rattle.std.specs.Prelude.{ℕ, suc, Bool, ◌&&◌, ◌||◌, not, nat_eq, if◌then◌else◌, List, [], ◌∷◌, ◌++◌, map, flat_map, fold, count_by, Option, None, Some, is_some}
use Rattle.std.specs.List.{list_any}
use Rattle.std.specs.Map.{lookup}
use Rattle.std.specs.Option.{option_map}
use Rattle.indexmap.specs.IndexSet.{insert_all}
use Rattle.nxf_tree.specs.declared.tree.SortName.{SortName}
use Rattle.nxf_tree.specs.declared.tree.SortName.TheVariants.{User}
use Rattle.nxf_tree.specs.declared.tree.TableEntry.{TableEntry}
use Rattle.nxf_tree.specs.declared.tree.ClassicalSignature.{ClassicalSignature}
use Rattle.nxf_tree.specs.declared.tree.Typing.TheVariants as typing
use Rattle.nxf_tree.specs.Names.{same_text, actual_name}
use Rattle.nxf_tree.specs.Signature.{same_sort}
use Rattle.interpretation_definitions.specs.declared.element.Element.{Element}
use Rattle.interpretation_definitions.specs.Parts.{Part, Formless, Declares, Closes, Applies, Equates, Differs, AllDiffer, SaysNothing}

-- the first thing that passes, with its number from k on
abbrev pub numbered_from : {A : Type 0} → ℕ → (A → Bool) → List A → Option (ℕ × A)
numbered_from k test [] = None
numbered_from k test (x ∷ xs) = if test x then Some (k, x) else numbered_from (suc k) test xs

-- `mk_actual` is a constant of the first sort, and has number 0; table t of the classical signature has number t + 1
abbrev pub actual_entry : TableEntry
actual_entry = record { name = actual_name; args = []; gives = Some 0 }

abbrev pub symbols_of : ClassicalSignature → List TableEntry
symbols_of csig = actual_entry ∷ csig.tables

-- the sorts and symbols of the classical signature, which are called known; each name that a closure of a known sort lists, with the element that it
-- stands for; and each name that a type statement declares, once
pub record Context : Type 0 where
  pub sorts : List SortName
  pub symbols : List TableEntry
  pub elements : List (List ℕ × Element)
  pub declared : List (List ℕ)

-- the number of a known sort
abbrev pub sort_number : List SortName → SortName → Option ℕ
sort_number sorts s = option_map (λ p. p.0) (numbered_from 0 (same_sort s) sorts)

-- a known symbol, with its number
abbrev pub symbol_in : List TableEntry → List ℕ → Option (ℕ × TableEntry)
symbol_in symbols name = numbered_from 0 (λ (entry : TableEntry). same_text entry.name name) symbols

-- its number alone
abbrev pub symbol_number : List TableEntry → List ℕ → Option ℕ
symbol_number symbols name = option_map (λ p. p.0) (symbol_in symbols name)

-- the names of a closure, where its sort is known
abbrev pub listed_under : Option ℕ → List (List ℕ) → List (List ℕ × ℕ)
listed_under None names = []
listed_under (Some sort) names = map (λ name. (name, sort)) names

abbrev pub listings_of : List SortName → Part → List (List ℕ × ℕ)
listings_of sorts Formless = []
listings_of sorts (Declares t) = []
listings_of sorts (Closes s names) = listed_under (sort_number sorts s) names
listings_of sorts (Applies truth p args) = []
listings_of sorts (Equates f args value) = []
listings_of sorts (Differs left right) = []
listings_of sorts (AllDiffer args) = []
listings_of sorts SaysNothing = []

-- the name that a part declares
abbrev pub declared_by : Part → List (List ℕ)
declared_by Formless = []
declared_by (Declares typing.Individual) = []
declared_by (Declares (typing.Sort s)) = s ∷ []
declared_by (Declares (typing.Symbol f args gives)) = f ∷ []
declared_by (Closes s names) = []
declared_by (Applies truth p args) = []
declared_by (Equates f args value) = []
declared_by (Differs left right) = []
declared_by (AllDiffer args) = []
declared_by SaysNothing = []

-- how many of the elements are of the sort
abbrev pub count_for : ℕ → List (List ℕ × Element) → ℕ
count_for sort = count_by (λ (e : List ℕ × Element). nat_eq e.1.sort sort)

-- the element that a name stands for
abbrev pub element_in : List (List ℕ × Element) → List ℕ → Option Element
element_in elements name = lookup (same_text name) elements

-- a name that wasn't listed before stands for the next element of the sort; another one keeps its element
abbrev pub and_listing : List (List ℕ × Element) → List ℕ × ℕ → List (List ℕ × Element)
and_listing elements listing =
    if is_some (element_in elements listing.0) then elements
    else elements ++ (listing.0, record { sort = listing.1; number = count_for listing.1 elements }) ∷ []

abbrev pub and_listings : List (List ℕ × Element) → List (List ℕ × ℕ) → List (List ℕ × Element)
and_listings elements listings = fold and_listing elements listings

-- the elements that the closures among the parts list, and the names that its type statements declare
abbrev pub elements_listed : List SortName → List Part → List (List ℕ × Element)
elements_listed sorts parts = and_listings [] (flat_map (listings_of sorts) parts)

abbrev pub names_declared : List Part → List (List ℕ)
names_declared parts = insert_all same_text [] (flat_map declared_by parts)

abbrev pub context_of : ClassicalSignature → List Part → Context
context_of csig parts = record {
  sorts = csig.sorts;
  symbols = symbols_of csig;
  elements = elements_listed csig.sorts parts;
  declared = names_declared parts;
}

abbrev pub element : Context → List ℕ → Option Element
element context name = element_in context.elements name

abbrev pub is_listed : Context → List ℕ → Bool
is_listed context name = is_some (element context name)

abbrev pub is_sort : Context → List ℕ → Bool
is_sort context name = is_some (sort_number context.sorts (User name))

abbrev pub symbol : Context → List ℕ → Option (ℕ × TableEntry)
symbol context name = symbol_in context.symbols name

abbrev pub is_known : Context → List ℕ → Bool
is_known context name = is_some (symbol context name) || is_sort context name

-- a name is extra where it is declared, and neither known nor listed
abbrev pub is_extra : Context → List ℕ → Bool
is_extra context name = list_any (same_text name) context.declared && not (is_known context name) && not (is_listed context name)

-- a name that is neither known nor listed; where it is not extra, it is unknown
abbrev pub is_unknown : Context → List ℕ → Bool
is_unknown context name = not (is_known context name) && not (is_listed context name)
