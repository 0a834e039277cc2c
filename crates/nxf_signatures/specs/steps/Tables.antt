-- What the tables of names hold.
use Rattle.std.specs.Prelude.{ℕ, Bool, true, false, ◌||◌, List, [], ◌∷◌, map, flat_map, fold, Option, None, Some}
use Rattle.indexmap.specs.IndexSet.{insert_key}
use Rattle.nxf_tree.specs.declared.tree.IndexName.TheVariants.{Plain, Named}
use Rattle.nxf_tree.specs.declared.tree.SortName.{SortName}
use Rattle.nxf_tree.specs.declared.tree.SortName.TheVariants.{Individual}
use Rattle.nxf_tree.specs.declared.tree.Term.{Term}
use Rattle.nxf_tree.specs.declared.tree.Override.{Override}
use Rattle.nxf_tree.specs.declared.tree.Typing.{Typing}
use Rattle.nxf_tree.specs.declared.tree.Typing.TheVariants.{Individual as IsIndividual, Sort, Symbol}
use Rattle.nxf_tree.specs.declared.tree.Body.TheVariants.{Formula as IsFormula, Typing as IsTyping, Logic as IsLogic}
use Rattle.nxf_tree.specs.declared.tree.Statement.{Statement}
use Rattle.nxf_tree.specs.declared.tree.Statement.TheVariants.{Annotated, Include}
use Rattle.nxf_tree.specs.Names.{same_text}
use Rattle.nxf_tree.specs.Signature.{same_sort}
use Rattle.nxf_tree.specs.Sorting.{SymbolType}
use Rattle.nxf_tree.specs.Occurrences.{Use, Occurrence, term_uses, occurrences, key_occurrences}
use Rattle.nxf_tree.specs.SignatureOf.{same_symbol, typed}
use Rattle.nxf_signatures.specs.declared.occurring.Occurring.{Occurring}

-- the symbols of a table, each with its type
abbrev pub use_of : List ℕ × SymbolType → Use
use_of entry = record { name = entry.0; type = entry.1 }

abbrev pub uses_in : List (List ℕ × SymbolType) → List Use
uses_in = map use_of

-- the texts of the declared sorts
abbrev pub sort_texts : List Statement → List (List ℕ)
sort_texts [] = []
sort_texts (Annotated name role (IsTyping (Sort s)) ∷ ss) = s ∷ sort_texts ss
sort_texts (Annotated name role (IsTyping (Symbol f args gives)) ∷ ss) = sort_texts ss
sort_texts (Annotated name role (IsTyping IsIndividual) ∷ ss) = sort_texts ss
sort_texts (Annotated name role (IsFormula f) ∷ ss) = sort_texts ss
sort_texts (Annotated name role (IsLogic l) ∷ ss) = sort_texts ss
sort_texts (Include file names ∷ ss) = sort_texts ss

-- What was seen of the occurrences in a file: the symbols with their types, whether `$i` is a variable's sort, whether there is an unindexed
-- modality, and the texts of the named indexes; each thing once, in the order of first occurrence.
pub record Seen : Type 0 where
  pub symbols : List Use
  pub individual : Bool
  pub plain : Bool
  pub indexes : List (List ℕ)

abbrev pub nothing : Seen
nothing = record { symbols = []; individual = false; plain = false; indexes = [] }

-- one more occurrence, where the symbols of the list are declared
abbrev pub and_occurrence : List Use → Seen → Occurrence → Seen
and_occurrence us seen (Occurrence.symbol u) =
    record { symbols = insert_key same_symbol seen.symbols (typed us u); individual = seen.individual; plain = seen.plain; indexes = seen.indexes }
and_occurrence us seen (Occurrence.sort s) =
    record { symbols = seen.symbols; individual = seen.individual || same_sort s Individual; plain = seen.plain; indexes = seen.indexes }
and_occurrence us seen (Occurrence.index Plain) =
    record { symbols = seen.symbols; individual = seen.individual; plain = true; indexes = seen.indexes }
and_occurrence us seen (Occurrence.index (Named a)) =
    record { symbols = seen.symbols; individual = seen.individual; plain = seen.plain; indexes = insert_key same_text seen.indexes a }

-- these occurrences after those that were seen
abbrev pub and_occurrences : List Use → Seen → List Occurrence → Seen
and_occurrences us seen os = fold (and_occurrence us) seen os

-- what the tables of the code have seen
abbrev pub seen_in : Occurring → Seen
seen_in o = record { symbols = uses_in o.symbols.entries; individual = o.individual; plain = o.plain; indexes = o.indexes.keys }

-- what a symbol gives that is used as a function, or as a predicate
abbrev pub value_of : Bool → Option SortName
value_of true = Some Individual
value_of false = None

-- what occurs in a term, and in overrides
abbrev pub term_occurrences : Term → List Occurrence
term_occurrences t = map Occurrence.symbol (term_uses t)

abbrev pub key_occurrences_in : List Override → List Occurrence
key_occurrences_in = flat_map (λ o. key_occurrences o.key)

-- what occurs in a typing
abbrev pub typing_occurrences : Typing → List Occurrence
typing_occurrences IsIndividual = Occurrence.sort Individual ∷ []
typing_occurrences (Sort s) = []
typing_occurrences (Symbol f args gives) = Occurrence.symbol (record { name = f; type = record { args = args; gives = gives } }) ∷ []

-- what occurs in a statement, where a logic statement has these overrides
abbrev pub occurrences_with : List Override → Statement → List Occurrence
occurrences_with os (Annotated name role (IsFormula f)) = occurrences f
occurrences_with os (Annotated name role (IsTyping t)) = typing_occurrences t
occurrences_with os (Annotated name role (IsLogic l)) = key_occurrences_in os
occurrences_with os (Include file names) = []
