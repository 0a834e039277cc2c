-- What a signature asks of a Kripke structure, condition by condition in the order in which faults are named, and the first condition that fails.
use Rattle.std.specs.Prelude.{◌≡◌, ℕ, zero, suc, Bool, true, false, List, [], ◌∷◌, ◌++◌, map, Option, None, Some}
use Rattle.std.specs.List.{list_all}
use Rattle.nxf_tree.specs.declared.tree.Signature.{Signature}
use Rattle.nxf_tree.specs.declared.tree.SortEntry.{SortEntry}
use Rattle.nxf_tree.specs.declared.tree.SymbolEntry.{SymbolEntry}
use Rattle.nxf_tree.specs.declared.tree.IndexEntry.{IndexEntry}
use Rattle.nxf_tree.specs.declared.tree.IndexName.{IndexName}
use Rattle.nxf_tree.specs.declared.tree.IndexName.TheVariants.{Plain}
use Rattle.nxf_tree.specs.declared.tree.SortName.{SortName}
use Rattle.nxf_tree.specs.declared.tree.Regime.{Regime}
use Rattle.nxf_tree.specs.declared.tree.Regime.TheVariants.{Constant, Cumulative, Decreasing, Varying}
use Rattle.nxf_tree.specs.Signature.{sort_at}
use Rattle.nxf_tree.specs.Kripke.{KripkeModel}
use Rattle.nxf_tree.specs.Conditions.{meets_scheme, someone_exists, everyone_exists, stay, were_there, meets_result, argument_sorts, local_result, meets_frames, meets_domains, meets_terms}
use Rattle.nxf_tree.specs.WellFormed.{HasDifferentNames}
use Rattle.fin_struct.specs.declared.condition.Condition.{Condition}
use Rattle.fin_struct.specs.declared.condition.Condition.TheVariants.{Frame, Empty, Union, Monotone, Local, Premise, Conjecture}
use Rattle.fin_struct.specs.KripkeTables.{KripkeTables, kripke_structure}
use Rattle.nxf_tree.specs.Structures.{kripke_model}

-- x is in the list and fails, and each before it holds
pub record FailsFirst {X : Type 0} (holds : X → Bool) (xs : List X) (x : X) : Type 0 where
  pub before : List X
  pub after : List X
  pub parts : xs ≡ before ++ x ∷ after
  pub hold : list_all holds before ≡ true
  pub fails : holds x ≡ false

-- None where each holds, else the first that fails
abbrev pub IsFirstFailing : {X : Type 0} → (X → Bool) → List X → Option X → Type 0
IsFirstFailing holds xs None = list_all holds xs ≡ true
IsFirstFailing holds xs (Some x) = FailsFirst holds xs x

-- the name of the index with the number, counted from 0
abbrev pub index_at : List IndexEntry → ℕ → IndexName
index_at [] i = Plain
index_at (entry ∷ entries) zero = entry.name
index_at (entry ∷ entries) (suc i) = index_at entries i

-- the regime of the sort with the number, counted from 0
abbrev pub regime_at : List SortEntry → ℕ → Regime
regime_at [] s = Constant
regime_at (entry ∷ entries) zero = entry.regime
regime_at (entry ∷ entries) (suc s) = regime_at entries s

-- what exists goes along the relation of the index as the regime asks
abbrev pub goes_along : KripkeModel → Regime → SortName → IndexName → Bool
goes_along K Constant s i = true
goes_along K Cumulative s i = stay K.worlds (K.size s) (K.related i) (K.present s)
goes_along K Decreasing s i = were_there K.worlds (K.size s) (K.related i) (K.present s)
goes_along K Varying s i = true

-- the values of the symbol exist where its arguments do, if it is local and its values are of a sort that isn't constant
abbrev pub meets_term : Signature → KripkeModel → SymbolEntry → Bool
meets_term sig K entry = meets_result K entry.name (argument_sorts sig entry) (local_result sig entry.gives entry.locality)

-- the same for the symbol with the number, counted from 0
abbrev pub meets_term_at : Signature → KripkeModel → List SymbolEntry → ℕ → Bool
meets_term_at sig K [] f = true
meets_term_at sig K (entry ∷ entries) zero = meets_term sig K entry
meets_term_at sig K (entry ∷ entries) (suc f) = meets_term_at sig K entries f

-- whether the model meets the condition; a signature asks nothing of premises and of the conjecture
abbrev pub meets_condition : Signature → KripkeModel → Condition → Bool
meets_condition sig K (Frame i scheme) = meets_scheme scheme K.worlds (K.related (index_at sig.indexes i))
meets_condition sig K (Empty s) = someone_exists K.worlds (K.size (sort_at sig.sorts s)) (K.present (sort_at sig.sorts s))
meets_condition sig K (Union s) = everyone_exists K.worlds (K.size (sort_at sig.sorts s)) (K.present (sort_at sig.sorts s))
meets_condition sig K (Monotone s i) = goes_along K (regime_at sig.sorts s) (sort_at sig.sorts s) (index_at sig.indexes i)
meets_condition sig K (Local f) = meets_term_at sig K sig.symbols f
meets_condition sig K (Premise n) = true
meets_condition sig K (Conjecture n) = true

-- the conditions of the schemes, by index, and within an index by scheme; i is the number of the first of these indexes
abbrev pub frames_from : ℕ → List IndexEntry → List Condition
frames_from i [] = []
frames_from i (entry ∷ entries) = map (Frame i) entry.schemes ++ frames_from (suc i) entries

abbrev pub frame_conditions : Signature → List Condition
frame_conditions sig = frames_from 0 sig.indexes

-- that the elements of sort s go along the relation of each of these indexes, from index i on
abbrev pub monotone_from : ℕ → ℕ → List IndexEntry → List Condition
monotone_from s i [] = []
monotone_from s i (entry ∷ entries) = Monotone s i ∷ monotone_from s (suc i) entries

-- the conditions of sort s with its regime
abbrev pub sort_conditions : List IndexEntry → ℕ → Regime → List Condition
sort_conditions indexes s Constant = []
sort_conditions indexes s Cumulative = Empty s ∷ Union s ∷ monotone_from s 0 indexes
sort_conditions indexes s Decreasing = Empty s ∷ Union s ∷ monotone_from s 0 indexes
sort_conditions indexes s Varying = Empty s ∷ Union s ∷ []

-- the conditions of the sorts; s is the number of the first of these sorts
abbrev pub domains_from : List IndexEntry → ℕ → List SortEntry → List Condition
domains_from indexes s [] = []
domains_from indexes s (entry ∷ entries) = sort_conditions indexes s entry.regime ++ domains_from indexes (suc s) entries

abbrev pub domain_conditions : Signature → List Condition
domain_conditions sig = domains_from sig.indexes 0 sig.sorts

-- the conditions of the symbols; f is the number of the first of these symbols
abbrev pub terms_from : ℕ → List SymbolEntry → List Condition
terms_from f [] = []
terms_from f (entry ∷ entries) = Local f ∷ terms_from (suc f) entries

abbrev pub term_conditions : Signature → List Condition
term_conditions sig = terms_from 0 sig.symbols

-- the conditions of each kind hold one by one exactly where they hold by the definition
abbrev pub FrameConditions : Type 0
FrameConditions = (sig : Signature) (K : KripkeModel) → list_all (meets_condition sig K) (frame_conditions sig) ≡ meets_frames sig K

abbrev pub DomainConditions : Type 0
DomainConditions = (sig : Signature) (K : KripkeModel) → HasDifferentNames sig → list_all (meets_condition sig K) (domain_conditions sig) ≡ meets_domains sig K

abbrev pub TermConditions : Type 0
TermConditions = (sig : Signature) (K : KripkeModel) → list_all (meets_condition sig K) (term_conditions sig) ≡ meets_terms sig K

-- there is one first fault at most, or none
abbrev pub OneFirstFault : Type 0
OneFirstFault =
    (holds : Condition → Bool) (conditions : List Condition) (found other : Option Condition) → IsFirstFailing holds conditions found → IsFirstFailing holds conditions other
    → found ≡ other

-- what a condition asks of a structure in tables
abbrev pub meets_in_tables : Signature → KripkeTables → Condition → Bool
meets_in_tables sig tables = meets_condition sig (kripke_model sig (kripke_structure tables))
