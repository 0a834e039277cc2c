-- What is proved of the names and the tables of the printed problem.
use Rattle.std.specs.Prelude.{◌≡◌, ℕ, Bool, true, List, [], ◌∷◌, ◌++◌, map, slice_get, Some}
use Rattle.nxf_tree.specs.declared.tree.Signature.{Signature}
use Rattle.nxf_tree.specs.declared.tree.IndexName.{IndexName}
use Rattle.nxf_tree.specs.declared.tree.SortName.{SortName}
use Rattle.nxf_tree.specs.declared.tree.SortName.TheVariants.{User}
use Rattle.nxf_tree.specs.declared.tree.ClassicalSignature.{ClassicalSignature}
use Rattle.nxf_tree.specs.Signature.{same_sort, same_index, sort_names, existence_sorts, index_names, symbol_names}
use Rattle.nxf_tree.specs.Counting.{all_different}
use Rattle.nxf_tree.specs.Names.{same_text, user_name, user_variable, world_variable, world_name, actual_name, relation_name, existence_name}
use Rattle.nxf_tree.specs.Rows.{Table, Rows, beside, under}
use Rattle.nxf_tree.specs.Structures.{KripkeStructure, ClassicalStructure, IsOver, IsOverClassical, Corresponds, table_names}
use Rattle.nxf_tree.specs.ClassicalSignature.{classical_signature_of}
use Rattle.nxf_tree.specs.WellFormed.{HasDifferentNames}

-- each structure of one kind corresponds to exactly one of the other
pub record OneForOne (sig : Signature) : Type 0 where
  pub to_classical : (K : KripkeStructure) → IsOver sig K → (S : ClassicalStructure) × IsOverClassical (classical_signature_of sig) S × Corresponds K S
  pub to_kripke : (S : ClassicalStructure) → IsOverClassical (classical_signature_of sig) S → (K : KripkeStructure) × IsOver sig K × Corresponds K S
  pub one_classical : (K : KripkeStructure) (S T : ClassicalStructure) → Corresponds K S → Corresponds K T → S ≡ T
  pub one_kripke : (S : ClassicalStructure) (K L : KripkeStructure) → IsOver sig K → IsOver sig L → Corresponds K S → Corresponds L S → K ≡ L

-- structures correspond one for one, both ways
abbrev pub OneForOneLaw : Type 0
OneForOneLaw = (sig : Signature) → OneForOne sig

-- what gets a name in the printed problem; a user's sorts and symbols share one name space
pub data Thing : Type 0 where
  Worlds : Thing
  ActualWorld : Thing
  Relation : (i : IndexName) → Thing
  Existence : (s : SortName) → Thing
  Named : (x : List ℕ) → Thing

abbrev pub printed_name : Thing → List ℕ
printed_name Worlds = world_name
printed_name ActualWorld = actual_name
printed_name (Relation i) = relation_name i
printed_name (Existence s) = existence_name s
printed_name (Named x) = user_name x

-- two different things get different names
abbrev pub NamesApart : Type 0
NamesApart = (x y : Thing) → printed_name x ≡ printed_name y → x ≡ y

-- two different variables get different names
pub record VariablesApart : Type 0 where
  pub users : (x y : List ℕ) → user_variable x ≡ user_variable y → x ≡ y
  pub worlds : (j k : ℕ) → world_variable j ≡ world_variable k → j ≡ k
  -- no translated user variable is a world variable
  pub apart : (x : List ℕ) (k : ℕ) → user_variable x ≡ world_variable k → ⊥

-- the names of the printed problem differ: the actual world, the tables and the sorts share one name space
pub record HasDifferentClassicalNames (csig : ClassicalSignature) : Type 0 where
  pub names : all_different same_sort (map User (actual_name ∷ table_names csig.tables) ++ csig.sorts) ≡ true

-- where the names of the signature differ, those of the printed problem do
abbrev pub NamesDiffer : Type 0
NamesDiffer = (sig : Signature) → HasDifferentNames sig → HasDifferentClassicalNames (classical_signature_of sig)

-- in a list of different names, each stands for what is at its place
abbrev pub Found : {N A : Type 0} → (N → N → Bool) → A → List N → List A → Type 0
Found same none names things = (k : ℕ) → (name : _) (thing : _) → slice_get names k ≡ Some name → slice_get things k ≡ Some thing → under same none (beside names things) name ≡ thing

-- where the names of the signature differ, each name stands for what its structure has at its place, in the file and in the printed problem
pub record NamesFound (sig : Signature) : Type 0 where
  pub sizes : (ns : List ℕ) → Found same_sort 0 (sort_names sig.sorts) ns
  pub relations : (rs : List (List (List ℕ))) → Found same_index [] (index_names sig.indexes) rs
  pub existing : (rs : List (List (List ℕ))) → Found same_sort [] (existence_sorts sig.sorts) rs
  pub symbols : (ts : List Table) → Found same_text (Rows []) (symbol_names sig.symbols) ts
  pub classical_sizes : (ns : List ℕ) → Found same_sort 0 (classical_signature_of sig).sorts ns
  pub tables : (ts : List Table) → Found same_text (Rows []) (table_names (classical_signature_of sig).tables) ts

abbrev pub FoundLaw : Type 0
FoundLaw = (sig : Signature) → HasDifferentNames sig → NamesFound sig
