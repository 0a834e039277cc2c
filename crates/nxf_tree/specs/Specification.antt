-- What the logic statement of a file says, and the first of its faults.
use Rattle.std.specs.Prelude.{ℕ, suc, Bool, true, false, ◌&&◌, not, if◌then◌else◌, List, [], ◌∷◌, ◌++◌, map, codes, slice_get, Option, None, Some, Result, Err}
use Rattle.std.specs.Option.{option_or, option_map, option_and_then, unwrap_or}
use Rattle.std.specs.List.{list_any}
use Rattle.nxf_base.specs.declared.status.SpecKind.{SpecKind}
use Rattle.nxf_base.specs.declared.status.SpecKind.TheVariants.{Absent, Two, NotModal, UnknownKey, DuplicateKey, UnknownValue, NoModalities}
use Rattle.nxf_tree.specs.declared.tree.IndexName.{IndexName}
use Rattle.nxf_tree.specs.declared.tree.IndexName.TheVariants.{Plain, Named}
use Rattle.nxf_tree.specs.declared.tree.SortName.{SortName}
use Rattle.nxf_tree.specs.declared.tree.SortName.TheVariants.{Individual, User}
use Rattle.nxf_tree.specs.declared.tree.Regime.{Regime}
use Rattle.nxf_tree.specs.declared.tree.Regime.TheVariants.{Constant}
use Rattle.nxf_tree.specs.declared.tree.Designation.{Designation}
use Rattle.nxf_tree.specs.declared.tree.Designation.TheVariants.{Rigid}
use Rattle.nxf_tree.specs.declared.tree.Locality.{Locality}
use Rattle.nxf_tree.specs.declared.tree.Locality.TheVariants.{Local}
use Rattle.nxf_tree.specs.declared.tree.Scheme.{Scheme}
use Rattle.nxf_tree.specs.declared.tree.Setting.{Setting}
use Rattle.nxf_tree.specs.declared.tree.Setting.TheVariants.{Domains, Designation as Designations, Terms, Modalities}
use Rattle.nxf_tree.specs.declared.tree.Override.{Override}
use Rattle.nxf_tree.specs.declared.tree.SpecKey.{SpecKey}
use Rattle.nxf_tree.specs.declared.tree.SpecKey.TheVariants.{Dollar, Name, Index}
use Rattle.nxf_tree.specs.declared.tree.SpecEntry.{SpecEntry}
use Rattle.nxf_tree.specs.declared.tree.SpecValue.{SpecValue, SpecValue-F, out-SpecValue}
use Rattle.nxf_tree.specs.declared.tree.SpecItem.{SpecItem, SpecItem-F, out-SpecItem}
use Rattle.nxf_tree.specs.declared.tree.SpecItem.TheOpen as opened
use Rattle.nxf_tree.specs.declared.tree.LogicSpec.{LogicSpec}
use Rattle.nxf_tree.specs.declared.tree.Statement.{Statement}
use Rattle.nxf_tree.specs.declared.tree.Statement.TheVariants.{Annotated, Include}
use Rattle.nxf_tree.specs.declared.tree.Body.TheVariants.{Formula as IsFormula, Typing as IsTyping, Logic as IsLogic}
use Rattle.nxf_tree.specs.declared.tree.File.{File}
use Rattle.nxf_tree.specs.Names.{same_text}
use Rattle.nxf_tree.specs.Signature.{same_index}
use Rattle.nxf_tree.specs.Faults.{first_fault, unless}
use Rattle.nxf_tree.specs.SpecificationWords.{regime_named, designation_named, locality_named, is_choice, schemes_of}

-- what a file asks of its sorts, function symbols and indexes
pub record Specification : Type 0 where
  -- the number of the logic statement, counted from 1
  pub place : ℕ
  pub regime : SortName → Regime
  pub designation : List ℕ → Designation
  pub locality : List ℕ → Locality
  pub schemes : IndexName → List Scheme
  -- the overrides, in the order in which they stand
  pub overrides : List Override

-- whether the keys are the same, by kind and text
abbrev pub same_key : SpecKey → SpecKey → Bool
same_key (Dollar a) (Dollar b) = same_text a b
same_key (Name a) (Name b) = same_text a b
same_key (Index i) (Index j) = same_index i j
same_key _ _ = false

-- how a key is written in a message
abbrev pub key_text : SpecKey → List ℕ
key_text (Dollar t) = t
key_text (Name t) = t
key_text (Index Plain) = codes "[.]"
key_text (Index (Named a)) = codes "[#" ++ (a ++ codes "]")

-- the key of a setting
abbrev pub setting_name : Setting → List ℕ
setting_name Domains = codes "$domains"
setting_name Designations = codes "$designation"
setting_name Terms = codes "$terms"
setting_name Modalities = codes "$modalities"

-- the setting of a key, or None for an unknown one
abbrev pub setting_among : List Setting → SpecKey → Option Setting
setting_among [] key = None
setting_among (setting ∷ settings) key = if same_key (Dollar (setting_name setting)) key then Some setting else setting_among settings key

unfoldable pub setting_of : SpecKey → Option Setting
setting_of = setting_among (Domains ∷ Designations ∷ Terms ∷ Modalities ∷ [])

-- A value is a word or a list of words and overrides. What it says is as if one word were a list of it alone.

abbrev pub and_word : SpecItem-F SpecItem SpecValue SpecEntry → List (List ℕ) → List (List ℕ)
and_word (opened.SpecItem::Word word) words = word ∷ words
and_word (opened.Entry entry) words = words

-- the words of a list in order
abbrev pub words_of : List SpecItem → List (List ℕ)
words_of [] = []
words_of (item ∷ items) = and_word (out-SpecItem item) (words_of items)

abbrev pub and_override : SpecItem-F SpecItem SpecValue SpecEntry → List SpecEntry → List SpecEntry
and_override (opened.SpecItem::Word word) entries = entries
and_override (opened.Entry entry) entries = entry ∷ entries

-- the overrides of a list in order
abbrev pub overrides_of : List SpecItem → List SpecEntry
overrides_of [] = []
overrides_of (item ∷ items) = and_override (out-SpecItem item) (overrides_of items)

-- the words, and the overrides, of a value
abbrev pub words_in : SpecValue-F SpecItem SpecValue SpecEntry → List (List ℕ)
words_in (opened.SpecValue::Word word) = word ∷ []
words_in (opened.Items items) = words_of items

abbrev pub overrides_in : SpecValue-F SpecItem SpecValue SpecEntry → List SpecEntry
overrides_in (opened.SpecValue::Word word) = []
overrides_in (opened.Items items) = overrides_of items

-- the keys that an override may have: names and `$i` for domains, names for functions, indexes for modalities
unfoldable pub takes_key : Setting → SpecKey → Bool
takes_key Domains (Dollar t) = same_text t (codes "$i")
takes_key Domains (Name t) = true
takes_key Designations (Name t) = true
takes_key Terms (Name t) = true
takes_key Modalities (Index i) = true
takes_key _ _ = false

-- whether the list is empty
abbrev pub is_empty : {A : Type 0} → List A → Bool
is_empty [] = true
is_empty (x ∷ xs) = false

-- only modalities take a list of words
abbrev pub takes_list : Setting → List SpecItem → Bool
takes_list Domains items = false
takes_list Designations items = false
takes_list Terms items = false
takes_list Modalities items = is_empty (overrides_of items) && is_choice Modalities (words_of items)

-- the values that an override may have: one word, or a list of words that are a choice
abbrev pub takes_value : Setting → SpecValue-F SpecItem SpecValue SpecEntry → Bool
takes_value setting (opened.SpecValue::Word word) = is_choice setting (word ∷ [])
takes_value setting (opened.Items items) = takes_list setting items

-- whether one of the entries has the key
abbrev pub has_key : List SpecEntry → SpecKey → Bool
has_key entries key = list_any (λ (entry : SpecEntry). same_key entry.key key) entries

-- the fault of an item after the items before it: an override's key came before, or the item is not allowed there
abbrev pub item_fault : Setting → List SpecItem → SpecItem-F SpecItem SpecValue SpecEntry → Option SpecKind
item_fault setting before (opened.SpecItem::Word word) =
    if is_choice setting (words_of before ++ word ∷ []) then None else Some (UnknownValue (setting_name setting))
item_fault setting before (opened.Entry entry) =
    if has_key (overrides_of before) entry.key then Some (DuplicateKey (key_text entry.key))
    else (if takes_key setting entry.key && takes_value setting (out-SpecValue entry.value) then None else Some (UnknownValue (setting_name setting)))

-- the first fault of a value: its word is no choice, its list is empty, or an item has a fault
abbrev pub value_fault : Setting → SpecValue-F SpecItem SpecValue SpecEntry → Option SpecKind
value_fault setting (opened.SpecValue::Word word) = if is_choice setting (word ∷ []) then None else Some (UnknownValue (setting_name setting))
value_fault setting (opened.Items []) = Some (UnknownValue (setting_name setting))
value_fault setting (opened.Items (item ∷ items)) =
    option_map (λ fault. fault.1) (first_fault (λ before x. item_fault setting before (out-SpecItem x)) 0 [] (item ∷ items))

-- its key is unknown, or came before, or its value has a fault
abbrev pub setting_fault : Option Setting → List SpecEntry → SpecEntry → Option SpecKind
setting_fault None before entry = Some (UnknownKey (key_text entry.key))
setting_fault (Some setting) before entry =
    if has_key before entry.key then Some (DuplicateKey (key_text entry.key)) else value_fault setting (out-SpecValue entry.value)

-- the fault of an entry after the entries before it
abbrev pub entry_fault : List SpecEntry → SpecEntry → Option SpecKind
entry_fault before entry = setting_fault (setting_of entry.key) before entry

-- the first fault of a logic statement: its logic is not `$modal`, an entry has a fault, or there are no modalities
abbrev pub logic_fault : LogicSpec → Option SpecKind
logic_fault l =
    if not (same_text l.logic (codes "$modal")) then Some NotModal
    else option_or (option_map (λ fault. fault.1) (first_fault entry_fault 0 [] l.entries))
    (if has_key l.entries (Dollar (setting_name Modalities)) then None else Some NoModalities)

-- the overrides of the setting, and the words beside them, which are its default; none where no entry sets it
abbrev pub setting_overrides : Setting → List SpecEntry → List SpecEntry
setting_overrides setting [] = []
setting_overrides setting (entry ∷ entries) =
    if same_key (Dollar (setting_name setting)) entry.key then overrides_in (out-SpecValue entry.value) else setting_overrides setting entries

abbrev pub default_words : Setting → List SpecEntry → List (List ℕ)
default_words setting [] = []
default_words setting (entry ∷ entries) =
    if same_key (Dollar (setting_name setting)) entry.key then words_in (out-SpecValue entry.value) else default_words setting entries

-- the words of the override with the key, or else these
abbrev pub override_or : List (List ℕ) → List SpecEntry → SpecKey → List (List ℕ)
override_or default [] key = default
override_or default (entry ∷ entries) key = if same_key entry.key key then words_in (out-SpecValue entry.value) else override_or default entries key

-- the words that a setting has for a key: those of its override, else the default
abbrev pub words_for : Setting → List SpecEntry → SpecKey → List (List ℕ)
words_for setting entries key = override_or (default_words setting entries) (setting_overrides setting entries) key

-- the key of an override for the sort
abbrev pub sort_key : SortName → SpecKey
sort_key Individual = Dollar (codes "$i")
sort_key (User s) = Name s

-- the overrides of all entries in order, each with the key in whose list it stands
abbrev pub override_list : List SpecEntry → List Override
override_list [] = []
override_list (entry ∷ entries) =
    map (λ (o : SpecEntry). record { of = key_text entry.key; key = o.key }) (overrides_in (out-SpecValue entry.value)) ++ override_list entries

-- what the entries of the logic statement with number k say; unset, sorts are constant, functions rigid and local
abbrev pub specification : ℕ → List SpecEntry → Specification
specification k entries = record {
  place = k;
  regime = λ s. unwrap_or (option_and_then regime_named (slice_get (words_for Domains entries (sort_key s)) 0)) Constant;
  designation = λ f. unwrap_or (option_and_then designation_named (slice_get (words_for Designations entries (Name f)) 0)) Rigid;
  locality = λ f. unwrap_or (option_and_then locality_named (slice_get (words_for Terms entries (Name f)) 0)) Local;
  schemes = λ i. schemes_of (words_for Modalities entries (Index i));
  overrides = override_list entries;
}

-- the logic statements with their numbers, from number k on
abbrev pub logic_statements : ℕ → List Statement → List (ℕ × LogicSpec)
logic_statements k [] = []
logic_statements k (Annotated name role (IsLogic l) ∷ ss) = (k, l) ∷ logic_statements (suc k) ss
logic_statements k (Annotated name role (IsFormula f) ∷ ss) = logic_statements (suc k) ss
logic_statements k (Annotated name role (IsTyping t) ∷ ss) = logic_statements (suc k) ss
logic_statements k (Include file names ∷ ss) = logic_statements (suc k) ss

-- what the only one of these logic statements says, or the first refusal: there is none, or a second one, or it has a fault
abbrev pub only_logic : List (ℕ × LogicSpec) → Result Specification SpecKind
only_logic [] = Err Absent
only_logic (l ∷ []) = unless (logic_fault l.1) (specification l.0 l.1.entries)
only_logic (l ∷ m ∷ ls) = Err (Two m.0)

-- what the file's logic statement says, or the first refusal
abbrev pub spec_of : File → Result Specification SpecKind
spec_of file = only_logic (logic_statements 1 file.statements)
