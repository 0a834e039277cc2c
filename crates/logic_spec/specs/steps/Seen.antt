-- What the judge of a list keeps of the items before: enough for the fault of the next one.
use Rattle.std.specs.Prelude.{Bool, false, ◌&&◌, ◌||◌, if◌then◌else◌, List, Option, None, Some}
use Rattle.std.specs.List.{list_all}
use Rattle.indexmap.specs.IndexSet.{contains}
use Rattle.nxf_base.specs.declared.status.SpecKind.{SpecKind}
use Rattle.nxf_base.specs.declared.status.SpecKind.TheVariants.{DuplicateKey, UnknownValue}
use Rattle.nxf_tree.specs.declared.tree.IndexName.TheVariants.{Plain, Named}
use Rattle.nxf_tree.specs.declared.tree.Setting.{Setting}
use Rattle.nxf_tree.specs.declared.tree.SpecKey.{SpecKey}
use Rattle.nxf_tree.specs.declared.tree.SpecKey.TheVariants.{Dollar, Name, Index}
use Rattle.nxf_tree.specs.declared.tree.SpecEntry.{SpecEntry}
use Rattle.nxf_tree.specs.declared.tree.SpecValue.{SpecValue, out-SpecValue}
use Rattle.nxf_tree.specs.declared.tree.SpecItem.{SpecItem, SpecItem-F}
use Rattle.nxf_tree.specs.declared.tree.SpecItem.TheOpen as opened
use Rattle.nxf_tree.specs.Names.{same_text}
use Rattle.nxf_tree.specs.SpecificationWords.{stands_alone, joins}
use Rattle.nxf_tree.specs.Specification.{same_key, key_text, setting_name, words_of, overrides_of, is_empty, has_key, takes_key, takes_value}
use Rattle.logic_spec.specs.declared.seen.SeenKeys.{SeenKeys}
use Rattle.logic_spec.specs.declared.seen.Seen.{Seen}

-- whether no item is a word, whether all words join, and which keys have an override
pub record Before : Type 0 where
  pub no_word : Bool
  pub all_join : Bool
  pub has_override : SpecKey → Bool

-- what holds of these items
abbrev pub before : Setting → List SpecItem → Before
before setting items =
    record { no_word = is_empty (words_of items); all_join = list_all (joins setting) (words_of items); has_override = has_key (overrides_of items) }

-- the fault of an item after items of which this holds
abbrev pub fault_after : Setting → Before → SpecItem-F SpecItem SpecValue SpecEntry → Option SpecKind
fault_after setting b (opened.SpecItem::Word word) =
    if (b.no_word && stands_alone setting word) || (b.all_join && joins setting word) then None else Some (UnknownValue (setting_name setting))
fault_after setting b (opened.Entry entry) =
    if b.has_override entry.key then Some (DuplicateKey (key_text entry.key))
    else (if takes_key setting entry.key && takes_value setting (out-SpecValue entry.value) then None else Some (UnknownValue (setting_name setting)))

-- what holds of the items and this one
abbrev pub and_item : Setting → Before → SpecItem-F SpecItem SpecValue SpecEntry → Before
and_item setting b (opened.SpecItem::Word word) = record { no_word = false; all_join = b.all_join && joins setting word; has_override = b.has_override }
and_item setting b (opened.Entry entry) =
    record { no_word = b.no_word; all_join = b.all_join; has_override = λ key. b.has_override key || same_key entry.key key }

-- whether the key was seen
abbrev pub is_seen : SeenKeys → SpecKey → Bool
is_seen keys (Dollar t) = contains same_text keys.words t
is_seen keys (Name t) = contains same_text keys.names t
is_seen keys (Index Plain) = keys.unindexed
is_seen keys (Index (Named a)) = contains same_text keys.indexes a

-- what was seen
abbrev pub known : Seen → Before
known seen = record { no_word = seen.no_word; all_join = seen.all_join; has_override = is_seen seen.keys }
