-- Regular statements: names, roles and numbers of arguments are those that the grammar can spell, a body is of the kind
-- that its role asks for, and the statements use what the file may use.
use Rattle.std.specs.Prelude.{ℕ, Bool, true, false, ◌&&◌, nat_le, codes, if◌then◌else◌, List, length, Option, Some, None, IsTrue}
use Rattle.std.specs.List.{list_all}
use Rattle.nxf_tree.specs.Profiles.{Allowed}
use Rattle.nxf_base.specs.Bytes.{is_printable_text, is_word_text}
use Rattle.nxf_tree.specs.declared.tree.SortName.{SortName}
use Rattle.nxf_tree.specs.declared.tree.Typing.{Typing}
use Rattle.nxf_tree.specs.declared.tree.Typing.TheVariants as typing
use Rattle.nxf_tree.specs.declared.tree.SpecKey.{SpecKey}
use Rattle.nxf_tree.specs.declared.tree.SpecKey.TheVariants as key
use Rattle.nxf_tree.specs.declared.tree.SpecValue.{SpecValue, Items'}
use Rattle.nxf_tree.specs.declared.tree.SpecValue as value
use Rattle.nxf_tree.specs.declared.tree.SpecItem.{SpecItem, Entry'}
use Rattle.nxf_tree.specs.declared.tree.SpecItem.TheBlock.{Row_of-SpecItem, end_of-SpecItem, more_of-SpecItem}
use Rattle.nxf_tree.specs.declared.tree.SpecItem as item
use Rattle.nxf_tree.specs.declared.tree.SpecEntry.{SpecEntry}
use Rattle.nxf_tree.specs.declared.tree.Role.{Role}
use Rattle.nxf_tree.specs.declared.tree.Body.{Body}
use Rattle.nxf_tree.specs.declared.tree.Body.TheVariants as body
use Rattle.nxf_tree.specs.declared.tree.Statement.{Statement}
use Rattle.nxf_tree.specs.declared.tree.Statement.TheVariants as statement
use Rattle.nxf_tree.specs.declared.tree.File.{File}
use Rattle.nxf_tree.specs.RegularFormulas.{is_regular_sort, is_regular_index, is_regular_formula}
use Rattle.nxf_tree.specs.declared.tree.BodyKind.{BodyKind}
use Rattle.nxf_tree.specs.declared.tree.BodyKind.TheVariants as kinds
use Rattle.std.specs.Str.{bytes_eq}

abbrev pub is_regular_result : Option SortName → Bool
is_regular_result None = true
is_regular_result (Some s) = is_regular_sort s

abbrev pub is_regular_typing : Allowed → Typing → Bool
is_regular_typing allowed typing.Individual = true
is_regular_typing allowed (typing.Sort s) = is_printable_text s
is_regular_typing allowed (typing.Symbol f ss r) = is_printable_text f && (nat_le (length ss) allowed.arguments && (list_all is_regular_sort ss && is_regular_result r))

abbrev pub is_regular_key : SpecKey → Bool
is_regular_key (key.Dollar w) = true
is_regular_key (key.Name a) = is_printable_text a
is_regular_key (key.Index i) = is_regular_index i

abbrev mutual
  pub is_regular_value : SpecValue → Bool
  is_regular_value (value.Word w) = true
  is_regular_value (Items' shape is) = are_regular_items is

  pub is_regular_item : SpecItem → Bool
  is_regular_item (item.Word w) = true
  is_regular_item (Entry' k v) = is_regular_key k && is_regular_value v

  pub are_regular_items : {m : _} → Row_of-SpecItem m → Bool
  are_regular_items end_of-SpecItem = true
  are_regular_items (more_of-SpecItem i is) = is_regular_item i && are_regular_items is

abbrev pub is_regular_entry : SpecEntry → Bool
is_regular_entry e = is_regular_key e.key && is_regular_value e.value

abbrev pub is_regular_suffix : Option (List ℕ) → Bool
is_regular_suffix None = true
is_regular_suffix (Some b) = is_word_text b

abbrev pub is_regular_role : Role → Bool
is_regular_role role = is_word_text role.word && is_regular_suffix role.suffix

-- by the role's first word
abbrev pub body_kind : List ℕ → BodyKind
body_kind w = if bytes_eq w (codes "type") then kinds.Typing else (if bytes_eq w (codes "logic") then kinds.Logic else kinds.Formula)

-- a typing exactly where the role asks for one, and so for a logic specification
abbrev pub is_body_of : BodyKind → Body → Bool
is_body_of kinds.Typing (body.Typing t) = true
is_body_of kinds.Logic (body.Logic l) = true
is_body_of kinds.Formula (body.Formula f) = true
is_body_of _ _ = false

abbrev pub is_regular_body : Allowed → Body → Bool
is_regular_body allowed (body.Typing t) = is_regular_typing allowed t
is_regular_body allowed (body.Logic l) = allowed.modal && list_all is_regular_entry l.entries
is_regular_body allowed (body.Formula f) = is_regular_formula allowed f

abbrev pub are_regular_names : Option (List (List ℕ)) → Bool
are_regular_names None = true
are_regular_names (Some names) = list_all is_printable_text names

abbrev pub is_regular_statement : Allowed → Statement → Bool
is_regular_statement allowed (statement.Annotated name role b) = is_printable_text name && (is_regular_role role && (is_body_of (body_kind role.word) b && is_regular_body allowed b))
is_regular_statement allowed (statement.Include file names) = allowed.modal && (is_printable_text file && are_regular_names names)

-- The file is regular, and uses what it may use.
abbrev pub IsRegular : Allowed → File → Type 0
IsRegular allowed file = IsTrue (list_all (is_regular_statement allowed) file.statements)
