-- Descent through the tokens of a logic statement, as the code goes. That it reads exactly the grammar is a law.
use Rattle.std.specs.Prelude.{ℕ, zero, suc, Bool, true, false, [], length}
use Rattle.nxf_terminals.specs.declared.sign.Sign.{Sign}
use Rattle.nxf_terminals.specs.declared.sign.Sign.TheVariants as sign
use Rattle.nxf_terminals.specs.Signs.{is_dollar}
use Rattle.nxf_terminals.specs.Input.{Spelling, Input, Parser, ◌>>=◌, ◌>>◌, pure, refuse, peek, take_name, take_text, step, kind, next, expect}
use Rattle.nxf_tree.specs.declared.tree.IndexName.TheVariants as index
use Rattle.nxf_tree.specs.declared.tree.SpecKey.{SpecKey}
use Rattle.nxf_tree.specs.declared.tree.SpecKey.TheVariants as key
use Rattle.nxf_tree.specs.declared.tree.SpecValue.{SpecValue}
use Rattle.nxf_tree.specs.declared.tree.SpecValue.TheVariants as value
use Rattle.nxf_tree.specs.declared.tree.SpecItem.{SpecItem}
use Rattle.nxf_tree.specs.declared.tree.SpecItem.TheVariants as item
use Rattle.nxf_tree.specs.declared.tree.SpecEntry.{SpecEntry}
use Rattle.nxf_tree.specs.declared.tree.LogicSpec.{LogicSpec}
use Rattle.syntax_definitions.specs.steps.ReadFormulas.{index_text, long_index}
use Rattle.syntax_definitions.specs.Logic.{entry_of, logic_of}
use Rattle.syntax_definitions.specs.steps.ReadLists.{list_from}

abbrev pub dollar_key : Bool → Parser SpecKey
dollar_key true = do
  a ← take_text
  pure (key.Dollar a)
dollar_key false = refuse

abbrev pub key_by : Sign → Parser SpecKey
key_by sign.Name = do
  a ← take_name
  pure (key.Name a)
key_by sign.Box = do
  step
  pure (key.Index index.Plain)
key_by sign.LeftBracket = do
  step
  expect sign.Hash
  i ← index_text
  expect sign.RightBracket
  pure (key.Index (index.Named i))
key_by sign.LeftBrace = do
  step
  expect sign.Boxes
  i ← long_index
  pure (key.Index i)
key_by s = dollar_key (is_dollar s)

unfoldable pub spec_key : Parser SpecKey
spec_key = peek >>= key_by

abbrev pub entry_with : Parser SpecValue → Parser SpecEntry
entry_with one = do
  k ← spec_key
  expect sign.Is
  v ← one
  pure (entry_of k v)

-- whether a word stands here that is an item by itself
abbrev pub alone_by : Sign → Sign → Bool
alone_by first sign.Is = false
alone_by first _ = is_dollar first

unfoldable pub stands_alone : Input → Bool
stands_alone i = alone_by (kind i) (kind (next i))

module _ (entry : Parser SpecEntry) where
  abbrev pub item_if : Bool → Parser SpecItem
  item_if true = do
    a ← take_text
    pure (item.Word a)
  item_if false = do
    e ← entry
    pure (item.Entry e)

  unfoldable pub item_of : Parser SpecItem
  item_of = λ i. item_if (stands_alone i) i

abbrev pub dollar_value : Bool → Parser SpecValue
dollar_value true = do
  a ← take_text
  pure (value.Word a)
dollar_value false = refuse

module _ (one : Parser SpecItem) where
  -- after the opening bracket
  abbrev pub items_by : Sign → Parser SpecValue
  items_by sign.RightBracket = do
    step
    pure (value.Items [])
  items_by _ = do
    is ← (λ i. list_from one (length i) [] i)
    pure (value.Items is)

  abbrev pub value_by : Sign → Parser SpecValue
  value_by sign.LeftBracket = do
    step
    after ← peek
    items_by after
  value_by s = dollar_value (is_dollar s)

unfoldable pub value_of : ℕ → Parser SpecValue
value_of zero = peek >>= value_by (item_of refuse)
value_of (suc n) = peek >>= value_by (item_of (entry_with (value_of n)))

abbrev pub inner_entry : ℕ → Parser SpecEntry
inner_entry zero = refuse
inner_entry (suc n) = entry_with (value_of n)

abbrev pub entries_by : Parser SpecEntry → Spelling → Sign → Parser LogicSpec
entries_by one a sign.RightBracket = do
  step
  pure (logic_of a [])
entries_by one a _ = do
  es ← (λ i. list_from one (length i) [] i)
  pure (logic_of a es)

abbrev pub logic_if : Parser SpecEntry → Bool → Parser LogicSpec
logic_if one true = do
  a ← take_text
  expect sign.Is
  expect sign.LeftBracket
  after ← peek
  entries_by one a after
logic_if one false = refuse

unfoldable pub logic_spec : ℕ → Parser LogicSpec
logic_spec n = λ i. logic_if (entry_with (value_of n)) (is_dollar (kind i)) i
