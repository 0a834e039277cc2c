-- Logic statements. n counts the levels that are left.
use Rattle.std.specs.Prelude.{◌≡◌, ℕ, suc, true, List, [], ◌∷◌}
use Rattle.nxf_terminals.specs.declared.sign.Sign.{Sign}
use Rattle.nxf_terminals.specs.declared.sign.Sign.TheVariants as sign
use Rattle.tptp_lex.specs.Texts.{token_text}
use Rattle.nxf_terminals.specs.Signs.{is_dollar}
use Rattle.nxf_terminals.specs.Input.{Spelling, Input}
use Rattle.nxf_tree.specs.declared.tree.IndexName.{IndexName}
use Rattle.nxf_tree.specs.declared.tree.IndexName.TheVariants as index
use Rattle.nxf_tree.specs.declared.tree.SpecKey.{SpecKey}
use Rattle.nxf_tree.specs.declared.tree.SpecKey.TheVariants as key
use Rattle.nxf_tree.specs.declared.tree.SpecValue.{SpecValue}
use Rattle.nxf_tree.specs.declared.tree.SpecValue.TheVariants as value
use Rattle.nxf_tree.specs.declared.tree.SpecItem.{SpecItem}
use Rattle.nxf_tree.specs.declared.tree.SpecItem.TheVariants as item
use Rattle.nxf_tree.specs.declared.tree.SpecEntry.{SpecEntry}
use Rattle.nxf_tree.specs.declared.tree.LogicSpec.{LogicSpec}
use Rattle.syntax_definitions.specs.Formulas.{IsIndex, IsLongIndex}

-- what a setting or an override is for
pub data IsKey : Input → SpecKey → Input → Type 0 where
  dollar : {j : Sign} {a : Spelling} {rest : Input} → is_dollar j ≡ true → IsKey ((j, a) ∷ rest) (key.Dollar a) rest
  name : {a : Spelling} {rest : Input} → IsKey ((sign.Name, a) ∷ rest) (key.Name (token_text a)) rest
  box : {a : Spelling} {rest : Input} → IsKey ((sign.Box, a) ∷ rest) (key.Index index.Plain) rest
  box_of : {b h c i : Spelling} {xs rest : Input} → IsIndex xs i ((sign.RightBracket, c) ∷ rest) → IsKey ((sign.LeftBracket, b) ∷ (sign.Hash, h) ∷ xs) (key.Index (index.Named i)) rest
  long : {b w : Spelling} {xs rest : Input} {i : IndexName} → IsLongIndex xs i rest → IsKey ((sign.LeftBrace, b) ∷ (sign.Boxes, w) ∷ xs) (key.Index i) rest

-- The entry of a key and a value, as the trees hold it.
abbrev pub entry_of : SpecKey → SpecValue → SpecEntry
entry_of k v = record { key = k; value = v }

mutual
  -- the value of an entry: a word, or a list of words and entries
  pub data IsValue : ℕ → Input → SpecValue → Input → Type 0 where
    word : {n : ℕ} {j : Sign} {a : Spelling} {rest : Input} → is_dollar j ≡ true → IsValue n ((j, a) ∷ rest) (value.Word a) rest
    none : {n : ℕ} {a b : Spelling} {rest : Input} → IsValue n ((sign.LeftBracket, a) ∷ (sign.RightBracket, b) ∷ rest) (value.Items []) rest
    items : {n : ℕ} {a : Spelling} {xs rest : Input} {is : List SpecItem} → AreItems n xs is rest → IsValue n ((sign.LeftBracket, a) ∷ xs) (value.Items is) rest

  -- one item or more, and the bracket that closes them
  pub data AreItems : ℕ → Input → List SpecItem → Input → Type 0 where
    last_item : {n : ℕ} {c : Spelling} {xs rest : Input} {i : SpecItem} → IsItem n xs i ((sign.RightBracket, c) ∷ rest) → AreItems n xs (i ∷ []) rest
    more_items : {n : ℕ} {c : Spelling} {xs mid rest : Input} {i : SpecItem} {is : List SpecItem} → IsItem n xs i ((sign.Comma, c) ∷ mid) → AreItems n mid is rest → AreItems n xs (i ∷ is) rest

  -- a value in an item stands one deeper than the value that holds the item
  pub data IsItem : ℕ → Input → SpecItem → Input → Type 0 where
    word_item : {n : ℕ} {j : Sign} {a : Spelling} {rest : Input} → is_dollar j ≡ true → IsItem n ((j, a) ∷ rest) (item.Word a) rest
    entry_item : {n : ℕ} {xs rest : Input} {e : SpecEntry} → IsEntry n xs e rest → IsItem (suc n) xs (item.Entry e) rest

  -- an entry: a key, `==` and its value
  pub data IsEntry : ℕ → Input → SpecEntry → Input → Type 0 where
    entry : {n : ℕ} {e : Spelling} {xs mid rest : Input} {k : SpecKey} {v : SpecValue} → IsKey xs k ((sign.Is, e) ∷ mid) → IsValue n mid v rest → IsEntry n xs (entry_of k v) rest

-- one entry or more, and the bracket that closes them
pub data AreEntries : ℕ → Input → List SpecEntry → Input → Type 0 where
  last_entry : {n : ℕ} {c : Spelling} {xs rest : Input} {e : SpecEntry} → IsEntry n xs e ((sign.RightBracket, c) ∷ rest) → AreEntries n xs (e ∷ []) rest
  more_entries : {n : ℕ} {c : Spelling} {xs mid rest : Input} {e : SpecEntry} {es : List SpecEntry} → IsEntry n xs e ((sign.Comma, c) ∷ mid) → AreEntries n mid es rest → AreEntries n xs (e ∷ es) rest

abbrev pub logic_of : Spelling → List SpecEntry → LogicSpec
logic_of a es = record { logic = a; entries = es }

-- a logic specification: the name of a logic, `==` and its entries in square brackets
pub data IsLogic : ℕ → Input → LogicSpec → Input → Type 0 where
  no_entries : {n : ℕ} {j : Sign} {a s b c : Spelling} {rest : Input} → is_dollar j ≡ true → IsLogic n ((j, a) ∷ (sign.Is, s) ∷ (sign.LeftBracket, b) ∷ (sign.RightBracket, c) ∷ rest) (logic_of a []) rest
  entries : {n : ℕ} {j : Sign} {a s b : Spelling} {xs rest : Input} {es : List SpecEntry} → is_dollar j ≡ true → AreEntries n xs es rest → IsLogic n ((j, a) ∷ (sign.Is, s) ∷ (sign.LeftBracket, b) ∷ xs) (logic_of a es) rest
