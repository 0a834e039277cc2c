-- The spellings of the signs whose text goes into a tree.
use Rattle.std.specs.Prelude.{Bool, true, ◌||◌, IsTrue}
use Rattle.tptp_lex.specs.Shapes.{is_quoted, is_digits}
use Rattle.nxf_terminals.specs.declared.sign.Sign.{Sign}
use Rattle.nxf_terminals.specs.declared.sign.Sign.TheVariants as sign
use Rattle.nxf_terminals.specs.Input.{Spelling, Item}
use Rattle.nxf_tree.specs.Profiles.{Allowed}
use Rattle.nxf_base.specs.Bytes.{is_word_text, is_variable_text}

abbrev pub is_spelled : Allowed → Sign → Spelling → Bool
is_spelled allowed sign.Name a = is_word_text a || is_quoted 39 a
is_spelled allowed sign.Integer a = is_digits a
is_spelled allowed sign.Upper a = is_variable_text a
is_spelled allowed sign.Box a = allowed.modal
is_spelled allowed sign.Dia a = allowed.modal
is_spelled allowed sign.Less a = allowed.modal
is_spelled allowed sign.Hash a = allowed.modal
is_spelled allowed sign.Is a = allowed.modal
is_spelled allowed sign.Boxes a = allowed.modal
is_spelled allowed sign.Diamonds a = allowed.modal
is_spelled allowed sign.Distinct a = allowed.distinct
is_spelled allowed _ a = true

-- The item has a spelling of its sign, and a sign that a file may use.
abbrev pub IsSpelled : Allowed → Item → Type 0
IsSpelled allowed item = IsTrue (is_spelled allowed item.0 item.1)
