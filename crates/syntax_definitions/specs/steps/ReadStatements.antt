-- Descent through the tokens of a statement, as the code goes. That it reads exactly the grammar is a law.
use Rattle.std.specs.Prelude.{ℕ, Bool, true, false, [], length, Some, None}
use Rattle.nxf_terminals.specs.declared.sign.Sign.{Sign}
use Rattle.nxf_terminals.specs.declared.sign.Sign.TheVariants as sign
use Rattle.nxf_terminals.specs.Names.{is_word}
use Rattle.nxf_terminals.specs.Input.{Spelling, Parser, ◌>>=◌, ◌>>◌, pure, refuse, peek, take_name, take_text, step, text, expect}
use Rattle.nxf_tree.specs.declared.tree.Role.{Role}
use Rattle.nxf_tree.specs.declared.tree.Body.{Body}
use Rattle.nxf_tree.specs.declared.tree.Body.TheVariants as body
use Rattle.nxf_tree.specs.declared.tree.Statement.{Statement}
use Rattle.nxf_tree.specs.declared.tree.Statement.TheVariants as statement
use Rattle.syntax_definitions.specs.steps.ReadFormulas.{index_text}
use Rattle.syntax_definitions.specs.steps.ReadFormulas as formulas
use Rattle.nxf_tree.specs.declared.tree.BodyKind.{BodyKind}
use Rattle.nxf_tree.specs.declared.tree.BodyKind.TheVariants as kinds
use Rattle.syntax_definitions.specs.declared.keyword.Keyword.{Keyword}
use Rattle.syntax_definitions.specs.declared.keyword.Keyword.TheVariants as keyword
use Rattle.syntax_definitions.specs.steps.ReadLists.{list_from}
use Rattle.syntax_definitions.specs.steps.ReadTypings.{typing_of}
use Rattle.syntax_definitions.specs.steps.ReadLogic.{logic_spec}
use Rattle.syntax_definitions.specs.Annotations.{annotation}
use Rattle.syntax_definitions.specs.Statements.{role_of, keyword_of}
use Rattle.nxf_tree.specs.Regular.{body_kind}

abbrev pub word_if : Bool → Parser Spelling
word_if true = take_text
word_if false = refuse

abbrev pub word_by : Sign → Parser Spelling
word_by sign.Name = λ i. word_if (is_word (text i)) i
word_by _ = refuse

unfoldable pub word : Parser Spelling
word = peek >>= word_by

abbrev pub name_by : Sign → Parser Spelling
name_by sign.Name = take_name
name_by _ = refuse

unfoldable pub name : Parser Spelling
name = peek >>= name_by

abbrev pub suffix : Spelling → Sign → Parser Role
suffix a sign.Minus = do
  step
  b ← word
  pure (role_of a (Some b))
suffix a _ = pure (role_of a None)

unfoldable pub role : Parser Role
role = do
  a ← word
  after ← peek
  suffix a after

abbrev pub body_of : ℕ → ℕ → BodyKind → Parser Body
body_of most n kinds.Typing = do
  t ← typing_of most n
  pure (body.Typing t)
body_of most n kinds.Logic = do
  l ← logic_spec n
  pure (body.Logic l)
body_of most n kinds.Formula = do
  f ← formulas.formula most n
  pure (body.Formula f)

-- the end of a statement
unfoldable pub ended : Statement → Parser Statement
ended s = do
  expect sign.Close
  expect sign.Stop
  pure s

abbrev pub noted : Statement → Sign → Parser Statement
noted s sign.Comma = do
  step
  annotation
  ended s
noted s _ = ended s

unfoldable pub annotated : ℕ → ℕ → Parser Statement
annotated most n = do
  label ← index_text
  expect sign.Comma
  r ← role
  expect sign.Comma
  b ← body_of most n (body_kind r.word)
  after ← peek
  noted (statement.Annotated label r b) after

abbrev pub included : Spelling → Sign → Parser Statement
included file sign.Comma = do
  step
  expect sign.LeftBracket
  names ← (λ i. list_from index_text (length i) [] i)
  ended (statement.Include file (Some names))
included file _ = ended (statement.Include file None)

unfoldable pub include : Parser Statement
include = do
  file ← name
  after ← peek
  included file after

abbrev pub statement_after : ℕ → ℕ → Keyword → Parser Statement
statement_after most n keyword.Tff = do
  step
  expect sign.Open
  annotated most n
statement_after most n keyword.Include = do
  step
  expect sign.Open
  include
statement_after most n keyword.Other = refuse

abbrev pub statement_by : Bool → ℕ → ℕ → Sign → Parser Statement
statement_by with_includes most n sign.Name = λ i. statement_after most n (keyword_of with_includes (text i)) i
statement_by with_includes most n _ = refuse

unfoldable pub read_statement : Bool → ℕ → ℕ → Parser Statement
read_statement with_includes most n = peek >>= statement_by with_includes most n
