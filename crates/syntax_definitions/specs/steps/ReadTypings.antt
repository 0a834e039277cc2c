-- Descent through the tokens of a typing, as the code goes. That it reads exactly the grammar is a law.
use Rattle.std.specs.Prelude.{ℕ, zero, suc, Bool, true, false, List, [], ◌∷◌, ◌++◌, Option, Some, None}
use Rattle.nxf_terminals.specs.declared.sign.Sign.{Sign}
use Rattle.nxf_terminals.specs.declared.sign.Sign.TheVariants as sign
use Rattle.nxf_terminals.specs.Input.{Spelling, Input, Parser, ◌>>=◌, ◌>>◌, pure, refuse, peek, take_name, step, kind, next, expect}
use Rattle.nxf_tree.specs.declared.tree.SortName.{SortName}
use Rattle.nxf_tree.specs.declared.tree.Typing.{Typing}
use Rattle.nxf_tree.specs.declared.tree.Typing.TheVariants as typing
use Rattle.syntax_definitions.specs.steps.ReadFormulas.{sort_name}

abbrev pub result_by : Sign → Parser (Option SortName)
result_by sign.Truth = do
  step
  pure None
result_by _ = do
  s ← sort_name
  pure (Some s)

unfoldable pub result : Parser (Option SortName)
result = peek >>= result_by

-- after one of a list: the next, or the bracket that closes it
abbrev pub sorts_by : Parser (List SortName) → List SortName → Sign → Parser (List SortName)
sorts_by again found sign.Star = do
  step
  again
sorts_by again found sign.Close = do
  step
  pure found
sorts_by again found _ = refuse

unfoldable pub sorts_from : ℕ → List SortName → Parser (List SortName)
sorts_from zero found = refuse
sorts_from (suc k) found = do
  s ← sort_name
  after ← peek
  sorts_by (sorts_from k (found ++ s ∷ [])) (found ++ s ∷ []) after

-- whether sorts of arguments stand here, and no type in brackets, by what stands after the first of them
abbrev pub are_arguments_by : Sign → Sign → Bool
are_arguments_by sign.Star third = true
are_arguments_by sign.Close sign.Greater = true
are_arguments_by second third = false

unfoldable pub are_arguments : Input → Bool
are_arguments i = are_arguments_by (kind (next i)) (kind (next (next i)))

abbrev pub grouped : Parser Typing → Parser Typing
grouped inner = do
  t ← inner
  expect sign.Close
  pure t

module _ (name : Spelling) where
  abbrev pub symbol : List SortName → Parser Typing
  symbol ss = do
    expect sign.Greater
    r ← result
    pure (typing.Symbol name ss r)

  abbrev pub after_sort : SortName → Sign → Parser Typing
  after_sort s sign.Greater = do
    step
    r ← result
    pure (typing.Symbol name (s ∷ []) r)
  after_sort s _ = pure (typing.Symbol name [] (Some s))

  module _ (inner : Parser Typing) (arguments : Parser (List SortName)) where
    abbrev pub in_brackets : Bool → Parser Typing
    in_brackets true = do
      ss ← arguments
      symbol ss
    in_brackets false = grouped inner

    abbrev pub type_by : Sign → Parser Typing
    type_by sign.Open = do
      step
      (λ i. in_brackets (are_arguments i) i)
    type_by sign.Truth = do
      step
      pure (typing.Symbol name [] None)
    type_by _ = do
      s ← sort_name
      after ← peek
      after_sort s after

unfoldable pub type_of : ℕ → Spelling → ℕ → Parser Typing
type_of most name zero = peek >>= type_by name refuse refuse
type_of most name (suc n) = peek >>= type_by name (type_of most name n) (sorts_from most [])

abbrev pub named : Parser Typing → Spelling → Sign → Parser Typing
named type name sign.SortType = do
  step
  pure (typing.Sort name)
named type name _ = type

module _ (type : Spelling → Parser Typing) (inner : Parser Typing) where
  abbrev pub typing_by : Sign → Parser Typing
  typing_by sign.Open = do
    step
    grouped inner
  typing_by sign.Individual = do
    step
    expect sign.Colon
    expect sign.SortType
    pure typing.Individual
  typing_by sign.Name = do
    a ← take_name
    expect sign.Colon
    after ← peek
    named (type a) a after
  typing_by _ = refuse

unfoldable pub typing_of : ℕ → ℕ → Parser Typing
typing_of most zero = peek >>= typing_by (λ a. type_of most a zero) refuse
typing_of most (suc n) = peek >>= typing_by (λ a. type_of most a (suc n)) (typing_of most n)

-- by the levels that are left, which are all used up or not
abbrev pub inner_type : ℕ → Spelling → ℕ → Parser Typing
inner_type most name zero = refuse
inner_type most name (suc n) = type_of most name n

abbrev pub arguments : ℕ → ℕ → Parser (List SortName)
arguments most zero = refuse
arguments most (suc n) = sorts_from most []

abbrev pub inner_typing : ℕ → ℕ → Parser Typing
inner_typing most zero = refuse
inner_typing most (suc n) = typing_of most n

-- no `>` goes on with a type
abbrev pub ends_type : Sign → Bool
ends_type sign.Greater = false
ends_type _ = true
