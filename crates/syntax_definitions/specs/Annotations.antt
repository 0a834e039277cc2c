-- Annotations: tokens in which brackets balance, none of them a full stop.
use Rattle.std.specs.Prelude.{◌≡◌, ◌<◌, if◌then◌else◌, Bool, true, false, List, [], ◌∷◌, length, Option, Some, None}
use Rattle.nxf_terminals.specs.declared.sign.Sign.{Sign}
use Rattle.nxf_terminals.specs.declared.sign.Sign.TheVariants as sign
use Rattle.nxf_terminals.specs.Signs.{same_sign}
use Rattle.nxf_terminals.specs.Input.{Spelling, Input, Parser, Outcome, sees}

-- the brackets that close the open ones, the innermost first
abbrev pub Open : Type 0
Open = List Sign

abbrev pub closed : Sign → Open → Option Open
closed s [] = None
closed s (c ∷ open_ones) = if same_sign c s then Some open_ones else None

-- what a token makes of them
abbrev pub advance : Sign → Open → Option Open
advance sign.Stop open_ones = None
advance sign.Open open_ones = Some (sign.Close ∷ open_ones)
advance sign.LeftBracket open_ones = Some (sign.RightBracket ∷ open_ones)
advance sign.LeftBrace open_ones = Some (sign.RightBrace ∷ open_ones)
advance sign.Close open_ones = closed sign.Close open_ones
advance sign.RightBracket open_ones = closed sign.RightBracket open_ones
advance sign.RightBrace open_ones = closed sign.RightBrace open_ones
advance _ open_ones = Some open_ones

-- tokens that close all open brackets, and each that they open
pub data Balances : Open → Input → Input → Type 0 where
  balanced : {xs : Input} → Balances [] xs xs
  token : {s t : Open} {j : Sign} {a : Spelling} {xs rest : Input} → advance j s ≡ Some t → Balances t xs rest → Balances s ((j, a) ∷ xs) rest

-- one token or more
pub record IsAnnotation (xs rest : Input) : Type 0 where
  pub balances : Balances [] xs rest
  pub some : length rest < length xs

-- ---- the descent

-- the bracket that closes the statement
abbrev pub is_last : Sign → Open → Bool
is_last sign.Close [] = true
is_last _ open_ones = false

abbrev pub continued : Option Open → (Open → Outcome (Unit {0})) → Outcome (Unit {0})
continued None again = None
continued (Some open_ones) again = again open_ones

unfoldable pub balance : Input → Open → Outcome (Unit {0})
balance [] open_ones = None
balance (x ∷ xs) open_ones = if is_last x.0 open_ones then Some (tt, x ∷ xs) else continued (advance x.0 open_ones) (λ more. balance xs more)

unfoldable pub annotation : Parser (Unit {0})
annotation i = if sees sign.Close i then None else balance i []
