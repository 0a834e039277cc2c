-- What a parser reads from, and the steps that every rule is made of.
use Rattle.std.specs.Prelude.{◌≡◌, ◌≢◌, ℕ, Bool, if◌then◌else◌, List, [], ◌∷◌, map, Option, Some, None, Result, Ok, Err}
use Rattle.tptp_lex.specs.declared.token.Token.{Token}
use Rattle.nxf_terminals.specs.declared.sign.Sign.{Sign}
use Rattle.nxf_terminals.specs.declared.sign.Sign.TheVariants as sign
use Rattle.nxf_terminals.specs.declared.error.GrammarError.{GrammarError}
use Rattle.nxf_terminals.specs.declared.error.GrammarError.TheVariants.{Memory}
use Rattle.nxf_terminals.specs.Signs.{sign_of, same_sign}
use Rattle.tptp_lex.specs.Texts.{token_text, spelling_of}
use Rattle.nxf_tree.specs.declared.profile.Profile.{Profile}

abbrev pub Spelling : Type 0
Spelling = List ℕ

-- a token: what it is to the grammar, and its spelling
abbrev pub Item : Type 0
Item = Sign × Spelling

abbrev pub Input : Type 0
Input = List Item

abbrev pub item_of : Profile → List ℕ → Token → Item
item_of profile bytes token = (sign_of profile token.kind (spelling_of bytes token), spelling_of bytes token)

abbrev pub input_of : Profile → List ℕ → List Token → Input
input_of profile bytes tokens = map (item_of profile bytes) tokens

-- ---- the next token

abbrev pub kind : Input → Sign
kind [] = sign.End
kind (item ∷ rest) = item.0

abbrev pub text : Input → Spelling
text [] = []
text (item ∷ rest) = item.1

abbrev pub next : Input → Input
next [] = []
next (item ∷ rest) = rest

-- ---- parsers

abbrev pub Outcome : Type 0 → Type 0
Outcome A = Option (A × Input)

abbrev pub Parser : Type 0 → Type 0
Parser A = Input → Outcome A

abbrev pub and_then : {A B : Type 0} → Outcome A → (A → Parser B) → Outcome B
and_then None f = None
and_then (Some p) f = f p.0 p.1

infixl 10 ◌>>=◌
abbrev pub ◌>>=◌ : {A B : Type 0} → Parser A → (A → Parser B) → Parser B
p >>= f = λ i. and_then (p i) f

infixl 10 ◌>>◌
abbrev pub ◌>>◌ : {A B : Type 0} → Parser A → Parser B → Parser B
p >> q = p >>= (λ _. q)

abbrev pub pure : {A : Type 0} → A → Parser A
pure a = λ i. Some (a, i)

abbrev pub refuse : {A : Type 0} → Parser A
refuse = λ i. None

abbrev pub peek : Parser Sign
peek = λ i. Some (kind i, i)

abbrev pub take_text : Parser Spelling
take_text = λ i. Some (text i, next i)

-- the text of a name, or of an integer
abbrev pub take_name : Parser Spelling
take_name = λ i. Some (token_text (text i), next i)

abbrev pub step : Parser (Unit {0})
step = λ i. Some (tt, next i)

unfoldable pub sees : Sign → Input → Bool
sees s i = same_sign (kind i) s

unfoldable pub after : Sign → Input → Input
after s i = if sees s i then next i else i

-- takes a token of this kind, if it comes next
abbrev pub eat : Sign → Parser Bool
eat s = λ i. Some (sees s i, after s i)

unfoldable pub expect : Sign → Parser (Unit {0})
expect s = λ i. if sees s i then Some (tt, next i) else None

-- What a function that parses ensures: the parser's outcome, unless memory fails.
abbrev pub Gives : {A : Type 0} → Outcome A → Result A GrammarError → Input → Type 0
Gives outcome (Ok a) new = outcome ≡ Some (a, new)
Gives outcome (Err e) new = e ≢ Memory → outcome ≡ None

-- The result is this one, unless there was no memory.
abbrev pub IsUnlessMemory : {A : Type 0} → Result A GrammarError → Result A GrammarError → Type 0
IsUnlessMemory result answer = result ≢ Err Memory → result ≡ answer
