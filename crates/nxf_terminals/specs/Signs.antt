-- What a token is to the grammar.
use Rattle.std.specs.Prelude.{ℕ, Bool, true, false, if◌then◌else◌, List, [], ◌∷◌, codes}
use Rattle.std.specs.Str.{bytes_eq}
use denote.Enum.Bare.{sameb}
use Rattle.nxf_base.specs.Bytes.{is_digit}
use Rattle.tptp_lex.specs.declared.token.Kind.{Kind}
use Rattle.tptp_lex.specs.declared.token.Kind.TheVariants as kind
use Rattle.nxf_terminals.specs.contracts.sign.Sign.{the_type}
use Rattle.nxf_terminals.specs.declared.sign.Sign.{Sign}
use Rattle.nxf_terminals.specs.declared.sign.Sign.TheVariants as sign
use Rattle.nxf_tree.specs.declared.profile.Profile.{Profile}
use Rattle.nxf_tree.specs.declared.profile.Profile.TheVariants as profiles

abbrev pub lookup : List (List ℕ × Sign) → Sign → List ℕ → Sign
lookup [] other spelling = other
lookup (e ∷ es) other spelling = if bytes_eq e.0 spelling then e.1 else lookup es other spelling

abbrev pub number : List ℕ → Sign
number [] = sign.Integer
number (b ∷ bs) = if is_digit b then number bs else sign.Other

abbrev pub punctuation : List (List ℕ × Sign)
punctuation =
    (codes "(", sign.Open) ∷
    (codes ")", sign.Close) ∷
    (codes "[", sign.LeftBracket) ∷
    (codes "]", sign.RightBracket) ∷
    (codes "{", sign.LeftBrace) ∷
    (codes "}", sign.RightBrace) ∷
    (codes ",", sign.Comma) ∷
    (codes ":", sign.Colon) ∷
    (codes ".", sign.Stop) ∷
    (codes "&", sign.And) ∷
    (codes "|", sign.Or) ∷
    (codes "~", sign.Not) ∷
    (codes "=>", sign.Implies) ∷
    (codes "<=", sign.ImpliedBy) ∷
    (codes "<=>", sign.Iff) ∷
    (codes "<~>", sign.Xor) ∷
    (codes "~|", sign.Nor) ∷
    (codes "~&", sign.Nand) ∷
    (codes "[.]", sign.Box) ∷
    (codes "<.>", sign.Dia) ∷
    (codes "!", sign.All) ∷
    (codes "?", sign.Exists) ∷
    (codes "=", sign.Equal) ∷
    (codes "!=", sign.Differ) ∷
    (codes "<", sign.Less) ∷
    (codes ">", sign.Greater) ∷
    (codes "#", sign.Hash) ∷
    (codes "@", sign.At) ∷
    (codes "*", sign.Star) ∷
    (codes "-", sign.Minus) ∷
    (codes "==", sign.Is) ∷
    []

abbrev pub words : List (List ℕ × Sign)
words =
    (codes "$true", sign.True) ∷
    (codes "$false", sign.False) ∷
    (codes "$i", sign.Individual) ∷
    (codes "$o", sign.Truth) ∷
    (codes "$tType", sign.SortType) ∷
    (codes "$box", sign.Boxes) ∷
    (codes "$necessary", sign.Boxes) ∷
    (codes "$dia", sign.Diamonds) ∷
    (codes "$possible", sign.Diamonds) ∷
    (codes "$distinct", sign.Distinct) ∷
    []

-- without modalities and logic statements
abbrev pub without_modal : Sign → Sign
without_modal sign.Box = sign.Other
without_modal sign.Dia = sign.Other
without_modal sign.Less = sign.Other
without_modal sign.Hash = sign.Other
without_modal sign.Is = sign.Other
without_modal sign.Boxes = sign.Other
without_modal sign.Diamonds = sign.Other
without_modal s = s

abbrev pub without_distinct : Sign → Sign
without_distinct sign.Distinct = sign.Dollar
without_distinct s = s

-- what the profile makes of a sign
abbrev pub allowed : Profile → Sign → Sign
allowed profiles.Problem s = without_distinct s
allowed profiles.Classical s = without_distinct (without_modal s)
allowed profiles.Interpretation s = without_modal s

unfoldable pub sign_of : Profile → Kind → List ℕ → Sign
sign_of p kind.Word spelling = sign.Name
sign_of p kind.Quoted spelling = sign.Name
sign_of p kind.Upper spelling = sign.Upper
sign_of p kind.Punct spelling = allowed p (lookup punctuation sign.Other spelling)
sign_of p kind.Dollar spelling = allowed p (lookup words sign.Dollar spelling)
sign_of p kind.Number spelling = number spelling
sign_of p kind.Distinct spelling = sign.Other

-- `==` on signs
unfoldable pub same_sign : Sign → Sign → Bool
same_sign = sameb the_type

abbrev pub is_dollar : Sign → Bool
is_dollar sign.True = true
is_dollar sign.False = true
is_dollar sign.Individual = true
is_dollar sign.Truth = true
is_dollar sign.SortType = true
is_dollar sign.Boxes = true
is_dollar sign.Diamonds = true
is_dollar sign.Distinct = true
is_dollar sign.Dollar = true
is_dollar _ = false
