-- The table of punctuation.
use Rattle.std.specs.Prelude.{ℕ, ◌==◌, List, [], ◌∷◌, codes}

-- the punctuation of TPTP that lexes whatever follows, so all but `/`; each before those that it begins with
abbrev pub punctuation : List (List ℕ)
punctuation =
    codes "<=>" ∷ codes "<~>" ∷ codes "<.>" ∷ codes "[.]" ∷ codes "<=" ∷ codes "=>" ∷ codes "==" ∷ codes "!=" ∷ codes "~|" ∷ codes "~&" ∷ codes "(" ∷ codes ")" ∷ codes "[" ∷ codes "]" ∷
    codes "{" ∷ codes "}" ∷ codes "," ∷ codes "." ∷ codes ":" ∷ codes "=" ∷ codes "!" ∷ codes "?" ∷ codes "&" ∷ codes "|" ∷ codes "~" ∷ codes "<" ∷ codes ">" ∷ codes "@" ∷ codes "#" ∷ codes "*" ∷ codes "+" ∷ codes "-" ∷ codes "^" ∷ []
