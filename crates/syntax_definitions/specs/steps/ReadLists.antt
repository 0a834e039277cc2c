-- A list in square brackets, from its first item on, with commas between.
use Rattle.std.specs.Prelude.{ℕ, zero, suc, List, [], ◌∷◌, ◌++◌}
use Rattle.nxf_terminals.specs.declared.sign.Sign.{Sign}
use Rattle.nxf_terminals.specs.declared.sign.Sign.TheVariants as sign
use Rattle.nxf_terminals.specs.Input.{Parser, ◌>>=◌, ◌>>◌, pure, refuse, peek, step}

-- after an item: the next, or the bracket that closes the list
abbrev pub list_by : {A : Type 0} → Parser (List A) → List A → Sign → Parser (List A)
list_by again found sign.Comma = do
  step
  again
list_by again found sign.RightBracket = do
  step
  pure found
list_by again found _ = refuse

unfoldable pub list_from : {A : Type 0} → Parser A → ℕ → List A → Parser (List A)
list_from one zero found = refuse
list_from one (suc k) found = do
  a ← one
  after ← peek
  list_by (list_from one k (found ++ a ∷ [])) (found ++ a ∷ []) after
