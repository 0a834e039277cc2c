-- What a label says of the rows of its table.
use Rattle.std.specs.Prelude.{ℕ, suc, Bool, true, false, length, None, Some}
use Rattle.kripke_text_definitions.specs.KripkeText.{Label, Access, Exists, Symbol}

-- how many numbers a row of the table has
abbrev pub row_length : Label → ℕ
row_length (Access i) = 2
row_length (Exists s) = 2
row_length (Symbol name true args gives) = suc (length args)
row_length (Symbol name false args gives) = length args

-- whether the table has values
abbrev pub has_values : Label → Bool
has_values (Access i) = false
has_values (Exists s) = false
has_values (Symbol name with_world args None) = false
has_values (Symbol name with_world args (Some s)) = true
