-- Classes of bytes of ASCII, and the texts of TPTP that are made of them.
use Rattle.std.specs.Prelude.{ℕ, Bool, false, not, ◌&&◌, ◌||◌, nat_le, ◌==◌, List, [], ◌∷◌}
use Rattle.std.specs.Char.{is_ascii_alphanumeric}
use Rattle.std.specs.List.{list_all}

-- a tab, a line feed, a form feed, a vertical tab, a carriage return or a space
abbrev pub is_blank : ℕ → Bool
is_blank b = (nat_le 9 b && nat_le b 13) || b == 32

abbrev pub is_lower : ℕ → Bool
is_lower b = nat_le 97 b && nat_le b 122

abbrev pub is_upper : ℕ → Bool
is_upper b = nat_le 65 b && nat_le b 90

abbrev pub is_digit : ℕ → Bool
is_digit b = nat_le 48 b && nat_le b 57

-- a letter, a digit or `_`
abbrev pub is_name_byte : ℕ → Bool
is_name_byte b = is_ascii_alphanumeric b || b == 95

-- the same, or `$`
abbrev pub is_word_byte : ℕ → Bool
is_word_byte b = is_ascii_alphanumeric b || b == 95 || b == 36

-- no line feed
abbrev pub is_in_line : ℕ → Bool
is_in_line b = not (b == 10)

-- a byte that passes the first test, and then any number that pass the second
abbrev pub begins_then : (ℕ → Bool) → (ℕ → Bool) → List ℕ → Bool
begins_then first others [] = false
begins_then first others (b ∷ bs) = first b && list_all others bs

-- a printable byte of ASCII, or a space
abbrev pub is_printable_byte : ℕ → Bool
is_printable_byte b = nat_le 32 b && nat_le b 126

-- one byte or more, each from 32 to 126
abbrev pub is_printable_text : List ℕ → Bool
is_printable_text = begins_then is_printable_byte is_printable_byte

-- a word of TPTP
abbrev pub is_word_text : List ℕ → Bool
is_word_text = begins_then is_lower is_word_byte

-- a variable of TPTP
abbrev pub is_variable_text : List ℕ → Bool
is_variable_text = begins_then is_upper is_name_byte
