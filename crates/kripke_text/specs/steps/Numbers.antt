-- Numbers of digits: the number before the others, read on digit by digit.
use Rattle.std.specs.Prelude.{ℕ, ◌+◌, ◌*◌, ◌-◌, Bool, List, [], ◌∷◌}
use Rattle.std.specs.List.{list_all}
use Rattle.nxf_base.specs.Bytes.{is_digit}

-- the number that digits make behind those of n
abbrev pub value_with : ℕ → List ℕ → ℕ
value_with n [] = n
value_with n (c ∷ cs) = value_with (n * 10 + (c - 48)) cs

abbrev pub are_digits : List ℕ → Bool
are_digits = list_all is_digit
