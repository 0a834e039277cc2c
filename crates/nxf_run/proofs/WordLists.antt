-- Numerals.
use Rattle.std.proofs.Common.{◌≡◌, ◌≤◌, ◌<◌, ◌+◌, ◌-◌, ℕ, suc, Bool, false, List, refl, arith, decimal}
use Rattle.std.specs.Prelude.{◌||◌}
use Rattle.std.specs.List.{list_any, range_with_len}
use Rattle.nxf_tree.specs.Names.{same_text}
use Rattle.nxf_run.specs.Forms.{is_number}

-- ---- numerals

abbrev pub is_numeral : List ℕ → ℕ → Bool
is_numeral word n = same_text (decimal n) word

pub numerals : (word : List ℕ) → is_number word ≡ list_any (λ n. same_text (decimal n) word) (range_with_len 1 200)
unfolding is_number
numerals word = refl

pub next_numeral : (word : List ℕ) (n : ℕ) → n ≤ 200 → list_any (is_numeral word) (range_with_len n (201 - n)) ≡ (is_numeral word n || list_any (is_numeral word) (range_with_len (n + 1) (201 - (n + 1))))
next_numeral word n h =
    let more : 201 - n ≡ suc (200 - n) = omega arith in
    let rest : 201 - (n + 1) ≡ 200 - n = omega arith in
    rw (more, rest) refl

pub no_numeral : (word : List ℕ) (n : ℕ) → 200 < n → n ≤ 201 → list_any (is_numeral word) (range_with_len n (201 - n)) ≡ false
no_numeral word n h k = let none : 201 - n ≡ 0 = omega arith in rw none refl
