-- What digits make.
use Rattle.std.proofs.Common.{◌≡◌, ℕ, zero, suc, ◌+◌, ◌*◌, ◌-◌, ◌<◌, ◌≤◌, ◌^◌, true, List, [], ◌∷◌, ◌++◌, map, Option, Some, None, refl, sym, ap, ◌∙◌, arith}
use Rattle.std.specs.Int.Digits.{digits_of, AllBelowBase, number_from_digits_after}
use Rattle.std.proofs.lemmas.Int.Digits.{all_below_base_digits_of, number_digits_of}
use Rattle.std.specs.Option.{IfNone}
use Rattle.std.proofs.lemmas.List.{append_cancel_left}
use Rattle.std.proofs.lemmas.Bool.{and_parts, and_from}
use Rattle.std.proofs.lemmas.Bool.Decides.{nat_tests}
use Rattle.nxf_base.specs.Bytes.{is_digit}
use Rattle.nxf_tree.specs.Names.{numeral}
use Rattle.kripke_text.specs.steps.Numbers.{value_with, are_digits}

value_digits : (n : ℕ) (ds : List ℕ) → value_with n (map (λ digit. 48 + digit) ds) ≡ number_from_digits_after 10 n ds
value_digits n [] = refl
value_digits n (d ∷ ds) =
    let e : n * 10 + ((48 + d) - 48) ≡ n * 10 + d = omega arith in
    ap (λ (m : ℕ). value_with m (map (λ digit. 48 + digit) ds)) e ∙ value_digits (n * 10 + d) ds

pub numeral_value : (n : ℕ) → value_with 0 (numeral n) ≡ n
numeral_value zero = refl
numeral_value (suc n) = value_digits 0 (digits_of 10 (suc n)) ∙ number_digits_of 10 (suc n) (omega arith)

digit_is : (d : ℕ) → d < 10 → is_digit (48 + d) ≡ true
digit_is d h = grind (arith, nat_tests)

digits_are : (ds : List ℕ) → AllBelowBase 10 ds → are_digits (map (λ digit. 48 + digit) ds) ≡ true
digits_are [] h = refl
digits_are (d ∷ ds) h = and_from (is_digit (48 + d)) _ (digit_is d h.0) (digits_are ds h.1)

pub numeral_digits : (n : ℕ) → are_digits (numeral n) ≡ true
numeral_digits zero = refl
numeral_digits (suc n) = digits_are (digits_of 10 (suc n)) (all_below_base_digits_of 10 (suc n) (omega arith))

pub value_grows : (n : ℕ) (cs : List ℕ) → n ≤ value_with n cs
value_grows n [] = omega arith
value_grows n (c ∷ cs) = omega (arith, value_grows (n * 10 + (c - 48)) cs)

-- ---- what a loop over digits knows

-- one more digit
pub more_digits : (c n : ℕ) (text rest whole : List ℕ) → text ≡ c ∷ rest → value_with n text ≡ value_with 0 whole → value_with (n * 10 + (c - 48)) rest ≡ value_with 0 whole
more_digits c n text rest whole e h = ap (value_with n) (sym e) ∙ h

first_digit : (c : ℕ) (text rest : List ℕ) → text ≡ c ∷ rest → are_digits text ≡ true → (is_digit c ≡ true) × (are_digits rest ≡ true)
first_digit c text rest e h = and_parts (is_digit c) (are_digits rest) (ap are_digits (sym e) ∙ h)

pub digits_left : (c : ℕ) (text rest whole : List ℕ) → text ≡ c ∷ rest → (are_digits whole ≡ true → are_digits text ≡ true) → are_digits whole ≡ true → are_digits rest ≡ true
digits_left c text rest whole e h k = (first_digit c text rest e (h k)).1

low_digit : (c : ℕ) → is_digit c ≡ true → 48 ≤ c
low_digit c h = grind (arith, nat_tests)

high_digit : (c : ℕ) → is_digit c ≡ true → c ≤ 57
high_digit c h = grind (arith, nat_tests)

-- a byte that is no digit is in no numeral
pub no_numeral : (c m : ℕ) (text rest whole : List ℕ) → text ≡ c ∷ rest → (are_digits whole ≡ true → are_digits text ≡ true) → (48 ≤ c → c ≤ 57 → ⊥) → whole ≡ numeral m → ⊥
no_numeral c m text rest whole e h never is =
    let d = (first_digit c text rest e (h (ap are_digits is ∙ numeral_digits m))).0 in
    never (low_digit c d) (high_digit c d)

-- nor is a prefix above it
pub too_great : (c n m : ℕ) (text rest whole : List ℕ) → text ≡ c ∷ rest → value_with n text ≡ value_with 0 whole → 2 ^ 32 ≤ n * 10 + (c - 48) → m < 2 ^ 32 → whole ≡ numeral m → ⊥
too_great c n m text rest whole e h big small is =
    let v = more_digits c n text rest whole e h in
    let g = value_grows (n * 10 + (c - 48)) rest in
    let w = ap (value_with 0) is ∙ numeral_value m in
    omega (arith, v, g, w, big, small)

pub all_read : (n m : ℕ) (text whole : List ℕ) → text ≡ [] → value_with n text ≡ value_with 0 whole → whole ≡ numeral m → n ≡ m
all_read n m text whole e h is = ap (value_with n) (sym e) ∙ h ∙ ap (value_with 0) is ∙ numeral_value m

-- ---- what the answers need

pub none_map : {P Q : Type 0} → (o : Option ℕ) → (P → Q) → IfNone o P → IfNone o Q
none_map None f h = f h
none_map (Some n) f h = h

pub other_number : (m bound : ℕ) (front now whole : List ℕ) → bound < 2 ^ 32 → whole ≡ front ++ now → ((n : ℕ) → n < 2 ^ 32 → now ≡ numeral n → None ≡ Some n) → m < bound → whole ≡ front ++ numeral m → ⊥
other_number m bound front now whole few is none below e =
    let h : None ≡ Some m = none m (omega arith) (append_cancel_left front now (numeral m) (sym is ∙ e)) in
    cc

some_same : (a b : ℕ) → Some a ≡ Some b → a ≡ b
some_same a b e = cc

pub this_number : (m n bound : ℕ) (front now whole : List ℕ) → bound < 2 ^ 32 → whole ≡ front ++ now → ((k : ℕ) → k < 2 ^ 32 → now ≡ numeral k → Some n ≡ Some k) → (n < bound → whole ≡ front ++ numeral n → ⊥) → m < bound → whole ≡ front ++ numeral m → ⊥
this_number m n bound front now whole few is told never below e =
    let same = some_same n m (told m (omega arith) (append_cancel_left front now (numeral m) (sym is ∙ e))) in
    never (omega (arith, same)) (e ∙ ap (λ (k : ℕ). front ++ numeral k) (sym same))
