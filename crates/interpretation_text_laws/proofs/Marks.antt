-- The number at the end of an element's name stands behind the last `_`.
use Rattle.std.proofs.Common.{◌≡◌, ℕ, zero, suc, ◌+◌, ◌<◌, Bool, true, List, [], ◌∷◌, ◌++◌, map, refl, sym, ap, ◌∙◌, arith}
use Rattle.std.specs.Prelude.{not, nat_eq}
use Rattle.std.specs.List.{list_all}
use Rattle.std.specs.Int.Digits.{digits_of, AllBelowBase}
use Rattle.std.proofs.lemmas.Int.Digits.{all_below_base_digits_of}
use Rattle.std.proofs.lemmas.Bool.{and_parts, and_from}
use Rattle.std.proofs.lemmas.Bool.Decides.{nat_tests}
use Rattle.nxf_tree.specs.Names.{numeral}
use Rattle.name_laws.proofs.Spelling.{true-false}

-- another byte than `_`
abbrev pub is_unmarked : ℕ → Bool
is_unmarked c = not (nat_eq c 95)

digit_unmarked : (d : ℕ) → d < 10 → is_unmarked (48 + d) ≡ true
digit_unmarked d h = grind (arith, nat_tests)

digits_unmarked : (ds : List ℕ) → AllBelowBase 10 ds → list_all is_unmarked (map (λ digit. 48 + digit) ds) ≡ true
digits_unmarked [] h = refl
digits_unmarked (d ∷ ds) h = and_from _ _ (digit_unmarked d h.0) (digits_unmarked ds h.1)

-- a numeral has no `_`
pub numeral_unmarked : (n : ℕ) → list_all is_unmarked (numeral n) ≡ true
numeral_unmarked zero = refl
numeral_unmarked (suc n) = digits_unmarked (digits_of 10 (suc n)) (all_below_base_digits_of 10 (suc n) (omega arith))

still_marked : (t es : List ℕ) → list_all is_unmarked (t ++ 95 ∷ es) ≡ true → ⊥
still_marked [] es h = true-false (sym h)
still_marked (y ∷ t) es h = still_marked t es (and_parts (is_unmarked y) _ h).1

-- what stands before the last `_`, and what behind it
pub split_at_mark : (s t ds es : List ℕ) → list_all is_unmarked ds ≡ true → list_all is_unmarked es ≡ true → s ++ 95 ∷ ds ≡ t ++ 95 ∷ es → (s ≡ t) × (ds ≡ es)
split_at_mark [] [] ds es p q e = (refl, cc)
split_at_mark [] (y ∷ t) ds es p q e =
    let rest : ds ≡ t ++ 95 ∷ es = cc in
    absurd (still_marked t es (sym (ap (list_all is_unmarked) rest) ∙ p))
split_at_mark (x ∷ s) [] ds es p q e =
    let rest : s ++ 95 ∷ ds ≡ es = cc in
    absurd (still_marked s ds (ap (list_all is_unmarked) rest ∙ q))
split_at_mark (x ∷ s) (y ∷ t) ds es p q e =
    let rest : s ++ 95 ∷ ds ≡ t ++ 95 ∷ es = cc in
    let ih = split_at_mark s t ds es p q rest in
    let first : x ≡ y = cc in
    ((λ i. first i ∷ ih.0 i), ih.1)
