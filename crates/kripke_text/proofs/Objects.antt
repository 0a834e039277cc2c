-- The text of an object: a front and a number between double quotes.
use Rattle.std.proofs.Common.{◌≡◌, ℕ, zero, suc, ◌+◌, ◌<◌, false, ◌||◌, List, [], ◌∷◌, ◌++◌, map, refl, sym, ap, ◌∙◌, append_assoc, arith}
use Rattle.std.specs.Prelude.{◌==◌, flat_map}
use Rattle.std.specs.Int.Digits.{digits_of, AllBelowBase}
use Rattle.std.proofs.lemmas.Int.Digits.{all_below_base_digits_of}
use Rattle.std.proofs.lemmas.Bool.Decides.{nat_tests}
use Rattle.std.proofs.lemmas.Bool.{cond-false}
use Rattle.std.proofs.lemmas.Grind.{flat_map-append}
use Rattle.nxf_tree.specs.Names.{numeral}
use Rattle.plain_tokens.specs.Marks.{escaped_in_object, object_text}

digit_plain : (d : ℕ) → d < 10 → (48 + d == 34 || 48 + d == 92) ≡ false
digit_plain d h = grind (arith, nat_tests)

digits_plain : (ds : List ℕ) → AllBelowBase 10 ds → flat_map escaped_in_object (map (λ digit. 48 + digit) ds) ≡ map (λ digit. 48 + digit) ds
digits_plain [] h = refl
digits_plain (d ∷ ds) h =
    ap (λ (r : List ℕ). r ++ flat_map escaped_in_object (map (λ digit. 48 + digit) ds)) (cond-false (48 + d == 34 || 48 + d == 92) (92 ∷ (48 + d) ∷ []) ((48 + d) ∷ []) (digit_plain d h.0))
    ∙ ap (λ (r : List ℕ). (48 + d) ∷ r) (digits_plain ds h.1)

-- a number needs no escapes
numeral_plain : (n : ℕ) → flat_map escaped_in_object (numeral n) ≡ numeral n
numeral_plain zero = refl
numeral_plain (suc n) = digits_plain (digits_of 10 (suc n)) (all_below_base_digits_of 10 (suc n) (omega arith))

pub object_put : (old a b c d : List ℕ) (front : List ℕ) (n : ℕ) → a ≡ old ++ 34 ∷ [] → b ≡ a ++ flat_map escaped_in_object front → c ≡ b ++ numeral n → d ≡ c ++ 34 ∷ [] → d ≡ old ++ object_text (front ++ numeral n)
object_put old a b c d front n p q r s =
    let escaped = flat_map escaped_in_object front in
    let whole : flat_map escaped_in_object (front ++ numeral n) ≡ escaped ++ numeral n = flat_map-append escaped_in_object front (numeral n) ∙ ap (λ (x : List ℕ). escaped ++ x) (numeral_plain n) in
    s
    ∙ ap (λ (x : List ℕ). x ++ 34 ∷ []) (r ∙ ap (λ (x : List ℕ). x ++ numeral n) (q ∙ ap (λ (x : List ℕ). x ++ escaped) p))
    ∙ append_assoc ((old ++ 34 ∷ []) ++ escaped) (numeral n) (34 ∷ [])
    ∙ append_assoc (old ++ 34 ∷ []) escaped (numeral n ++ 34 ∷ [])
    ∙ append_assoc old (34 ∷ []) (escaped ++ (numeral n ++ 34 ∷ []))
    ∙ ap (λ (x : List ℕ). old ++ 34 ∷ x) (sym (append_assoc escaped (numeral n) (34 ∷ [])))
    ∙ ap (λ (x : List ℕ). old ++ 34 ∷ (x ++ 34 ∷ [])) (sym whole)
