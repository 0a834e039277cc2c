-- What a byte of each class is.
use Rattle.std.proofs.Common.{◌≡◌, ℕ, true, arith, ap}
use Rattle.std.proofs.lemmas.Bool.Decides.{nat_tests}
use Rattle.std.proofs.lemmas.Bool.{eqb-true}
use Rattle.std.specs.Prelude.{◌==◌}
use Rattle.tptp_lex.specs.declared.front.Class.TheVariants as class
use Rattle.nxf_base.specs.Bytes.{is_lower, is_upper, is_digit, is_blank}
use Rattle.tptp_lex.specs.Front.{class_of}

pub class_lower : (b : ℕ) → is_lower b ≡ true → class_of b ≡ class.Lower
class_lower b h = grind (arith, nat_tests)

pub class_upper : (b : ℕ) → is_upper b ≡ true → class_of b ≡ class.Upper
class_upper b h = grind (arith, nat_tests)

pub class_digit : (b : ℕ) → is_digit b ≡ true → class_of b ≡ class.Digit
class_digit b h = grind (arith, nat_tests)

pub class_blank : (b : ℕ) → is_blank b ≡ true → class_of b ≡ class.Blank
class_blank b h = grind (arith, nat_tests)

pub class_at : (b n : ℕ) → (b == n) ≡ true → class_of b ≡ class_of n
class_at b n h = ap class_of (eqb-true b n h)

pub lower_class : (b : ℕ) → class_of b ≡ class.Lower → is_lower b ≡ true
lower_class b h = grind (arith, nat_tests)

pub blank_class : (b : ℕ) → class_of b ≡ class.Blank → is_blank b ≡ true
blank_class b h = grind (arith, nat_tests)
