use Rattle.std.proofs.Common.{◌≡◌, ◌<◌, ◌^◌, true, length}
use Rattle.kripke_text.specs.steps.Numbers.{value_with, are_digits}
use Rattle.kripke_text.proofs.number.digits.Given as goal

abbrev pub invariant-loop-c : goal.invariant-loop-c
invariant-loop-c l = record {
  small : l.n < 2 ^ 32;
  value : value_with l.n l.text ≡ value_with 0 l.initial.text;
  digits : are_digits l.initial.text ≡ true → are_digits l.text ≡ true;
}

abbrev pub decreases-loop-c : goal.decreases-loop-c
decreases-loop-c l = length l.text
