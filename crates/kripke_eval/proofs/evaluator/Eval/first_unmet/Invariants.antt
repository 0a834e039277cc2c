use Rattle.std.proofs.Common.{◌≡◌, ◌≤◌, length}
use Rattle.kripke_eval.specs.steps.Judging.{unmet_from}
use Rattle.kripke_eval.proofs.evaluator.Eval.first_unmet.Given as goal

-- what isn't met is among what is left
abbrev pub invariant-loop-at : goal.invariant-loop-at
invariant-loop-at g l = record {
  kept : l.self ≡ l.fn.self;
  within : l.next ≤ length l.parts;
  left : unmet_from l.view l.conjecture l.checked.formulas l.parts l.at l.next ≡ unmet_from l.view l.conjecture l.checked.formulas l.parts 0 0;
}
