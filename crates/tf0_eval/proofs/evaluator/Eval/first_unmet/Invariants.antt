use Rattle.std.proofs.Common.{◌≡◌, true, take}
use Rattle.std.specs.List.{list_all}
use Rattle.classical_evaluation_definitions.specs.ClassicalFaults.{meets_role, model_of}
use Rattle.tf0_eval.proofs.evaluator.Eval.first_unmet.Given as goal

-- each formula so far is as its role asks
abbrev pub invariant-loop-at : goal.invariant-loop-at
invariant-loop-at g l = record {
  kept : l.self ≡ l.fn.self;
  so_far : list_all (meets_role (model_of l.prepared.signature l.view)) (take l.at l.prepared.formulas) ≡ true;
}
