use Rattle.std.proofs.Common.{◌∙◌}
use Rattle.classical_evaluation_definitions.specs.ClassicalFaults.{meets_role, model_of}
use Rattle.tf0_eval.proofs.FaultLemmas.{one_more}
use Rattle.tf0_eval.proofs.evaluator.Eval.first_unmet.Goals as goal

pub loop-at-preserved : goal.loop-at-preserved
loop-at-preserved g c = record {
  kept = c.is_met.ensures.kept ∙ c.loop-at.invariant.kept;
  so_far = one_more (meets_role (model_of c.args.prepared.now.signature c.args.view.now)) c.args.prepared.now.formulas c.loop-at.at c.is_met.result c.loop-at.invariant.so_far c.if-not-is_met.false c.is_met.ensures.value;
}
