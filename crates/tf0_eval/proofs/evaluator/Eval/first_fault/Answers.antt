use Rattle.std.proofs.Common.{List, subst}
use Rattle.classical_evaluation_definitions.specs.ClassicalFaults.{IsFirstPlace, RoleFormula, meets_role, model_of}
use Rattle.classical_evaluation_laws.proofs.FaultLemmas.{countermodel-law}
use Rattle.tf0_eval.proofs.evaluator.Eval.first_fault.Goals as goal

pub returns-clause-countermodel : goal.returns-clause-countermodel
returns-clause-countermodel g c file is =
    let csig = c.args.prepared.now.signature in
    let view = c.args.view.now in
    countermodel-law csig file view c.first_unmet.result c.size-worlds.ensures.within c.requires.over
    (subst (λ (fs : List RoleFormula). IsFirstPlace (meets_role (model_of csig view)) fs c.first_unmet.result) is c.first_unmet.ensures.first)
