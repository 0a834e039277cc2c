use Rattle.std.proofs.Common.{subst}
use Rattle.nxf_base.specs.declared.status.Status.TheVariants as status
use Rattle.nxf_tree.specs.declared.tree.Signature.{Signature}
use Rattle.std.specs.Prelude.{◌≡◌, ◌⊎◌}
use Rattle.fin_struct.specs.KripkeTables.{kripke_structure}
use Rattle.answer_definitions.specs.FaultNames.{fails_of}
use Rattle.answer_definitions.specs.Verdict.{IsFaultOf}
use Rattle.check_answer.proofs.Judged.{named}
use Rattle.check_answer.proofs.judging.judge.Goals as goal

pub returns-in-Ok-None-clause-countermodel : goal.returns-in-Ok-None-clause-countermodel
returns-in-Ok-None-clause-countermodel c = subst (IsFaultOf c.args.checked.now c.args.parts.now (kripke_structure c.args.kripke.now)) c.in-Ok-None.field-0-is c.in-Ok-None.ensures

pub returns-in-Ok-Some-clause-refused : goal.returns-in-Ok-Some-clause-refused
returns-in-Ok-Some-clause-refused c =
    let checked = c.args.checked.now in
    let K = kripke_structure c.args.kripke.now in
    let fault = c.in-Ok-Some.fault in
    let answer = c.not_countermodel.result in
    let found = subst (IsFaultOf checked c.args.parts.now K) c.in-Ok-Some.field-0-is c.in-Ok-Some.ensures in
    let is = subst (λ (sig : Signature). (answer ≡ status.NotCountermodel (fails_of sig fault)) ⊎ (answer ≡ status.Memory)) c.signature.ensures.value c.not_countermodel.ensures in
    named checked c.args.parts.now K fault answer found is
