use Rattle.std.proofs.Common.{Ok, Err, subst}
use Rattle.nxf_tree.specs.declared.tree.Signature.{Signature}
use Rattle.fin_struct.specs.KripkeTables.{kripke_structure}
use Rattle.kripke_text_definitions.specs.KripkeText.{ktext}
use Rattle.answer_definitions.specs.Answer.{OrMemory}
use Rattle.answer_definitions.specs.InterpretationFile.{ReadsInterpretation}
use Rattle.answer_definitions.specs.Lift.{LiftsText}
use Rattle.check_answer.proofs.CallerLemmas.{handed_on, has_fault}
use Rattle.lift_answer.proofs.lift.lift_text.Goals as goal

pub returns-in_err-judge-clause-refused : goal.returns-in_err-judge-clause-refused
returns-in_err-judge-clause-refused c =
    let checked = c.args.checked.now in
    let parts = c.args.parts.now in
    let name = c.args.name.now in
    let bytes = c.args.bytes.now in
    let K = kripke_structure c.in_ok-kripke.kripke in
    let error = c.in_err-judge.field-0.0 in
    let reads = subst (λ (sig : Signature). ReadsInterpretation sig name bytes (Ok K)) c.signature.ensures.value c.in_ok-kripke.ensures.read in
    handed_on c.from_residual-in_err-judge.result (OrMemory (λ s. LiftsText checked parts name bytes (Err s))) error c.from_residual-in_err-judge.ensures.1
    (has_fault checked parts (ReadsInterpretation checked.signature name bytes) (ktext checked.signature) K reads error c.in_err-judge.ensures.refused)
