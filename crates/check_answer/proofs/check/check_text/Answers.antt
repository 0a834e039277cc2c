use Rattle.std.proofs.Common.{Ok, Err, subst}
use Rattle.nxf_tree.specs.declared.tree.Signature.{Signature}
use Rattle.fin_struct.specs.KripkeTables.{kripke_structure}
use Rattle.answer_definitions.specs.Answer.{OrMemory}
use Rattle.answer_definitions.specs.Check.{ChecksText, countermodel_line}
use Rattle.answer_definitions.specs.KripkeFile.{ReadsStructure}
use Rattle.check_answer.proofs.Judged.{handed_on, has_fault}
use Rattle.check_answer.proofs.check.check_text.Goals as goal

pub returns-in_err-judge-clause-refused : goal.returns-in_err-judge-clause-refused
returns-in_err-judge-clause-refused c =
    let checked = c.args.checked.now in
    let parts = c.args.parts.now in
    let name = c.args.name.now in
    let bytes = c.args.bytes.now in
    let K = kripke_structure c.in_ok-kripke.kripke in
    let error = c.in_err-judge.field-0.0 in
    let reads = subst (λ (sig : Signature). ReadsStructure sig name bytes (Ok K)) c.signature.ensures.value c.in_ok-kripke.ensures.read in
    handed_on c.from_residual-in_err-judge.result (OrMemory (λ s. ChecksText checked parts name bytes (Err s))) error c.from_residual-in_err-judge.ensures.1
    (has_fault checked parts (ReadsStructure checked.signature name bytes) (λ J. countermodel_line) K reads error c.in_err-judge.ensures.refused)
