use Rattle.std.proofs.Common.{Err}
use Rattle.answer_definitions.specs.Answer.{OrMemory}
use Rattle.answer_definitions.specs.InterpretationFile.{ReadsInterpretation}
use Rattle.check_answer.proofs.CallerLemmas.{handed_on}
use Rattle.lift_answer.proofs.Given.{unspelled, ungiven, read_as}
use Rattle.lift_answer.proofs.interpretation.read_interpretation.Goals as goal

pub returns-in_err-file-clause-refused : goal.returns-in_err-file-clause-refused
returns-in_err-file-clause-refused c =
    let sig = c.args.over.now in
    let name = c.args.name.now in
    let bytes = c.args.bytes.now in
    let error = c.in_err-file.field-0.0 in
    handed_on c.from_residual.result (OrMemory (λ s. ReadsInterpretation sig name bytes (Err s))) error c.from_residual.ensures.1
    (unspelled sig name bytes error c.in_err-file.ensures.refused)

pub returns-in_err-structure-clause-refused : goal.returns-in_err-structure-clause-refused
returns-in_err-structure-clause-refused c =
    let sig = c.args.over.now in
    let name = c.args.name.now in
    let bytes = c.args.bytes.now in
    let error = c.in_err-structure.field-0.0 in
    handed_on c.from_residual-in_err-structure.result (OrMemory (λ s. ReadsInterpretation sig name bytes (Err s))) error c.from_residual-in_err-structure.ensures.1
    (ungiven sig name bytes c.in_ok-file.file c.in_ok-file.ensures.spelled error c.in_err-structure.ensures.refused)

pub returns-in-Ok-clause-read : goal.returns-in-Ok-clause-read
returns-in-Ok-clause-read c =
    let made = c.in-Ok.ensures in
    read_as c.args.over.now c.args.name.now c.args.bytes.now c.in_ok-file.file c.in_ok-file.ensures.spelled c.in_ok-structure.structure c.in-Ok.kripke c.in_ok-structure.ensures.given made.within made.over made.corresponds
