use Rattle.std.specs.Prelude.{Err}
use Rattle.answer_definitions.specs.Answer.{OrMemory}
use Rattle.answer_definitions.specs.KripkeFile.{ReadsStructure}
use Rattle.check_answer.proofs.Judged.{handed_on}
use Rattle.check_answer.proofs.Verdicts.{not_lexed_as, read_as, refused_as}
use Rattle.check_answer.proofs.structure.read_structure.Goals as goal

pub returns-in_err-tokens-clause-refused : goal.returns-in_err-tokens-clause-refused
returns-in_err-tokens-clause-refused c =
    let error = c.in_err-tokens.field-0.0 in
    handed_on c.from_residual.result (OrMemory (λ s. ReadsStructure c.args.over.now c.args.name.now c.args.bytes.now (Err s))) error c.from_residual.ensures.1
    (not_lexed_as c.args.over.now c.args.name.now c.args.bytes.now error c.in_err-tokens.ensures.refused)

pub returns-in-Ok-clause-read : goal.returns-in-Ok-clause-read
returns-in-Ok-clause-read c =
    read_as c.args.over.now c.args.name.now c.args.bytes.now c.in_ok-tokens.tokens c.in_ok-tokens.ensures.lexed c.in-Ok.kripke c.in-Ok.ensures.read

pub returns-clause-refused : goal.returns-clause-refused
returns-clause-refused c =
    refused_as c.args.over.now c.args.name.now c.args.bytes.now c.in_ok-tokens.tokens c.in_ok-tokens.ensures.lexed c.in-Err.error _ c.status_of_text.ensures c.in-Err.ensures.refused
