use Rattle.lift_answer.proofs.Given.{few_statements}
use Rattle.lift_answer.proofs.interpretation.file_of.Goals as goal

pub returns-in-Ok-clause-short : goal.returns-in-Ok-clause-short
returns-in-Ok-clause-short c =
    let few = c.no_more_tokens_than_bytes.ensures c.args.bytes.now c.in_ok-tokens.tokens c.in_ok-tokens.ensures.lexed in
    few_statements c.in-Ok.file c.in_ok-tokens.tokens c.args.bytes.now c.in-Ok.ensures.weight few c.requires
