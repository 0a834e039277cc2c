use Rattle.tptp_lex.proofs.Spans.{token_within}
use Rattle.tptp_lex.proofs.texts.same_token.Goals as goal

pub spelling-requires : goal.spelling-requires
spelling-requires c = token_within c.args.left.now c.args.a c.requires.left

pub spelling-requires-then-are_alike : goal.spelling-requires-then-are_alike
spelling-requires-then-are_alike c = token_within c.args.right.now c.args.b c.requires.right
