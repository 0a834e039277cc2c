use Rattle.tptp_lex.proofs.Spans.{no_more_tokens}
use Rattle.tptp_lex.proofs.lexer.no_more_tokens_than_bytes.Goals as goal

pub returns : goal.returns
returns c = no_more_tokens
