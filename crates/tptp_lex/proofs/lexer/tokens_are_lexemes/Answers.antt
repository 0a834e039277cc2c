use Rattle.tptp_lex.proofs.Spans.{spelled}
use Rattle.tptp_lex.proofs.lexer.tokens_are_lexemes.Goals as goal

pub returns : goal.returns
returns c = spelled
