use Rattle.tptp_lex.proofs.Pieces.{one_list, one_lexing, no_bad_place, one_bad_place}
use Rattle.tptp_lex.proofs.lexer.one_lexing.Goals as goal

pub returns-clause-lexemes : goal.returns-clause-lexemes
returns-clause-lexemes c = one_list

pub returns-clause-tokens : goal.returns-clause-tokens
returns-clause-tokens c = one_lexing

pub returns-clause-either : goal.returns-clause-either
returns-clause-either c = no_bad_place

pub returns-clause-place : goal.returns-clause-place
returns-clause-place c = one_bad_place
