use Rattle.std.proofs.Common.{◌≡◌, All, length, ap, sym, ◌∙◌, subst}
use Rattle.std.specs.Prelude.{IfOk, IfErr}
use Rattle.tptp_lex.specs.Lexing.{IsSpan}
use Rattle.tptp_lex.proofs.CallerLemmas.{within}
use Rattle.plain_tokens.specs.PlainTokens.{plains_of}
use Rattle.kripke_text_definitions.specs.TokenStatements.{statements}
use Rattle.kripke_text_definitions.specs.Reading.{Explains}
use Rattle.kripke_text.specs.Texts.{IsTextOf}
use Rattle.kripke_text.proofs.SubjectReads.{if_ok}
use Rattle.kripke_text.proofs.ReadWhole.{if_err, only_this, print_is_text}
use Rattle.kripke_text.proofs.reader.read.Goals as goal
use Rattle.kripke_text.proofs.reader.read.Goals.{After-read_statements}

pub new-statements-requires-clause-spans : goal.new-statements-requires-clause-spans
new-statements-requires-clause-spans c = subst (λ ts. All (IsSpan (length c.args.bytes.now)) ts) (sym c.as_slice.ensures.items) (within c.args.bytes.now c.args.tokens.now c.requires.lexed)

-- the statements are those of all tokens
split : (c : After-read_statements) → statements (plains_of c.args.bytes.now c.args.tokens.now) ≡ c.new-statements.result
split c = ap (λ ts. statements (plains_of c.args.bytes.now ts)) (sym c.as_slice.ensures.items) ∙ sym c.new-statements.ensures

read : (c : After-read_statements) → IfOk c.read_statements.result (λ made. IsTextOf c.args.over.now made (plains_of c.args.bytes.now c.args.tokens.now))
read c =
    if_ok c.read_statements.result _ _ (λ made read. read (plains_of c.args.bytes.now c.args.tokens.now) (split c)) c.read_statements.ensures.read

refused : (c : After-read_statements) → IfErr c.read_statements.result (Explains c.args.over.now (plains_of c.args.bytes.now c.args.tokens.now))
refused c =
    if_err c.read_statements.result _ _ (λ e refused. refused (plains_of c.args.bytes.now c.args.tokens.now) (split c)) c.read_statements.ensures.refused

pub returns-clause-read : goal.returns-clause-read
returns-clause-read c = read c

pub returns-clause-refused : goal.returns-clause-refused
returns-clause-refused c = refused c

pub returns-clause-exact : goal.returns-clause-exact
returns-clause-exact c = λ k h. only_this c.args.over.now (plains_of c.args.bytes.now c.args.tokens.now) c.read_statements.result k (read c) (refused c) h

pub returns-clause-printed : goal.returns-clause-printed
returns-clause-printed c = λ k h.
    only_this c.args.over.now (plains_of c.args.bytes.now c.args.tokens.now) c.read_statements.result k (read c) (refused c)
    (print_is_text c.args.over.now k c.args.bytes.now c.args.tokens.now c.requires.well_formed c.requires.lexed h)
