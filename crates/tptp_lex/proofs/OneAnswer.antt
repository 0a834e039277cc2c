-- A text has one answer, apart from want of memory.
use Rattle.std.proofs.Common.{◌≡◌, ◌≢◌, ℕ, List, drop, Result, Ok, Err, refl, sym, ap, subst}
use Rattle.std.specs.Prelude.{IfOk, IfErr}
use Rattle.tptp_lex.specs.declared.token.Token.{Token}
use Rattle.tptp_lex.specs.declared.lexer.LexError.{LexError}
use Rattle.tptp_lex.specs.declared.lexer.LexError.TheVariants as error
use Rattle.tptp_lex.specs.Lexing.{Lexes, BeginsClosed}
use Rattle.tptp_lex.specs.LexErrors.{Explains}
use Rattle.tptp_lex.proofs.Pieces.{one_lexing, no_bad_place, one_bad_place}

pub lexed_only : (text : List ℕ) (result : Result (List Token) LexError) → IfOk result (λ ts. Lexes text ts) → IfErr result (λ e. Explains text e) → (ts : List Token) → Lexes text ts → result ≢ Err error.Memory → result ≡ Ok ts
lexed_only text (Ok us) ok err ts lexes some = ap Ok (one_lexing text us ts ok lexes)
lexed_only text (Err (error.Bad at)) ok err ts lexes some = absurd (no_bad_place text ts at lexes err.0)
lexed_only text (Err (error.Unclosed at)) ok err ts lexes some = absurd (no_bad_place text ts at lexes err.0)
lexed_only text (Err error.Memory) ok err ts lexes some = absurd (some refl)

one_error : (text : List ℕ) (d e : LexError) → Explains text d → Explains text e → d ≢ error.Memory → e ≢ error.Memory → d ≡ e
one_error text (error.Bad at) (error.Bad place) p q some any = ap error.Bad (one_bad_place text at place p.0 q.0)
one_error text (error.Bad at) (error.Unclosed place) p q some any =
    absurd (p.1 (subst (λ (n : ℕ). BeginsClosed (drop n text)) (sym (one_bad_place text at place p.0 q.0)) q.1))
one_error text (error.Unclosed at) (error.Bad place) p q some any =
    absurd (q.1 (subst (λ (n : ℕ). BeginsClosed (drop n text)) (one_bad_place text at place p.0 q.0) p.1))
one_error text (error.Unclosed at) (error.Unclosed place) p q some any = ap error.Unclosed (one_bad_place text at place p.0 q.0)
one_error text error.Memory e p q some any = absurd (some refl)
one_error text d error.Memory p q some any = absurd (any refl)

lexes_no_error : (text : List ℕ) (ts : List Token) (e : LexError) → Lexes text ts → Explains text e → e ≢ error.Memory → Ok ts ≡ Err e
lexes_no_error text ts (error.Bad at) lexes explains any = absurd (no_bad_place text ts at lexes explains.0)
lexes_no_error text ts (error.Unclosed at) lexes explains any = absurd (no_bad_place text ts at lexes explains.0)
lexes_no_error text ts error.Memory lexes explains any = absurd (any refl)

pub refused_only : (text : List ℕ) (result : Result (List Token) LexError) → IfOk result (λ ts. Lexes text ts) → IfErr result (λ e. Explains text e) → (e : LexError) → Explains text e → e ≢ error.Memory → result ≢ Err error.Memory → result ≡ Err e
refused_only text (Ok us) ok err e explains any some = lexes_no_error text us e ok explains any
refused_only text (Err d) ok err e explains any some = ap Err (one_error text d e err explains (λ same. some (ap Err same)) any)
