-- Where the tokens of a text stand.
use Rattle.std.proofs.Common.{◌≡◌, ℕ, true, zero, suc, ◌+◌, ◌-◌, ◌≤◌, ◌<◌, Some, List, [], ◌∷◌, ◌++◌, length, take, drop, refl, sym, ap, subst, ◌∙◌, arith, ⊎_elim, inl, inr, length-append}
use Rattle.std.specs.Prelude.{slice_get, nat_le}
use Rattle.std.specs.List.{All, AllByRecursion, list_all}
use Rattle.std.proofs.lemmas.Bool.{leb-true}
use Rattle.std.proofs.lemmas.List.Elements.{All-from_recursion}
use Rattle.tptp_lex.specs.declared.token.Token.{Token}
use Rattle.std.proofs.lemmas.List.{drop-drop}
use Rattle.tptp_lex.specs.declared.token.Kind.{Kind}
use Rattle.tptp_lex.specs.declared.token.Kind.TheVariants as kind
use Rattle.tptp_lex.specs.declared.token.Lexeme.TheVariants as lexeme
use Rattle.tptp_lex.specs.declared.token.Lexeme.{Lexeme}
use Rattle.tptp_lex.specs.Punctuation.{punctuation}
use Rattle.tptp_lex.specs.Shapes.{is_line_comment, is_block_comment, is_digits, IsOneOf, IsLexeme}
use Rattle.std.proofs.Math.Seq.{drop-append_seam, take-append_seam}
use Rattle.tptp_lex.specs.Texts.{IsSpelled}
use Rattle.tptp_lex.specs.Lexing.{Piece, Begins, token_of, tokens_from, Lexes, IsTokenOf, IsSpan, AreSpans}
use Rattle.tptp_lex.proofs.Punctuation.{one_passes}

no_digits : (whole more : List ℕ) → is_digits whole ≡ true → [] ≡ whole ++ more → 0 < 0
no_digits [] more digits parts = absurd cc
no_digits (b ∷ bs) more digits parts = absurd cc

no_spelling : (ps : List (List ℕ)) → list_all (λ p. nat_le 1 (length p)) ps ≡ true → IsOneOf ps [] → 0 < 0
no_spelling ps test one = leb-true 1 0 (one_passes (λ p. nat_le 1 (length p)) ps [] test one)

-- no lexeme is empty
some_byte : (k : Lexeme) (s a : List ℕ) → IsLexeme k s a → 0 < length s
some_byte k (b ∷ s) a is = omega arith
some_byte lexeme.Blank [] a is = omega (arith, ap length is.1)
some_byte lexeme.Comment [] a is = ⊎_elim (λ (line : is_line_comment [] ≡ true). cc) (λ (block : is_block_comment [] ≡ true). cc) is
some_byte (lexeme.Token kind.Word) [] a is = cc
some_byte (lexeme.Token kind.Upper) [] a is = cc
some_byte (lexeme.Token kind.Dollar) [] a is = cc
some_byte (lexeme.Token kind.Quoted) [] a is = cc
some_byte (lexeme.Token kind.Distinct) [] a is = cc
some_byte (lexeme.Token kind.Number) [] a is = no_digits is.whole (is.fraction ++ is.exponent) is.is_whole is.parts
some_byte (lexeme.Token kind.Punct) [] a is = ⊎_elim (no_spelling punctuation refl) (λ (e : [] ≡ 47 ∷ []). cc) (⊎_elim (λ o. inl o) (λ e. inr e.0) is)

spans_weaker : (from at len : ℕ) (ts : List Token) → from ≤ at → AreSpans at len ts → AreSpans from len ts
spans_weaker from at len [] less h = omega (arith, less, h)
spans_weaker from at len (t ∷ ts) less h = (omega (arith, less, h.0), h.1, h.2)

spans_more : (k : Lexeme) (start end len : ℕ) (ts : List Token) → start < end → AreSpans end len ts → AreSpans start len (token_of k start end ++ ts)
spans_more lexeme.Blank start end len ts order others = spans_weaker start end len ts (omega (arith, order)) others
spans_more lexeme.Comment start end len ts order others = spans_weaker start end len ts (omega (arith, order)) others
spans_more (lexeme.Token kind) start end len ts order others = (omega arith, order, others)

spans_from : (text : List ℕ) (ps : List Piece) (at len : ℕ) → Begins text ps [] → at + length text ≡ len → AreSpans at len (tokens_from at ps)
spans_from text [] at len h place = omega (arith, place)
spans_from text (p ∷ ps) at len h place =
    let long : length text ≡ length p.spelling + length h.0 = omega (arith, ap length h.1.parts, length-append p.spelling h.0) in
    let some = some_byte p.kind p.spelling h.0 h.1.is in
    spans_more p.kind at (at + length p.spelling) len (tokens_from (at + length p.spelling) ps) (omega (arith, some)) (spans_from h.0 ps (at + length p.spelling) len h.2 (omega (arith, long, place)))

pub in_order : (text : List ℕ) (ts : List Token) → Lexes text ts → AreSpans 0 (length text) ts
in_order text ts h = subst (λ (x : List Token). AreSpans 0 (length text) x) (sym h.2) (spans_from text h.0 0 (length text) h.1 (omega arith))

spans_end : (from len : ℕ) (ts : List Token) → AreSpans from len ts → from ≤ len
spans_end from len [] h = h
spans_end from len (t ∷ ts) h = let more = spans_end t.end len ts h.2 in omega (arith, more, h.0, h.1)

all_within : (from len : ℕ) (ts : List Token) → AreSpans from len ts → AllByRecursion (IsSpan len) ts
all_within from len [] h = tt
all_within from len (t ∷ ts) h = ((omega (arith, h.1), spans_end t.end len ts h.2), all_within t.end len ts h.2)

pub within : (text : List ℕ) (ts : List Token) → Lexes text ts → All (IsSpan (length text)) ts
within text ts h = All-from_recursion (IsSpan (length text)) ts (all_within 0 (length text) ts (in_order text ts h))

no_more_than : (from len : ℕ) (ts : List Token) → AreSpans from len ts → length ts + from ≤ len
no_more_than from len [] h = omega (arith, h)
no_more_than from len (t ∷ ts) h = let more = no_more_than t.end len ts h.2 in omega (arith, more, h.0, h.1)

pub no_more_tokens : (text : List ℕ) (ts : List Token) → Lexes text ts → length ts ≤ length text
no_more_tokens text ts h = let more = no_more_than 0 (length text) ts (in_order text ts h) in omega (arith, more)

found_in : (P : Token → Type 0) (ts : List Token) (at : ℕ) (t : Token) → AllByRecursion P ts → slice_get ts at ≡ Some t → P t
found_in P [] at t all found = absurd cc
found_in P (u ∷ ts) zero t all found = let same : u ≡ t = cc in subst P same all.0
found_in P (u ∷ ts) (suc at) t all found = found_in P ts at t all.1 found

pub token_within : (text : List ℕ) (token : Token) → IsTokenOf text token → IsSpan (length text) token
token_within text token h = found_in (IsSpan (length text)) h.0 h.1 token (all_within 0 (length text) h.0 (in_order text h.0 h.2)) h.3

-- ---- spellings

spelled_more : (P : Token → Type 0) (k : Lexeme) (start end : ℕ) (ts : List Token) → ((kind : Kind) → k ≡ lexeme.Token kind → P (record { kind = kind; start = start; end = end })) → AllByRecursion P ts → AllByRecursion P (token_of k start end ++ ts)
spelled_more P lexeme.Blank start end ts one others = others
spelled_more P lexeme.Comment start end ts one others = others
spelled_more P (lexeme.Token kind) start end ts one others = (one kind refl, others)

taken_here : (whole spelling after : List ℕ) (at : ℕ) → drop at whole ≡ spelling ++ after → take (at + length spelling - at) (drop at whole) ≡ spelling
taken_here whole spelling after at here =
    let len : at + length spelling - at ≡ length spelling = omega arith in
    rw (len, here) (take-append_seam spelling after)

dropped_here : (whole spelling after : List ℕ) (at : ℕ) → drop at whole ≡ spelling ++ after → drop (at + length spelling) whole ≡ after
dropped_here whole spelling after at here = sym (drop-drop (length spelling) at whole) ∙ ap (drop (length spelling)) here ∙ drop-append_seam spelling after

spelled_from : (whole text : List ℕ) (ps : List Piece) (at : ℕ) → drop at whole ≡ text → Begins text ps [] → AllByRecursion (IsSpelled whole) (tokens_from at ps)
spelled_from whole text [] at here h = tt
spelled_from whole text (p ∷ ps) at here h =
    let split = here ∙ h.1.parts in
    spelled_more (IsSpelled whole) p.kind at (at + length p.spelling) (tokens_from (at + length p.spelling) ps)
    (λ kind e. (h.0, subst (λ (s : List ℕ). IsLexeme (lexeme.Token kind) s h.0) (sym (taken_here whole p.spelling h.0 at split)) (subst (λ (k : Lexeme). IsLexeme k p.spelling h.0) e h.1.is)))
    (spelled_from whole h.0 ps (at + length p.spelling) (dropped_here whole p.spelling h.0 at split) h.2)

pub all_spelled : (text : List ℕ) (ts : List Token) → Lexes text ts → AllByRecursion (IsSpelled text) ts
all_spelled text ts h = subst (AllByRecursion (IsSpelled text)) (sym h.2) (spelled_from text text h.0 0 refl h.1)

pub spelled : (text : List ℕ) (ts : List Token) → Lexes text ts → All (IsSpelled text) ts
spelled text ts h = All-from_recursion (IsSpelled text) ts (all_spelled text ts h)
