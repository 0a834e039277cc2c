-- The text of marks lexes to their tokens, where each mark is the longest lexeme at its place.
use Rattle.std.proofs.Common.{◌≡◌, ℕ, zero, suc, ◌+◌, ◌-◌, ◌≤◌, ◌<◌, Bool, true, false, cond, ◌&&◌, ◌||◌, Some, None, List, [], ◌∷◌, ◌++◌, map, length, take, drop, refl, sym, ap, subst, ◌∙◌, arith, append_assoc, append-nil, length-append}
use Rattle.std.specs.Prelude.{codes, flat_map, ◌==◌, nat_le}
use Rattle.std.specs.List.{list_all}
use Rattle.std.specs.Int.Digits.{digits_of, AllBelowBase}
use Rattle.std.proofs.lemmas.Int.Digits.{all_below_base_digits_of}
use Rattle.std.proofs.lemmas.List.{drop-drop}
use Rattle.std.proofs.lemmas.List.Folds.{list_all-append}
use Rattle.std.proofs.lemmas.Bool.{and_parts, and_from, cond-false, or_parts, ne_eqb}
use Rattle.std.proofs.lemmas.Bool.Decides.{nat_tests}
use Rattle.std.proofs.lemmas.Grind.{flat_map-append}
use Rattle.std.proofs.Math.Seq.{drop-append_seam, take-append_seam}
use Rattle.tptp_lex.specs.declared.token.Token.{Token}
use Rattle.tptp_lex.specs.declared.token.Kind.TheVariants as kind
use Rattle.tptp_lex.specs.declared.token.Lexeme.{Lexeme}
use Rattle.tptp_lex.specs.declared.token.Lexeme.TheVariants as lexeme
use Rattle.tptp_lex.specs.Front.{front, punctuation_len, quote_len}
use Rattle.tptp_lex.specs.Shapes.{IsLongest, closes}
use Rattle.tptp_lex.specs.Texts.{token_text, unescaped}
use Rattle.tptp_lex.specs.Lexing.{Piece, Begins, token_of, tokens_from, Lexes}
use Rattle.tptp_lex.proofs.CallerLemmas.{spelled_longest, word_longest, stops, quote_front}
use Rattle.nxf_base.specs.Bytes.{is_word_byte}
use Rattle.nxf_tree.specs.Names.{numeral}
use Rattle.nxf_tree.specs.Text.{is_bare}
use Rattle.nxf_base.specs.Bytes.{is_printable_byte, is_printable_text}
use Rattle.printed_text_laws.proofs.Spellings.{bare_word, bare_name, quoted_name, name_back, quotes_found, in_quotes}
use Rattle.plain_tokens.specs.PlainTokens.{Plain, plain_kind, plains_of}
use Rattle.plain_tokens.specs.Marks.{Mark, Sign, Name, Object, Blank, Line, mark_text, mark_plains, spelled, plains, escaped_in_object}

-- ---- the tokens of lexemes as they are compared

abbrev pub piece_plains : Lexeme → List ℕ → List Plain
piece_plains lexeme.Blank s = []
piece_plains lexeme.Comment s = []
piece_plains (lexeme.Token k) s = record { kind = plain_kind k; text = token_text s } ∷ []

abbrev pub pieces_plains : List Piece → List Plain
pieces_plains [] = []
pieces_plains (x ∷ xs) = piece_plains x.kind x.spelling ++ pieces_plains xs

taken_here : (whole spelling after : List ℕ) (at : ℕ) → drop at whole ≡ spelling ++ after → take (at + length spelling - at) (drop at whole) ≡ spelling
taken_here whole spelling after at here =
    let len : at + length spelling - at ≡ length spelling = omega arith in
    rw (len, here) (take-append_seam spelling after)

dropped_here : (whole spelling after : List ℕ) (at : ℕ) → drop at whole ≡ spelling ++ after → drop (at + length spelling) whole ≡ after
dropped_here whole spelling after at here = sym (drop-drop (length spelling) at whole) ∙ ap (drop (length spelling)) here ∙ drop-append_seam spelling after

one_plain : (whole : List ℕ) (k : Lexeme) (s : List ℕ) (start end : ℕ) (ts : List Token) → take (end - start) (drop start whole) ≡ s → plains_of whole (token_of k start end ++ ts) ≡ piece_plains k s ++ plains_of whole ts
one_plain whole lexeme.Blank s start end ts here = refl
one_plain whole lexeme.Comment s start end ts here = refl
one_plain whole (lexeme.Token k) s start end ts here =
    ap (λ (x : List ℕ). let p : Plain = record { kind = plain_kind k; text = token_text x } in p ∷ plains_of whole ts) here

pub plains_from : (whole text : List ℕ) (ps : List Piece) (at : ℕ) → drop at whole ≡ text → Begins text ps [] → plains_of whole (tokens_from at ps) ≡ pieces_plains ps
plains_from whole text [] at here h = refl
plains_from whole text (x ∷ xs) at here h =
    let split = here ∙ h.1.parts in
    one_plain whole x.kind x.spelling at (at + length x.spelling) (tokens_from (at + length x.spelling) xs) (taken_here whole x.spelling h.0 at split)
    ∙ ap (λ (r : List Plain). piece_plains x.kind x.spelling ++ r) (plains_from whole h.0 xs (at + length x.spelling) (dropped_here whole x.spelling h.0 at split) h.2)

-- ---- marks

-- before this text, the mark's is the longest lexeme, and its token is the mark's
pub record Found (m : Mark) (r : List ℕ) : Type 0 where
  pub lexeme : Lexeme
  pub longest : IsLongest (mark_text m ++ r) lexeme (mark_text m) r
  pub is : piece_plains lexeme (mark_text m) ≡ mark_plains m

-- each of the marks is found, where this text follows them
abbrev pub AllFound : List Mark → List ℕ → Type 0
AllFound [] r = Unit {0}
AllFound (m ∷ ms) r = Found m (spelled ms ++ r) × AllFound ms r

-- marks before other marks
pub both_found : (ms ns : List Mark) (r : List ℕ) → AllFound ms (spelled ns ++ r) → AllFound ns r → AllFound (ms ++ ns) r
both_found [] ns r h k = k
both_found (m ∷ ms) ns r h k =
    let e : spelled ms ++ (spelled ns ++ r) ≡ spelled (ms ++ ns) ++ r = sym (append_assoc (spelled ms) (spelled ns) r) ∙ ap (λ (t : List ℕ). t ++ r) (sym (flat_map-append mark_text ms ns)) in
    (subst (λ (t : List ℕ). Found m t) e h.0, both_found ms ns r h.1 k)

pub record IsLexed (text : List ℕ) (ps : List Plain) : Type 0 where
  pub pieces : List Piece
  pub begins : Begins text pieces []
  pub are : pieces_plains pieces ≡ ps

append_none : (ms : List Mark) → spelled ms ++ [] ≡ spelled ms
append_none ms = append-nil (spelled ms)

lexed : (ms : List Mark) → AllFound ms [] → IsLexed (spelled ms) (plains ms)
lexed [] h = record { pieces = []; begins = refl; are = refl }
lexed (m ∷ ms) h =
    let l = lexed ms h.1 in
    let f = subst (λ (t : List ℕ). Found m t) (append_none ms) h.0 in
    let piece : Piece = record { kind = f.lexeme; spelling = mark_text m } in
    record { pieces = piece ∷ l.pieces; begins = (spelled ms, f.longest, l.begins); are = (λ i. f.is i ++ l.are i) }

-- the text of the marks lexes, and its tokens are theirs
pub marks_lex : (ms : List Mark) → AllFound ms [] → (tokens : List Token) × Lexes (spelled ms) tokens × (plains_of (spelled ms) tokens ≡ plains ms)
marks_lex ms h =
    let l = lexed ms h in
    (tokens_from 0 l.pieces, (l.pieces, l.begins, refl), plains_from (spelled ms) (spelled ms) l.pieces 0 refl l.begins ∙ l.are)

-- ---- signs and blanks

pub blank : (r : List ℕ) → Found Blank r
unfolding front
blank r = record { lexeme = lexeme.Blank; longest = spelled_longest lexeme.Blank (32 ∷ []) r refl; is = refl }

pub line : (r : List ℕ) → Found Line r
unfolding front
line r = record { lexeme = lexeme.Blank; longest = spelled_longest lexeme.Blank (10 ∷ []) r refl; is = refl }

pub open_sign : (r : List ℕ) → Found (Sign (codes "(")) r
unfolding front punctuation_len token_text
open_sign r = record { lexeme = lexeme.Token kind.Punct; longest = spelled_longest (lexeme.Token kind.Punct) (40 ∷ []) r refl; is = refl }

pub close_sign : (r : List ℕ) → Found (Sign (codes ")")) r
unfolding front punctuation_len token_text
close_sign r = record { lexeme = lexeme.Token kind.Punct; longest = spelled_longest (lexeme.Token kind.Punct) (41 ∷ []) r refl; is = refl }

pub comma_sign : (r : List ℕ) → Found (Sign (codes ",")) r
unfolding front punctuation_len token_text
comma_sign r = record { lexeme = lexeme.Token kind.Punct; longest = spelled_longest (lexeme.Token kind.Punct) (44 ∷ []) r refl; is = refl }

pub and_sign : (r : List ℕ) → Found (Sign (codes "&")) r
unfolding front punctuation_len token_text
and_sign r = record { lexeme = lexeme.Token kind.Punct; longest = spelled_longest (lexeme.Token kind.Punct) (38 ∷ []) r refl; is = refl }

pub equal_sign : (r : List ℕ) → Found (Sign (codes "=")) (32 ∷ r)
unfolding front punctuation_len token_text
equal_sign r = record { lexeme = lexeme.Token kind.Punct; longest = spelled_longest (lexeme.Token kind.Punct) (61 ∷ []) (32 ∷ r) refl; is = refl }

pub all_sign : (r : List ℕ) → Found (Sign (codes "!")) (32 ∷ r)
unfolding front punctuation_len token_text
all_sign r = record { lexeme = lexeme.Token kind.Punct; longest = spelled_longest (lexeme.Token kind.Punct) (33 ∷ []) (32 ∷ r) refl; is = refl }

-- ---- names

name_by : (a r : List ℕ) (t : Bool) → is_bare a ≡ t → is_printable_text a ≡ true → stops is_word_byte r → Found (Name a) r
name_by a r true e h stop = record {
  lexeme = lexeme.Token kind.Word;
  longest = subst (λ (s : List ℕ). IsLongest (s ++ r) (lexeme.Token kind.Word) s r) (sym (bare_name a e)) (word_longest a r (bare_word a e) stop);
  is = ap (λ (t : List ℕ). let p : Plain = record { kind = kind.Word; text = t } in p ∷ []) (name_back a);
}
name_by a r false e h stop = record {
  lexeme = lexeme.Token kind.Quoted;
  longest = subst (λ (s : List ℕ). IsLongest (s ++ r) (lexeme.Token kind.Quoted) s r) (sym (quoted_name a e)) (spelled_longest (lexeme.Token kind.Quoted) (39 ∷ in_quotes a) r (quotes_found a r h));
  is = ap (λ (t : List ℕ). let p : Plain = record { kind = kind.Word; text = t } in p ∷ []) (name_back a);
}

pub name : (a r : List ℕ) → is_printable_text a ≡ true → stops is_word_byte r → Found (Name a) r
name a r h stop = name_by a r (is_bare a) refl h stop

-- ---- objects

abbrev in_object : List ℕ → List ℕ
in_object t = flat_map escaped_in_object t ++ 34 ∷ []

closes_by : (b : ℕ) (rest : List ℕ) (t : Bool) → (b == 34 || b == 92) ≡ t → is_printable_byte b ≡ true → closes 34 false rest ≡ true → closes 34 false (cond t (92 ∷ b ∷ []) (b ∷ []) ++ rest) ≡ true
closes_by b rest true e h more = and_from (b == 34 || b == 92) (closes 34 false rest) e more
closes_by b rest false e h more =
    let no_quote = or_parts (b == 34) (b == 92) e in
    rw (no_quote.0, no_quote.1) (and_from (nat_le 32 b && nat_le b 126) (closes 34 false rest) h more)

object_closes : (t : List ℕ) → list_all is_printable_byte t ≡ true → closes 34 false (in_object t) ≡ true
object_closes [] h = refl
object_closes (b ∷ bs) h =
    let t = and_parts (is_printable_byte b) (list_all is_printable_byte bs) h in
    ap (closes 34 false) (append_assoc (escaped_in_object b) (flat_map escaped_in_object bs) (34 ∷ [])) ∙ closes_by b (in_object bs) (b == 34 || b == 92) refl t.0 (object_closes bs t.1)

back_by : (b : ℕ) (rest : List ℕ) (t : Bool) → (b == 34 || b == 92) ≡ t → unescaped 34 false (cond t (92 ∷ b ∷ []) (b ∷ []) ++ rest) ≡ b ∷ unescaped 34 false rest
back_by b rest true e = refl
back_by b rest false e =
    let no_quote = or_parts (b == 34) (b == 92) e in
    rw (no_quote.0, no_quote.1) refl

object_back : (t : List ℕ) → unescaped 34 false (in_object t) ≡ t
object_back [] = refl
object_back (b ∷ bs) =
    ap (unescaped 34 false) (append_assoc (escaped_in_object b) (flat_map escaped_in_object bs) (34 ∷ [])) ∙ back_by b (in_object bs) (b == 34 || b == 92) refl ∙ ap (λ (s : List ℕ). b ∷ s) (object_back bs)

object_text_is : (s : List ℕ) → token_text (34 ∷ s) ≡ unescaped 34 false s
unfolding token_text
object_text_is s = refl

some_by : (b : ℕ) (rest : List ℕ) (t : Bool) → 1 ≤ length (cond t (92 ∷ b ∷ []) (b ∷ []) ++ rest)
some_by b rest true = omega arith
some_by b rest false = omega arith

long_object : (t : List ℕ) → 1 ≤ length (flat_map escaped_in_object t) → (length (in_object t) == 1) ≡ false
long_object t some = ne_eqb (length (in_object t)) 1 (λ e. omega (arith, e, some, length-append (flat_map escaped_in_object t) (34 ∷ [])))

object_front : (s r : List ℕ) → closes 34 false s ≡ true → (length s == 1) ≡ false → front ((34 ∷ s) ++ r) ≡ Some (lexeme.Token kind.Distinct, length (34 ∷ s))
unfolding front
object_front s r h long =
    let len : quote_len 34 false 0 (s ++ r) ≡ Some (length s) = quote_front 34 false 0 s r h ∙ ap Some (omega arith) in
    rw len (cond-false (length s == 1) None (Some (lexeme.Token kind.Distinct, 1 + length s)) long ∙ ap (λ (n : ℕ). Some (lexeme.Token kind.Distinct, n)) (omega arith))

pub object : (t r : List ℕ) → is_printable_text t ≡ true → Found (Object t) r
object [] r h = absurd cc
object (b ∷ bs) r h = record {
  lexeme = lexeme.Token kind.Distinct;
  longest = spelled_longest (lexeme.Token kind.Distinct) (34 ∷ in_object (b ∷ bs)) r (object_front (in_object (b ∷ bs)) r (object_closes (b ∷ bs) h) (long_object (b ∷ bs) (some_by b (flat_map escaped_in_object bs) (b == 34 || b == 92))));
  is = ap (λ (t : List ℕ). let p : Plain = record { kind = kind.Distinct; text = t } in p ∷ []) (object_text_is (in_object (b ∷ bs)) ∙ object_back (b ∷ bs));
}

-- ---- numbers

digit_print : (d : ℕ) → d < 10 → is_printable_byte (48 + d) ≡ true
digit_print d h = grind (arith, nat_tests)

digits_print : (ds : List ℕ) → AllBelowBase 10 ds → list_all is_printable_byte (map (λ digit. 48 + digit) ds) ≡ true
digits_print [] h = refl
digits_print (d ∷ ds) h = and_from (is_printable_byte (48 + d)) _ (digit_print d h.0) (digits_print ds h.1)

pub numeral_print : (n : ℕ) → list_all is_printable_byte (numeral n) ≡ true
numeral_print zero = refl
numeral_print (suc n) = digits_print (digits_of 10 (suc n)) (all_below_base_digits_of 10 (suc n) (omega arith))

-- what is printable with a number behind it
pub numbered_print : (t : List ℕ) (n : ℕ) → is_printable_text t ≡ true → is_printable_text (t ++ numeral n) ≡ true
numbered_print [] n h = absurd cc
numbered_print (b ∷ bs) n h =
    let p = and_parts (is_printable_byte b) (list_all is_printable_byte bs) h in
    and_from (is_printable_byte b) _ p.0 (list_all-append is_printable_byte bs (numeral n) ∙ and_from _ _ p.1 (numeral_print n))
