-- The spellings of names, variables and words: each lexes as one token, and a name's text is the name.
use Rattle.std.proofs.Common.{◌≡◌, ℕ, ◌+◌, Bool, true, false, cond, ◌&&◌, ◌||◌, Some, None, List, [], ◌∷◌, ◌++◌, length, suc, ◌≤◌, refl, sym, ap, ◌∙◌, arith, append_assoc, length-append}
use Rattle.std.specs.Prelude.{◌==◌, nat_le, flat_map}
use Rattle.std.specs.List.{list_all, prefix_len}
use Rattle.std.specs.Char.{is_ascii_lowercase}
use Rattle.std.proofs.lemmas.Bool.{and_parts, and_from, cond-true, cond-false, or_parts, ne_eqb}
use Rattle.std.proofs.lemmas.Bool.Decides.{nat_tests}
use Rattle.tptp_lex.specs.declared.token.Kind.TheVariants as kind
use Rattle.tptp_lex.specs.declared.token.Lexeme.TheVariants as lexeme
use Rattle.nxf_base.specs.Bytes.{is_lower, is_upper, is_word_byte, is_name_byte}
use Rattle.tptp_lex.specs.Front.{front, front_by, quote_len, name_after}
use Rattle.nxf_base.specs.Bytes.{begins_then}
use Rattle.tptp_lex.specs.Shapes.{closes}
use Rattle.tptp_lex.specs.Texts.{unescaped, token_text}
use Rattle.tptp_lex.proofs.CallerLemmas.{class_upper, quote_front, run_exact, stops}
use Rattle.nxf_terminals.specs.Names.{is_word}
use Rattle.nxf_base.specs.Bytes.{is_printable_byte, is_printable_text, is_variable_text, is_word_text}
use Rattle.nxf_tree.specs.Text.{is_bare_byte, is_bare, escaped_byte, name_text}

-- ---- bare names

lower_first : (b : ℕ) → is_ascii_lowercase b ≡ true → is_lower b ≡ true
lower_first b h = grind (arith, nat_tests)

bare_word_byte : (b : ℕ) → is_bare_byte b ≡ true → is_word_byte b ≡ true
bare_word_byte b h = grind (arith, nat_tests)

all_word_bytes : (bs : List ℕ) → list_all is_bare_byte bs ≡ true → list_all is_word_byte bs ≡ true
all_word_bytes [] h = refl
all_word_bytes (b ∷ bs) h =
    let t = and_parts (is_bare_byte b) (list_all is_bare_byte bs) h in
    and_from (is_word_byte b) (list_all is_word_byte bs) (bare_word_byte b t.0) (all_word_bytes bs t.1)

pub bare_word : (a : List ℕ) → is_bare a ≡ true → begins_then is_lower is_word_byte a ≡ true
bare_word [] h = absurd cc
bare_word (b ∷ bs) h =
    let t = and_parts (is_ascii_lowercase b) (list_all is_bare_byte bs) h in
    and_from (is_lower b) (list_all is_word_byte bs) (lower_first b t.0) (all_word_bytes bs t.1)

lower_no_quote : (b : ℕ) → is_lower b ≡ true → (b == 39 || b == 34) ≡ false
lower_no_quote b h = grind (arith, nat_tests)

word_as_it_stands : (a : List ℕ) → is_word_text a ≡ true → token_text a ≡ a
unfolding token_text
word_as_it_stands [] h = absurd cc
word_as_it_stands (b ∷ bs) h = cond-false (b == 39 || b == 34) (unescaped b false bs) (b ∷ bs) (lower_no_quote b (and_parts (is_lower b) (list_all is_word_byte bs) h).0)

lower_is_no_quote : (b : ℕ) → is_lower b ≡ true → (b == 39) ≡ false
lower_is_no_quote b h = grind (arith, nat_tests)

-- a word is not quoted
pub word_is_word : (a : List ℕ) → is_word_text a ≡ true → is_word a ≡ true
word_is_word [] h = absurd cc
word_is_word (b ∷ bs) h = cond-false (b == 39) false true (lower_is_no_quote b (and_parts (is_lower b) (list_all is_word_byte bs) h).0)

-- ---- quoted names

abbrev pub in_quotes : List ℕ → List ℕ
in_quotes a = flat_map escaped_byte a ++ 39 ∷ []

pub bare_name : (a : List ℕ) → is_bare a ≡ true → name_text a ≡ a
bare_name a h = cond-true (is_bare a) a (39 ∷ in_quotes a) h

pub quoted_name : (a : List ℕ) → is_bare a ≡ false → name_text a ≡ 39 ∷ in_quotes a
quoted_name a h = cond-false (is_bare a) a (39 ∷ in_quotes a) h

closes_by : (b : ℕ) (rest : List ℕ) (t : Bool) → (b == 39 || b == 92) ≡ t → is_printable_byte b ≡ true → closes 39 false rest ≡ true → closes 39 false (cond t (92 ∷ b ∷ []) (b ∷ []) ++ rest) ≡ true
closes_by b rest true e h more = and_from (b == 39 || b == 92) (closes 39 false rest) e more
closes_by b rest false e h more =
    let no = or_parts (b == 39) (b == 92) e in
    rw (no.0, no.1) (and_from (nat_le 32 b && nat_le b 126) (closes 39 false rest) h more)

escaped_closes : (a : List ℕ) → list_all is_printable_byte a ≡ true → closes 39 false (in_quotes a) ≡ true
escaped_closes [] h = refl
escaped_closes (b ∷ bs) h =
    let t = and_parts (is_printable_byte b) (list_all is_printable_byte bs) h in
    ap (closes 39 false) (append_assoc (escaped_byte b) (flat_map escaped_byte bs) (39 ∷ [])) ∙ closes_by b (in_quotes bs) (b == 39 || b == 92) refl t.0 (escaped_closes bs t.1)

unescaped_by : (b : ℕ) (rest : List ℕ) (t : Bool) → (b == 39 || b == 92) ≡ t → unescaped 39 false (cond t (92 ∷ b ∷ []) (b ∷ []) ++ rest) ≡ b ∷ unescaped 39 false rest
unescaped_by b rest true e = refl
unescaped_by b rest false e =
    let no = or_parts (b == 39) (b == 92) e in
    rw (no.0, no.1) refl

escaped_back : (a : List ℕ) → unescaped 39 false (in_quotes a) ≡ a
escaped_back [] = refl
escaped_back (b ∷ bs) =
    ap (unescaped 39 false) (append_assoc (escaped_byte b) (flat_map escaped_byte bs) (39 ∷ [])) ∙ unescaped_by b (in_quotes bs) (b == 39 || b == 92) refl ∙ ap (λ (s : List ℕ). b ∷ s) (escaped_back bs)

quoted_text : (s : List ℕ) → token_text (39 ∷ s) ≡ unescaped 39 false s
unfolding token_text
quoted_text s = refl

name_back_by : (a : List ℕ) (t : Bool) → is_bare a ≡ t → token_text (name_text a) ≡ a
name_back_by a true e = ap token_text (bare_name a e) ∙ word_as_it_stands a (bare_word a e)
name_back_by a false e = ap token_text (quoted_name a e) ∙ quoted_text (in_quotes a) ∙ escaped_back a

-- the text of a printed name is the name
pub name_back : (a : List ℕ) → token_text (name_text a) ≡ a
name_back a = name_back_by a (is_bare a) refl

-- ---- what is found at the front

quotes_long : (a : List ℕ) → 1 ≤ length (flat_map escaped_byte a) → (length (in_quotes a) == 1) ≡ false
quotes_long a some = ne_eqb (length (in_quotes a)) 1 (λ e. omega (arith, e, some, length-append (flat_map escaped_byte a) (39 ∷ [])))

escaped_some_by : (b : ℕ) (rest : List ℕ) (t : Bool) → 1 ≤ length (cond t (92 ∷ b ∷ []) (b ∷ []) ++ rest)
escaped_some_by b rest true = omega arith
escaped_some_by b rest false = omega arith

quoted_found : (s r : List ℕ) → closes 39 false s ≡ true → (length s == 1) ≡ false → front ((39 ∷ s) ++ r) ≡ Some (lexeme.Token kind.Quoted, length (39 ∷ s))
unfolding front
quoted_found s r h long =
    let len : quote_len 39 false 0 (s ++ r) ≡ Some (length s) = quote_front 39 false 0 s r h ∙ ap Some (omega arith) in
    rw len (cond-false (length s == 1) None (Some (lexeme.Token kind.Quoted, 1 + length s)) long ∙ ap (λ (n : ℕ). Some (lexeme.Token kind.Quoted, n)) (omega arith))

-- a printable name in quotes
pub quotes_found : (a r : List ℕ) → is_printable_text a ≡ true → front ((39 ∷ in_quotes a) ++ r) ≡ Some (lexeme.Token kind.Quoted, length (39 ∷ in_quotes a))
quotes_found [] r h = absurd cc
quotes_found (b ∷ bs) r h =
    quoted_found (in_quotes (b ∷ bs)) r (escaped_closes (b ∷ bs) h) (quotes_long (b ∷ bs) (escaped_some_by b (flat_map escaped_byte bs) (b == 39 || b == 92)))

name_byte_stops : (b : ℕ) → is_word_byte b ≡ false → is_name_byte b ≡ false
name_byte_stops b h = grind (arith, nat_tests)

pub name_stops : (r : List ℕ) → stops is_word_byte r → stops is_name_byte r
name_stops [] h = tt
name_stops (b ∷ r) h = name_byte_stops b h

pub variable_found : (x r : List ℕ) → is_variable_text x ≡ true → stops is_word_byte r → front (x ++ r) ≡ Some (lexeme.Token kind.Upper, length x)
unfolding front
variable_found [] r h stop = absurd cc
variable_found (b ∷ bs) r h stop =
    let t = and_parts (is_upper b) (list_all is_name_byte bs) h in
    ap (λ c. front_by c b (bs ++ r)) (class_upper b t.0) ∙ ap (λ (n : ℕ). Some (lexeme.Token kind.Upper, n)) (ap (λ (n : ℕ). 1 + n) (run_exact is_name_byte bs r t.1 (name_stops r stop)) ∙ omega arith)

after_dollar : (rest : List ℕ) (n : ℕ) → prefix_len is_name_byte rest ≡ suc n → name_after 1 rest ≡ Some (lexeme.Token kind.Dollar, suc (suc n))
after_dollar rest n e =
    let some : (prefix_len is_name_byte rest == 0) ≡ false = ne_eqb (prefix_len is_name_byte rest) 0 (λ none. omega (arith, none, e)) in
    cond-false (prefix_len is_name_byte rest == 0) None (Some (lexeme.Token kind.Dollar, 1 + prefix_len is_name_byte rest)) some ∙ ap (λ (m : ℕ). Some (lexeme.Token kind.Dollar, m)) (omega (arith, e))

-- a defined word: a dollar, then letters, digits and `_`
pub dollar_found : (b : ℕ) (bs r : List ℕ) → (b == 36) ≡ false → list_all is_name_byte (b ∷ bs) ≡ true → stops is_word_byte r → front ((36 ∷ b ∷ bs) ++ r) ≡ Some (lexeme.Token kind.Dollar, length (36 ∷ b ∷ bs))
unfolding front
dollar_found b bs r one h stop =
    cond-false (b == 36) (name_after 2 (bs ++ r)) (name_after 1 (b ∷ (bs ++ r))) one ∙ after_dollar (b ∷ (bs ++ r)) (length bs) (run_exact is_name_byte (b ∷ bs) r h (name_stops r stop))

-- ---- which names are bare

escaped_long : (b : ℕ) (t : Bool) → 1 ≤ length (cond t (92 ∷ b ∷ []) (b ∷ []))
escaped_long b true = omega arith
escaped_long b false = omega arith

as_long : (a : List ℕ) → length a ≤ length (flat_map escaped_byte a)
as_long [] = omega arith
as_long (b ∷ bs) = omega (arith, as_long bs, length-append (escaped_byte b) (flat_map escaped_byte bs), escaped_long b (b == 39 || b == 92))

bare_by : (a : List ℕ) (t : Bool) → is_bare a ≡ t → name_text a ≡ a → t ≡ true
bare_by a true e same = refl
bare_by a false e same =
    let len : length a ≡ suc (length (in_quotes a)) = ap length (sym same ∙ quoted_name a e) in
    absurd (omega (arith, len, as_long a, length-append (flat_map escaped_byte a) (39 ∷ [])))

-- the spelling of a name is the name only where it is bare
pub bare_only : (a : List ℕ) → name_text a ≡ a → is_bare a ≡ true
bare_only a same = bare_by a (is_bare a) refl same
