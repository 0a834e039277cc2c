-- The text of a name is printable, and the items of a text are spelled as their signs say.
use Rattle.std.proofs.Common.{◌≡◌, ℕ, ◌<◌, suc, Bool, true, false, cond, not, ◌&&◌, ◌||◌, List, [], ◌∷◌, ◌++◌, length, refl, ap, ◌∙◌, arith, length-append, inl, inr, ⊎_elim, ◌⊎◌}
use Rattle.std.specs.Prelude.{◌==◌, nat_le, IsTrue}
use Rattle.std.specs.List.{list_all, AllByRecursion}
use Rattle.std.specs.Str.{bytes_eq}
use Rattle.std.proofs.lemmas.Bool.{and_parts, and_from, cond-false, cond-true, eqb-true, or_left, or_right}
use Rattle.std.proofs.lemmas.Bool.Decides.{nat_tests}
use Rattle.nxf_base.specs.Bytes.{is_lower, is_digit, is_word_byte}
use Rattle.nxf_base.specs.Bytes.{begins_then}
use Rattle.tptp_lex.specs.Shapes.{closes, is_quoted, is_digits, IsNumber, IsLexeme}
use Rattle.tptp_lex.specs.Texts.{unescaped, token_text, spelling_of, IsSpelled as IsLexed}
use Rattle.tptp_lex.specs.declared.token.Token.{Token}
use Rattle.tptp_lex.specs.declared.token.Kind.{Kind}
use Rattle.tptp_lex.specs.declared.token.Kind.TheVariants as kind
use Rattle.tptp_lex.specs.declared.token.Lexeme.TheVariants as lexeme
use Rattle.nxf_tree.specs.declared.profile.Profile.{Profile}
use Rattle.nxf_tree.specs.declared.profile.Profile.TheVariants as profiles
use Rattle.nxf_terminals.specs.declared.sign.Sign.{Sign}
use Rattle.nxf_terminals.specs.declared.sign.Sign.TheVariants as sign
use Rattle.nxf_terminals.specs.Signs.{lookup, number, punctuation, words, without_modal, without_distinct, allowed, sign_of}
use Rattle.nxf_terminals.specs.Names.{is_word}
use Rattle.nxf_terminals.specs.Input.{input_of, item_of}
use Rattle.nxf_tree.specs.Profiles.{Allowed}
use Rattle.nxf_base.specs.Bytes.{is_printable_byte, is_printable_text, is_word_text}
use Rattle.nxf_terminals.specs.Spelled.{is_spelled, IsSpelled}

-- ---- texts

all_pass : (p q : ℕ → Bool) (xs : List ℕ) → ((b : ℕ) → p b ≡ true → q b ≡ true) → list_all p xs ≡ true → list_all q xs ≡ true
all_pass p q [] more h = refl
all_pass p q (x ∷ xs) more h = let t = and_parts (p x) (list_all p xs) h in and_from (q x) (list_all q xs) (more x t.0) (all_pass p q xs more t.1)

begins_pass : (first others : ℕ → Bool) (s : List ℕ) → ((b : ℕ) → first b ≡ true → is_printable_byte b ≡ true) → ((b : ℕ) → others b ≡ true → is_printable_byte b ≡ true) → begins_then first others s ≡ true → is_printable_text s ≡ true
begins_pass first others [] one more h = absurd cc
begins_pass first others (b ∷ bs) one more h = let t = and_parts (first b) (list_all others bs) h in and_from (is_printable_byte b) (list_all is_printable_byte bs) (one b t.0) (all_pass others is_printable_byte bs more t.1)

lower_printable : (b : ℕ) → is_lower b ≡ true → is_printable_byte b ≡ true
lower_printable b h = grind (arith, nat_tests)

word_byte_printable : (b : ℕ) → is_word_byte b ≡ true → is_printable_byte b ≡ true
word_byte_printable b h = grind (arith, nat_tests)

digit_printable : (b : ℕ) → is_digit b ≡ true → is_printable_byte b ≡ true
digit_printable b h = grind (arith, nat_tests)

no_quote : (b : ℕ) → (is_lower b || is_digit b) ≡ true → (b == 39 || b == 34) ≡ false
no_quote b h = grind (arith, nat_tests)

lower_or : (b : ℕ) → is_lower b ≡ true → (is_lower b || is_digit b) ≡ true
lower_or b h = rw h refl

digit_or : (b : ℕ) → is_digit b ≡ true → (is_lower b || is_digit b) ≡ true
digit_or b h = grind (arith, nat_tests)

as_it_stands : (b : ℕ) (bs : List ℕ) → (b == 39 || b == 34) ≡ false → token_text (b ∷ bs) ≡ b ∷ bs
unfolding token_text
as_it_stands b bs h = cond-false (b == 39 || b == 34) (unescaped b false bs) (b ∷ bs) h

word_printable : (s : List ℕ) → is_word_text s ≡ true → is_printable_text (token_text s) ≡ true
word_printable [] h = absurd cc
word_printable (b ∷ bs) h =
    let t = and_parts (is_lower b) (list_all is_word_byte bs) h in
    ap is_printable_text (as_it_stands b bs (no_quote b (lower_or b t.0))) ∙ begins_pass is_lower is_word_byte (b ∷ bs) lower_printable word_byte_printable h

pub digits_printable : (s : List ℕ) → is_digits s ≡ true → is_printable_text (token_text s) ≡ true
digits_printable [] h = absurd cc
digits_printable (b ∷ bs) h =
    let t = and_parts (is_digit b) (list_all is_digit bs) h in
    ap is_printable_text (as_it_stands b bs (no_quote b (digit_or b t.0))) ∙ begins_pass is_digit is_digit (b ∷ bs) digit_printable digit_printable h

-- ---- quoted texts

escaped_printable : (b : ℕ) → (b == 39 || b == 92) ≡ true → is_printable_byte b ≡ true
escaped_printable b h = grind (arith, nat_tests)

unescaped_by : (b : ℕ) (bs : List ℕ) (q e : Bool) → (b == 39) ≡ q → (b == 92) ≡ e → cond q (length bs == 0) ((nat_le 32 b && nat_le b 126) && closes 39 e bs) ≡ true → (closes 39 true bs ≡ true → list_all is_printable_byte (unescaped 39 true bs) ≡ true) → (closes 39 false bs ≡ true → list_all is_printable_byte (unescaped 39 false bs) ≡ true) → list_all is_printable_byte (cond q [] (cond e (unescaped 39 true bs) (b ∷ unescaped 39 false bs))) ≡ true
unescaped_by b bs true e qe ee h after more = refl
unescaped_by b bs false true qe ee h after more = after (and_parts (nat_le 32 b && nat_le b 126) (closes 39 true bs) h).1
unescaped_by b bs false false qe ee h after more = let t = and_parts (nat_le 32 b && nat_le b 126) (closes 39 false bs) h in and_from (is_printable_byte b) (list_all is_printable_byte (unescaped 39 false bs)) t.0 (more t.1)

unescaped_printable : (is_escaped : Bool) (s : List ℕ) → closes 39 is_escaped s ≡ true → list_all is_printable_byte (unescaped 39 is_escaped s) ≡ true
unescaped_printable is_escaped [] h = absurd cc
unescaped_printable true (b ∷ bs) h =
    let t = and_parts (b == 39 || b == 92) (closes 39 false bs) h in
    and_from (is_printable_byte b) (list_all is_printable_byte (unescaped 39 false bs)) (escaped_printable b t.0) (unescaped_printable false bs t.1)
unescaped_printable false (b ∷ bs) h = unescaped_by b bs (b == 39) (b == 92) refl refl h (unescaped_printable true bs) (unescaped_printable false bs)

some_printable : (s : List ℕ) → 0 < length s → list_all is_printable_byte s ≡ true → is_printable_text s ≡ true
some_printable [] some h = absurd (omega arith)
some_printable (b ∷ bs) some h = h

escaped_some : (bs : List ℕ) → closes 39 true bs ≡ true → 0 < length (unescaped 39 true bs)
escaped_some [] h = absurd cc
escaped_some (b ∷ bs) h = omega arith

unescaped_some_by : (b : ℕ) (bs : List ℕ) (q e : Bool) → cond q (length bs == 0) ((nat_le 32 b && nat_le b 126) && closes 39 e bs) ≡ true → not (suc (length bs) == 1) ≡ true → 0 < length (cond q [] (cond e (unescaped 39 true bs) (b ∷ unescaped 39 false bs)))
unescaped_some_by b bs true e h some = let none = eqb-true (length bs) 0 h in absurd (grind (arith, nat_tests, none, some))
unescaped_some_by b bs false true h some = escaped_some bs (and_parts (nat_le 32 b && nat_le b 126) (closes 39 true bs) h).1
unescaped_some_by b bs false false h some = omega arith

unescaped_some : (s : List ℕ) → closes 39 false s ≡ true → not (length s == 1) ≡ true → 0 < length (unescaped 39 false s)
unescaped_some [] h some = absurd cc
unescaped_some (b ∷ bs) h some = unescaped_some_by b bs (b == 39) (b == 92) h some

in_quotes : (bs : List ℕ) → token_text (39 ∷ bs) ≡ unescaped 39 false bs
unfolding token_text
in_quotes bs = refl

quoted_printable : (s : List ℕ) → is_quoted 39 s ≡ true → is_printable_text (token_text s) ≡ true
quoted_printable [] h = absurd cc
quoted_printable (b ∷ bs) h =
    let t = and_parts (b == 39) (closes 39 false bs && not (length bs == 1)) h in
    let u = and_parts (closes 39 false bs) (not (length bs == 1)) t.1 in
    let quote : b ≡ 39 = eqb-true b 39 t.0 in
    ap (λ (x : ℕ). is_printable_text (token_text (x ∷ bs))) quote ∙ ap is_printable_text (in_quotes bs) ∙ some_printable (unescaped 39 false bs) (unescaped_some bs u.0 u.1) (unescaped_printable false bs u.0)

-- ---- names

name_by : (s : List ℕ) (w q : Bool) → is_word_text s ≡ w → is_quoted 39 s ≡ q → (w || q) ≡ true → is_printable_text (token_text s) ≡ true
name_by s true q we qe h = word_printable s we
name_by s false true we qe h = quoted_printable s qe
name_by s false false we qe h = absurd cc

pub name_printable : (s : List ℕ) → (is_word_text s || is_quoted 39 s) ≡ true → is_printable_text (token_text s) ≡ true
name_printable s h = name_by s (is_word_text s) (is_quoted 39 s) refl refl h

quoted_no_word : (s : List ℕ) → is_quoted 39 s ≡ true → is_word s ≡ false
quoted_no_word [] h = refl
quoted_no_word (b ∷ bs) h = let t = and_parts (b == 39) (closes 39 false bs && not (length bs == 1)) h in cond-true (b == 39) false true t.0

word_by : (s : List ℕ) (w q : Bool) → is_word_text s ≡ w → is_quoted 39 s ≡ q → (w || q) ≡ true → is_word s ≡ true → is_word_text s ≡ true
word_by s true q we qe h word = we
word_by s false true we qe h word = let no = quoted_no_word s qe in cc
word_by s false false we qe h word = absurd cc

pub name_word : (s : List ℕ) → (is_word_text s || is_quoted 39 s) ≡ true → is_word s ≡ true → is_word_text s ≡ true
name_word s h word = word_by s (is_word_text s) (is_quoted 39 s) refl refl h word

-- ---- signs

-- a sign whose text goes into no tree by its spelling
abbrev is_plain : Sign → Bool
is_plain sign.Name = false
is_plain sign.Integer = false
is_plain sign.Upper = false
is_plain _ = true

lookup_by : (t : Bool) (s u : Sign) → is_plain s ≡ true → is_plain u ≡ true → is_plain (cond t s u) ≡ true
lookup_by true s u a b = a
lookup_by false s u a b = b

lookup_plain : (table : List (List ℕ × Sign)) (u : Sign) (spelling : List ℕ) → list_all (λ e. is_plain e.1) table ≡ true → is_plain u ≡ true → is_plain (lookup table u spelling) ≡ true
lookup_plain [] u spelling h o = o
lookup_plain (e ∷ es) u spelling h o =
    let t = and_parts (is_plain e.1) (list_all (λ e. is_plain e.1) es) h in
    lookup_by (bytes_eq e.0 spelling) e.1 (lookup es u spelling) t.0 (lookup_plain es u spelling t.1 o)

-- what a profile needs a file to be allowed
abbrev pub Permits : Profile → Allowed → Type 0
Permits profiles.Problem l = IsTrue l.modal
Permits profiles.Classical l = Unit {0}
Permits profiles.Interpretation l = IsTrue l.distinct

plain_problem : (l : Allowed) (s : Sign) (a : List ℕ) → IsTrue l.modal → is_plain s ≡ true → is_spelled l (without_distinct s) a ≡ true
plain_problem l sign.Name a m h = absurd cc
plain_problem l sign.Integer a m h = absurd cc
plain_problem l sign.Upper a m h = absurd cc
plain_problem l sign.Box a m h = m
plain_problem l sign.Dia a m h = m
plain_problem l sign.Less a m h = m
plain_problem l sign.Hash a m h = m
plain_problem l sign.Is a m h = m
plain_problem l sign.Boxes a m h = m
plain_problem l sign.Diamonds a m h = m
plain_problem l _ a m h = refl

plain_classical : (l : Allowed) (s : Sign) (a : List ℕ) → is_plain s ≡ true → is_spelled l (without_distinct (without_modal s)) a ≡ true
plain_classical l sign.Name a h = absurd cc
plain_classical l sign.Integer a h = absurd cc
plain_classical l sign.Upper a h = absurd cc
plain_classical l _ a h = refl

plain_interpretation : (l : Allowed) (s : Sign) (a : List ℕ) → IsTrue l.distinct → is_plain s ≡ true → is_spelled l (without_modal s) a ≡ true
plain_interpretation l sign.Name a d h = absurd cc
plain_interpretation l sign.Integer a d h = absurd cc
plain_interpretation l sign.Upper a d h = absurd cc
plain_interpretation l sign.Distinct a d h = d
plain_interpretation l _ a d h = refl

plain_spelled : (p : Profile) (l : Allowed) (s : Sign) (a : List ℕ) → Permits p l → is_plain s ≡ true → is_spelled l (allowed p s) a ≡ true
plain_spelled profiles.Problem l s a permits h = plain_problem l s a permits h
plain_spelled profiles.Classical l s a permits h = plain_classical l s a h
plain_spelled profiles.Interpretation l s a permits h = plain_interpretation l s a permits h

number_at : (b : ℕ) (bs : List ℕ) (d : Bool) → is_digit b ≡ d → (number bs ≡ sign.Other) ⊎ ((number bs ≡ sign.Integer) × (list_all is_digit bs ≡ true)) → (cond d (number bs) sign.Other ≡ sign.Other) ⊎ ((cond d (number bs) sign.Other ≡ sign.Integer) × (list_all is_digit (b ∷ bs) ≡ true))
number_at b bs true e more = ⊎_elim (λ (other : number bs ≡ sign.Other). inl other) (λ (digits : (number bs ≡ sign.Integer) × (list_all is_digit bs ≡ true)). inr (digits.0, and_from (is_digit b) (list_all is_digit bs) e digits.1)) more
number_at b bs false e more = inl refl

number_is : (s : List ℕ) → (number s ≡ sign.Other) ⊎ ((number s ≡ sign.Integer) × (list_all is_digit s ≡ true))
number_is [] = inr (refl, refl)
number_is (b ∷ bs) = number_at b bs (is_digit b) refl (number_is bs)

some_digits : (s : List ℕ) → 0 < length s → list_all is_digit s ≡ true → is_digits s ≡ true
some_digits [] some h = absurd (omega arith)
some_digits (b ∷ bs) some h = h

whole_some : (whole : List ℕ) → is_digits whole ≡ true → 0 < length whole
whole_some [] h = absurd cc
whole_some (b ∷ bs) h = omega arith

number_some : (s : List ℕ) → IsNumber s → 0 < length s
number_some s n = omega (arith, whole_some n.whole n.is_whole, ap length n.parts, length-append n.whole (n.fraction ++ n.exponent))

number_spelled : (l : Allowed) (s : List ℕ) → IsNumber s → is_spelled l (number s) s ≡ true
number_spelled l s n = ⊎_elim
    (λ (other : number s ≡ sign.Other). ap (λ j. is_spelled l j s) other)
    (λ (digits : (number s ≡ sign.Integer) × (list_all is_digit s ≡ true)). ap (λ j. is_spelled l j s) digits.0 ∙ some_digits s (number_some s n) digits.1)
    (number_is s)

kind_by : (p : Profile) (l : Allowed) (k : Kind) (s after : List ℕ) → Permits p l → IsLexeme (lexeme.Token k) s after → is_spelled l (sign_of p k s) s ≡ true
unfolding sign_of
kind_by p l kind.Word s after permits is = or_left (is_word_text s) (is_quoted 39 s) is
kind_by p l kind.Quoted s after permits is = or_right (is_word_text s) (is_quoted 39 s) is
kind_by p l kind.Upper s after permits is = is
kind_by p l kind.Number s after permits is = number_spelled l s is
kind_by p l kind.Distinct s after permits is = refl
kind_by p l kind.Punct s after permits is = plain_spelled p l (lookup punctuation sign.Other s) s permits (lookup_plain punctuation sign.Other s refl refl)
kind_by p l kind.Dollar s after permits is = plain_spelled p l (lookup words sign.Dollar s) s permits (lookup_plain words sign.Dollar s refl refl)

kind_spelled : (p : Profile) (l : Allowed) (t : Token) (bytes : List ℕ) → Permits p l → IsLexed bytes t → IsSpelled l (item_of p bytes t)
kind_spelled p l t bytes permits lexed = kind_by p l t.kind (spelling_of bytes t) lexed.0 permits lexed.1

pub items_spelled : (p : Profile) (l : Allowed) (bytes : List ℕ) (ts : List Token) → Permits p l → AllByRecursion (IsLexed bytes) ts → AllByRecursion (IsSpelled l) (input_of p bytes ts)
items_spelled p l bytes [] permits h = tt
items_spelled p l bytes (t ∷ ts) permits h = (kind_spelled p l t bytes permits h.0, items_spelled p l bytes ts permits h.1)
