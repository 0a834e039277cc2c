-- The signs and words that stand in a printed text, each with the item of its token.
use Rattle.std.proofs.Common.{◌≡◌, ℕ, Bool, true, false, Some, List, [], ◌∷◌, ◌++◌, length, refl, sym, ap, subst, ◌∙◌, append_assoc, arith}
use Rattle.std.specs.Prelude.{codes, nat_eq, ◌==◌}
use Rattle.std.specs.List.{list_all}
use Rattle.std.proofs.lemmas.Bool.{true≢false, and_parts}
use Rattle.std.proofs.lemmas.Bool.Decides.{nat_tests}
use Rattle.tptp_lex.specs.declared.token.Kind.TheVariants as kind
use Rattle.tptp_lex.specs.declared.token.Lexeme.TheVariants as lexeme
use Rattle.nxf_base.specs.Bytes.{is_name_byte, is_upper, is_word_byte}
use Rattle.tptp_lex.specs.Front.{front, punctuation_len}
use Rattle.tptp_lex.proofs.CallerLemmas.{word_longest, stops}
use Rattle.nxf_tree.specs.declared.profile.Profile.{Profile}
use Rattle.nxf_tree.specs.declared.profile.Profile.TheVariants as profiles
use Rattle.nxf_terminals.specs.declared.sign.Sign.{Sign}
use Rattle.nxf_terminals.specs.declared.sign.Sign.TheVariants as sign
use Rattle.nxf_terminals.specs.Signs.{lookup, punctuation, words, allowed, sign_of, same_sign}
use Rattle.nxf_base.specs.Bytes.{is_printable_text, is_variable_text, is_word_text}
use Rattle.nxf_terminals.specs.Input.{Input}
use Rattle.nxf_terminals.proofs.CallerLemmas.{same_true_sign}
use Rattle.nxf_tree.specs.Text.{is_bare, name_text}
use Rattle.syntax_definitions.specs.Files.{statement_parts}
use Rattle.nxf_tree.specs.Profiles.{has_distinct}
use Rattle.printed_text_laws.proofs.LexedAs.{IsLexedAs, found_more, lexed_more}
use Rattle.printed_text_laws.proofs.Writes.{Writes, then_any, then_word}
use Rattle.printed_text_laws.proofs.Spellings.{in_quotes, bare_word, bare_name, quoted_name, quotes_found, variable_found, dollar_found}

-- a sign that each profile has, and that is no full stop
abbrev pub is_plain : Sign → Bool
is_plain sign.Stop = false
is_plain sign.Box = false
is_plain sign.Dia = false
is_plain sign.Less = false
is_plain sign.Hash = false
is_plain sign.Is = false
is_plain sign.Boxes = false
is_plain sign.Diamonds = false
is_plain sign.Distinct = false
is_plain _ = true

plain_problem : (j : Sign) → is_plain j ≡ true → allowed profiles.Problem j ≡ j
plain_problem sign.Distinct h = absurd cc
plain_problem _ h = refl

plain_classical : (j : Sign) → is_plain j ≡ true → allowed profiles.Classical j ≡ j
plain_classical sign.Box h = absurd cc
plain_classical sign.Dia h = absurd cc
plain_classical sign.Less h = absurd cc
plain_classical sign.Hash h = absurd cc
plain_classical sign.Is h = absurd cc
plain_classical sign.Boxes h = absurd cc
plain_classical sign.Diamonds h = absurd cc
plain_classical sign.Distinct h = absurd cc
plain_classical _ h = refl

plain_interpretation : (j : Sign) → is_plain j ≡ true → allowed profiles.Interpretation j ≡ j
plain_interpretation sign.Box h = absurd cc
plain_interpretation sign.Dia h = absurd cc
plain_interpretation sign.Less h = absurd cc
plain_interpretation sign.Hash h = absurd cc
plain_interpretation sign.Is h = absurd cc
plain_interpretation sign.Boxes h = absurd cc
plain_interpretation sign.Diamonds h = absurd cc
plain_interpretation _ h = refl

plain_allowed : (p : Profile) (j : Sign) → is_plain j ≡ true → allowed p j ≡ j
plain_allowed profiles.Problem j h = plain_problem j h
plain_allowed profiles.Classical j h = plain_classical j h
plain_allowed profiles.Interpretation j h = plain_interpretation j h

no_stop_by : (j : Sign) (t : Bool) → same_sign j sign.Stop ≡ t → is_plain j ≡ true → t ≡ false
no_stop_by j true e h = let stop : j ≡ sign.Stop = same_true_sign j sign.Stop e in absurd (true≢false (sym h ∙ ap is_plain stop))
no_stop_by j false e h = refl

no_stop : (j : Sign) → is_plain j ≡ true → same_sign j sign.Stop ≡ false
no_stop j h = no_stop_by j (same_sign j sign.Stop) refl h

blank_found : (r : List ℕ) → front (32 ∷ r) ≡ Some (lexeme.Blank, 1)
unfolding front
blank_found r = refl

line_found : (r : List ℕ) → front (10 ∷ r) ≡ Some (lexeme.Blank, 1)
unfolding front
line_found r = refl

stop_found : (r : List ℕ) → front (46 ∷ r) ≡ Some (lexeme.Token kind.Punct, 1)
unfolding front punctuation_len
stop_found r = refl

close_found : (r : List ℕ) → front (41 ∷ r) ≡ Some (lexeme.Token kind.Punct, 1)
unfolding front punctuation_len
close_found r = refl

upper_no_stop : (b : ℕ) → is_upper b ≡ true → nat_eq 46 b ≡ false
upper_no_stop b h = grind (arith, nat_tests)

-- no `.` follows the bracket
bracket_found : (b : ℕ) (r : List ℕ) → is_upper b ≡ true → front (91 ∷ b ∷ r) ≡ Some (lexeme.Token kind.Punct, 1)
unfolding front punctuation_len
bracket_found b r h = rw (upper_no_stop b h) refl

distinct_no_stop : same_sign sign.Distinct sign.Stop ≡ false
unfolding same_sign
distinct_no_stop = refl

distinct_allowed : (p : Profile) → has_distinct p ≡ true → allowed p sign.Distinct ≡ sign.Distinct
distinct_allowed profiles.Problem h = absurd cc
distinct_allowed profiles.Classical h = absurd cc
distinct_allowed profiles.Interpretation h = refl

stop_allowed : (p : Profile) → allowed p sign.Stop ≡ sign.Stop
stop_allowed profiles.Problem = refl
stop_allowed profiles.Classical = refl
stop_allowed profiles.Interpretation = refl

module _ (p : Profile) where
  -- a token that is no full stop goes to the part of those that follow
  one_split : (j : Sign) (s : List ℕ) → is_plain j ≡ true → (i part : Input) (parts : List Input) → statement_parts i ≡ part ∷ parts → statement_parts ((j, s) ∷ i) ≡ ((j, s) ∷ part) ∷ parts
  one_split j s h i part parts e = rw (no_stop j h, e) refl

  blank_more : (r : List ℕ) (i : Input) → IsLexedAs p r i → IsLexedAs p (32 ∷ r) i
  blank_more r i l = found_more p lexeme.Blank (32 ∷ []) r i (blank_found r) l

  pub line_more : (r : List ℕ) (i : Input) → IsLexedAs p r i → IsLexedAs p (10 ∷ r) i
  line_more r i l = found_more p lexeme.Blank (10 ∷ []) r i (line_found r) l

  pub blank : Writes p false (32 ∷ []) (λ i. i)
  blank = record { lexed = λ r i stop l. blank_more r i l; splits = λ i part parts e. e }

  -- ---- punctuation

  mark_is : (s : List ℕ) (j : Sign) → lookup punctuation sign.Other s ≡ j → allowed p j ≡ j → sign_of p kind.Punct s ≡ j
  unfolding sign_of
  mark_is s j e h = ap (allowed p) e ∙ h

  mark_more : (s r : List ℕ) (j : Sign) (i : Input) → lookup punctuation sign.Other s ≡ j → allowed p j ≡ j → front (s ++ r) ≡ Some (lexeme.Token kind.Punct, length s) → IsLexedAs p r i → IsLexedAs p (s ++ r) ((j, s) ∷ i)
  mark_more s r j i e h found l = subst (λ (k : Sign). IsLexedAs p (s ++ r) ((k, s) ∷ i)) (mark_is s j e h) (found_more p (lexeme.Token kind.Punct) s r i found l)

  -- punctuation that nothing lengthens
  mark : (s : List ℕ) (j : Sign) → lookup punctuation sign.Other s ≡ j → is_plain j ≡ true → ((r : List ℕ) → front (s ++ r) ≡ Some (lexeme.Token kind.Punct, length s)) → Writes p false s (λ i. (j, s) ∷ i)
  mark s j e h found = record {
    lexed = λ r i stop l. mark_more s r j i e (plain_allowed p j h) (found r) l;
    splits = one_split j s h;
  }

  -- punctuation before a blank
  mark_blank : (s : List ℕ) (j : Sign) → lookup punctuation sign.Other s ≡ j → is_plain j ≡ true → ((r : List ℕ) → front (s ++ 32 ∷ r) ≡ Some (lexeme.Token kind.Punct, length s)) → Writes p false (s ++ 32 ∷ []) (λ i. (j, s) ∷ i)
  mark_blank s j e h found = record {
    lexed = λ r i stop l. subst (λ (x : List ℕ). IsLexedAs p x ((j, s) ∷ i)) (sym (append_assoc s (32 ∷ []) r)) (mark_more s (32 ∷ r) j i e (plain_allowed p j h) (found r) (blank_more r i l));
    splits = one_split j s h;
  }

  pub open_mark : Writes p false (codes "(") (λ i. (sign.Open, codes "(") ∷ i)
  unfolding front punctuation_len
  open_mark = mark (codes "(") sign.Open refl refl (λ r. refl)

  pub close_mark : Writes p false (codes ")") (λ i. (sign.Close, codes ")") ∷ i)
  unfolding front punctuation_len
  close_mark = mark (codes ")") sign.Close refl refl (λ r. refl)

  pub comma : Writes p false (codes ",") (λ i. (sign.Comma, codes ",") ∷ i)
  unfolding front punctuation_len
  comma = mark (codes ",") sign.Comma refl refl (λ r. refl)

  pub minus : Writes p false (codes "-") (λ i. (sign.Minus, codes "-") ∷ i)
  unfolding front punctuation_len
  minus = mark (codes "-") sign.Minus refl refl (λ r. refl)

  right_bracket : Writes p false (codes "]") (λ i. (sign.RightBracket, codes "]") ∷ i)
  unfolding front punctuation_len
  right_bracket = mark (codes "]") sign.RightBracket refl refl (λ r. refl)

  pub open_blank : Writes p false (codes "( ") (λ i. (sign.Open, codes "(") ∷ i)
  open_blank = then_any p open_mark blank

  pub blank_close : Writes p false (codes " )") (λ i. (sign.Close, codes ")") ∷ i)
  blank_close = then_any p blank close_mark

  pub not_blank : Writes p false (codes "~ ") (λ i. (sign.Not, codes "~") ∷ i)
  unfolding front punctuation_len
  not_blank = mark_blank (codes "~") sign.Not refl refl (λ r. refl)

  pub colon_blank : Writes p false (codes ": ") (λ i. (sign.Colon, codes ":") ∷ i)
  unfolding front punctuation_len
  colon_blank = mark_blank (codes ":") sign.Colon refl refl (λ r. refl)

  pub bracket_colon : Writes p false (codes "] : ") (λ i. (sign.RightBracket, codes "]") ∷ (sign.Colon, codes ":") ∷ i)
  bracket_colon = then_any p right_bracket (then_any p blank colon_blank)

  -- punctuation between blanks
  between : (s : List ℕ) (j : Sign) → lookup punctuation sign.Other s ≡ j → is_plain j ≡ true → ((r : List ℕ) → front (s ++ 32 ∷ r) ≡ Some (lexeme.Token kind.Punct, length s)) → Writes p false (32 ∷ (s ++ 32 ∷ [])) (λ i. (j, s) ∷ i)
  between s j e h found = then_any p blank (mark_blank s j e h found)

  pub and_between : Writes p false (codes " & ") (λ i. (sign.And, codes "&") ∷ i)
  unfolding front punctuation_len
  and_between = between (codes "&") sign.And refl refl (λ r. refl)

  pub or_between : Writes p false (codes " | ") (λ i. (sign.Or, codes "|") ∷ i)
  unfolding front punctuation_len
  or_between = between (codes "|") sign.Or refl refl (λ r. refl)

  pub equal_between : Writes p false (codes " = ") (λ i. (sign.Equal, codes "=") ∷ i)
  unfolding front punctuation_len
  equal_between = between (codes "=") sign.Equal refl refl (λ r. refl)

  pub differ_between : Writes p false (codes " != ") (λ i. (sign.Differ, codes "!=") ∷ i)
  unfolding front punctuation_len
  differ_between = between (codes "!=") sign.Differ refl refl (λ r. refl)

  pub implies_between : Writes p false (codes " => ") (λ i. (sign.Implies, codes "=>") ∷ i)
  unfolding front punctuation_len
  implies_between = between (codes "=>") sign.Implies refl refl (λ r. refl)

  pub implied_between : Writes p false (codes " <= ") (λ i. (sign.ImpliedBy, codes "<=") ∷ i)
  unfolding front punctuation_len
  implied_between = between (codes "<=") sign.ImpliedBy refl refl (λ r. refl)

  pub iff_between : Writes p false (codes " <=> ") (λ i. (sign.Iff, codes "<=>") ∷ i)
  unfolding front punctuation_len
  iff_between = between (codes "<=>") sign.Iff refl refl (λ r. refl)

  pub xor_between : Writes p false (codes " <~> ") (λ i. (sign.Xor, codes "<~>") ∷ i)
  unfolding front punctuation_len
  xor_between = between (codes "<~>") sign.Xor refl refl (λ r. refl)

  pub nor_between : Writes p false (codes " ~| ") (λ i. (sign.Nor, codes "~|") ∷ i)
  unfolding front punctuation_len
  nor_between = between (codes "~|") sign.Nor refl refl (λ r. refl)

  pub nand_between : Writes p false (codes " ~& ") (λ i. (sign.Nand, codes "~&") ∷ i)
  unfolding front punctuation_len
  nand_between = between (codes "~&") sign.Nand refl refl (λ r. refl)

  pub greater_between : Writes p false (codes " > ") (λ i. (sign.Greater, codes ">") ∷ i)
  unfolding front punctuation_len
  greater_between = between (codes ">") sign.Greater refl refl (λ r. refl)

  pub star_between : Writes p false (codes " * ") (λ i. (sign.Star, codes "*") ∷ i)
  unfolding front punctuation_len
  star_between = between (codes "*") sign.Star refl refl (λ r. refl)

  pub close_greater : Writes p false (codes " ) > ") (λ i. (sign.Close, codes ")") ∷ (sign.Greater, codes ">") ∷ i)
  close_greater = then_any p blank_close greater_between

  -- ---- names, variables and words

  word_more : (a r : List ℕ) (i : Input) → is_word_text a ≡ true → stops is_word_byte r → IsLexedAs p r i → IsLexedAs p (a ++ r) ((sign.Name, a) ∷ i)
  unfolding sign_of
  word_more a r i h stop l = lexed_more p (lexeme.Token kind.Word) a r i (word_longest a r h stop) l

  pub word : (a : List ℕ) → is_word_text a ≡ true → Writes p true a (λ i. (sign.Name, a) ∷ i)
  word a h = record { lexed = λ r i stop l. word_more a r i h stop l; splits = one_split sign.Name a refl }

  quotes_more : (a r : List ℕ) (i : Input) → is_printable_text a ≡ true → IsLexedAs p r i → IsLexedAs p ((39 ∷ in_quotes a) ++ r) ((sign.Name, 39 ∷ in_quotes a) ∷ i)
  unfolding sign_of
  quotes_more a r i h l = found_more p (lexeme.Token kind.Quoted) (39 ∷ in_quotes a) r i (quotes_found a r h) l

  quotes : (a : List ℕ) → is_printable_text a ≡ true → Writes p true (39 ∷ in_quotes a) (λ i. (sign.Name, 39 ∷ in_quotes a) ∷ i)
  quotes a h = record { lexed = λ r i stop l. quotes_more a r i h l; splits = one_split sign.Name (39 ∷ in_quotes a) refl }

  name_by : (a : List ℕ) (t : Bool) → is_bare a ≡ t → is_printable_text a ≡ true → Writes p true (name_text a) (λ i. (sign.Name, name_text a) ∷ i)
  name_by a true e h = subst (λ (s : List ℕ). Writes p true s (λ i. (sign.Name, s) ∷ i)) (sym (bare_name a e)) (word a (bare_word a e))
  name_by a false e h = subst (λ (s : List ℕ). Writes p true s (λ i. (sign.Name, s) ∷ i)) (sym (quoted_name a e)) (quotes a h)

  pub name : (a : List ℕ) → is_printable_text a ≡ true → Writes p true (name_text a) (λ i. (sign.Name, name_text a) ∷ i)
  name a h = name_by a (is_bare a) refl h

  variable_more : (x r : List ℕ) (i : Input) → is_variable_text x ≡ true → stops is_word_byte r → IsLexedAs p r i → IsLexedAs p (x ++ r) ((sign.Upper, x) ∷ i)
  unfolding sign_of
  variable_more x r i h stop l = found_more p (lexeme.Token kind.Upper) x r i (variable_found x r h stop) l

  pub variable : (x : List ℕ) → is_variable_text x ≡ true → Writes p true x (λ i. (sign.Upper, x) ∷ i)
  variable x h = record { lexed = λ r i stop l. variable_more x r i h stop l; splits = one_split sign.Upper x refl }

  dollar_is : (s : List ℕ) (j : Sign) → lookup words sign.Dollar s ≡ j → allowed p j ≡ j → sign_of p kind.Dollar s ≡ j
  unfolding sign_of
  dollar_is s j e h = ap (allowed p) e ∙ h

  dollar_more : (b : ℕ) (bs r : List ℕ) (j : Sign) (i : Input) → lookup words sign.Dollar (36 ∷ b ∷ bs) ≡ j → allowed p j ≡ j → (b == 36) ≡ false → list_all is_name_byte (b ∷ bs) ≡ true → stops is_word_byte r → IsLexedAs p r i → IsLexedAs p ((36 ∷ b ∷ bs) ++ r) ((j, 36 ∷ b ∷ bs) ∷ i)
  dollar_more b bs r j i e h one all stop l =
      subst (λ (k : Sign). IsLexedAs p ((36 ∷ b ∷ bs) ++ r) ((k, 36 ∷ b ∷ bs) ∷ i)) (dollar_is (36 ∷ b ∷ bs) j e h) (found_more p (lexeme.Token kind.Dollar) (36 ∷ b ∷ bs) r i (dollar_found b bs r one all stop) l)

  dollar : (b : ℕ) (bs : List ℕ) (j : Sign) → lookup words sign.Dollar (36 ∷ b ∷ bs) ≡ j → is_plain j ≡ true → (b == 36) ≡ false → list_all is_name_byte (b ∷ bs) ≡ true → Writes p true (36 ∷ b ∷ bs) (λ i. (j, 36 ∷ b ∷ bs) ∷ i)
  dollar b bs j e h one all = record { lexed = λ r i stop l. dollar_more b bs r j i e (plain_allowed p j h) one all stop l; splits = one_split j (36 ∷ b ∷ bs) h }

  pub true_word : Writes p true (codes "$true") (λ i. (sign.True, codes "$true") ∷ i)
  true_word = dollar 116 (codes "rue") sign.True refl refl refl refl

  pub false_word : Writes p true (codes "$false") (λ i. (sign.False, codes "$false") ∷ i)
  false_word = dollar 102 (codes "alse") sign.False refl refl refl refl

  pub individual_word : Writes p true (codes "$i") (λ i. (sign.Individual, codes "$i") ∷ i)
  individual_word = dollar 105 [] sign.Individual refl refl refl refl

  pub truth_word : Writes p true (codes "$o") (λ i. (sign.Truth, codes "$o") ∷ i)
  truth_word = dollar 111 [] sign.Truth refl refl refl refl

  sort_word : Writes p true (codes "$tType") (λ i. (sign.SortType, codes "$tType") ∷ i)
  sort_word = dollar 116 (codes "Type") sign.SortType refl refl refl refl

  pub colon_sort : Writes p true (codes ": $tType") (λ i. (sign.Colon, codes ":") ∷ (sign.SortType, codes "$tType") ∷ i)
  colon_sort = then_any p colon_blank sort_word

  pub individual_sort : Writes p true (codes "$i: $tType") (λ i. (sign.Individual, codes "$i") ∷ (sign.Colon, codes ":") ∷ (sign.SortType, codes "$tType") ∷ i)
  individual_sort = then_word p individual_word (λ r. refl) colon_sort

  pub statement_front : Writes p false (codes "tff(") (λ i. (sign.Name, codes "tff") ∷ (sign.Open, codes "(") ∷ i)
  statement_front = then_word p (word (codes "tff") refl) (λ r. refl) open_mark

  -- ---- quantifiers, and `$distinct`

  bracket_variable : (x : List ℕ) → is_variable_text x ≡ true → Writes p true (91 ∷ x) (λ i. (sign.LeftBracket, codes "[") ∷ (sign.Upper, x) ∷ i)
  bracket_variable [] h = absurd cc
  bracket_variable (b ∷ bs) h = record {
    lexed = λ r i stop l. mark_more (codes "[") ((b ∷ bs) ++ r) sign.LeftBracket ((sign.Upper, b ∷ bs) ∷ i) refl (plain_allowed p sign.LeftBracket refl) (bracket_found b (bs ++ r) (and_parts (is_upper b) (list_all is_name_byte bs) h).0) (variable_more (b ∷ bs) r i h stop l);
    splits = λ i part parts e. one_split sign.LeftBracket (codes "[") refl ((sign.Upper, b ∷ bs) ∷ i) ((sign.Upper, b ∷ bs) ∷ part) parts (one_split sign.Upper (b ∷ bs) refl i part parts e);
  }

  all_blank : Writes p false (codes "! ") (λ i. (sign.All, codes "!") ∷ i)
  unfolding front punctuation_len
  all_blank = mark_blank (codes "!") sign.All refl refl (λ r. refl)

  exists_blank : Writes p false (codes "? ") (λ i. (sign.Exists, codes "?") ∷ i)
  unfolding front punctuation_len
  exists_blank = mark_blank (codes "?") sign.Exists refl refl (λ r. refl)

  pub all_variable : (x : List ℕ) → is_variable_text x ≡ true → Writes p true (codes "! [" ++ x) (λ i. (sign.All, codes "!") ∷ (sign.LeftBracket, codes "[") ∷ (sign.Upper, x) ∷ i)
  all_variable x h = then_any p all_blank (bracket_variable x h)

  pub exists_variable : (x : List ℕ) → is_variable_text x ≡ true → Writes p true (codes "? [" ++ x) (λ i. (sign.Exists, codes "?") ∷ (sign.LeftBracket, codes "[") ∷ (sign.Upper, x) ∷ i)
  exists_variable x h = then_any p exists_blank (bracket_variable x h)

  distinct_split : (i part : Input) (parts : List Input) → statement_parts i ≡ part ∷ parts → statement_parts ((sign.Distinct, codes "$distinct") ∷ i) ≡ ((sign.Distinct, codes "$distinct") ∷ part) ∷ parts
  distinct_split i part parts e = rw (distinct_no_stop, e) refl

  distinct_word : has_distinct p ≡ true → Writes p true (codes "$distinct") (λ i. (sign.Distinct, codes "$distinct") ∷ i)
  distinct_word has = record {
    lexed = λ r i stop l. dollar_more 100 (codes "istinct") r sign.Distinct i refl (distinct_allowed p has) refl refl stop l;
    splits = distinct_split;
  }

  pub distinct_open : has_distinct p ≡ true → Writes p false (codes "$distinct(") (λ i. (sign.Distinct, codes "$distinct") ∷ (sign.Open, codes "(") ∷ i)
  distinct_open has = then_word p (distinct_word has) (λ r. refl) open_mark

  -- ---- the end of a statement

  stop_more : (r : List ℕ) (i : Input) → IsLexedAs p r i → IsLexedAs p (46 ∷ r) ((sign.Stop, codes ".") ∷ i)
  stop_more r i l = mark_more (codes ".") r sign.Stop i refl (stop_allowed p) (stop_found r) l

  pub end_more : (r : List ℕ) (i : Input) → IsLexedAs p r i → IsLexedAs p (codes ")." ++ 10 ∷ r) ((sign.Close, codes ")") ∷ (sign.Stop, codes ".") ∷ i)
  end_more r i l = mark_more (codes ")") (46 ∷ 10 ∷ r) sign.Close ((sign.Stop, codes ".") ∷ i) refl (plain_allowed p sign.Close refl) (close_found (46 ∷ 10 ∷ r)) (stop_more (10 ∷ r) i (line_more r i l))

  -- a part ends with its full stop
  pub end_split : (i : Input) → statement_parts ((sign.Close, codes ")") ∷ (sign.Stop, codes ".") ∷ i) ≡ ((sign.Close, codes ")") ∷ (sign.Stop, codes ".") ∷ []) ∷ statement_parts i
  unfolding same_sign
  end_split i = refl
