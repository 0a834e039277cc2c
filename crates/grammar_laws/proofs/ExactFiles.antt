-- The loop over the parts and the files of the grammar agree.
use Rattle.std.proofs.Common.{◌≡◌, ℕ, suc, ◌+◌, ◌≤◌, ◌<◌, Bool, true, false, List, [], ◌∷◌, ◌++◌, length, take, drop, Option, Some, None, Result, Ok, Err, ◌≢◌, refl, sym, ap, subst, ◌∙◌, append_assoc, arith}
use Rattle.std.specs.Prelude.{IfOk, IfErr}
use Rattle.tptp_lex.specs.Lexing.{Lexes}
use Rattle.tptp_lex.proofs.CallerLemmas.{one_lexing}
use Rattle.nxf_tree.specs.declared.tree.File.{File}
use Rattle.syntax_definitions.specs.Spells.{TokensSpell, IsFirstFault, Spells, IsCause}
use Rattle.std.proofs.lemmas.List.{append-nil, take-map, drop-map}
use Rattle.tptp_lex.specs.declared.token.Token.{Token}
use Rattle.nxf_terminals.specs.declared.sign.Sign.TheVariants as sign
use Rattle.nxf_tree.specs.declared.profile.Profile.{Profile}
use Rattle.nxf_terminals.specs.Signs.{same_sign}
use Rattle.nxf_terminals.specs.Input.{Item, Input, Outcome, Parser, sees, next, input_of, item_of}
use Rattle.nxf_tree.specs.declared.tree.Statement.{Statement}
use Rattle.syntax_definitions.specs.Statements.{IsStatement}
use Rattle.syntax_definitions.specs.steps.ReadStatements.{read_statement}
use Rattle.syntax_definitions.specs.Files.{before, statement_parts, AreRead, no_more, one_more, IsFirstUnread, here, later}
use Rattle.syntax_definitions.specs.steps.ReadFiles.{whole, Answer, Read, Unread, answer, read_parts, first_len, Answers, AnswersPart, Explains}
use Rattle.nxf_terminals.specs.declared.error.GrammarError.{GrammarError}
use Rattle.nxf_terminals.specs.declared.error.GrammarError.TheVariants as error
use Rattle.grammar_laws.proofs.ExactStatements.{statement_found, statement_sound}

-- ---- one part

one_answer : (s t : Statement) (i j : Input) → ◌≡◌ {A = Outcome Statement} (Some (s, i)) (Some (t, j)) → s ≡ t
one_answer s t i j h = let same : ◌≡◌ {A = Statement × Input} (s, i) (t, j) = cc in ap (λ (x : Statement × Input). x.0) same

pub one_statement : {w : Bool} {most n : ℕ} {p : Input} {s t : Statement} → IsStatement w most n p s [] → IsStatement w most n p t [] → s ≡ t
one_statement {s = s} {t = t} d e = one_answer s t [] [] (sym (statement_found d) ∙ statement_found e)

whole_found : {w : Bool} {most n : ℕ} {p : Input} {s : Statement} → IsStatement w most n p s [] → whole (read_statement w most n p) ≡ Some s
whole_found d = ap whole (statement_found d)

whole_by : (w : Bool) (most n : ℕ) (p : Input) (s : Statement) (o : Outcome Statement) → read_statement w most n p ≡ o → whole o ≡ Some s → IsStatement w most n p s []
whole_by w most n p s None e h = absurd cc
whole_by w most n p s (Some (t, [])) e h =
    let same : t ≡ s = cc in
    subst (λ (x : Statement). IsStatement w most n p x []) same (statement_sound w most n p t [] e)
whole_by w most n p s (Some (t, x ∷ xs)) e h = absurd cc

whole_sound : (w : Bool) (most n : ℕ) (p : Input) (s : Statement) → whole (read_statement w most n p) ≡ Some s → IsStatement w most n p s []
whole_sound w most n p s h = whole_by w most n p s (read_statement w most n p) refl h

-- no rule reads what is not found
not_read : (w : Bool) (most n : ℕ) (p : Input) → whole (read_statement w most n p) ≡ None → (s : Statement) → IsStatement w most n p s [] → ⊥
not_read w most n p h s d = let both : None ≡ Some s = sym h ∙ whole_found d in cc

-- ---- all parts

record Found (w : Bool) (most n : ℕ) (ps : List Input) (found out : List Statement) : Type 0 where
  ss : List Statement
  out_is : out ≡ found ++ ss
  are : AreRead w most n ps ss

record Missed (w : Bool) (most n : ℕ) (ps : List Input) (k out : ℕ) : Type 0 where
  j : ℕ
  out_is : out + 1 ≡ k + j
  is : IsFirstUnread w most n ps j

module _ (w : Bool) (most n : ℕ) where
  abbrev Says : List Input → ℕ → List Statement → Answer → Type 0
  Says ps k found (Read ss) = Found w most n ps found ss
  Says ps k found (Unread j) = Missed w most n ps k j

  says_more : (p : Input) (ps : List Input) (k : ℕ) (found : List Statement) (s : Statement) (a : Answer) → IsStatement w most n p s [] → Says ps (k + 1) (found ++ s ∷ []) a → Says (p ∷ ps) k found a
  says_more p ps k found s (Read ss) d r = record { ss = s ∷ r.ss; out_is = r.out_is ∙ append_assoc found (s ∷ []) r.ss; are = one_more d r.are }
  says_more p ps k found s (Unread j) d r = record { j = suc r.j; out_is = omega (arith, r.out_is); is = later d r.is }

  says_by : (p : Input) (ps : List Input) (k : ℕ) (found : List Statement) (o : Option Statement) → whole (read_statement w most n p) ≡ o → ((s : Statement) → Says ps (k + 1) (found ++ s ∷ []) (read_parts (read_statement w most n) ps (k + 1) (found ++ s ∷ [])))
      → Says (p ∷ ps) k found (answer o k (λ s. read_parts (read_statement w most n) ps (k + 1) (found ++ s ∷ [])))
  says_by p ps k found None e again = record { j = 1; out_is = omega arith; is = here (not_read w most n p e) }
  says_by p ps k found (Some s) e again = says_more p ps k found s (read_parts (read_statement w most n) ps (k + 1) (found ++ s ∷ [])) (whole_sound w most n p s e) (again s)

  says : (ps : List Input) (k : ℕ) (found : List Statement) → Says ps k found (read_parts (read_statement w most n) ps k found)
  unfolding read_parts
  says [] k found = record { ss = []; out_is = sym (append-nil found); are = no_more }
  says (p ∷ ps) k found = says_by p ps k found (whole (read_statement w most n p)) refl (λ s. says ps (k + 1) (found ++ s ∷ []))

  pub parts_read : (ps : List Input) (ss : List Statement) → read_parts (read_statement w most n) ps 1 [] ≡ Read ss → AreRead w most n ps ss
  parts_read ps ss h =
      let r : Found w most n ps [] ss = subst (Says ps 1 []) h (says ps 1 []) in
      subst (λ (x : List Statement). AreRead w most n ps x) (sym r.out_is) r.are

  pub parts_unread : (ps : List Input) (k : ℕ) → read_parts (read_statement w most n) ps 1 [] ≡ Unread k → IsFirstUnread w most n ps k
  parts_unread ps k h =
      let r : Missed w most n ps 1 k = subst (Says ps 1 []) h (says ps 1 []) in
      let same : r.j ≡ k = omega (arith, r.out_is) in
      subst (λ (x : ℕ). IsFirstUnread w most n ps x) same r.is

pub one_file : {w : Bool} {most n : ℕ} {ps : List Input} {ss ts : List Statement} → AreRead w most n ps ss → AreRead w most n ps ts → ss ≡ ts
one_file no_more no_more = refl
one_file (one_more {s = s} {ss = ss} d ds) (one_more {s = t} {ss = ts} e es) = ap (λ (x : Statement). x ∷ ss) (one_statement d e) ∙ ap (λ (x : List Statement). t ∷ x) (one_file ds es)

pub no_file : {w : Bool} {most n k : ℕ} {ps : List Input} {ss : List Statement} → AreRead w most n ps ss → IsFirstUnread w most n ps k → ⊥
no_file no_more e = elim e [ ]
no_file (one_more {s = s} d ds) (here none) = none s d
no_file (one_more d ds) (later e es) = no_file ds es

-- ---- the first part

pub stop_here : (i : Input) → 0 < length i → sees sign.Stop i ≡ true → first_len i ≡ 1
unfolding sees
stop_here [] h e = absurd (omega arith)
stop_here (x ∷ xs) h e = rw e refl

pub no_stop : (i : Input) → 0 < length i → sees sign.Stop i ≡ false → first_len i ≡ suc (first_len (next i))
unfolding sees
no_stop [] h e = absurd (omega arith)
no_stop (x ∷ xs) h e = rw e refl

pub next_len : (i : Input) → 0 < length i → length (next i) + 1 ≡ length i
next_len [] h = absurd (omega arith)
next_len (x ∷ xs) h = omega arith

split_by : (x : Item) (xs : Input) (b : Bool) → same_sign x.0 sign.Stop ≡ b → before x (statement_parts xs) ≡ (x ∷ take (first_len xs) xs) ∷ statement_parts (drop (first_len xs) xs) → statement_parts (x ∷ xs) ≡ take (first_len (x ∷ xs)) (x ∷ xs) ∷ statement_parts (drop (first_len (x ∷ xs)) (x ∷ xs))
split_by x xs true e more = rw e refl
split_by x xs false e more = rw e more

before_one : (x : Item) (xs : Input) → before x (statement_parts xs) ≡ (x ∷ take (first_len xs) xs) ∷ statement_parts (drop (first_len xs) xs)
before_one x [] = refl
before_one x (y ∷ ys) = ap (before x) (split_by y ys (same_sign y.0 sign.Stop) refl (before_one y ys))

split : (xs : Input) → 0 < length xs → statement_parts xs ≡ take (first_len xs) xs ∷ statement_parts (drop (first_len xs) xs)
split [] h = absurd (omega arith)
split (x ∷ xs) h = split_by x xs (same_sign x.0 sign.Stop) refl (before_one x xs)

token_there : (p : Profile) (bytes : List ℕ) (ts : List Token) → 0 < length ts → 0 < length (input_of p bytes ts)
token_there p bytes [] h = absurd (omega arith)
token_there p bytes (t ∷ ts) h = omega arith

pub first_part : (one : Parser Statement) (p : Profile) (bytes : List ℕ) (ts first others : List Token) (n k : ℕ) (found : List Statement) → 0 < length ts → n ≡ first_len (input_of p bytes ts) → first ≡ take n ts → others ≡ drop n ts
    → read_parts one (statement_parts (input_of p bytes ts)) k found ≡ answer (whole (one (input_of p bytes first))) k (λ s. read_parts one (statement_parts (input_of p bytes others)) (k + 1) (found ++ s ∷ []))
unfolding read_parts
first_part one p bytes ts first others n k found some is a b =
    rw (split (input_of p bytes ts) (token_there p bytes ts some), ← is, take-map (item_of p bytes) n ts, drop-map (item_of p bytes) n ts, a, b) refl

pub none_left : (one : Parser Statement) (p : Profile) (bytes : List ℕ) (ts : List Token) (k : ℕ) (found : List Statement) → length ts ≤ 0 → read_parts one (statement_parts (input_of p bytes ts)) k found ≡ Read found
unfolding read_parts
none_left one p bytes [] k found h = refl
none_left one p bytes (t ∷ ts) k found h = absurd (omega arith)

pub part_refused : (o : Option Statement) (k : ℕ) (again : Statement → Answer) (outcome : Answer) (e : GrammarError) → AnswersPart o k (Err e) → outcome ≡ answer o k again → Answers outcome (Err e)
part_refused o k again outcome (error.Syntax j) h e = e ∙ ap (λ x. answer x k again) h.1 ∙ ap (λ (x : ℕ). Unread x) (sym h.0)
part_refused o k again outcome error.Memory h e = tt

pub file_refused : (w : Bool) (most n : ℕ) (parts : List Input) (e : GrammarError) → Answers (read_parts (read_statement w most n) parts 1 []) (Err e) → Explains w most n parts e
file_refused w most n parts (error.Syntax k) h = parts_unread w most n parts k h
file_refused w most n parts error.Memory h = tt

-- ---- one answer

pub one_fault : {w : Bool} {most n j k : ℕ} {ps : List Input} → IsFirstUnread w most n ps j → IsFirstUnread w most n ps k → j ≡ k
one_fault (here none) (here other) = refl
one_fault (here none) (later {s = s} e es) = absurd (none s e)
one_fault (later {s = s} d ds) (here none) = absurd (none s d)
one_fault (later d ds) (later e es) = ap suc (one_fault ds es)

abbrev file_of : List Statement → File
file_of ss = record { statements = ss }

same_file : (f g : File) → f.statements ≡ g.statements → f ≡ g
same_file f g e = ap (λ (ss : List Statement). file_of ss) e

pub one_file_read : (p : Profile) (bytes : List ℕ) (ts : List Token) (f g : File) → TokensSpell p bytes ts f → TokensSpell p bytes ts g → f ≡ g
one_file_read p bytes ts f g d e = same_file f g (one_file d e)

pub one_file_spelled : (p : Profile) (bytes : List ℕ) (f g : File) → Spells p bytes f → Spells p bytes g → f ≡ g
one_file_spelled p bytes f g d e = one_file_read p bytes d.0 f g d.2 (subst (λ (ts : List Token). TokensSpell p bytes ts g) (one_lexing bytes e.0 d.0 e.1 d.1) e.2)

pub file_only : (p : Profile) (bytes : List ℕ) (ts : List Token) (result : Result File GrammarError) → Lexes bytes ts → IfOk result (λ f. TokensSpell p bytes ts f) → IfErr result (λ e. IsCause p bytes ts e) → (f : File) → Spells p bytes f → result ≢ Err error.Memory → result ≡ Ok f
file_only p bytes ts (Ok g) lexed ok err f spells some = ap Ok (one_file_spelled p bytes g f (ts, lexed, ok) spells)
file_only p bytes ts (Err (error.Syntax k)) lexed ok err f spells some =
    absurd (no_file (subst (λ (us : List Token). TokensSpell p bytes us f) (one_lexing bytes spells.0 ts spells.1 lexed) spells.2) err)
file_only p bytes ts (Err error.Memory) lexed ok err f spells some = absurd (some refl)

pub fault_only : (p : Profile) (bytes : List ℕ) (ts : List Token) (result : Result File GrammarError) → IfOk result (λ f. TokensSpell p bytes ts f) → IfErr result (λ e. IsCause p bytes ts e) → (k : ℕ) → IsFirstFault p bytes ts k → result ≢ Err error.Memory → result ≡ Err (error.Syntax k)
fault_only p bytes ts (Ok f) ok err k fault some = absurd (no_file ok fault)
fault_only p bytes ts (Err (error.Syntax j)) ok err k fault some = ap (λ (x : ℕ). Err (error.Syntax x)) (one_fault err fault)
fault_only p bytes ts (Err error.Memory) ok err k fault some = absurd (some refl)
