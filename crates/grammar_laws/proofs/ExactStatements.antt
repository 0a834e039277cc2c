-- The descent and the grammar agree on statements.
use Rattle.std.proofs.Common.{◌≡◌, ℕ, zero, suc, ◌+◌, ◌≤◌, ◌<◌, Bool, true, false, List, [], ◌∷◌, ◌++◌, length, Some, None, refl, sym, ap, subst, ◌∙◌, append_assoc, arith}
use Rattle.nxf_terminals.specs.declared.sign.Sign.{Sign}
use Rattle.nxf_terminals.specs.declared.sign.Sign.TheVariants as sign
use Rattle.nxf_terminals.specs.Names.{is_word}
use Rattle.tptp_lex.specs.Texts.{token_text}
use Rattle.nxf_terminals.specs.Signs.{same_sign}
use Rattle.nxf_terminals.specs.Input.{Spelling, Input, and_then, kind, sees, expect, pure}
use Rattle.nxf_terminals.proofs.CallerLemmas.{bound, moved, expected, with_expected, end_is_no_close, end_is_no_stop, end_is_no_comma, end_is_no_open, end_is_no_left_bracket}
use Rattle.nxf_tree.specs.declared.tree.Role.{Role}
use Rattle.nxf_tree.specs.declared.tree.Body.{Body}
use Rattle.nxf_tree.specs.declared.tree.Body.TheVariants as body
use Rattle.nxf_tree.specs.declared.tree.Statement.{Statement}
use Rattle.nxf_tree.specs.declared.tree.Statement.TheVariants as statement
use Rattle.nxf_tree.specs.declared.tree.Formula.{Formula}
use Rattle.syntax_definitions.specs.Formulas.{IsIndex, IsFormula}
use Rattle.syntax_definitions.specs.steps.ReadFormulas.{index_text}
use Rattle.syntax_definitions.specs.steps.ReadFormulas as formulas
use Rattle.grammar_laws.proofs.Complete.{index_found, index_shorter, formula_found, ends_formula}
use Rattle.grammar_laws.proofs.Sound.{index_sound, formula_sound}
use Rattle.nxf_tree.specs.declared.tree.BodyKind.{BodyKind}
use Rattle.nxf_tree.specs.declared.tree.BodyKind.TheVariants as kinds
use Rattle.syntax_definitions.specs.declared.keyword.Keyword.{Keyword}
use Rattle.syntax_definitions.specs.declared.keyword.Keyword.TheVariants as keyword
use Rattle.syntax_definitions.specs.Annotations.{IsAnnotation, annotation}
use Rattle.syntax_definitions.specs.steps.ReadLists.{list_from}
use Rattle.syntax_definitions.specs.steps.ReadTypings.{typing_of, ends_type}
use Rattle.syntax_definitions.specs.steps.ReadLogic.{logic_spec}
use Rattle.syntax_definitions.specs.Statements.{IsWord, IsName, IsRole, IsBody, AreLabels, IsStatement, role_of, keyword_of}
use Rattle.nxf_tree.specs.Regular.{body_kind}
use Rattle.syntax_definitions.specs.Statements as g
use Rattle.syntax_definitions.specs.steps.ReadStatements.{word_if, word_by, word, name_by, name, suffix, role, body_of, ended, noted, annotated, included, include, statement_after, statement_by, read_statement}
use Rattle.grammar_laws.proofs.Lists.{list_sound}
use Rattle.grammar_laws.proofs.ExactTypings.{typing_found, typing_sound}
use Rattle.grammar_laws.proofs.ExactLogic.{logic_found, logic_sound}
use Rattle.grammar_laws.proofs.ExactAnnotations.{annotation_found, annotation_sound}

-- ---- what the grammar reads is read

word_found : {xs rest : Input} {a : Spelling} → IsWord xs a rest → word xs ≡ Some (a, rest)
unfolding word
word_found {xs = xs} (g.word h) = ap (λ b. word_if b xs) h

name_found : {xs rest : Input} {a : Spelling} → IsName xs a rest → name xs ≡ Some (a, rest)
unfolding name
name_found g.name = refl

-- no `-` goes on with a role, and no joint or operator with a body
abbrev ends_role : Sign → Bool
ends_role sign.Minus = false
ends_role _ = true

no_suffix : (a : Spelling) (s : Sign) (i : Input) → ends_role s ≡ true → suffix a s i ≡ Some (role_of a None, i)
no_suffix a sign.Minus i h = absurd cc
no_suffix a _ i h = refl

role_found : {xs rest : Input} {r : Role} → IsRole xs r rest → ends_role (kind rest) ≡ true → role xs ≡ Some (r, rest)
unfolding role
role_found {rest = rest} (g.of_word {a = a} d) h = rw (word_found d) (no_suffix a (kind rest) rest h)
role_found (g.with_suffix d e) h = rw (word_found d) (rw (word_found e) refl)

formula_reads : {most n : ℕ} {xs rest : Input} {f : Formula} → IsFormula most n xs f rest → ends_formula (kind rest) ≡ true → formulas.formula most n xs ≡ Some (f, rest)
unfolding formulas.formula
formula_reads d h = formula_found d h

body_found : {most n : ℕ} {k : BodyKind} {xs rest : Input} {b : Body} → IsBody most n k xs b rest → ends_type (kind rest) ≡ true → ends_formula (kind rest) ≡ true → body_of most n k xs ≡ Some (b, rest)
body_found (g.typing d) h e = rw (typing_found d h) refl
body_found (g.logic d) h e = rw (logic_found d) refl
body_found (g.formula d) h e = rw (formula_reads d e) refl

labels_shorter : {xs rest : Input} {ls : List Spelling} → AreLabels xs ls rest → length ls + length rest < length xs
labels_shorter (g.last_label d) = omega (arith, index_shorter d)
labels_shorter (g.more_labels d ds) = omega (arith, index_shorter d, labels_shorter ds)

labels_found : {xs rest : Input} {ls : List Spelling} → AreLabels xs ls rest → (k : ℕ) (found : List Spelling) → length ls ≤ k → list_from index_text k found xs ≡ Some (found ++ ls, rest)
unfolding list_from
labels_found (g.last_label d) zero found fits = absurd (omega arith)
labels_found (g.last_label d) (suc k) found fits = rw (index_found d) refl
labels_found (g.more_labels d ds) zero found fits = absurd (omega arith)
labels_found (g.more_labels {a = a} {rest = rest} {others = ls} d ds) (suc k) found fits = rw (index_found d) (labels_found ds k (found ++ a ∷ []) (omega arith) ∙ ap (λ (x : List Spelling). Some (x, rest)) (append_assoc found (a ∷ []) ls))

keyword_at : (w : Bool) (most n : ℕ) (a : Spelling) (k : Keyword) (rest : Input) → keyword_of w a ≡ k → read_statement w most n ((sign.Name, a) ∷ rest) ≡ statement_after most n k ((sign.Name, a) ∷ rest)
unfolding read_statement
keyword_at w most n a k rest h = ap (λ x. statement_after most n x ((sign.Name, a) ∷ rest)) h

annotated_found : {most n : ℕ} {c d e f label : Spelling} {xs ys zs rest : Input} {r : Role} {b : Body} → IsIndex xs label ((sign.Comma, c) ∷ ys) → IsRole ys r ((sign.Comma, d) ∷ zs) → IsBody most n (body_kind r.word) zs b ((sign.Close, e) ∷ (sign.Stop, f) ∷ rest) → annotated most n xs ≡ Some (statement.Annotated label r b, rest)
unfolding annotated ended expect sees same_sign
annotated_found i r b = rw (index_found i) (rw (role_found r refl) (rw (body_found b refl refl) refl))

noted_found : {most n : ℕ} {c d e f v label : Spelling} {xs ys zs ws rest : Input} {r : Role} {b : Body} → IsIndex xs label ((sign.Comma, c) ∷ ys) → IsRole ys r ((sign.Comma, d) ∷ zs) → IsBody most n (body_kind r.word) zs b ((sign.Comma, v) ∷ ws) → IsAnnotation ws ((sign.Close, e) ∷ (sign.Stop, f) ∷ rest) → annotated most n xs ≡ Some (statement.Annotated label r b, rest)
unfolding annotated ended expect sees same_sign
noted_found i r b a = rw (index_found i) (rw (role_found r refl) (rw (body_found b refl refl) (rw (annotation_found a refl) refl)))

include_found : {e f file : Spelling} {xs rest : Input} → IsName xs file ((sign.Close, e) ∷ (sign.Stop, f) ∷ rest) → include xs ≡ Some (statement.Include file None, rest)
unfolding include ended expect sees same_sign
include_found i = rw (name_found i) refl

some_found : {c b e f file : Spelling} {xs ys rest : Input} {names : List Spelling} → IsName xs file ((sign.Comma, c) ∷ (sign.LeftBracket, b) ∷ ys) → AreLabels ys names ((sign.Close, e) ∷ (sign.Stop, f) ∷ rest) → include xs ≡ Some (statement.Include file (Some names), rest)
unfolding include ended expect sees same_sign
some_found {ys = ys} i d = rw (name_found i) (rw (labels_found d (length ys) [] (omega (arith, labels_shorter d))) refl)

pub statement_found : {w : Bool} {most n : ℕ} {xs rest : Input} {s : Statement} → IsStatement w most n xs s rest → read_statement w most n xs ≡ Some (s, rest)
unfolding expect sees same_sign
statement_found {w = w} {most = most} {n = n} (g.annotated {a = a} {o = o} {xs = xs} h i r b) = keyword_at w most n a keyword.Tff ((sign.Open, o) ∷ xs) h ∙ annotated_found i r b
statement_found {w = w} {most = most} {n = n} (g.noted {a = a} {o = o} {xs = xs} h i r b t) = keyword_at w most n a keyword.Tff ((sign.Open, o) ∷ xs) h ∙ noted_found i r b t
statement_found {w = w} {most = most} {n = n} (g.include {a = a} {o = o} {xs = xs} h i) = keyword_at w most n a keyword.Include ((sign.Open, o) ∷ xs) h ∙ include_found i
statement_found {w = w} {most = most} {n = n} (g.include_some {a = a} {o = o} {xs = xs} h i d) = keyword_at w most n a keyword.Include ((sign.Open, o) ∷ xs) h ∙ some_found i d

-- ---- what is read, the grammar reads

word_is : (a : Spelling) (ys : Input) (b : Bool) (out : Spelling) (rest : Input) → is_word a ≡ b → word_if b ((sign.Name, a) ∷ ys) ≡ Some (out, rest) → IsWord ((sign.Name, a) ∷ ys) out rest
word_is a ys true out rest is h = moved (λ (x : Spelling) r. IsWord ((sign.Name, a) ∷ ys) x r) (a, ys) (out, rest) h (g.word is)
word_is a ys false out rest is h = absurd cc

word_at : (s : Sign) (v : Spelling) (ys : Input) (out : Spelling) (rest : Input) → word_by s ((s, v) ∷ ys) ≡ Some (out, rest) → IsWord ((s, v) ∷ ys) out rest
word_at sign.Name v ys out rest h = word_is v ys (is_word v) out rest refl h
word_at _ v ys out rest h = absurd cc

word_sound : (xs : Input) (a : Spelling) (rest : Input) → word xs ≡ Some (a, rest) → IsWord xs a rest
unfolding word
word_sound [] a rest h = absurd cc
word_sound (x ∷ ys) a rest h = word_at x.0 x.1 ys a rest h

name_at : (s : Sign) (v : Spelling) (ys : Input) (out : Spelling) (rest : Input) → name_by s ((s, v) ∷ ys) ≡ Some (out, rest) → IsName ((s, v) ∷ ys) out rest
name_at sign.Name v ys out rest h = moved (λ (x : Spelling) r. IsName ((sign.Name, v) ∷ ys) x r) (token_text v, ys) (out, rest) h g.name
name_at _ v ys out rest h = absurd cc

name_sound : (xs : Input) (a : Spelling) (rest : Input) → name xs ≡ Some (a, rest) → IsName xs a rest
unfolding name
name_sound [] a rest h = absurd cc
name_sound (x ∷ ys) a rest h = name_at x.0 x.1 ys a rest h

suffix_at : (xs : Input) (a : Spelling) (s : Sign) (v : Spelling) (ys : Input) (r : Role) (rest : Input) → IsWord xs a ((s, v) ∷ ys) → suffix a s ((s, v) ∷ ys) ≡ Some (r, rest) → IsRole xs r rest
suffix_at xs a sign.Minus v ys r rest d h =
    let b = bound (word ys) (λ b. pure (role_of a (Some b))) (r, rest) h in
    moved (λ (x : Role) j. IsRole xs x j) (role_of a (Some b.value), b.rest) (r, rest) b.then (g.with_suffix d (word_sound ys b.value b.rest b.first))
suffix_at xs a s v ys r rest d h = moved (λ (x : Role) j. IsRole xs x j) (role_of a None, (s, v) ∷ ys) (r, rest) h (g.of_word d)

suffix_then : (xs mid : Input) (a : Spelling) (r : Role) (rest : Input) → IsWord xs a mid → suffix a (kind mid) mid ≡ Some (r, rest) → IsRole xs r rest
suffix_then xs [] a r rest d h = moved (λ (x : Role) j. IsRole xs x j) (role_of a None, []) (r, rest) h (g.of_word d)
suffix_then xs (y ∷ ys) a r rest d h = suffix_at xs a y.0 y.1 ys r rest d h

role_sound : (xs : Input) (r : Role) (rest : Input) → role xs ≡ Some (r, rest) → IsRole xs r rest
unfolding role
role_sound xs r rest h =
    let b = bound (word xs) (λ a i. suffix a (kind i) i) (r, rest) h in
    suffix_then xs b.rest b.value r rest (word_sound xs b.value b.rest b.first) b.then

body_sound : (most n : ℕ) (k : BodyKind) (xs : Input) (b : Body) (rest : Input) → body_of most n k xs ≡ Some (b, rest) → IsBody most n k xs b rest
body_sound most n kinds.Typing xs b rest h =
    let c = bound (typing_of most n xs) (λ t. pure (body.Typing t)) (b, rest) h in
    moved (λ (x : Body) r. IsBody most n kinds.Typing xs x r) (body.Typing c.value, c.rest) (b, rest) c.then (g.typing (typing_sound most n xs c.value c.rest c.first))
body_sound most n kinds.Logic xs b rest h =
    let c = bound (logic_spec n xs) (λ t. pure (body.Logic t)) (b, rest) h in
    moved (λ (x : Body) r. IsBody most n kinds.Logic xs x r) (body.Logic c.value, c.rest) (b, rest) c.then (g.logic (logic_sound n xs c.value c.rest c.first))
body_sound most n kinds.Formula xs b rest h =
    let c = bound (formulas.formula most n xs) (λ t. pure (body.Formula t)) (b, rest) h in
    moved (λ (x : Body) r. IsBody most n kinds.Formula xs x r) (body.Formula c.value, c.rest) (b, rest) c.then (g.formula (formula_sound most n xs c.value c.rest c.first))

-- the end of a statement
record Ended (s : Statement) (i : Input) (out : Statement) (rest : Input) : Type 0 where
  close : Spelling
  stop : Spelling
  is : i ≡ (sign.Close, close) ∷ (sign.Stop, stop) ∷ rest
  same : s ≡ out

ended_sound : (s : Statement) (i : Input) (out : Statement) (rest : Input) → ended s i ≡ Some (out, rest) → Ended s i out rest
unfolding ended
ended_sound s i out rest h =
    let b = bound (expect sign.Close i) (λ u i. and_then (expect sign.Stop i) (λ u. pure s)) (out, rest) h in
    let c = bound (expect sign.Stop b.rest) (λ u. pure s) (out, rest) b.then in
    let close = expected sign.Close i b.value b.rest b.first end_is_no_close in
    let stop = expected sign.Stop b.rest c.value c.rest c.first end_is_no_stop in
    moved (λ (x : Statement) r. Ended s i x r) (s, c.rest) (out, rest) c.then
    (record { close = close.spelling; stop = stop.spelling; is = close.is ∙ ap (λ (x : Input). (sign.Close, close.spelling) ∷ x) stop.is; same = refl })

module _ (with_includes : Bool) (most n : ℕ) (a o : Spelling) (tff : keyword_of with_includes a ≡ keyword.Tff) (label c d : Spelling) (xs ys zs : Input) (r : Role)
    (labelled : IsIndex xs label ((sign.Comma, c) ∷ ys)) (roled : IsRole ys r ((sign.Comma, d) ∷ zs)) where
  plain_end : (b : Body) (i : Input) (s : Statement) (rest : Input) → IsBody most n (body_kind r.word) zs b i → ended (statement.Annotated label r b) i ≡ Some (s, rest) → IsStatement with_includes most n ((sign.Name, a) ∷ (sign.Open, o) ∷ xs) s rest
  plain_end b i s rest body_is h =
      let e = ended_sound (statement.Annotated label r b) i s rest h in
      subst (λ (x : Statement). IsStatement with_includes most n ((sign.Name, a) ∷ (sign.Open, o) ∷ xs) x rest) e.same
      (g.annotated tff labelled roled (subst (λ (j : Input). IsBody most n (body_kind r.word) zs b j) e.is body_is))

  noted_end : (b : Body) (v : Spelling) (ws i : Input) (s : Statement) (rest : Input) → IsBody most n (body_kind r.word) zs b ((sign.Comma, v) ∷ ws) → IsAnnotation ws i → ended (statement.Annotated label r b) i ≡ Some (s, rest) → IsStatement with_includes most n ((sign.Name, a) ∷ (sign.Open, o) ∷ xs) s rest
  noted_end b v ws i s rest body_is note h =
      let e = ended_sound (statement.Annotated label r b) i s rest h in
      subst (λ (x : Statement). IsStatement with_includes most n ((sign.Name, a) ∷ (sign.Open, o) ∷ xs) x rest) e.same
      (g.noted tff labelled roled body_is (subst (λ (j : Input). IsAnnotation ws j) e.is note))

  after_body : (b : Body) (k : Sign) (v : Spelling) (ws : Input) (s : Statement) (rest : Input) → IsBody most n (body_kind r.word) zs b ((k, v) ∷ ws) → noted (statement.Annotated label r b) k ((k, v) ∷ ws) ≡ Some (s, rest) → IsStatement with_includes most n ((sign.Name, a) ∷ (sign.Open, o) ∷ xs) s rest
  after_body b sign.Comma v ws s rest body_is h =
      let m = bound (annotation ws) (λ u. ended (statement.Annotated label r b)) (s, rest) h in
      noted_end b v ws m.rest s rest body_is (annotation_sound ws m.value m.rest m.first).is m.then
  after_body b k v ws s rest body_is h = plain_end b ((k, v) ∷ ws) s rest body_is h

  body_then : (b : Body) (i : Input) (s : Statement) (rest : Input) → IsBody most n (body_kind r.word) zs b i → noted (statement.Annotated label r b) (kind i) i ≡ Some (s, rest) → IsStatement with_includes most n ((sign.Name, a) ∷ (sign.Open, o) ∷ xs) s rest
  body_then b [] s rest body_is h = plain_end b [] s rest body_is h
  body_then b (y ∷ ws) s rest body_is h = after_body b y.0 y.1 ws s rest body_is h

module _ (with_includes : Bool) (most n : ℕ) (a o : Spelling) (tff : keyword_of with_includes a ≡ keyword.Tff) where
  role_then : (label c : Spelling) (xs ys i : Input) (r : Role) (s : Statement) (rest : Input) → IsIndex xs label ((sign.Comma, c) ∷ ys) → IsRole ys r i
      → and_then (expect sign.Comma i) (λ u i. and_then (body_of most n (body_kind r.word) i) (λ b i. noted (statement.Annotated label r b) (kind i) i)) ≡ Some (s, rest) → IsStatement with_includes most n ((sign.Name, a) ∷ (sign.Open, o) ∷ xs) s rest
  role_then label c xs ys i r s rest labelled roled h =
      let b = bound (expect sign.Comma i) (λ u i. and_then (body_of most n (body_kind r.word) i) (λ b i. noted (statement.Annotated label r b) (kind i) i)) (s, rest) h in
      let comma = expected sign.Comma i b.value b.rest b.first end_is_no_comma in
      let m = bound (body_of most n (body_kind r.word) b.rest) (λ b i. noted (statement.Annotated label r b) (kind i) i) (s, rest) b.then in
      body_then with_includes most n a o tff label c comma.spelling xs ys b.rest r labelled (subst (λ (j : Input). IsRole ys r j) comma.is roled) m.value m.rest s rest (body_sound most n (body_kind r.word) b.rest m.value m.rest m.first) m.then

  label_then : (label : Spelling) (xs i : Input) (s : Statement) (rest : Input) → IsIndex xs label i
      → and_then (expect sign.Comma i) (λ u i. and_then (role i) (λ r i. and_then (expect sign.Comma i) (λ u i. and_then (body_of most n (body_kind r.word) i) (λ b i. noted (statement.Annotated label r b) (kind i) i)))) ≡ Some (s, rest) → IsStatement with_includes most n ((sign.Name, a) ∷ (sign.Open, o) ∷ xs) s rest
  label_then label xs i s rest labelled h =
      let b = bound (expect sign.Comma i) (λ u i. and_then (role i) (λ r i. and_then (expect sign.Comma i) (λ u i. and_then (body_of most n (body_kind r.word) i) (λ b i. noted (statement.Annotated label r b) (kind i) i)))) (s, rest) h in
      let comma = expected sign.Comma i b.value b.rest b.first end_is_no_comma in
      let m = bound (role b.rest) (λ r i. and_then (expect sign.Comma i) (λ u i. and_then (body_of most n (body_kind r.word) i) (λ b i. noted (statement.Annotated label r b) (kind i) i))) (s, rest) b.then in
      role_then label comma.spelling xs b.rest m.rest m.value s rest (subst (λ (j : Input). IsIndex xs label j) comma.is labelled) (role_sound b.rest m.value m.rest m.first) m.then

  annotated_sound : (xs : Input) (s : Statement) (rest : Input) → annotated most n xs ≡ Some (s, rest) → IsStatement with_includes most n ((sign.Name, a) ∷ (sign.Open, o) ∷ xs) s rest
  unfolding annotated
  annotated_sound xs s rest h =
      let b = bound (index_text xs) (λ label i. and_then (expect sign.Comma i) (λ u i. and_then (role i) (λ r i. and_then (expect sign.Comma i) (λ u i. and_then (body_of most n (body_kind r.word) i) (λ b i. noted (statement.Annotated label r b) (kind i) i))))) (s, rest) h in
      label_then b.value xs b.rest s rest (index_sound xs b.value b.rest b.first) b.then

module _ (with_includes : Bool) (most n : ℕ) (a o : Spelling) (include_is : keyword_of with_includes a ≡ keyword.Include) where
  include_end : (file : Spelling) (xs i : Input) (s : Statement) (rest : Input) → IsName xs file i → ended (statement.Include file None) i ≡ Some (s, rest) → IsStatement with_includes most n ((sign.Name, a) ∷ (sign.Open, o) ∷ xs) s rest
  include_end file xs i s rest d h =
      let e = ended_sound (statement.Include file None) i s rest h in
      subst (λ (x : Statement). IsStatement with_includes most n ((sign.Name, a) ∷ (sign.Open, o) ∷ xs) x rest) e.same
      (g.include include_is (subst (λ (j : Input). IsName xs file j) e.is d))

  some_end : (file c b : Spelling) (xs ys i : Input) (names : List Spelling) (s : Statement) (rest : Input) → IsName xs file ((sign.Comma, c) ∷ (sign.LeftBracket, b) ∷ ys) → AreLabels ys names i → ended (statement.Include file (Some names)) i ≡ Some (s, rest) → IsStatement with_includes most n ((sign.Name, a) ∷ (sign.Open, o) ∷ xs) s rest
  some_end file c b xs ys i names s rest d ls h =
      let e = ended_sound (statement.Include file (Some names)) i s rest h in
      subst (λ (x : Statement). IsStatement with_includes most n ((sign.Name, a) ∷ (sign.Open, o) ∷ xs) x rest) e.same
      (g.include_some include_is d (subst (λ (j : Input). AreLabels ys names j) e.is ls))

  labels_then : (file c b : Spelling) (xs ys : Input) (s : Statement) (rest : Input) → IsName xs file ((sign.Comma, c) ∷ (sign.LeftBracket, b) ∷ ys) → and_then (list_from index_text (length ys) [] ys) (λ names. ended (statement.Include file (Some names))) ≡ Some (s, rest) → IsStatement with_includes most n ((sign.Name, a) ∷ (sign.Open, o) ∷ xs) s rest
  labels_then file c b xs ys s rest d h =
      let m = bound (list_from index_text (length ys) [] ys) (λ names. ended (statement.Include file (Some names))) (s, rest) h in
      let r = list_sound IsIndex AreLabels (λ c xs rest a d. g.last_label d) (λ c xs mid rest a others d ds. g.more_labels d ds) index_text index_sound (length ys) [] ys m.value m.rest m.first in
      some_end file c b xs ys m.rest m.value s rest d (subst (λ (x : List Spelling). AreLabels ys x m.rest) (sym r.out_is) r.are) m.then

  comma_then : (file c : Spelling) (xs is : Input) (s : Statement) (rest : Input) → IsName xs file ((sign.Comma, c) ∷ is) → and_then (expect sign.LeftBracket is) (λ u i. and_then (list_from index_text (length i) [] i) (λ names. ended (statement.Include file (Some names)))) ≡ Some (s, rest) → IsStatement with_includes most n ((sign.Name, a) ∷ (sign.Open, o) ∷ xs) s rest
  comma_then file c xs is s rest d h =
      let b = bound (expect sign.LeftBracket is) (λ u i. and_then (list_from index_text (length i) [] i) (λ names. ended (statement.Include file (Some names)))) (s, rest) h in
      let bracket = expected sign.LeftBracket is b.value b.rest b.first end_is_no_left_bracket in
      labels_then file c bracket.spelling xs b.rest s rest (subst (λ (j : Input). IsName xs file ((sign.Comma, c) ∷ j)) bracket.is d) b.then

  included_at : (file : Spelling) (xs : Input) (k : Sign) (v : Spelling) (ys : Input) (s : Statement) (rest : Input) → IsName xs file ((k, v) ∷ ys) → included file k ((k, v) ∷ ys) ≡ Some (s, rest) → IsStatement with_includes most n ((sign.Name, a) ∷ (sign.Open, o) ∷ xs) s rest
  included_at file xs sign.Comma v ys s rest d h = comma_then file v xs ys s rest d h
  included_at file xs k v ys s rest d h = include_end file xs ((k, v) ∷ ys) s rest d h

  included_then : (file : Spelling) (xs i : Input) (s : Statement) (rest : Input) → IsName xs file i → included file (kind i) i ≡ Some (s, rest) → IsStatement with_includes most n ((sign.Name, a) ∷ (sign.Open, o) ∷ xs) s rest
  included_then file xs [] s rest d h = include_end file xs [] s rest d h
  included_then file xs (y ∷ ys) s rest d h = included_at file xs y.0 y.1 ys s rest d h

  include_sound : (xs : Input) (s : Statement) (rest : Input) → include xs ≡ Some (s, rest) → IsStatement with_includes most n ((sign.Name, a) ∷ (sign.Open, o) ∷ xs) s rest
  unfolding include
  include_sound xs s rest h =
      let b = bound (name xs) (λ file i. included file (kind i) i) (s, rest) h in
      included_then b.value xs b.rest s rest (name_sound xs b.value b.rest b.first) b.then

keyword_then : (w : Bool) (most n : ℕ) (a : Spelling) (ys : Input) (s : Statement) (rest : Input) (k : Keyword) → keyword_of w a ≡ k → statement_after most n k ((sign.Name, a) ∷ ys) ≡ Some (s, rest) → IsStatement w most n ((sign.Name, a) ∷ ys) s rest
keyword_then w most n a ys s rest keyword.Tff is h =
    with_expected (λ (x : Input). IsStatement w most n ((sign.Name, a) ∷ x) s rest) sign.Open ys (annotated most n) (s, rest) end_is_no_open
    (λ o xs e. annotated_sound w most n a o is xs s rest e) h
keyword_then w most n a ys s rest keyword.Include is h =
    with_expected (λ (x : Input). IsStatement w most n ((sign.Name, a) ∷ x) s rest) sign.Open ys include (s, rest) end_is_no_open
    (λ o xs e. include_sound w most n a o is xs s rest e) h
keyword_then w most n a ys s rest keyword.Other is h = absurd cc

statement_at : (w : Bool) (most n : ℕ) (k : Sign) (v : Spelling) (ys : Input) (s : Statement) (rest : Input) → statement_by w most n k ((k, v) ∷ ys) ≡ Some (s, rest) → IsStatement w most n ((k, v) ∷ ys) s rest
statement_at w most n sign.Name v ys s rest h = keyword_then w most n v ys s rest (keyword_of w v) refl h
statement_at w most n _ v ys s rest h = absurd cc

pub statement_sound : (w : Bool) (most n : ℕ) (xs : Input) (s : Statement) (rest : Input) → read_statement w most n xs ≡ Some (s, rest) → IsStatement w most n xs s rest
unfolding read_statement
statement_sound w most n [] s rest h = absurd cc
statement_sound w most n (x ∷ ys) s rest h = statement_at w most n x.0 x.1 ys s rest h
