-- The next statement: taken for a number, or refused.
use Rattle.std.proofs.Common.{◌≡◌, ℕ, zero, suc, ◌+◌, ◌*◌, ◌<◌, Bool, true, false, cond, List, [], ◌∷◌, ◌++◌, map, length, take, drop, get_or, Option, None, Some, refl, sym, ap, subst, ◌∙◌, length-append, arith, inl, inr}
use Rattle.std.specs.Prelude.{IsSome, codes}
use Rattle.std.specs.List.{fold}
use Rattle.std.proofs.lemmas.Bool.{true≢false, cases_lt}
use Rattle.std.proofs.lemmas.Grind.{flat_map-append}
use Rattle.nxf_tree.specs.declared.tree.SortName.{SortName}
use Rattle.nxf_tree.specs.declared.tree.SortName.TheVariants.{Individual, User}
use Rattle.nxf_tree.specs.Rows.{numbers_below}
use Rattle.tptp_lex.specs.declared.token.Token.{Token}
use Rattle.plain_tokens.specs.PlainTokens.{Plain, plain_of, plains_of}
use Rattle.kripke_text_definitions.specs.TokenStatements.{is_stop, in_first, statements}
use Rattle.std.proofs.lemmas.List.{take_all, drop_all}
use Rattle.plain_tokens.specs.Marks.{Mark, Sign, Dollar, Blank, plains, mark_plains}
use Rattle.kripke_text_definitions.specs.KripkeText as text
use Rattle.kripke_text_laws.specs.steps.FirstParts.{NextIsNot}
use Rattle.kripke_text_laws.proofs.Heads.{counted}
use Rattle.kripke_text_laws.proofs.Apart.{object_apart}
use Rattle.kripke_text.specs.steps.Comparing.{matched}
use Rattle.kripke_text.specs.steps.Taking.{numbered, closing_marks, local_marks}
use Rattle.kripke_text.specs.steps.Reading.{IsNext, Reads, TakesNumber}
use Rattle.kripke_text.proofs.Folds.{length-numbers}
use Rattle.kripke_text.proofs.Matching.{same_some, done_is, fold_taken, fold_comes}

pub next_some : (old new : List (List Plain)) (m : Option (List Plain)) → IsNext old m new → IsSome m
next_some old new m h = some_is m h.0 h.1
  where
    some_is : (m : Option (List Plain)) (s : List Plain) → m ≡ Some s → IsSome m
    some_is None s e = absurd cc
    some_is (Some t) s e = refl

pub next_taken : (statement : ℕ → List Mark) (P : ℕ → Type 0) (old new : List (List Plain)) (m : Option (List Plain)) (n : ℕ) → IsNext old m new → Reads statement P m (Some n) → P n × (old ≡ plains (statement n) ∷ new)
next_taken statement P old new m n h r =
    (r.0, h.2 ∙ ap (λ (s : List Plain). s ∷ new) (same_some h.0 (plains (statement n)) (sym h.1 ∙ r.1)))

not_next : (Q : List Plain → Type 0) (s : List Plain) (old new : List (List Plain)) → old ≡ s ∷ new → (Q s → ⊥) → NextIsNot Q old
not_next Q s [] new e h = absurd cc
not_next Q s (t ∷ ts) new e h = λ q. h (subst Q (first t s ts new e) q)
  where
    first : (t s : List Plain) (ts new : List (List Plain)) → t ∷ ts ≡ s ∷ new → t ≡ s
    first t s ts new e = cc

pub next_refused : (statement : ℕ → List Mark) (P : ℕ → Type 0) (old new : List (List Plain)) (m : Option (List Plain)) → IsNext old m new → Reads statement P m None → NextIsNot (λ s. (n : ℕ) × P n × (s ≡ plains (statement n))) old
next_refused statement P old new m h r = not_next (λ s. (n : ℕ) × P n × (s ≡ plains (statement n))) h.0 old new h.2 (λ q. r q.0 q.1 (h.1 ∙ ap Some q.2))

pub next_missing : (Q : List Plain → Type 0) (old : List (List Plain)) → old ≡ [] → NextIsNot Q old
next_missing Q [] e = tt
next_missing Q (s ∷ ss) e = absurd cc

-- ---- statements that are compared whole

reads_by : (statement : ℕ → List Mark) (P : ℕ → Type 0) (old now : Option (List Plain)) (n : ℕ) (done : Bool) (found : Option ℕ) → now ≡ fold matched old (statement n) → P n → (done ≡ true → now ≡ Some []) × (now ≡ Some [] → done ≡ true) → ((m : ℕ) → P m → old ≡ Some (plains (statement m)) → m ≡ n) → found ≡ cond done (Some n) None → Reads statement P old found
reads_by statement P old now n true None e p d one is = absurd cc
reads_by statement P old now n true (Some k) e p d one is =
    let same : k ≡ n = same_some k n is in
    (subst P (sym same) p, (done_is (statement n) old now e).0 (d.0 refl) ∙ ap (λ (j : ℕ). Some (plains (statement j))) (sym same))
reads_by statement P old now n false (Some k) e p d one is = absurd cc
reads_by statement P old now n false None e p d one is = λ m q h.
    let same = one m q h in
    true≢false (sym (d.1 ((done_is (statement n) old now e).1 (h ∙ ap (λ (j : ℕ). Some (plains (statement j))) same))))

pub reads_whole : (statement : ℕ → List Mark) (P : ℕ → Type 0) (old now : Option (List Plain)) (n : ℕ) (done : Bool) (found : Option ℕ) → now ≡ fold matched old (statement n) → P n → (done ≡ true → now ≡ Some []) × (now ≡ Some [] → done ≡ true) → ((m : ℕ) → P m → old ≡ Some (plains (statement m)) → m ≡ n) → found ≡ cond done (Some n) None → Reads statement P old found
reads_whole = reads_by

-- ---- how long the statements of the head are

listed_long : (name variable front : List ℕ) (sort : Mark) (p : Plain) (n : ℕ) → mark_plains sort ≡ p ∷ [] → 0 < n → length (plains (text.statement name (text.all_of variable sort (numbered front) n))) ≡ 16 + 4 * n
listed_long name variable front sort p n one h =
    let members = text.between text.or_sign (map (text.member variable (numbered front)) (numbers_below n)) in
    let close : List Mark = Blank ∷ Sign (codes ")") ∷ [] in
    let long = counted variable front (numbers_below n) (omega (arith, length-numbers n)) in
    let whole = flat_map-append mark_plains (members ++ close) closing_marks ∙ ap (λ (r : List Plain). r ++ plains closing_marks) (flat_map-append mark_plains members close) in
    rw one (omega (arith, long, ap length whole, length-numbers n, length-append (plains members ++ plains close) (plains closing_marks), length-append (plains members) (plains close)))

sort_plain : (s : SortName) → (p : Plain) × (mark_plains (text.sort_mark s) ≡ p ∷ [])
sort_plain Individual = (_, refl)
sort_plain (User s) = (_, refl)

pub domain_long : (s : SortName) (n : ℕ) → 0 < n → length (plains (text.domain_statement s n)) ≡ 16 + 4 * n
domain_long s n h =
    let p = sort_plain s in
    listed_long (codes "domain") (codes "X") (text.prefix s) (text.sort_mark s) p.0 n p.1 h

pub worlds_long : (n : ℕ) → 0 < n → length (plains (text.worlds_statement n)) ≡ 16 + 4 * n
worlds_long n h = listed_long (codes "worlds") (codes "W") (codes "w") (Dollar (codes "$world")) _ n refl h

-- ---- the actual world

local_comes : (m o : Option (List Plain)) (n : ℕ) → o ≡ fold matched m local_marks → m ≡ Some (plains (text.local_statement n)) → o ≡ Some (plains (numbered (codes "w") n ∷ []) ++ plains closing_marks)
local_comes m o n e h = fold_comes local_marks m o (plains (numbered (codes "w") n ∷ []) ++ plains closing_marks) e h

pub no_local : (bound : ℕ) (m o new : Option (List Plain)) → o ≡ fold matched m local_marks → TakesNumber (λ n. numbered (codes "w") n ∷ []) (λ n. n < bound) o new None → Reads text.local_statement (λ n. n < bound) m None
no_local bound m o new e takes = λ n p h. takes n (plains closing_marks) p (local_comes m o n e h)

pub reads_local : (bound n : ℕ) (m o new last : Option (List Plain)) (done : Bool) (found : Option ℕ) → o ≡ fold matched m local_marks → TakesNumber (λ n. numbered (codes "w") n ∷ []) (λ n. n < bound) o new (Some n) → last ≡ fold matched new closing_marks → (done ≡ true → last ≡ Some []) × (last ≡ Some [] → done ≡ true) → found ≡ cond done (Some n) None → Reads text.local_statement (λ n. n < bound) m found
reads_local bound n m o new last true None e takes f d is = absurd cc
reads_local bound n m o new last true (Some k) e takes f d is =
    let same : k ≡ n = same_some k n is in
    let rest : takes.0 ≡ plains closing_marks = same_some _ _ (sym takes.3 ∙ (done_is closing_marks new last f).0 (d.0 refl)) in
    let whole = fold_taken local_marks m o _ e takes.2 in
    (subst (λ (j : ℕ). j < bound) (sym same) takes.1, whole ∙ ap (λ (r : List Plain). Some (plains local_marks ++ (plains (numbered (codes "w") n ∷ []) ++ r))) rest ∙ ap (λ (j : ℕ). Some (plains (text.local_statement j))) (sym same))
reads_local bound n m o new last false (Some k) e takes f d is = absurd cc
reads_local bound n m o new last false None e takes f d is = λ k p h.
    let both = same_some _ _ (sym takes.2 ∙ local_comes m o k e h) in
    let t = object_apart (codes "w") n k takes.0 (plains closing_marks) both in
    true≢false (sym (d.1 ((done_is closing_marks new last f).1 (takes.3 ∙ ap Some t.1))))

-- ---- where a statement ends

any_default : (xs : List Token) (k : ℕ) (d e : Token) → k < length xs → get_or xs k d ≡ get_or xs k e
any_default [] k d e h = absurd (omega arith)
any_default (x ∷ xs) zero d e h = refl
any_default (x ∷ xs) (suc k) d e h = any_default xs k d e (omega arith)

abbrev pub NoStops : List ℕ → List Token → ℕ → Type 0
NoStops bytes tokens n = (k : ℕ) (d : Token) → k < n → is_stop (plain_of bytes (get_or tokens k d)) ≡ false

pub no_stops_more : (bytes : List ℕ) (tokens : List Token) (n : ℕ) (d : Token) → n < length tokens → NoStops bytes tokens n → is_stop (plain_of bytes (get_or tokens n d)) ≡ false → NoStops bytes tokens (n + 1)
no_stops_more bytes tokens n d h before here k e below = elim (cases_lt k n) [
  | inl less ↦ before k e less
  | inr more ↦
      let same : n ≡ k = omega arith in
      ap (λ (t : Token). is_stop (plain_of bytes t)) (ap (λ (j : ℕ). get_or tokens j e) (sym same) ∙ any_default tokens n e d h) ∙ here
]

cut_by : (p : Plain) (ps first : List Plain) (rest : List (List Plain)) (b : Bool) → is_stop p ≡ b → b ≡ false → statements ps ≡ first ∷ rest → cond (is_stop p) ((p ∷ []) ∷ statements ps) (in_first p (statements ps)) ≡ (p ∷ first) ∷ rest
cut_by p ps first rest b e f h =
    ap (λ (t : Bool). cond t ((p ∷ []) ∷ statements ps) (in_first p (statements ps))) (e ∙ f) ∙ ap (in_first p) h

pub cut_at : (bytes : List ℕ) (tokens : List Token) (n : ℕ) (d : Token) → n < length tokens → NoStops bytes tokens n → is_stop (plain_of bytes (get_or tokens n d)) ≡ true → statements (plains_of bytes tokens) ≡ plains_of bytes (take (n + 1) tokens) ∷ statements (plains_of bytes (drop (n + 1) tokens))
cut_at bytes [] n d h before here = absurd (omega arith)
cut_at bytes (t ∷ tokens) zero d h before here =
    let one : 0 + 1 ≡ 1 = omega arith in
    ap (λ (b : Bool). cond b ((plain_of bytes t ∷ []) ∷ statements (plains_of bytes tokens)) (in_first (plain_of bytes t) (statements (plains_of bytes tokens)))) here
    ∙ ap (λ (j : ℕ). plains_of bytes (take j (t ∷ tokens)) ∷ statements (plains_of bytes (drop j (t ∷ tokens)))) (sym one)
cut_at bytes (t ∷ tokens) (suc n) d h before here =
    let ih = cut_at bytes tokens n d (omega arith) (λ k e below. before (suc k) e (omega arith)) here in
    let next : suc n + 1 ≡ suc (n + 1) = omega arith in
    cut_by (plain_of bytes t) (plains_of bytes tokens) _ _ (is_stop (plain_of bytes t)) refl (before 0 t (omega arith)) ih
    ∙ ap (λ (j : ℕ). plains_of bytes (take j (t ∷ tokens)) ∷ statements (plains_of bytes (drop j (t ∷ tokens)))) (sym next)

uncut : (bytes : List ℕ) (tokens : List Token) → 0 < length tokens → NoStops bytes tokens (length tokens) → statements (plains_of bytes tokens) ≡ plains_of bytes tokens ∷ []
uncut bytes [] h none = absurd (omega arith)
uncut bytes (t ∷ []) h none =
    ap (λ (b : Bool). cond b ((plain_of bytes t ∷ []) ∷ []) (in_first (plain_of bytes t) [])) (none 0 t (omega arith))
uncut bytes (t ∷ u ∷ tokens) h none =
    cut_by (plain_of bytes t) (plains_of bytes (u ∷ tokens)) _ _ (is_stop (plain_of bytes t)) refl (none 0 t (omega arith)) (uncut bytes (u ∷ tokens) (omega arith) (λ k e below. none (suc k) e (omega arith)))

pub cut_none : (bytes : List ℕ) (tokens : List Token) (n : ℕ) → 0 < length tokens → length tokens ≡ n → NoStops bytes tokens n → statements (plains_of bytes tokens) ≡ plains_of bytes (take n tokens) ∷ statements (plains_of bytes (drop n tokens))
cut_none bytes tokens n some e none =
    uncut bytes tokens some (λ k d below. none k d (omega arith))
    ∙ (λ i. plains_of bytes (whole i) ∷ statements (plains_of bytes (nothing i)))
  where
    whole : tokens ≡ take n tokens
    whole = sym (take_all n tokens (omega arith))

    nothing : [] ≡ drop n tokens
    nothing = sym (drop_all n tokens (omega arith))
