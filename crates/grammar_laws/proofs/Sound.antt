-- What the descent finds, the grammar reads.
use Rattle.std.proofs.Common.{◌≡◌, ℕ, zero, suc, Bool, true, false, cond, List, [], ◌∷◌, ◌++◌, length, Option, Some, None, refl, sym, ap, subst, ◌∙◌, append_assoc}
use Rattle.nxf_terminals.specs.declared.sign.Sign.{Sign}
use Rattle.nxf_terminals.specs.declared.sign.Sign.TheVariants as sign
use Rattle.nxf_tree.specs.declared.tree.Quantifier.{Quantifier}
use Rattle.nxf_tree.specs.declared.tree.Quantifier.TheVariants as quantifier
use Rattle.nxf_tree.specs.declared.tree.Mode.TheVariants as mode
use Rattle.nxf_tree.specs.declared.tree.Op.{Op}
use Rattle.nxf_tree.specs.declared.tree.SortName.{SortName}
use Rattle.nxf_tree.specs.declared.tree.SortName.TheVariants as sorts
use Rattle.nxf_tree.specs.declared.tree.Term.{Term}
use Rattle.nxf_tree.specs.declared.tree.Term.TheVariants as terms
use Rattle.nxf_tree.specs.declared.tree.Formula.{Formula}
use Rattle.nxf_tree.specs.declared.tree.Formula.TheVariants as formulas
use Rattle.nxf_tree.specs.declared.tree.IndexName.{IndexName}
use Rattle.nxf_tree.specs.declared.tree.IndexName.TheVariants as index
use Rattle.nxf_tree.specs.declared.tree.Mode.{Mode}
use Rattle.tptp_lex.specs.Texts.{token_text}
use Rattle.nxf_terminals.specs.Input.{Spelling, Input, Parser, and_then, kind, text, next, sees, after, expect, refuse, pure}
use Rattle.syntax_definitions.specs.Operators.{operator, mode_of}
use Rattle.nxf_terminals.specs.Signs.{same_sign}
use Rattle.syntax_definitions.specs.Formulas.{IsTerm, AreTerms, IsSort, IsBoundSort, IsIndex, IsLongIndex, IsUnit, IsQuantified, AreUnits, IsFormula}
use Rattle.syntax_definitions.specs.Formulas as g
use Rattle.syntax_definitions.specs.steps.ReadFormulas.{listed, terms_from, arguments, many, term_by, term, argument, joined, units_from, units, pair, chain, whole, group, sort_by, sort_name, bound_by, bound_sort, index_by, index_text, long_by, long_index, modal_of, long, scope, variable, comparison, after_name, unit_by, unit, quantified, formula}
use Rattle.nxf_terminals.proofs.CallerLemmas.{bound, Ran, yes, no, ran, moved, Item, item_at, after_seen, after_unseen, expected, with_bound, with_expected, end_is_no_close, end_is_no_comma, end_is_no_open, end_is_no_colon, end_is_no_and, end_is_no_or, end_is_no_upper, end_is_no_left_bracket, end_is_no_right_bracket, end_is_no_hash, end_is_no_greater, end_is_no_at, end_is_no_right_brace}
use Rattle.syntax_definitions.proofs.CallerLemmas.{no_terms}

-- ---- terms

-- what stands after a name
data Given (most : ℕ) : ℕ → Input → List Term → Input → Type 0 where
  nothing : {n : ℕ} {xs : Input} → Given most n xs [] xs
  given : {n : ℕ} {s : Spelling} {xs rest : Input} {ts : List Term} → AreTerms most n most xs ts rest → Given most (suc n) ((sign.Open, s) ∷ xs) ts rest

record ReadTerms (most n k : ℕ) (found : List Term) (xs : Input) (out : List Term) (rest : Input) : Type 0 where
  ts : List Term
  out_is : out ≡ found ++ ts
  are : AreTerms most n k xs ts rest

abbrev Sounds : ℕ → ℕ → Parser Term → Type 0
Sounds most n one = (xs : Input) (t : Term) (rest : Input) → one xs ≡ Some (t, rest) → IsTerm most n xs t rest

terms_ended : (most n k : ℕ) (found : List Term) (xs mid : Input) (t : Term) (out : List Term) (rest : Input) → IsTerm most n xs t mid → and_then (expect sign.Close mid) (λ u. pure (found ++ t ∷ [])) ≡ Some (out, rest) → ReadTerms most n (suc k) found xs out rest
terms_ended most n k found xs mid t out rest d h =
    let b = bound (expect sign.Close mid) (λ u. pure (found ++ t ∷ [])) (out, rest) h in
    let close = expected sign.Close mid b.value b.rest b.first end_is_no_close in
    moved (λ (o : List Term) r. ReadTerms most n (suc k) found xs o r) (found ++ t ∷ [], b.rest) (out, rest) b.then
    (record { ts = t ∷ []; out_is = refl; are = g.last_term (subst (λ (m : Input). IsTerm most n xs t m) close.is d) })

terms_go_on : (most n k : ℕ) (found : List Term) (xs mid : Input) (t : Term) (out : List Term) (rest : Input) → IsTerm most n xs t mid → sees sign.Comma mid ≡ true → ReadTerms most n k (found ++ t ∷ []) (next mid) out rest → ReadTerms most n (suc k) found xs out rest
terms_go_on most n k found xs mid t out rest d comma r =
    let item = item_at sign.Comma mid end_is_no_comma comma in
    record { ts = t ∷ r.ts; out_is = r.out_is ∙ append_assoc found (t ∷ []) r.ts; are = g.more_terms (subst (λ (m : Input). IsTerm most n xs t m) item.is d) r.are }

terms_by : (most n k : ℕ) (one : Parser Term) (found : List Term) (xs mid : Input) (t : Term) (out : List Term) (rest : Input) → IsTerm most n xs t mid
    → Ran (sees sign.Comma mid) (terms_from most one k (found ++ t ∷ [])) (λ i. and_then (expect sign.Close i) (λ u. pure (found ++ t ∷ []))) (after sign.Comma mid) (out, rest)
    → ((ys : Input) → terms_from most one k (found ++ t ∷ []) ys ≡ Some (out, rest) → ReadTerms most n k (found ++ t ∷ []) ys out rest) → ReadTerms most n (suc k) found xs out rest
terms_by most n k one found xs mid t out rest d (yes e h) again = terms_go_on most n k found xs mid t out rest d e (again (next mid) (ap (terms_from most one k (found ++ t ∷ [])) (sym (after_seen sign.Comma mid e)) ∙ h))
terms_by most n k one found xs mid t out rest d (no e h) again =
    terms_ended most n k found xs mid t out rest d (ap (λ (i : Input). and_then (expect sign.Close i) (λ u. pure (found ++ t ∷ []))) (sym (after_unseen sign.Comma mid e)) ∙ h)

terms_sound : (most n : ℕ) (one : Parser Term) → Sounds most n one → (k : ℕ) (found : List Term) (xs : Input) (out : List Term) (rest : Input) → terms_from most one k found xs ≡ Some (out, rest) → ReadTerms most n k found xs out rest
unfolding terms_from
terms_sound most n one sound zero found xs out rest h = absurd cc
terms_sound most n one sound (suc k) found xs out rest h =
    let b = bound (one xs) (λ t. listed (terms_from most one k (found ++ t ∷ [])) (found ++ t ∷ [])) (out, rest) h in
    let r = ran (sees sign.Comma b.rest) (terms_from most one k (found ++ b.value ∷ [])) (λ i. and_then (expect sign.Close i) (λ u. pure (found ++ b.value ∷ []))) (after sign.Comma b.rest) (out, rest) b.then in
    terms_by most n k one found xs b.rest b.value out rest (sound xs b.value b.rest b.first) r (λ ys e. terms_sound most n one sound k (found ++ b.value ∷ []) ys out rest e)

given_by : (most n : ℕ) (one : Parser Term) → Sounds most n one → (xs : Input) (out : List Term) (rest : Input) → Ran (sees sign.Open xs) (terms_from most one most []) (pure []) (after sign.Open xs) (out, rest) → Given most (suc n) xs out rest
given_by most n one sound xs out rest (yes e h) =
    let r = terms_sound most n one sound most [] (next xs) out rest (ap (terms_from most one most []) (sym (after_seen sign.Open xs e)) ∙ h) in
    let item = item_at sign.Open xs end_is_no_open e in
    subst (λ (i : Input). Given most (suc n) i out rest) (sym item.is) (given (subst (λ (ts : List Term). AreTerms most n most (next xs) ts rest) (sym r.out_is) r.are))
given_by most n one sound xs out rest (no e h) = moved (λ (ts : List Term) r. Given most (suc n) xs ts r) ([], after sign.Open xs) (out, rest) h (subst (λ (i : Input). Given most (suc n) xs [] i) (sym (after_unseen sign.Open xs e)) nothing)

none_given_by : (most : ℕ) (xs : Input) (out : List Term) (rest : Input) → Ran (sees sign.Open xs) (terms_from most refuse most []) (pure []) (after sign.Open xs) (out, rest) → Given most zero xs out rest
none_given_by most xs out rest (yes e h) = let none = no_terms most most [] (after sign.Open xs) in absurd cc
none_given_by most xs out rest (no e h) = moved (λ (ts : List Term) r. Given most zero xs ts r) ([], after sign.Open xs) (out, rest) h (subst (λ (i : Input). Given most zero xs [] i) (sym (after_unseen sign.Open xs e)) nothing)

-- the arguments at n levels, where terms one deeper are sound
abbrev SoundGiven : ℕ → ℕ → Type 0
SoundGiven most n = (xs : Input) (out : List Term) (rest : Input) → arguments most (argument most n) xs ≡ Some (out, rest) → Given most n xs out rest

given_zero : (most : ℕ) → SoundGiven most zero
unfolding arguments
given_zero most xs out rest h = none_given_by most xs out rest (ran (sees sign.Open xs) (terms_from most refuse most []) (pure []) (after sign.Open xs) (out, rest) h)

given_suc : (most n : ℕ) → Sounds most n (term most n) → SoundGiven most (suc n)
unfolding arguments
given_suc most n sound xs out rest h = given_by most n (term most n) sound xs out rest (ran (sees sign.Open xs) (terms_from most (term most n) most []) (pure []) (after sign.Open xs) (out, rest) h)

named_term : {most n : ℕ} {a : Spelling} {xs rest : Input} {ts : List Term} → Given most n xs ts rest → IsTerm most n ((sign.Name, a) ∷ xs) (terms.App (token_text a) ts) rest
named_term nothing = g.constant
named_term (given d) = g.call d

term_at : (most n : ℕ) → SoundGiven most n → (s : Sign) (v : Spelling) (ys : Input) (t : Term) (rest : Input) → term_by most (argument most n) s ((s, v) ∷ ys) ≡ Some (t, rest) → IsTerm most n ((s, v) ∷ ys) t rest
term_at most n args sign.Upper v ys t rest h = moved (λ (x : Term) r. IsTerm most n ((sign.Upper, v) ∷ ys) x r) (terms.Var v, ys) (t, rest) h g.variable
term_at most n args sign.Name v ys t rest h =
    let b = bound (arguments most (argument most n) ys) (λ ts. pure (terms.App (token_text v) ts)) (t, rest) h in
    moved (λ (x : Term) r. IsTerm most n ((sign.Name, v) ∷ ys) x r) (terms.App (token_text v) b.value, b.rest) (t, rest) b.then (named_term (args ys b.value b.rest b.first))
term_at most n args _ v ys t rest h = absurd cc

term_input : (most n : ℕ) → SoundGiven most n → (xs : Input) (t : Term) (rest : Input) → term_by most (argument most n) (kind xs) xs ≡ Some (t, rest) → IsTerm most n xs t rest
term_input most n args [] t rest h = absurd cc
term_input most n args (x ∷ ys) t rest h = term_at most n args x.0 x.1 ys t rest h

pub term_sound : (most n : ℕ) → Sounds most n (term most n)
unfolding term
term_sound most zero xs t rest h = term_input most zero (given_zero most) xs t rest h
term_sound most (suc n) xs t rest h = term_input most (suc n) (given_suc most n (term_sound most n)) xs t rest h

-- ---- sorts and indexes

sort_at : (s : Sign) (v : Spelling) (ys : Input) (out : SortName) (rest : Input) → sort_by s ((s, v) ∷ ys) ≡ Some (out, rest) → IsSort ((s, v) ∷ ys) out rest
sort_at sign.Individual v ys out rest h = moved (λ (x : SortName) r. IsSort ((sign.Individual, v) ∷ ys) x r) (sorts.Individual, ys) (out, rest) h g.individual
sort_at sign.Name v ys out rest h = moved (λ (x : SortName) r. IsSort ((sign.Name, v) ∷ ys) x r) (sorts.User (token_text v), ys) (out, rest) h g.user
sort_at _ v ys out rest h = absurd cc

pub sort_sound : (xs : Input) (s : SortName) (rest : Input) → sort_name xs ≡ Some (s, rest) → IsSort xs s rest
unfolding sort_name
sort_sound [] s rest h = absurd cc
sort_sound (x ∷ ys) s rest h = sort_at x.0 x.1 ys s rest h

bound_at : (s : Sign) (v : Spelling) (ys : Input) (out : SortName) (rest : Input) → bound_by s ((s, v) ∷ ys) ≡ Some (out, rest) → IsBoundSort ((s, v) ∷ ys) out rest
bound_at sign.Colon v ys out rest h = g.with_sort (sort_sound ys out rest h)
bound_at s v ys out rest h = moved (λ (x : SortName) r. IsBoundSort ((s, v) ∷ ys) x r) (sorts.Individual, (s, v) ∷ ys) (out, rest) h g.no_sort

bound_sound : (xs : Input) (s : SortName) (rest : Input) → bound_sort xs ≡ Some (s, rest) → IsBoundSort xs s rest
unfolding bound_sort
bound_sound [] s rest h = moved (λ (x : SortName) r. IsBoundSort [] x r) (sorts.Individual, []) (s, rest) h g.no_sort
bound_sound (x ∷ ys) s rest h = bound_at x.0 x.1 ys s rest h

index_at : (s : Sign) (v : Spelling) (ys : Input) (out : Spelling) (rest : Input) → index_by s ((s, v) ∷ ys) ≡ Some (out, rest) → IsIndex ((s, v) ∷ ys) out rest
index_at sign.Name v ys out rest h = moved (λ (x : Spelling) r. IsIndex ((sign.Name, v) ∷ ys) x r) (token_text v, ys) (out, rest) h g.named
index_at sign.Integer v ys out rest h = moved (λ (x : Spelling) r. IsIndex ((sign.Integer, v) ∷ ys) x r) (token_text v, ys) (out, rest) h g.numbered
index_at _ v ys out rest h = absurd cc

pub index_sound : (xs : Input) (i : Spelling) (rest : Input) → index_text xs ≡ Some (i, rest) → IsIndex xs i rest
unfolding index_text
index_sound [] i rest h = absurd cc
index_sound (x ∷ ys) i rest h = index_at x.0 x.1 ys i rest h

closed_index : (s v h : Spelling) (xs i : Input) (a : Spelling) (out : IndexName) (rest : Input) → IsIndex xs a i → and_then (expect sign.Close i) (λ u i. and_then (expect sign.RightBrace i) (λ u. pure (index.Named a))) ≡ Some (out, rest) → IsLongIndex ((sign.Open, v) ∷ (sign.Hash, h) ∷ xs) out rest
closed_index s v h xs i a out rest d e =
    let b = bound (expect sign.Close i) (λ u i. and_then (expect sign.RightBrace i) (λ u. pure (index.Named a))) (out, rest) e in
    let c = bound (expect sign.RightBrace b.rest) (λ u. pure (index.Named a)) (out, rest) b.then in
    let close = expected sign.Close i b.value b.rest b.first end_is_no_close in
    let brace = expected sign.RightBrace b.rest c.value c.rest c.first end_is_no_right_brace in
    let whole : i ≡ (sign.Close, close.spelling) ∷ (sign.RightBrace, brace.spelling) ∷ c.rest = close.is ∙ ap (λ (x : Input). (sign.Close, close.spelling) ∷ x) brace.is in
    moved (λ (x : IndexName) r. IsLongIndex ((sign.Open, v) ∷ (sign.Hash, h) ∷ xs) x r) (index.Named a, c.rest) (out, rest) c.then (g.indexed (subst (λ (m : Input). IsIndex xs a m) whole d))

long_by_sound : (s : Sign) (v : Spelling) (ys : Input) (out : IndexName) (rest : Input) → long_by s ((s, v) ∷ ys) ≡ Some (out, rest) → IsLongIndex ((s, v) ∷ ys) out rest
long_by_sound sign.RightBrace v ys out rest h = moved (λ (x : IndexName) r. IsLongIndex ((sign.RightBrace, v) ∷ ys) x r) (index.Plain, ys) (out, rest) h g.plain
long_by_sound sign.Open v ys out rest h =
    with_expected (λ (x : Input). IsLongIndex ((sign.Open, v) ∷ x) out rest) sign.Hash ys (λ i. and_then (index_text i) (λ a i. and_then (expect sign.Close i) (λ u i. and_then (expect sign.RightBrace i) (λ u. pure (index.Named a))))) (out, rest) end_is_no_hash
    (λ hash xs e. with_bound (IsLongIndex ((sign.Open, v) ∷ (sign.Hash, hash) ∷ xs) out rest) (index_text xs) (λ a i. and_then (expect sign.Close i) (λ u i. and_then (expect sign.RightBrace i) (λ u. pure (index.Named a)))) (out, rest)
    (λ a i e1 e2. closed_index v v hash xs i a out rest (index_sound xs a i e1) e2) e) h
long_by_sound _ v ys out rest h = absurd cc

pub long_index_sound : (xs : Input) (i : IndexName) (rest : Input) → long_index xs ≡ Some (i, rest) → IsLongIndex xs i rest
unfolding long_index
long_index_sound [] i rest h = absurd cc
long_index_sound (x ∷ ys) i rest h = long_by_sound x.0 x.1 ys i rest h

-- ---- formulas over units

abbrev SoundUnit : ℕ → ℕ → Parser Formula → Type 0
SoundUnit most n one = (xs : Input) (f : Formula) (rest : Input) → one xs ≡ Some (f, rest) → IsUnit most n xs f rest

record Grouped (most n : ℕ) (xs : Input) (out : Formula) (rest : Input) : Type 0 where
  close : Spelling
  is : IsFormula most n xs out ((sign.Close, close) ∷ rest)

record ReadUnits (most n : ℕ) (j : Sign) (found : List Formula) (xs : Input) (out : List Formula) (rest : Input) : Type 0 where
  fs : List Formula
  out_is : out ≡ found ++ fs
  are : AreUnits most j n xs fs rest

module _ (most n : ℕ) (one : Parser Formula) (sound : SoundUnit most n one) where
  units_by : (j : Sign) → same_sign sign.End j ≡ false → (k : ℕ) (found : List Formula) (xs mid : Input) (f : Formula) (out : List Formula) (rest : Input) → IsUnit most n xs f mid
      → Ran (sees j mid) (units_from one j k (found ++ f ∷ [])) (pure (found ++ f ∷ [])) (after j mid) (out, rest)
      → ((ys : Input) → units_from one j k (found ++ f ∷ []) ys ≡ Some (out, rest) → ReadUnits most n j (found ++ f ∷ []) ys out rest) → ReadUnits most n j found xs out rest
  units_by j other k found xs mid f out rest d (no e h) again =
      moved (λ (o : List Formula) r. ReadUnits most n j found xs o r) (found ++ f ∷ [], after j mid) (out, rest) h
      (record { fs = f ∷ []; out_is = refl; are = g.last_unit (subst (λ (m : Input). IsUnit most n xs f m) (sym (after_unseen j mid e)) d) })
  units_by j other k found xs mid f out rest d (yes e h) again =
      let r = again (next mid) (ap (units_from one j k (found ++ f ∷ [])) (sym (after_seen j mid e)) ∙ h) in
      let item = item_at j mid other e in
      record { fs = f ∷ r.fs; out_is = r.out_is ∙ append_assoc found (f ∷ []) r.fs; are = g.more_units (subst (λ (m : Input). IsUnit most n xs f m) item.is d) r.are }

  units_sound : (j : Sign) → same_sign sign.End j ≡ false → (k : ℕ) (found : List Formula) (xs : Input) (out : List Formula) (rest : Input) → units_from one j k found xs ≡ Some (out, rest) → ReadUnits most n j found xs out rest
  unfolding units_from
  units_sound j other zero found xs out rest h = absurd cc
  units_sound j other (suc k) found xs out rest h =
      let b = bound (one xs) (λ f. joined j (units_from one j k (found ++ f ∷ [])) (found ++ f ∷ [])) (out, rest) h in
      let r = ran (sees j b.rest) (units_from one j k (found ++ b.value ∷ [])) (pure (found ++ b.value ∷ [])) (after j b.rest) (out, rest) b.then in
      units_by j other k found xs b.rest b.value out rest (sound xs b.value b.rest b.first) r (λ ys e. units_sound j other k (found ++ b.value ∷ []) ys out rest e)

  pair_by : (xs : Input) (f : Formula) (s : Sign) (v : Spelling) (ys : Input) (out : Formula) (rest : Input) → IsUnit most n xs f ((s, v) ∷ ys) → (o : Option Op) → operator s ≡ o → pair one f o ((s, v) ∷ ys) ≡ Some (out, rest) → IsFormula most n xs out rest
  pair_by xs f s v ys out rest d None e h = moved (λ (x : Formula) r. IsFormula most n xs x r) (f, (s, v) ∷ ys) (out, rest) h (g.alone d)
  pair_by xs f s v ys out rest d (Some o) e h =
      let b = bound (one ys) (λ g. pure (formulas.Pair o f g)) (out, rest) h in
      moved (λ (x : Formula) r. IsFormula most n xs x r) (formulas.Pair o f b.value, b.rest) (out, rest) b.then (g.pair d e (sound ys b.value b.rest b.first))

  chain_at : (xs : Input) (f : Formula) (s : Sign) (v : Spelling) (ys : Input) (out : Formula) (rest : Input) → IsUnit most n xs f ((s, v) ∷ ys) → chain one f s ((s, v) ∷ ys) ≡ Some (out, rest) → IsFormula most n xs out rest
  unfolding units
  chain_at xs f sign.And v ys out rest d h =
      let b = bound (units_from one sign.And (length ys) (f ∷ []) ys) (λ fs. pure (formulas.And fs)) (out, rest) h in
      let r = units_sound sign.And end_is_no_and (length ys) (f ∷ []) ys b.value b.rest b.first in
      moved (λ (x : Formula) r. IsFormula most n xs x r) (formulas.And b.value, b.rest) (out, rest) b.then (subst (λ (fs : List Formula). IsFormula most n xs (formulas.And fs) b.rest) (sym r.out_is) (g.and d r.are))
  chain_at xs f sign.Or v ys out rest d h =
      let b = bound (units_from one sign.Or (length ys) (f ∷ []) ys) (λ fs. pure (formulas.Or fs)) (out, rest) h in
      let r = units_sound sign.Or end_is_no_or (length ys) (f ∷ []) ys b.value b.rest b.first in
      moved (λ (x : Formula) r. IsFormula most n xs x r) (formulas.Or b.value, b.rest) (out, rest) b.then (subst (λ (fs : List Formula). IsFormula most n xs (formulas.Or fs) b.rest) (sym r.out_is) (g.or d r.are))
  chain_at xs f s v ys out rest d h = pair_by xs f s v ys out rest d (operator s) refl h

  chain_sound : (xs mid : Input) (f out : Formula) (rest : Input) → IsUnit most n xs f mid → chain one f (kind mid) mid ≡ Some (out, rest) → IsFormula most n xs out rest
  chain_sound xs [] f out rest d h = moved (λ (x : Formula) r. IsFormula most n xs x r) (f, []) (out, rest) h (g.alone d)
  chain_sound xs (x ∷ ys) f out rest d h = chain_at xs f x.0 x.1 ys out rest d h

  whole_sound : (xs : Input) (out : Formula) (rest : Input) → whole one xs ≡ Some (out, rest) → IsFormula most n xs out rest
  unfolding whole
  whole_sound xs out rest h =
      let b = bound (one xs) (λ f i. chain one f (kind i) i) (out, rest) h in
      chain_sound xs b.rest b.value out rest (sound xs b.value b.rest b.first) b.then

  group_parts : (xs : Input) (out : Formula) (rest : Input) → group one xs ≡ Some (out, rest) → Grouped most n xs out rest
  unfolding group
  group_parts xs out rest h =
      let b = bound (whole one xs) (λ f i. and_then (expect sign.Close i) (λ u. pure f)) (out, rest) h in
      let c = bound (expect sign.Close b.rest) (λ u. pure b.value) (out, rest) b.then in
      let close = expected sign.Close b.rest c.value c.rest c.first end_is_no_close in
      moved (λ (x : Formula) r. Grouped most n xs x r) (b.value, c.rest) (out, rest) c.then
      (record { close = close.spelling; is = subst (λ (m : Input). IsFormula most n xs b.value m) close.is (whole_sound xs b.value b.rest b.first) })

  group_sound : (o : Spelling) (xs : Input) (out : Formula) (rest : Input) → group one xs ≡ Some (out, rest) → IsUnit most (suc n) ((sign.Open, o) ∷ xs) out rest
  group_sound o xs out rest h = g.brackets (group_parts xs out rest h).is

  long_unit : (v : Spelling) (j : Sign) (w : Spelling) (xs : Input) (m : Mode) (a o : Spelling) (mid : Input) (i : IndexName) (x : Formula) (rest : Input) → mode_of j ≡ Some m → IsLongIndex xs i ((sign.At, a) ∷ (sign.Open, o) ∷ mid) → group one mid ≡ Some (x, rest) → IsUnit most (suc n) ((sign.LeftBrace, v) ∷ (j, w) ∷ xs) (formulas.Modal m i x) rest
  long_unit v j w xs m a o mid i x rest e d h = g.long e d (group_parts mid x rest h).is

-- ---- units

comparison_at : (most n : ℕ) (xs : Input) (first : Term) (s : Sign) (v : Spelling) (ys : Input) (f : Formula) (rest : Input) → IsTerm most n xs first ((s, v) ∷ ys) → comparison (term most n) first s ((s, v) ∷ ys) ≡ Some (f, rest) → IsUnit most n xs f rest
comparison_at most n xs first sign.Equal v ys f rest d h =
    let b = bound (term most n ys) (λ t. pure (formulas.Same first t)) (f, rest) h in
    moved (λ (x : Formula) r. IsUnit most n xs x r) (formulas.Same first b.value, b.rest) (f, rest) b.then (g.same d (term_sound most n ys b.value b.rest b.first))
comparison_at most n xs first sign.Differ v ys f rest d h =
    let b = bound (term most n ys) (λ t. pure (formulas.Differ first t)) (f, rest) h in
    moved (λ (x : Formula) r. IsUnit most n xs x r) (formulas.Differ first b.value, b.rest) (f, rest) b.then (g.differ d (term_sound most n ys b.value b.rest b.first))
comparison_at most n xs first _ v ys f rest d h = absurd cc

comparison_sound : (most n : ℕ) (xs mid : Input) (first : Term) (f : Formula) (rest : Input) → IsTerm most n xs first mid → comparison (term most n) first (kind mid) mid ≡ Some (f, rest) → IsUnit most n xs f rest
comparison_sound most n xs [] first f rest d h = absurd cc
comparison_sound most n xs (x ∷ ys) first f rest d h = comparison_at most n xs first x.0 x.1 ys f rest d h

named_unit : {most n : ℕ} {a : Spelling} {xs rest : Input} {ts : List Term} → Given most n xs ts rest → IsUnit most n ((sign.Name, a) ∷ xs) (formulas.Atom (token_text a) ts) rest
named_unit nothing = g.atom
named_unit (given d) = g.atom_of d

name_at : (most n : ℕ) (a : Spelling) (xs : Input) (ts : List Term) (s : Sign) (v : Spelling) (ys : Input) (f : Formula) (rest : Input) → Given most n xs ts ((s, v) ∷ ys) → after_name (term most n) (token_text a) ts s ((s, v) ∷ ys) ≡ Some (f, rest) → IsUnit most n ((sign.Name, a) ∷ xs) f rest
name_at most n a xs ts sign.Equal v ys f rest d h = comparison_at most n ((sign.Name, a) ∷ xs) (terms.App (token_text a) ts) sign.Equal v ys f rest (named_term d) h
name_at most n a xs ts sign.Differ v ys f rest d h = comparison_at most n ((sign.Name, a) ∷ xs) (terms.App (token_text a) ts) sign.Differ v ys f rest (named_term d) h
name_at most n a xs ts s v ys f rest d h = moved (λ (x : Formula) r. IsUnit most n ((sign.Name, a) ∷ xs) x r) (formulas.Atom (token_text a) ts, (s, v) ∷ ys) (f, rest) h (named_unit d)

name_next : (most n : ℕ) (a : Spelling) (xs : Input) (ts : List Term) (mid : Input) (f : Formula) (rest : Input) → Given most n xs ts mid → after_name (term most n) (token_text a) ts (kind mid) mid ≡ Some (f, rest) → IsUnit most n ((sign.Name, a) ∷ xs) f rest
name_next most n a xs ts [] f rest d h = moved (λ (x : Formula) r. IsUnit most n ((sign.Name, a) ∷ xs) x r) (formulas.Atom (token_text a) ts, []) (f, rest) h (named_unit d)
name_next most n a xs ts (x ∷ ys) f rest d h = name_at most n a xs ts x.0 x.1 ys f rest d h

given_sound : (most n : ℕ) → SoundGiven most n
given_sound most zero = given_zero most
given_sound most (suc n) = given_suc most n (term_sound most n)

name_sound : (most n : ℕ) (a : Spelling) (xs : Input) (f : Formula) (rest : Input) → and_then (arguments most (argument most n) xs) (λ ts i. after_name (term most n) (token_text a) ts (kind i) i) ≡ Some (f, rest) → IsUnit most n ((sign.Name, a) ∷ xs) f rest
name_sound most n a xs f rest h =
    let b = bound (arguments most (argument most n) xs) (λ ts i. after_name (term most n) (token_text a) ts (kind i) i) (f, rest) h in
    name_next most n a xs b.value b.rest f rest (given_sound most n xs b.value b.rest b.first) b.then

abbrev SoundQuantified : ℕ → ℕ → Quantifier → Parser Formula → Type 0
SoundQuantified most n q one = (xs : Input) (f : Formula) (rest : Input) → one xs ≡ Some (f, rest) → IsQuantified most q n xs f rest

module _ (most n : ℕ) (q : Quantifier) (one : Parser Formula) (sound : SoundUnit most n one) (again : Parser Formula) (more : SoundQuantified most n q again) where
  scope_by : (v : Spelling) (s : SortName) (xs mid : Input) (f : Formula) (rest : Input) → IsBoundSort xs s mid → Ran (sees sign.Comma mid) again (λ i. and_then (expect sign.RightBracket i) (λ u i. and_then (expect sign.Colon i) (λ u. one))) (after sign.Comma mid) (f, rest) → IsQuantified most q (suc n) ((sign.Upper, v) ∷ xs) (formulas.Quant q v s f) rest
  scope_by v s xs mid f rest d (yes e h) =
      let item = item_at sign.Comma mid end_is_no_comma e in
      g.more_variables (subst (λ (m : Input). IsBoundSort xs s m) item.is d) (more (next mid) f rest (ap again (sym (after_seen sign.Comma mid e)) ∙ h))
  scope_by v s xs mid f rest d (no e h) =
      let b = bound (expect sign.RightBracket (after sign.Comma mid)) (λ u i. and_then (expect sign.Colon i) (λ u. one)) (f, rest) h in
      let c = bound (expect sign.Colon b.rest) (λ u. one) (f, rest) b.then in
      let bracket = expected sign.RightBracket (after sign.Comma mid) b.value b.rest b.first end_is_no_right_bracket in
      let colon = expected sign.Colon b.rest c.value c.rest c.first end_is_no_colon in
      let whole : mid ≡ (sign.RightBracket, bracket.spelling) ∷ (sign.Colon, colon.spelling) ∷ c.rest = sym (after_unseen sign.Comma mid e) ∙ bracket.is ∙ ap (λ (i : Input). (sign.RightBracket, bracket.spelling) ∷ i) colon.is in
      g.last_variable (subst (λ (m : Input). IsBoundSort xs s m) whole d) (sound c.rest f rest c.then)

  variable_by : (xs : Input) (f : Formula) (rest : Input) → Item sign.Upper xs (next xs) → and_then (bound_sort (next xs)) (λ s i. and_then (scope one again i) (λ x. pure (formulas.Quant q (text xs) s x))) ≡ Some (f, rest) → IsQuantified most q (suc n) xs f rest
  unfolding scope
  variable_by xs f rest item h =
      let b = bound (bound_sort (next xs)) (λ s i. and_then (scope one again i) (λ x. pure (formulas.Quant q (text xs) s x))) (f, rest) h in
      let c = bound (scope one again b.rest) (λ x. pure (formulas.Quant q (text xs) b.value x)) (f, rest) b.then in
      let r = ran (sees sign.Comma b.rest) again (λ i. and_then (expect sign.RightBracket i) (λ u i. and_then (expect sign.Colon i) (λ u. one))) (after sign.Comma b.rest) (c.value, c.rest) c.first in
      let d = scope_by item.spelling b.value (next xs) b.rest c.value c.rest (bound_sound (next xs) b.value b.rest b.first) r in
      let called : text xs ≡ item.spelling = ap text item.is in
      moved (λ (x : Formula) r. IsQuantified most q (suc n) xs x r) (formulas.Quant q (text xs) b.value c.value, c.rest) (f, rest) c.then
      (subst (λ (i : Input). IsQuantified most q (suc n) i (formulas.Quant q (text xs) b.value c.value) c.rest) (sym item.is) (subst (λ (v : Spelling). IsQuantified most q (suc n) ((sign.Upper, item.spelling) ∷ next xs) (formulas.Quant q v b.value c.value) c.rest) (sym called) d))

  variable_sees : (xs : Input) (f : Formula) (rest : Input) (t : Bool) → sees sign.Upper xs ≡ t → cond t (and_then (bound_sort (next xs)) (λ s i. and_then (scope one again i) (λ x. pure (formulas.Quant q (text xs) s x)))) None ≡ Some (f, rest) → IsQuantified most q (suc n) xs f rest
  variable_sees xs f rest true e h = variable_by xs f rest (item_at sign.Upper xs end_is_no_upper e) h
  variable_sees xs f rest false e h = absurd cc

  variable_sound : SoundQuantified most (suc n) q (variable q one again)
  unfolding variable
  variable_sound xs f rest h = variable_sees xs f rest (sees sign.Upper xs) refl h

-- after the sign of a quantifier
bracket_sound : (most n : ℕ) (q : Quantifier) → SoundQuantified most n q (quantified most q n) → (s : Sign) (v : Spelling) (ys : Input) (f : Formula) (rest : Input) → ((b : Spelling) (xs : Input) → IsQuantified most q n xs f rest → IsUnit most n ((s, v) ∷ (sign.LeftBracket, b) ∷ xs) f rest) → and_then (expect sign.LeftBracket ys) (λ u. quantified most q n) ≡ Some (f, rest) → IsUnit most n ((s, v) ∷ ys) f rest
bracket_sound most n q sound s v ys f rest rule h =
    let b = bound (expect sign.LeftBracket ys) (λ u. quantified most q n) (f, rest) h in
    let bracket = expected sign.LeftBracket ys b.value b.rest b.first end_is_no_left_bracket in
    subst (λ (i : Input). IsUnit most n ((s, v) ∷ i) f rest) (sym bracket.is) (rule bracket.spelling b.rest (sound b.rest f rest b.then))

-- modalities with an index, where what stands one deeper is handed on
modal_sound : (most n : ℕ) (inner : Parser Formula) (m : Mode) (close : Sign) → same_sign sign.End close ≡ false → (s : Sign) (v : Spelling) (ys : Input) (f : Formula) (rest : Input)
    → ((h c : Spelling) (xs mid : Input) (i : Spelling) (x : Formula) (r : Input) → IsIndex xs i ((close, c) ∷ mid) → inner mid ≡ Some (x, r) → IsUnit most n ((s, v) ∷ (sign.Hash, h) ∷ xs) (formulas.Modal m (index.Named i) x) r)
    → modal_of inner m close ys ≡ Some (f, rest) → IsUnit most n ((s, v) ∷ ys) f rest
unfolding modal_of
modal_sound most n inner m close other s v ys f rest k h =
    with_expected (λ (x : Input). IsUnit most n ((s, v) ∷ x) f rest) sign.Hash ys (λ i. and_then (index_text i) (λ a i. and_then (expect close i) (λ u i. and_then (inner i) (λ x. pure (formulas.Modal m (index.Named a) x))))) (f, rest) end_is_no_hash
    (λ hash xs e. with_bound (IsUnit most n ((s, v) ∷ (sign.Hash, hash) ∷ xs) f rest) (index_text xs) (λ a i. and_then (expect close i) (λ u i. and_then (inner i) (λ x. pure (formulas.Modal m (index.Named a) x)))) (f, rest)
    (λ a i e1 e2.
    let b = bound (expect close i) (λ u i. and_then (inner i) (λ x. pure (formulas.Modal m (index.Named a) x))) (f, rest) e2 in
    let c = bound (inner b.rest) (λ x. pure (formulas.Modal m (index.Named a) x)) (f, rest) b.then in
    let item = expected close i b.value b.rest b.first other in
    moved (λ (x : Formula) r. IsUnit most n ((s, v) ∷ (sign.Hash, hash) ∷ xs) x r) (formulas.Modal m (index.Named a) c.value, c.rest) (f, rest) c.then
    (k hash item.spelling xs b.rest a c.value c.rest (subst (λ (j : Input). IsIndex xs a j) item.is (index_sound xs a i e1)) c.first)) e) h

-- what stands after the word of a long form
long_tail : (most n : ℕ) (inner : Parser Formula) (m : Mode) (v w : Spelling) (j : Sign) (xs i : Input) (a : IndexName) (f : Formula) (rest : Input)
    → ((at o : Spelling) (mid : Input) (x : Formula) (r : Input) → IsLongIndex xs a ((sign.At, at) ∷ (sign.Open, o) ∷ mid) → group inner mid ≡ Some (x, r) → IsUnit most n ((sign.LeftBrace, v) ∷ (j, w) ∷ xs) (formulas.Modal m a x) r)
    → IsLongIndex xs a i → and_then (expect sign.At i) (λ u i. and_then (expect sign.Open i) (λ u i. and_then (group inner i) (λ x. pure (formulas.Modal m a x)))) ≡ Some (f, rest) → IsUnit most n ((sign.LeftBrace, v) ∷ (j, w) ∷ xs) f rest
long_tail most n inner m v w j xs i a f rest k d e =
    let b = bound (expect sign.At i) (λ u i. and_then (expect sign.Open i) (λ u i. and_then (group inner i) (λ x. pure (formulas.Modal m a x)))) (f, rest) e in
    let c = bound (expect sign.Open b.rest) (λ u i. and_then (group inner i) (λ x. pure (formulas.Modal m a x))) (f, rest) b.then in
    let q = bound (group inner c.rest) (λ x. pure (formulas.Modal m a x)) (f, rest) c.then in
    let first = expected sign.At i b.value b.rest b.first end_is_no_at in
    let second = expected sign.Open b.rest c.value c.rest c.first end_is_no_open in
    let whole : i ≡ (sign.At, first.spelling) ∷ (sign.Open, second.spelling) ∷ c.rest = first.is ∙ ap (λ (x : Input). (sign.At, first.spelling) ∷ x) second.is in
    moved (λ (x : Formula) r. IsUnit most n ((sign.LeftBrace, v) ∷ (j, w) ∷ xs) x r) (formulas.Modal m a q.value, q.rest) (f, rest) q.then
    (k first.spelling second.spelling c.rest q.value q.rest (subst (λ (x : Input). IsLongIndex xs a x) whole d) q.first)

long_sound : (most n : ℕ) (inner : Parser Formula) (v : Spelling) (j : Sign) (w : Spelling) (xs : Input) (f : Formula) (rest : Input) (o : Option Mode)
    → ((m : Mode) (at open_at : Spelling) (mid : Input) (a : IndexName) (x : Formula) (r : Input) → o ≡ Some m → IsLongIndex xs a ((sign.At, at) ∷ (sign.Open, open_at) ∷ mid) → group inner mid ≡ Some (x, r) → IsUnit most n ((sign.LeftBrace, v) ∷ (j, w) ∷ xs) (formulas.Modal m a x) r)
    → long inner o ((j, w) ∷ xs) ≡ Some (f, rest) → IsUnit most n ((sign.LeftBrace, v) ∷ (j, w) ∷ xs) f rest
unfolding long
long_sound most n inner v j w xs f rest None k h = absurd cc
long_sound most n inner v j w xs f rest (Some m) k h =
    with_bound (IsUnit most n ((sign.LeftBrace, v) ∷ (j, w) ∷ xs) f rest) (long_index xs) (λ a i. and_then (expect sign.At i) (λ u i. and_then (expect sign.Open i) (λ u i. and_then (group inner i) (λ x. pure (formulas.Modal m a x))))) (f, rest)
    (λ a i e1 e2. long_tail most n inner m v w j xs i a f rest (λ at o mid x r d e. k m at o mid a x r refl d e) (long_index_sound xs a i e1) e2) h

-- any number of terms
many_sound : (most n : ℕ) (one : Parser Term) → Sounds most n one → (xs : Input) (ts : List Term) (rest : Input) → many most one xs ≡ Some (ts, rest) → AreTerms most n (length xs) xs ts rest
many_sound most n one sound xs ts rest h =
    let r = terms_sound most n one sound (length xs) [] xs ts rest h in
    subst (λ (x : List Term). AreTerms most n (length xs) xs x rest) (sym r.out_is) r.are

distinct_sound : (most n : ℕ) (several : Parser (List Term)) (v : Spelling) (ys : Input) (f : Formula) (rest : Input)
    → ((o : Spelling) (xs : Input) (ts : List Term) (r : Input) → several xs ≡ Some (ts, r) → IsUnit most n ((sign.Distinct, v) ∷ (sign.Open, o) ∷ xs) (formulas.Distinct ts) r)
    → and_then (expect sign.Open ys) (λ u i. and_then (several i) (λ ts. pure (formulas.Distinct ts))) ≡ Some (f, rest) → IsUnit most n ((sign.Distinct, v) ∷ ys) f rest
distinct_sound most n several v ys f rest k h =
    with_expected (λ (x : Input). IsUnit most n ((sign.Distinct, v) ∷ x) f rest) sign.Open ys (λ i. and_then (several i) (λ ts. pure (formulas.Distinct ts))) (f, rest) end_is_no_open
    (λ o xs e.
    let b = bound (several xs) (λ ts. pure (formulas.Distinct ts)) (f, rest) e in
    moved (λ (x : Formula) r. IsUnit most n ((sign.Distinct, v) ∷ (sign.Open, o) ∷ xs) x r) (formulas.Distinct b.value, b.rest) (f, rest) b.then (k o xs b.value b.rest b.first)) h

no_word : (inner : Parser Formula) (i : Input) (y : Formula × Input) → long inner None i ≡ Some y → ⊥
unfolding long
no_word inner i y h = absurd cc

none_many : (most : ℕ) (xs : Input) (ts : List Term) (rest : Input) → many most refuse xs ≡ Some (ts, rest) → ⊥
none_many most xs ts rest h = let none = no_terms most (length xs) [] xs in cc

unit_at_zero : (most : ℕ) → ((q : Quantifier) → SoundQuantified most zero q (quantified most q zero)) → (s : Sign) (v : Spelling) (ys : Input) (f : Formula) (rest : Input) → unit_by (term most zero) (arguments most refuse) (many most refuse) refuse (λ q. quantified most q zero) s ((s, v) ∷ ys) ≡ Some (f, rest) → IsUnit most zero ((s, v) ∷ ys) f rest
unfolding group whole
unit_at_zero most all sign.Open v ys f rest h = absurd cc
unit_at_zero most all sign.Not v ys f rest h = absurd cc
unit_at_zero most all sign.Box v ys f rest h = absurd cc
unit_at_zero most all sign.Dia v ys f rest h = absurd cc
unit_at_zero most all sign.LeftBracket v ys f rest h = modal_sound most zero refuse mode.Box sign.RightBracket end_is_no_right_bracket sign.LeftBracket v ys f rest (λ hash c xs mid i x r d e. absurd cc) h
unit_at_zero most all sign.Less v ys f rest h = modal_sound most zero refuse mode.Dia sign.Greater end_is_no_greater sign.Less v ys f rest (λ hash c xs mid i x r d e. absurd cc) h
unit_at_zero most all sign.LeftBrace v [] f rest h = absurd (no_word refuse [] (f, rest) h)
unit_at_zero most all sign.LeftBrace v (y ∷ xs) f rest h = long_sound most zero refuse v y.0 y.1 xs f rest (mode_of y.0) (λ m a o mid i x r e d g. absurd cc) h
unit_at_zero most all sign.Distinct v ys f rest h = distinct_sound most zero (many most refuse) v ys f rest (λ o xs ts r e. absurd (none_many most xs ts r e)) h
unit_at_zero most all sign.All v ys f rest h = bracket_sound most zero quantifier.All (all quantifier.All) sign.All v ys f rest (λ b xs d. g.all d) h
unit_at_zero most all sign.Exists v ys f rest h = bracket_sound most zero quantifier.Exists (all quantifier.Exists) sign.Exists v ys f rest (λ b xs d. g.exists d) h
unit_at_zero most all sign.True v ys f rest h = moved (λ (x : Formula) r. IsUnit most zero ((sign.True, v) ∷ ys) x r) (formulas.True, ys) (f, rest) h g.true
unit_at_zero most all sign.False v ys f rest h = moved (λ (x : Formula) r. IsUnit most zero ((sign.False, v) ∷ ys) x r) (formulas.False, ys) (f, rest) h g.false
unit_at_zero most all sign.Name v ys f rest h = name_sound most zero v ys f rest h
unit_at_zero most all sign.Upper v ys f rest h = comparison_sound most zero ((sign.Upper, v) ∷ ys) ys (terms.Var v) f rest g.variable h
unit_at_zero most all _ v ys f rest h = absurd cc

unit_at_suc : (most n : ℕ) → SoundUnit most n (unit most n) → ((q : Quantifier) → SoundQuantified most (suc n) q (quantified most q (suc n))) → (s : Sign) (v : Spelling) (ys : Input) (f : Formula) (rest : Input) → unit_by (term most (suc n)) (arguments most (term most n)) (many most (term most n)) (unit most n) (λ q. quantified most q (suc n)) s ((s, v) ∷ ys) ≡ Some (f, rest) → IsUnit most (suc n) ((s, v) ∷ ys) f rest
unit_at_suc most n one all sign.Open v ys f rest h = group_sound most n (unit most n) one v ys f rest h
unit_at_suc most n one all sign.Not v ys f rest h =
    let b = bound (unit most n ys) (λ x. pure (formulas.Not x)) (f, rest) h in
    moved (λ (x : Formula) r. IsUnit most (suc n) ((sign.Not, v) ∷ ys) x r) (formulas.Not b.value, b.rest) (f, rest) b.then (g.not (one ys b.value b.rest b.first))
unit_at_suc most n one all sign.Box v ys f rest h =
    let b = bound (unit most n ys) (λ x. pure (formulas.Modal mode.Box index.Plain x)) (f, rest) h in
    moved (λ (x : Formula) r. IsUnit most (suc n) ((sign.Box, v) ∷ ys) x r) (formulas.Modal mode.Box index.Plain b.value, b.rest) (f, rest) b.then (g.box (one ys b.value b.rest b.first))
unit_at_suc most n one all sign.Dia v ys f rest h =
    let b = bound (unit most n ys) (λ x. pure (formulas.Modal mode.Dia index.Plain x)) (f, rest) h in
    moved (λ (x : Formula) r. IsUnit most (suc n) ((sign.Dia, v) ∷ ys) x r) (formulas.Modal mode.Dia index.Plain b.value, b.rest) (f, rest) b.then (g.dia (one ys b.value b.rest b.first))
unit_at_suc most n one all sign.LeftBracket v ys f rest h = modal_sound most (suc n) (unit most n) mode.Box sign.RightBracket end_is_no_right_bracket sign.LeftBracket v ys f rest (λ hash c xs mid i x r d e. g.box_of d (one mid x r e)) h
unit_at_suc most n one all sign.Less v ys f rest h = modal_sound most (suc n) (unit most n) mode.Dia sign.Greater end_is_no_greater sign.Less v ys f rest (λ hash c xs mid i x r d e. g.dia_of d (one mid x r e)) h
unit_at_suc most n one all sign.LeftBrace v [] f rest h = absurd (no_word (unit most n) [] (f, rest) h)
unit_at_suc most n one all sign.LeftBrace v (y ∷ xs) f rest h = long_sound most (suc n) (unit most n) v y.0 y.1 xs f rest (mode_of y.0) (λ m a o mid i x r e d h2. long_unit most n (unit most n) one v y.0 y.1 xs m a o mid i x r e d h2) h
unit_at_suc most n one all sign.Distinct v ys f rest h = distinct_sound most (suc n) (many most (term most n)) v ys f rest (λ o xs ts r e. g.distinct (many_sound most n (term most n) (term_sound most n) xs ts r e)) h
unit_at_suc most n one all sign.All v ys f rest h = bracket_sound most (suc n) quantifier.All (all quantifier.All) sign.All v ys f rest (λ b xs d. g.all d) h
unit_at_suc most n one all sign.Exists v ys f rest h = bracket_sound most (suc n) quantifier.Exists (all quantifier.Exists) sign.Exists v ys f rest (λ b xs d. g.exists d) h
unit_at_suc most n one all sign.True v ys f rest h = moved (λ (x : Formula) r. IsUnit most (suc n) ((sign.True, v) ∷ ys) x r) (formulas.True, ys) (f, rest) h g.true
unit_at_suc most n one all sign.False v ys f rest h = moved (λ (x : Formula) r. IsUnit most (suc n) ((sign.False, v) ∷ ys) x r) (formulas.False, ys) (f, rest) h g.false
unit_at_suc most n one all sign.Name v ys f rest h = name_sound most (suc n) v ys f rest h
unit_at_suc most n one all sign.Upper v ys f rest h = comparison_sound most (suc n) ((sign.Upper, v) ∷ ys) ys (terms.Var v) f rest g.variable h
unit_at_suc most n one all _ v ys f rest h = absurd cc

unit_input_zero : (most : ℕ) → ((q : Quantifier) → SoundQuantified most zero q (quantified most q zero)) → (xs : Input) (f : Formula) (rest : Input) → unit_by (term most zero) (arguments most refuse) (many most refuse) refuse (λ q. quantified most q zero) (kind xs) xs ≡ Some (f, rest) → IsUnit most zero xs f rest
unit_input_zero most all [] f rest h = absurd cc
unit_input_zero most all (x ∷ ys) f rest h = unit_at_zero most all x.0 x.1 ys f rest h

unit_input_suc : (most n : ℕ) → SoundUnit most n (unit most n) → ((q : Quantifier) → SoundQuantified most (suc n) q (quantified most q (suc n))) → (xs : Input) (f : Formula) (rest : Input) → unit_by (term most (suc n)) (arguments most (term most n)) (many most (term most n)) (unit most n) (λ q. quantified most q (suc n)) (kind xs) xs ≡ Some (f, rest) → IsUnit most (suc n) xs f rest
unit_input_suc most n one all [] f rest h = absurd cc
unit_input_suc most n one all (x ∷ ys) f rest h = unit_at_suc most n one all x.0 x.1 ys f rest h

none_quantified : (most : ℕ) (q : Quantifier) → SoundQuantified most zero q (quantified most q zero)
unfolding unit
none_quantified most q xs f rest h = absurd cc

-- sound at one level: units, and what quantifiers bind
record SoundLevel (most n : ℕ) : Type 0 where
  units_are : SoundUnit most n (unit most n)
  quantified_are : (q : Quantifier) → SoundQuantified most n q (quantified most q n)

quantified_up : (most n : ℕ) → SoundLevel most n → (q : Quantifier) → SoundQuantified most (suc n) q (quantified most q (suc n))
unfolding unit
quantified_up most n s q xs f rest h = variable_sound most n q (unit most n) s.units_are (quantified most q n) (s.quantified_are q) xs f rest h

unit_up : (most n : ℕ) → SoundLevel most n → SoundUnit most (suc n) (unit most (suc n))
unfolding unit
unit_up most n s xs f rest h = unit_input_suc most n s.units_are (quantified_up most n s) xs f rest h

unit_bottom : (most : ℕ) → SoundUnit most zero (unit most zero)
unfolding unit
unit_bottom most xs f rest h = unit_input_zero most (none_quantified most) xs f rest h

level_sound : (most n : ℕ) → SoundLevel most n
level_sound most zero = record { units_are = unit_bottom most; quantified_are = none_quantified most }
level_sound most (suc n) = let s = level_sound most n in record { units_are = unit_up most n s; quantified_are = quantified_up most n s }

pub formula_sound : (most n : ℕ) (xs : Input) (f : Formula) (rest : Input) → formula most n xs ≡ Some (f, rest) → IsFormula most n xs f rest
unfolding formula
formula_sound most n xs f rest h = whole_sound most n (unit most n) (level_sound most n).units_are xs f rest h
