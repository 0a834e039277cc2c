-- The descent and the grammar agree on typings.
use Rattle.std.proofs.Common.{◌≡◌, ℕ, zero, suc, Bool, true, false, List, [], ◌∷◌, ◌++◌, Option, Some, None, refl, sym, ap, subst, ◌∙◌, append_assoc}
use Rattle.nxf_terminals.specs.declared.sign.Sign.{Sign}
use Rattle.nxf_terminals.specs.declared.sign.Sign.TheVariants as sign
use Rattle.tptp_lex.specs.Texts.{token_text}
use Rattle.nxf_terminals.specs.Signs.{same_sign}
use Rattle.nxf_terminals.specs.Input.{Spelling, Input, Parser, and_then, kind, next, sees, expect, refuse, pure}
use Rattle.nxf_terminals.proofs.CallerLemmas.{bound, moved, expected, with_expected, end_is_no_close, end_is_no_greater, end_is_no_colon, end_is_no_sort_type}
use Rattle.nxf_tree.specs.declared.tree.SortName.{SortName}
use Rattle.nxf_tree.specs.declared.tree.Typing.{Typing}
use Rattle.nxf_tree.specs.declared.tree.Typing.TheVariants as typing
use Rattle.syntax_definitions.specs.Formulas.{IsSort}
use Rattle.syntax_definitions.specs.Formulas as f
use Rattle.syntax_definitions.specs.steps.ReadFormulas.{sort_name}
use Rattle.grammar_laws.proofs.Complete.{sort_found}
use Rattle.grammar_laws.proofs.Sound.{sort_sound}
use Rattle.syntax_definitions.specs.Typings.{IsResult, AreSorts, IsType, IsTyping}
use Rattle.syntax_definitions.specs.Typings as g
use Rattle.syntax_definitions.specs.steps.ReadTypings.{ends_type, result_by, result, sorts_by, sorts_from, are_arguments_by, are_arguments, grouped, symbol, after_sort, in_brackets, type_by, type_of, named, typing_by, typing_of}
use Rattle.syntax_definitions.proofs.CallerLemmas.{type_is, typing_is}

-- ---- what the grammar reads is read

result_found : {xs rest : Input} {r : Option SortName} → IsResult xs r rest → result xs ≡ Some (r, rest)
unfolding result sort_name
result_found (g.of_sort f.individual) = refl
result_found (g.of_sort f.user) = refl
result_found g.truth = refl

sorts_found : {k : ℕ} {xs rest : Input} {ss : List SortName} → AreSorts k xs ss rest → (found : List SortName) → sorts_from k found xs ≡ Some (found ++ ss, rest)
unfolding sorts_from
sorts_found (g.last_sort d) found = rw (sort_found d) refl
sorts_found (g.more_sorts {rest = rest} {s = s} {ss = ss} d ds) found = rw (sort_found d) (sorts_found ds (found ++ s ∷ []) ∙ ap (λ (x : List SortName). Some (x, rest)) (append_assoc found (s ∷ []) ss))

arguments_seen : {k : ℕ} {xs rest : Input} {ss : List SortName} → AreSorts k xs ss rest → kind rest ≡ sign.Greater → are_arguments xs ≡ true
unfolding are_arguments
arguments_seen (g.last_sort f.individual) h = rw h refl
arguments_seen (g.last_sort f.user) h = rw h refl
arguments_seen (g.more_sorts f.individual ds) h = refl
arguments_seen (g.more_sorts f.user ds) h = refl

type_begins : {most : ℕ} {name : Spelling} {n : ℕ} {xs rest : Input} {t : Typing} → IsType most name n xs t rest → (third : Sign) → are_arguments_by (kind xs) third ≡ false
type_begins (g.plain (g.of_sort f.individual)) third = refl
type_begins (g.plain (g.of_sort f.user)) third = refl
type_begins (g.plain g.truth) third = refl
type_begins (g.of_one f.individual r) third = refl
type_begins (g.of_one f.user r) third = refl
type_begins (g.of_sorts ss r) third = refl
type_begins (g.brackets d) third = refl

closed : (s t : Sign) → s ≡ sign.Close → ends_type t ≡ true → are_arguments_by s t ≡ false
closed sign.Star t h e = absurd cc
closed sign.Close sign.Greater h e = absurd cc
closed sign.Close _ h e = refl
closed _ t h e = refl

sorts_begin : {k : ℕ} {xs rest : Input} {ss : List SortName} → AreSorts k xs ss rest → (third : Sign) → are_arguments_by (kind xs) third ≡ false
sorts_begin (g.last_sort f.individual) third = refl
sorts_begin (g.last_sort f.user) third = refl
sorts_begin (g.more_sorts f.individual ds) third = refl
sorts_begin (g.more_sorts f.user ds) third = refl

no_arguments : {most : ℕ} {name : Spelling} {n : ℕ} {xs rest : Input} {t : Typing} → IsType most name n xs t rest → kind rest ≡ sign.Close → ends_type (kind (next rest)) ≡ true → are_arguments xs ≡ false
unfolding are_arguments
no_arguments {rest = rest} (g.plain (g.of_sort f.individual)) h e = closed (kind rest) (kind (next rest)) h e
no_arguments {rest = rest} (g.plain (g.of_sort f.user)) h e = closed (kind rest) (kind (next rest)) h e
no_arguments {rest = rest} (g.plain g.truth) h e = closed (kind rest) (kind (next rest)) h e
no_arguments (g.of_one f.individual r) h e = refl
no_arguments (g.of_one f.user r) h e = refl
no_arguments (g.of_sorts {xs = ys} ss r) h e = sorts_begin ss (kind (next ys))
no_arguments (g.brackets {xs = ys} d) h e = type_begins d (kind (next ys))

sort_ends : (name : Spelling) (s : SortName) (k : Sign) (i : Input) → ends_type k ≡ true → after_sort name s k i ≡ Some (typing.Symbol name [] (Some s), i)
sort_ends name s sign.Greater i h = absurd cc
sort_ends name s _ i h = refl

pub type_found : {most : ℕ} {name : Spelling} {n : ℕ} {xs rest : Input} {t : Typing} → IsType most name n xs t rest → ends_type (kind rest) ≡ true → type_of most name n xs ≡ Some (t, rest)
unfolding expect sees same_sign sort_name
type_found {most = most} {name = name} {n = n} {xs = xs} {rest = rest} (g.plain (g.of_sort {s = s} f.individual)) h = type_is most name n xs ∙ (sort_ends name s (kind rest) rest h)
type_found {most = most} {name = name} {n = n} {xs = xs} {rest = rest} (g.plain (g.of_sort {s = s} f.user)) h = type_is most name n xs ∙ (sort_ends name s (kind rest) rest h)
type_found {most = most} {name = name} {n = n} {xs = xs} (g.plain g.truth) h = type_is most name n xs
type_found {most = most} {name = name} {n = n} {xs = xs} (g.of_one f.individual r) h = type_is most name n xs ∙ rw (result_found r) refl
type_found {most = most} {name = name} {n = n} {xs = xs} (g.of_one f.user r) h = type_is most name n xs ∙ rw (result_found r) refl
type_found {most = most} {name = name} {xs = xs} (g.of_sorts {n = m} {xs = ys} ss r) h = type_is most name (suc m) xs ∙ rw (arguments_seen ss refl) (rw (sorts_found ss []) (rw (result_found r) refl))
type_found {most = most} {name = name} {xs = xs} (g.brackets {n = m} d) h = type_is most name (suc m) xs ∙ rw (no_arguments d refl h) (rw (type_found d refl) refl)

no_sort_type : {most : ℕ} {name : Spelling} {n : ℕ} {xs rest : Input} {t : Typing} → IsType most name n xs t rest → (a : Spelling) (type : Parser Typing) → named type a (kind xs) ≡ type
no_sort_type (g.plain (g.of_sort f.individual)) a type = refl
no_sort_type (g.plain (g.of_sort f.user)) a type = refl
no_sort_type (g.plain g.truth) a type = refl
no_sort_type (g.of_one f.individual r) a type = refl
no_sort_type (g.of_one f.user r) a type = refl
no_sort_type (g.of_sorts ss r) a type = refl
no_sort_type (g.brackets d) a type = refl

pub typing_found : {most n : ℕ} {xs rest : Input} {t : Typing} → IsTyping most n xs t rest → ends_type (kind rest) ≡ true → typing_of most n xs ≡ Some (t, rest)
unfolding expect sees same_sign
typing_found {most = most} {n = n} {xs = xs} g.individual h = typing_is most n xs
typing_found {most = most} {n = n} {xs = xs} g.sort h = typing_is most n xs
typing_found {most = most} {n = n} {xs = xs} (g.symbol {a = a} {xs = ys} d) h = typing_is most n xs ∙ ap (λ (p : Parser Typing). p ys) (no_sort_type d (token_text a) (type_of most (token_text a) n)) ∙ type_found d h
typing_found {most = most} {xs = xs} (g.in_brackets {n = m} d) h = typing_is most (suc m) xs ∙ rw (typing_found d refl) refl

-- ---- what is read, the grammar reads

result_at : (s : Sign) (v : Spelling) (ys : Input) (out : Option SortName) (rest : Input) → result_by s ((s, v) ∷ ys) ≡ Some (out, rest) → IsResult ((s, v) ∷ ys) out rest
result_at sign.Truth v ys out rest h = moved (λ (x : Option SortName) r. IsResult ((sign.Truth, v) ∷ ys) x r) (None, ys) (out, rest) h g.truth
result_at s v ys out rest h =
    let b = bound (sort_name ((s, v) ∷ ys)) (λ s. pure (Some s)) (out, rest) h in
    moved (λ (x : Option SortName) r. IsResult ((s, v) ∷ ys) x r) (Some b.value, b.rest) (out, rest) b.then (g.of_sort (sort_sound ((s, v) ∷ ys) b.value b.rest b.first))

result_sound : (xs : Input) (out : Option SortName) (rest : Input) → result xs ≡ Some (out, rest) → IsResult xs out rest
unfolding result
result_sound [] out rest h =
    let b = bound (sort_name []) (λ s. pure (Some s)) (out, rest) h in
    moved (λ (x : Option SortName) r. IsResult [] x r) (Some b.value, b.rest) (out, rest) b.then (g.of_sort (sort_sound [] b.value b.rest b.first))
result_sound (x ∷ ys) out rest h = result_at x.0 x.1 ys out rest h

record ReadSorts (k : ℕ) (found : List SortName) (xs : Input) (out : List SortName) (rest : Input) : Type 0 where
  ss : List SortName
  out_is : out ≡ found ++ ss
  are : AreSorts k xs ss rest

sorts_next : (k : ℕ) (found : List SortName) (xs : Input) (s : SortName) (j : Sign) (v : Spelling) (ys : Input) (out : List SortName) (rest : Input) → IsSort xs s ((j, v) ∷ ys)
    → sorts_by (sorts_from k (found ++ s ∷ [])) (found ++ s ∷ []) j ((j, v) ∷ ys) ≡ Some (out, rest)
    → ((zs : Input) → sorts_from k (found ++ s ∷ []) zs ≡ Some (out, rest) → ReadSorts k (found ++ s ∷ []) zs out rest) → ReadSorts (suc k) found xs out rest
sorts_next k found xs s sign.Star v ys out rest d h again =
    let r = again ys h in
    record { ss = s ∷ r.ss; out_is = r.out_is ∙ append_assoc found (s ∷ []) r.ss; are = g.more_sorts d r.are }
sorts_next k found xs s sign.Close v ys out rest d h again =
    moved (λ (o : List SortName) r. ReadSorts (suc k) found xs o r) (found ++ s ∷ [], ys) (out, rest) h (record { ss = s ∷ []; out_is = refl; are = g.last_sort d })
sorts_next k found xs s _ v ys out rest d h again = absurd cc

sorts_then : (k : ℕ) (found : List SortName) (xs mid : Input) (s : SortName) (out : List SortName) (rest : Input) → IsSort xs s mid
    → sorts_by (sorts_from k (found ++ s ∷ [])) (found ++ s ∷ []) (kind mid) mid ≡ Some (out, rest)
    → ((zs : Input) → sorts_from k (found ++ s ∷ []) zs ≡ Some (out, rest) → ReadSorts k (found ++ s ∷ []) zs out rest) → ReadSorts (suc k) found xs out rest
sorts_then k found xs [] s out rest d h again = absurd cc
sorts_then k found xs (y ∷ ys) s out rest d h again = sorts_next k found xs s y.0 y.1 ys out rest d h again

sorts_sound : (k : ℕ) (found : List SortName) (xs : Input) (out : List SortName) (rest : Input) → sorts_from k found xs ≡ Some (out, rest) → ReadSorts k found xs out rest
unfolding sorts_from
sorts_sound zero found xs out rest h = absurd cc
sorts_sound (suc k) found xs out rest h =
    let b = bound (sort_name xs) (λ s i. sorts_by (sorts_from k (found ++ s ∷ [])) (found ++ s ∷ []) (kind i) i) (out, rest) h in
    sorts_then k found xs b.rest b.value out rest (sort_sound xs b.value b.rest b.first) b.then (λ zs e. sorts_sound k (found ++ b.value ∷ []) zs out rest e)

after_at : (most n : ℕ) (name : Spelling) (xs : Input) (s : SortName) (j : Sign) (v : Spelling) (ys : Input) (t : Typing) (rest : Input) → IsSort xs s ((j, v) ∷ ys) → after_sort name s j ((j, v) ∷ ys) ≡ Some (t, rest) → IsType most name n xs t rest
after_at most n name xs s sign.Greater v ys t rest d h =
    let b = bound (result ys) (λ r. pure (typing.Symbol name (s ∷ []) r)) (t, rest) h in
    moved (λ (x : Typing) r. IsType most name n xs x r) (typing.Symbol name (s ∷ []) b.value, b.rest) (t, rest) b.then (g.of_one d (result_sound ys b.value b.rest b.first))
after_at most n name xs s j v ys t rest d h = moved (λ (x : Typing) r. IsType most name n xs x r) (typing.Symbol name [] (Some s), (j, v) ∷ ys) (t, rest) h (g.plain (g.of_sort d))

after_then : (most n : ℕ) (name : Spelling) (xs mid : Input) (s : SortName) (t : Typing) (rest : Input) → IsSort xs s mid → after_sort name s (kind mid) mid ≡ Some (t, rest) → IsType most name n xs t rest
after_then most n name xs [] s t rest d h = moved (λ (x : Typing) r. IsType most name n xs x r) (typing.Symbol name [] (Some s), []) (t, rest) h (g.plain (g.of_sort d))
after_then most n name xs (y ∷ ys) s t rest d h = after_at most n name xs s y.0 y.1 ys t rest d h

sorted : (most n : ℕ) (name : Spelling) (xs : Input) (t : Typing) (rest : Input) → and_then (sort_name xs) (λ s i. after_sort name s (kind i) i) ≡ Some (t, rest) → IsType most name n xs t rest
sorted most n name xs t rest h =
    let b = bound (sort_name xs) (λ s i. after_sort name s (kind i) i) (t, rest) h in
    after_then most n name xs b.rest b.value t rest (sort_sound xs b.value b.rest b.first) b.then

none_inside : (name : Spelling) (b : Bool) (ys : Input) (y : Typing × Input) → in_brackets name refuse refuse b ys ≡ Some y → ⊥
none_inside name true ys y h = absurd cc
none_inside name false ys y h = absurd cc

type_at_zero : (most : ℕ) (name : Spelling) (s : Sign) (v : Spelling) (ys : Input) (t : Typing) (rest : Input) → type_by name refuse refuse s ((s, v) ∷ ys) ≡ Some (t, rest) → IsType most name zero ((s, v) ∷ ys) t rest
type_at_zero most name sign.Open v ys t rest h = absurd (none_inside name (are_arguments ys) ys (t, rest) h)
type_at_zero most name sign.Truth v ys t rest h = moved (λ (x : Typing) r. IsType most name zero ((sign.Truth, v) ∷ ys) x r) (typing.Symbol name [] None, ys) (t, rest) h (g.plain g.truth)
type_at_zero most name s v ys t rest h = sorted most zero name ((s, v) ∷ ys) t rest h

abbrev SoundType : ℕ → Spelling → ℕ → Parser Typing → Type 0
SoundType most name n one = (xs : Input) (t : Typing) (rest : Input) → one xs ≡ Some (t, rest) → IsType most name n xs t rest

symbol_then : (most n : ℕ) (name v : Spelling) (ys mid : Input) (ss : List SortName) (t : Typing) (rest : Input) → AreSorts most ys ss mid → symbol name ss mid ≡ Some (t, rest) → IsType most name (suc n) ((sign.Open, v) ∷ ys) t rest
symbol_then most n name v ys mid ss t rest d h =
    let b = bound (expect sign.Greater mid) (λ u i. and_then (result i) (λ r. pure (typing.Symbol name ss r))) (t, rest) h in
    let c = bound (result b.rest) (λ r. pure (typing.Symbol name ss r)) (t, rest) b.then in
    let item = expected sign.Greater mid b.value b.rest b.first end_is_no_greater in
    moved (λ (x : Typing) r. IsType most name (suc n) ((sign.Open, v) ∷ ys) x r) (typing.Symbol name ss c.value, c.rest) (t, rest) c.then
    (g.of_sorts (subst (λ (m : Input). AreSorts most ys ss m) item.is d) (result_sound b.rest c.value c.rest c.first))

inside : (most n : ℕ) (name : Spelling) (one : Parser Typing) → SoundType most name n one → (v : Spelling) (ys : Input) (b : Bool) (t : Typing) (rest : Input) → in_brackets name one (sorts_from most []) b ys ≡ Some (t, rest) → IsType most name (suc n) ((sign.Open, v) ∷ ys) t rest
inside most n name one sound v ys true t rest h =
    let b = bound (sorts_from most [] ys) (λ ss. symbol name ss) (t, rest) h in
    let r = sorts_sound most [] ys b.value b.rest b.first in
    symbol_then most n name v ys b.rest b.value t rest (subst (λ (x : List SortName). AreSorts most ys x b.rest) (sym r.out_is) r.are) b.then
inside most n name one sound v ys false t rest h =
    let b = bound (one ys) (λ t i. and_then (expect sign.Close i) (λ u. pure t)) (t, rest) h in
    let c = bound (expect sign.Close b.rest) (λ u. pure b.value) (t, rest) b.then in
    let item = expected sign.Close b.rest c.value c.rest c.first end_is_no_close in
    moved (λ (x : Typing) r. IsType most name (suc n) ((sign.Open, v) ∷ ys) x r) (b.value, c.rest) (t, rest) c.then
    (g.brackets (subst (λ (m : Input). IsType most name n ys b.value m) item.is (sound ys b.value b.rest b.first)))

type_at_suc : (most n : ℕ) (name : Spelling) → SoundType most name n (type_of most name n) → (s : Sign) (v : Spelling) (ys : Input) (t : Typing) (rest : Input) → type_by name (type_of most name n) (sorts_from most []) s ((s, v) ∷ ys) ≡ Some (t, rest) → IsType most name (suc n) ((s, v) ∷ ys) t rest
type_at_suc most n name sound sign.Open v ys t rest h = inside most n name (type_of most name n) sound v ys (are_arguments ys) t rest h
type_at_suc most n name sound sign.Truth v ys t rest h = moved (λ (x : Typing) r. IsType most name (suc n) ((sign.Truth, v) ∷ ys) x r) (typing.Symbol name [] None, ys) (t, rest) h (g.plain g.truth)
type_at_suc most n name sound s v ys t rest h = sorted most (suc n) name ((s, v) ∷ ys) t rest h

pub type_sound : (most : ℕ) (name : Spelling) (n : ℕ) → SoundType most name n (type_of most name n)
unfolding type_of
type_sound most name zero [] t rest h = sorted most zero name [] t rest h
type_sound most name zero (x ∷ ys) t rest h = type_at_zero most name x.0 x.1 ys t rest h
type_sound most name (suc n) [] t rest h = sorted most (suc n) name [] t rest h
type_sound most name (suc n) (x ∷ ys) t rest h = type_at_suc most n name (type_sound most name n) x.0 x.1 ys t rest h

named_at : (most n : ℕ) (a c : Spelling) (s : Sign) (v : Spelling) (ys : Input) (t : Typing) (rest : Input) → named (type_of most (token_text a) n) (token_text a) s ((s, v) ∷ ys) ≡ Some (t, rest) → IsTyping most n ((sign.Name, a) ∷ (sign.Colon, c) ∷ (s, v) ∷ ys) t rest
named_at most n a c sign.SortType v ys t rest h = moved (λ (x : Typing) r. IsTyping most n ((sign.Name, a) ∷ (sign.Colon, c) ∷ (sign.SortType, v) ∷ ys) x r) (typing.Sort (token_text a), ys) (t, rest) h g.sort
named_at most n a c s v ys t rest h = g.symbol (type_sound most (token_text a) n ((s, v) ∷ ys) t rest h)

named_then : (most n : ℕ) (a c : Spelling) (xs : Input) (t : Typing) (rest : Input) → named (type_of most (token_text a) n) (token_text a) (kind xs) xs ≡ Some (t, rest) → IsTyping most n ((sign.Name, a) ∷ (sign.Colon, c) ∷ xs) t rest
named_then most n a c [] t rest h = g.symbol (type_sound most (token_text a) n [] t rest h)
named_then most n a c (x ∷ ys) t rest h = named_at most n a c x.0 x.1 ys t rest h

individual_typing : (most n : ℕ) (v : Spelling) (ys : Input) (t : Typing) (rest : Input) → and_then (expect sign.Colon ys) (λ u i. and_then (expect sign.SortType i) (λ u. pure typing.Individual)) ≡ Some (t, rest) → IsTyping most n ((sign.Individual, v) ∷ ys) t rest
individual_typing most n v ys t rest h =
    with_expected (λ (x : Input). IsTyping most n ((sign.Individual, v) ∷ x) t rest) sign.Colon ys (λ i. and_then (expect sign.SortType i) (λ u. pure typing.Individual)) (t, rest) end_is_no_colon
    (λ c xs e. with_expected (λ (x : Input). IsTyping most n ((sign.Individual, v) ∷ (sign.Colon, c) ∷ x) t rest) sign.SortType xs (pure typing.Individual) (t, rest) end_is_no_sort_type
    (λ k zs e. moved (λ (x : Typing) r. IsTyping most n ((sign.Individual, v) ∷ (sign.Colon, c) ∷ (sign.SortType, k) ∷ zs) x r) (typing.Individual, zs) (t, rest) e g.individual) e) h

abbrev SoundTyping : ℕ → ℕ → Parser Typing → Type 0
SoundTyping most n one = (xs : Input) (t : Typing) (rest : Input) → one xs ≡ Some (t, rest) → IsTyping most n xs t rest

typing_at : (most n : ℕ) (inner : Parser Typing) → ((v : Spelling) (ys : Input) (t : Typing) (rest : Input) → grouped inner ys ≡ Some (t, rest) → IsTyping most n ((sign.Open, v) ∷ ys) t rest)
    → (s : Sign) (v : Spelling) (ys : Input) (t : Typing) (rest : Input) → typing_by (λ a. type_of most a n) inner s ((s, v) ∷ ys) ≡ Some (t, rest) → IsTyping most n ((s, v) ∷ ys) t rest
typing_at most n inner k sign.Open v ys t rest h = k v ys t rest h
typing_at most n inner k sign.Individual v ys t rest h = individual_typing most n v ys t rest h
typing_at most n inner k sign.Name v ys t rest h =
    with_expected (λ (x : Input). IsTyping most n ((sign.Name, v) ∷ x) t rest) sign.Colon ys (λ i. named (type_of most (token_text v) n) (token_text v) (kind i) i) (t, rest) end_is_no_colon
    (λ c xs e. named_then most n v c xs t rest e) h
typing_at most n inner k _ v ys t rest h = absurd cc

typing_input : (most n : ℕ) (inner : Parser Typing) → ((v : Spelling) (ys : Input) (t : Typing) (rest : Input) → grouped inner ys ≡ Some (t, rest) → IsTyping most n ((sign.Open, v) ∷ ys) t rest)
    → (xs : Input) (t : Typing) (rest : Input) → typing_by (λ a. type_of most a n) inner (kind xs) xs ≡ Some (t, rest) → IsTyping most n xs t rest
typing_input most n inner k [] t rest h = absurd cc
typing_input most n inner k (x ∷ ys) t rest h = typing_at most n inner k x.0 x.1 ys t rest h

group_typing : (most n : ℕ) (one : Parser Typing) → SoundTyping most n one → (v : Spelling) (ys : Input) (t : Typing) (rest : Input) → grouped one ys ≡ Some (t, rest) → IsTyping most (suc n) ((sign.Open, v) ∷ ys) t rest
group_typing most n one sound v ys t rest h =
    let b = bound (one ys) (λ t i. and_then (expect sign.Close i) (λ u. pure t)) (t, rest) h in
    let c = bound (expect sign.Close b.rest) (λ u. pure b.value) (t, rest) b.then in
    let item = expected sign.Close b.rest c.value c.rest c.first end_is_no_close in
    moved (λ (x : Typing) r. IsTyping most (suc n) ((sign.Open, v) ∷ ys) x r) (b.value, c.rest) (t, rest) c.then
    (g.in_brackets (subst (λ (m : Input). IsTyping most n ys b.value m) item.is (sound ys b.value b.rest b.first)))

pub typing_sound : (most n : ℕ) → SoundTyping most n (typing_of most n)
unfolding typing_of
typing_sound most zero xs t rest h = typing_input most zero refuse (λ v ys t rest e. absurd cc) xs t rest h
typing_sound most (suc n) xs t rest h = typing_input most (suc n) (typing_of most n) (group_typing most n (typing_of most n) (typing_sound most n)) xs t rest h
