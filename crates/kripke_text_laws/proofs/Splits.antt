-- Statements that end at their only full stop are what the split gives back.
use Rattle.std.proofs.Common.{◌≡◌, Bool, true, false, cond, List, [], ◌∷◌, ◌++◌, length, refl, sym, ap, ◌∙◌, append_assoc, append-nil, length-append, arith}
use Rattle.std.specs.Prelude.{not}
use Rattle.std.specs.List.{list_all}
use Rattle.std.proofs.lemmas.Bool.{and_parts}
use Rattle.plain_tokens.specs.PlainTokens.{Plain}
use Rattle.kripke_text_definitions.specs.TokenStatements.{is_stop, in_first, statements}

-- the statements one after the other
abbrev pub joined : List (List Plain) → List Plain
joined [] = []
joined (s ∷ ss) = s ++ joined ss

abbrev pub is_none : List Plain → Bool
is_none [] = true
is_none (p ∷ ps) = false

-- whether the first full stop ends the list
abbrev pub ends_at_stop : List Plain → Bool
ends_at_stop [] = false
ends_at_stop (p ∷ ps) = cond (is_stop p) (is_none ps) (ends_at_stop ps)

split_by : (p : Plain) (ps rest : List Plain) (t : Bool) → cond t (is_none ps) (ends_at_stop ps) ≡ true → (ends_at_stop ps ≡ true → statements (ps ++ rest) ≡ ps ∷ statements rest) → cond t ((p ∷ []) ∷ statements (ps ++ rest)) (in_first p (statements (ps ++ rest))) ≡ (p ∷ ps) ∷ statements rest
split_by p [] rest true h ih = refl
split_by p (q ∷ ps) rest true h ih = absurd cc
split_by p ps rest false h ih = ap (in_first p) (ih h)

pub split_first : (s rest : List Plain) → ends_at_stop s ≡ true → statements (s ++ rest) ≡ s ∷ statements rest
split_first [] rest h = absurd cc
split_first (p ∷ ps) rest h = split_by p ps rest (is_stop p) h (split_first ps rest)

-- whole statements before others
pub split_all : (ss : List (List Plain)) (rest : List Plain) → list_all ends_at_stop ss ≡ true → statements (joined ss ++ rest) ≡ ss ++ statements rest
split_all [] rest h = refl
split_all (s ∷ ss) rest h =
    let t = and_parts (ends_at_stop s) (list_all ends_at_stop ss) h in
    ap statements (append_assoc s (joined ss) rest) ∙ split_first s (joined ss ++ rest) t.0 ∙ ap (λ (r : List (List Plain)). s ∷ r) (split_all ss rest t.1)

pub split_whole : (ss : List (List Plain)) → list_all ends_at_stop ss ≡ true → statements (joined ss) ≡ ss
split_whole ss h = ap statements (sym (append-nil (joined ss))) ∙ split_all ss [] h ∙ append-nil ss

some_first : (p : Plain) (ss : List (List Plain)) → length (in_first p ss) ≡ 0 → ⊥
some_first p [] h = absurd (omega arith)
some_first p (s ∷ ss) h = absurd (omega arith)

some_by : (p : Plain) (ps : List Plain) (t : Bool) → length (cond t ((p ∷ []) ∷ statements ps) (in_first p (statements ps))) ≡ 0 → ⊥
some_by p ps true h = absurd (omega arith)
some_by p ps false h = some_first p (statements ps) h

-- no statements are of no tokens
pub none_split : (ps : List Plain) → length (statements ps) ≡ 0 → ps ≡ []
none_split [] h = refl
none_split (p ∷ ps) h = absurd (some_by p ps (is_stop p) h)

-- as many whole statements are no proper prefix of others
pub no_proper_prefix : (ss ts : List (List Plain)) (more : List Plain) → list_all ends_at_stop ss ≡ true → list_all ends_at_stop ts ≡ true → length ss ≡ length ts → joined ss ++ more ≡ joined ts → more ≡ []
no_proper_prefix ss ts more h k len e =
    let parts : ss ++ statements more ≡ ts = sym (split_all ss more h) ∙ ap statements e ∙ split_whole ts k in
    none_split more (omega (arith, len, length-append ss (statements more), ap length parts))

-- equal tokens are of equal statements
pub same_statements : (ss ts : List (List Plain)) → list_all ends_at_stop ss ≡ true → list_all ends_at_stop ts ≡ true → joined ss ≡ joined ts → ss ≡ ts
same_statements ss ts h k e = sym (split_whole ss h) ∙ ap statements e ∙ split_whole ts k

-- nothing in front is a full stop
pub ends_by : (p : Plain) (ps : List Plain) (t : Bool) → not t ≡ true → ends_at_stop ps ≡ true → cond t (is_none ps) (ends_at_stop ps) ≡ true
ends_by p ps true h k = absurd cc
ends_by p ps false h k = k

pub ends_after : (xs ys : List Plain) → list_all (λ p. not (is_stop p)) xs ≡ true → ends_at_stop ys ≡ true → ends_at_stop (xs ++ ys) ≡ true
ends_after [] ys h k = k
ends_after (x ∷ xs) ys h k =
    let t = and_parts (not (is_stop x)) (list_all (λ p. not (is_stop p)) xs) h in
    ends_by x (xs ++ ys) (is_stop x) t.0 (ends_after xs ys t.1 k)
