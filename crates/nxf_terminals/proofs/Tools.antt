-- What an outcome of the steps of a rule says.
use Rattle.std.proofs.Common.{◌≡◌, Bool, true, false, cond, [], ◌∷◌, Some, None, refl, sym, ap, subst, ◌∙◌, rules}
use denote.Enum.Bare.{same_true}
use Rattle.std.proofs.lemmas.Bool.{true≢false}
use Rattle.nxf_terminals.specs.contracts.sign.Sign.{the_type}
use Rattle.nxf_terminals.specs.declared.sign.Sign.{Sign}
use Rattle.nxf_terminals.specs.declared.sign.Sign.TheVariants as sign
use Rattle.nxf_terminals.specs.Input.{Spelling, Input, Outcome, Parser, and_then, next, sees, after, expect}
use Rattle.nxf_terminals.specs.Signs.{same_sign}

-- one parser after another
pub record Bound {A B : Type 0} (o : Outcome A) (f : A → Parser B) (y : B × Input) : Type 0 where
  pub value : A
  pub rest : Input
  pub first : o ≡ Some (value, rest)
  pub then : f value rest ≡ Some y

pub bound : {A B : Type 0} (o : Outcome A) (f : A → Parser B) (y : B × Input) → and_then o f ≡ Some y → Bound o f y
bound None f y h = absurd cc
bound (Some x) f y h = record { value = x.0; rest = x.1; first = refl; then = h }

pub data Ran {A : Type 0} (t : Bool) (p q : Parser A) (i : Input) (y : A × Input) : Type 0 where
  yes : t ≡ true → p i ≡ Some y → Ran t p q i y
  no : t ≡ false → q i ≡ Some y → Ran t p q i y

pub ran : {A : Type 0} (t : Bool) (p q : Parser A) (i : Input) (y : A × Input) → cond t p q i ≡ Some y → Ran t p q i y
ran true p q i y h = yes refl h
ran false p q i y h = no refl h

pub moved : {A : Type 0} (P : A → Input → Type 0) (x y : A × Input) → Some x ≡ Some y → P x.0 x.1 → P y.0 y.1
moved P x y e p = let same : x ≡ y = cc in subst (λ (z : _ × Input). P z.0 z.1) same p

-- the input begins with this sign
pub record Item (s : Sign) (i rest : Input) : Type 0 where
  pub spelling : Spelling
  pub is : i ≡ (s, spelling) ∷ rest

pub same_true_sign : (a b : Sign) → same_sign a b ≡ true → a ≡ b
unfolding same_sign
same_true_sign a b h = same_true the_type (search rules) a b h

pub item_at : (s : Sign) (i : Input) → same_sign sign.End s ≡ false → sees s i ≡ true → Item s i (next i)
unfolding sees
item_at s [] other h = absurd (true≢false (sym h ∙ other))
item_at s (x ∷ rest) other h = record { spelling = x.1; is = ap (λ (k : Sign). (k, x.1) ∷ rest) (same_true_sign x.0 s h) }

pub after_seen : (s : Sign) (i : Input) → sees s i ≡ true → after s i ≡ next i
unfolding after
after_seen s i h = rw h refl

pub after_unseen : (s : Sign) (i : Input) → sees s i ≡ false → after s i ≡ i
unfolding after
after_unseen s i h = rw h refl

pub expected_by : (s : Sign) (i : Input) (u : Unit {0}) (rest : Input) (t : Bool) → sees s i ≡ t → cond {A = Outcome (Unit {0})} t (Some (tt, next i)) None ≡ Some (u, rest) → same_sign sign.End s ≡ false → Item s i rest
expected_by s i u rest true e h other = moved (λ (x : Unit {0}) j. Item s i j) (tt, next i) (u, rest) h (item_at s i other e)
expected_by s i u rest false e h other = absurd cc

pub expected : (s : Sign) (i : Input) (u : Unit {0}) (rest : Input) → expect s i ≡ Some (u, rest) → same_sign sign.End s ≡ false → Item s i rest
unfolding expect
expected s i u rest h other = expected_by s i u rest (sees s i) refl h other

-- ---- no end of the input is a sign

pub end_is_no_and : same_sign sign.End sign.And ≡ false
unfolding same_sign
end_is_no_and = refl

pub end_is_no_or : same_sign sign.End sign.Or ≡ false
unfolding same_sign
end_is_no_or = refl

pub end_is_no_comma : same_sign sign.End sign.Comma ≡ false
unfolding same_sign
end_is_no_comma = refl

pub end_is_no_colon : same_sign sign.End sign.Colon ≡ false
unfolding same_sign
end_is_no_colon = refl

pub end_is_no_open : same_sign sign.End sign.Open ≡ false
unfolding same_sign
end_is_no_open = refl

pub end_is_no_close : same_sign sign.End sign.Close ≡ false
unfolding same_sign
end_is_no_close = refl

pub end_is_no_upper : same_sign sign.End sign.Upper ≡ false
unfolding same_sign
end_is_no_upper = refl

pub end_is_no_left_bracket : same_sign sign.End sign.LeftBracket ≡ false
unfolding same_sign
end_is_no_left_bracket = refl

pub end_is_no_right_bracket : same_sign sign.End sign.RightBracket ≡ false
unfolding same_sign
end_is_no_right_bracket = refl

pub end_is_no_right_brace : same_sign sign.End sign.RightBrace ≡ false
unfolding same_sign
end_is_no_right_brace = refl

pub end_is_no_stop : same_sign sign.End sign.Stop ≡ false
unfolding same_sign
end_is_no_stop = refl

pub end_is_no_hash : same_sign sign.End sign.Hash ≡ false
unfolding same_sign
end_is_no_hash = refl

pub end_is_no_at : same_sign sign.End sign.At ≡ false
unfolding same_sign
end_is_no_at = refl

pub end_is_no_greater : same_sign sign.End sign.Greater ≡ false
unfolding same_sign
end_is_no_greater = refl

pub end_is_no_is : same_sign sign.End sign.Is ≡ false
unfolding same_sign
end_is_no_is = refl

pub end_is_no_sort_type : same_sign sign.End sign.SortType ≡ false
unfolding same_sign
end_is_no_sort_type = refl

pub end_is_no_boxes : same_sign sign.End sign.Boxes ≡ false
unfolding same_sign
end_is_no_boxes = refl

-- ---- the same, handed on

pub with_bound : {A B : Type 0} (P : Type 0) (o : Outcome A) (f : A → Parser B) (y : B × Input) → ((a : A) (r : Input) → o ≡ Some (a, r) → f a r ≡ Some y → P) → and_then o f ≡ Some y → P
with_bound P None f y k h = absurd cc
with_bound P (Some x) f y k h = k x.0 x.1 refl h

with_item : {B : Type 0} (P : Input → Type 0) (s : Sign) (i rest : Input) (f : Parser B) (y : B × Input) → Item s i rest → f rest ≡ Some y → ((v : Spelling) (r : Input) → f r ≡ Some y → P ((s, v) ∷ r)) → P i
with_item P s i rest f y item h k = subst P (sym item.is) (k item.spelling rest h)

-- what begins with an expected sign
pub with_expected : {B : Type 0} (P : Input → Type 0) (s : Sign) (i : Input) (f : Parser B) (y : B × Input) → same_sign sign.End s ≡ false → ((v : Spelling) (r : Input) → f r ≡ Some y → P ((s, v) ∷ r)) → and_then (expect s i) (λ u. f) ≡ Some y → P i
with_expected P s i f y other k h =
    let b = bound (expect s i) (λ u. f) y h in
    with_item P s i b.rest f y (expected s i b.value b.rest b.first other) b.then k
