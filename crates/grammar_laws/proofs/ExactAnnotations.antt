-- The descent and the grammar agree on annotations.
use Rattle.std.proofs.Common.{◌≡◌, ◌<◌, ◌≤◌, Bool, true, false, cond, [], ◌∷◌, length, Option, Some, None, refl, sym, ap, subst, ◌∙◌, arith}
use Rattle.nxf_terminals.specs.declared.sign.Sign.{Sign}
use Rattle.nxf_terminals.specs.declared.sign.Sign.TheVariants as sign
use Rattle.nxf_terminals.specs.Signs.{same_sign}
use Rattle.nxf_terminals.specs.Input.{Spelling, Input, Outcome, kind, sees}
use Rattle.nxf_terminals.proofs.CallerLemmas.{moved}
use Rattle.syntax_definitions.specs.Annotations.{Open, advance, Balances, balanced, token, IsAnnotation, is_last, continued, balance, annotation}

-- a bracket that closes the statement closes no other
not_last : (j : Sign) (o t : Open) → advance j o ≡ Some t → is_last j o ≡ false
not_last sign.Close [] t h = absurd cc
not_last sign.Close (c ∷ o) t h = refl
not_last _ o t h = refl

last_is : (j : Sign) (o : Open) → is_last j o ≡ true → (j ≡ sign.Close) × (o ≡ [])
last_is sign.Close [] h = (refl, refl)
last_is sign.Close (c ∷ o) h = absurd cc
last_is _ o h = absurd cc

shorter : {o : Open} {xs rest : Input} → Balances o xs rest → length rest ≤ length xs
shorter balanced = omega arith
shorter (token h d) = omega (arith, shorter d)

here : (xs : Input) → kind xs ≡ sign.Close → balance xs [] ≡ Some (tt, xs)
unfolding balance
here [] h = absurd cc
here (x ∷ xs) h = rw h refl

balance_found : {o : Open} {xs rest : Input} → Balances o xs rest → kind rest ≡ sign.Close → balance xs o ≡ Some (tt, rest)
unfolding balance
balance_found {rest = rest} balanced h = here rest h
balance_found (token {s = s} {t = t} {j = j} e d) h = rw (not_last j s t e, e) (balance_found d h)

other_than_close : (j : Sign) (t : Open) → advance j [] ≡ Some t → same_sign j sign.Close ≡ false
unfolding same_sign
other_than_close sign.Close t h = absurd cc
other_than_close _ t h = refl

begins : {o : Open} {xs rest : Input} → Balances o xs rest → o ≡ [] → length rest < length xs → sees sign.Close xs ≡ false
unfolding sees
begins balanced e h = absurd (omega arith)
begins (token {s = s} {t = t} {j = j} a d) e h = other_than_close j t (ap (advance j) (sym e) ∙ a)

pub annotation_found : {xs rest : Input} → IsAnnotation xs rest → kind rest ≡ sign.Close → annotation xs ≡ Some (tt, rest)
unfolding annotation
annotation_found d h = rw (begins d.balances refl d.some) (balance_found d.balances h)

-- ---- what is read, the grammar reads

record Balanced (o : Open) (xs rest : Input) : Type 0 where
  balances : Balances o xs rest
  last : kind rest ≡ sign.Close

moved_on : (x : Sign × Spelling) (xs : Input) (o : Open) (u : Unit {0}) (rest : Input) (m : Option Open) → advance x.0 o ≡ m → continued m (λ more. balance xs more) ≡ Some (u, rest) → ((t : Open) → balance xs t ≡ Some (u, rest) → Balanced t xs rest) → Balanced o (x ∷ xs) rest
moved_on x xs o u rest None e h again = absurd cc
moved_on x xs o u rest (Some t) e h again = let b = again t h in record { balances = token e b.balances; last = b.last }

ended_here : (x : Sign × Spelling) (xs : Input) (o : Open) → (x.0 ≡ sign.Close) × (o ≡ []) → Balanced o (x ∷ xs) (x ∷ xs)
ended_here x xs o h = record { balances = subst (λ (p : Open). Balances p (x ∷ xs) (x ∷ xs)) (sym h.1) balanced; last = h.0 }

balance_by : (x : Sign × Spelling) (xs : Input) (o : Open) (u : Unit {0}) (rest : Input) (b : Bool) → is_last x.0 o ≡ b → cond {A = Outcome (Unit {0})} b (Some (tt, x ∷ xs)) (continued (advance x.0 o) (λ more. balance xs more)) ≡ Some (u, rest) → ((t : Open) → balance xs t ≡ Some (u, rest) → Balanced t xs rest) → Balanced o (x ∷ xs) rest
balance_by x xs o u rest true e h again = moved (λ (v : Unit {0}) r. Balanced o (x ∷ xs) r) (tt, x ∷ xs) (u, rest) h (ended_here x xs o (last_is x.0 o e))
balance_by x xs o u rest false e h again = moved_on x xs o u rest (advance x.0 o) refl h again

balance_sound : (xs : Input) (o : Open) (u : Unit {0}) (rest : Input) → balance xs o ≡ Some (u, rest) → Balanced o xs rest
unfolding balance
balance_sound [] o u rest h = absurd cc
balance_sound (x ∷ xs) o u rest h = balance_by x xs o u rest (is_last x.0 o) refl h (λ t e. balance_sound xs t u rest e)

pub record Annotated (xs rest : Input) : Type 0 where
  pub is : IsAnnotation xs rest
  pub last : kind rest ≡ sign.Close

not_same : (xs rest : Input) → Balances [] xs rest → kind rest ≡ sign.Close → sees sign.Close xs ≡ false → length rest < length xs
unfolding sees same_sign
not_same xs rest balanced h e = let both : true ≡ false = sym (ap (λ (s : Sign). same_sign s sign.Close) h) ∙ e in absurd cc
not_same xs rest (token a d) h e = omega (arith, shorter d)

annotation_by : (xs : Input) (u : Unit {0}) (rest : Input) (b : Bool) → sees sign.Close xs ≡ b → cond {A = Outcome (Unit {0})} b None (balance xs []) ≡ Some (u, rest) → Annotated xs rest
annotation_by xs u rest true e h = absurd cc
annotation_by xs u rest false e h =
    let b = balance_sound xs [] u rest h in
    record { is = record { balances = b.balances; some = not_same xs rest b.balances b.last e }; last = b.last }

pub annotation_sound : (xs : Input) (u : Unit {0}) (rest : Input) → annotation xs ≡ Some (u, rest) → Annotated xs rest
unfolding annotation
annotation_sound xs u rest h = annotation_by xs u rest (sees sign.Close xs) refl h
