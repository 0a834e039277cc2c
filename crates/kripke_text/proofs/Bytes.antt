-- Texts that begin with others.
use Rattle.std.proofs.Common.{◌≡◌, ℕ, ◌<◌, ◌-◌, Bool, true, false, cond, Option, Some, None, List, [], ◌∷◌, ◌++◌, take, drop, get_or, length, refl, sym, ap, ◌∙◌, length-append, arith}
use Rattle.std.specs.Prelude.{◌==◌}
use Rattle.std.proofs.lemmas.Bool.Decides.{nat_tests}
use Rattle.std.proofs.lemmas.List.{length-take, take_all, append_cancel_left}
use Rattle.tptp_lex.specs.declared.token.Token.{Token}
use Rattle.plain_tokens.specs.PlainTokens.{Plain, plain_of, plains_of}
use Rattle.plain_tokens.specs.Marks.{Mark, mark_plains}
use Rattle.kripke_text.specs.steps.Comparing.{strip}
use Rattle.kripke_text.specs.steps.Comparing.{BeginsWith, matched}
use Rattle.kripke_text.proofs.Strips.{strip-none, strip-append}

first_same : (p q : Plain) (ps qs : List Plain) → p ∷ ps ≡ q ∷ qs → p ≡ q
first_same p q ps qs e = cc

none_first : (qs : List Plain) (q : Plain) → [] ≡ q ∷ qs → ⊥
none_first qs q e = cc

pub too_short : (text expected rest left : List ℕ) (i : ℕ) → i < length expected → text ≡ take i expected ++ left → left ≡ [] → text ≡ expected ++ rest → ⊥
too_short text expected rest left i h e none f =
    let a = ap length (sym e ∙ f) in
    let b = ap length none in
    omega (arith, a, b, h, length-append (take i expected) left, length-append expected rest, length-take i expected)

-- what follows a front
pub behind_front : (whole front now tail : List ℕ) → whole ≡ front ++ now → (now ≡ tail → whole ≡ front ++ tail) × (whole ≡ front ++ tail → now ≡ tail)
behind_front whole front now tail e = ((λ h. e ∙ ap (λ (r : List ℕ). front ++ r) h), (λ h. append_cancel_left front now tail (sym e ∙ h)))

-- a list that begins with a token
pub first_token : (p : Plain) (bytes : List ℕ) (tokens : List Token) (d : Token) → 0 < length tokens → (plain_of bytes (get_or tokens 0 d) ≡ p → BeginsWith p (plains_of bytes tokens)) × (BeginsWith p (plains_of bytes tokens) → plain_of bytes (get_or tokens 0 d) ≡ p)
first_token p bytes [] d h = absurd (omega arith)
first_token p bytes (u ∷ tokens) d h = ((λ k. (plains_of bytes tokens, (λ i. k i ∷ plains_of bytes tokens))), (λ k. first_same (plain_of bytes u) p (plains_of bytes tokens) k.0 k.1))

rest_same : (p q : Plain) (ps qs : List Plain) → p ∷ ps ≡ q ∷ qs → ps ≡ qs
rest_same p q ps qs e = cc

-- one more token is taken, or another stands there
pub took : (bytes : List ℕ) (tokens rest : List Token) (now : Option (List Plain)) (agrees : Bool) (p : Plain) (m : Mark) → cond agrees (Some (plains_of bytes tokens)) None ≡ now → agrees ≡ true → BeginsWith p (plains_of bytes tokens) → rest ≡ drop 1 tokens → mark_plains m ≡ p ∷ [] → cond agrees (Some (plains_of bytes rest)) None ≡ matched now m
took bytes [] rest now agrees p m is alive begins e one = absurd (none_first begins.0 p begins.1)
took bytes (t ∷ tokens) rest now agrees p m is alive begins e one =
    let ts = plains_of bytes (t ∷ tokens) in
    let now_is : Some ts ≡ now = ap (λ (a : Bool). cond a (Some ts) None) (sym alive) ∙ is in
    ap (λ (a : Bool). cond a (Some (plains_of bytes rest)) None) alive
    ∙ ap (λ (r : List Token). Some (plains_of bytes r)) e
    ∙ ap Some (rest_same (plain_of bytes t) p (plains_of bytes tokens) begins.0 begins.1)
    ∙ sym (strip-append (p ∷ []) begins.0)
    ∙ ap (strip (p ∷ [])) (sym begins.1)
    ∙ ap (λ (ps : List Plain). strip ps ts) (sym one)
    ∙ ap (λ (o : Option (List Plain)). matched o m) now_is

pub missed_one : (bytes : List ℕ) (tokens : List Token) (now : Option (List Plain)) (agrees : Bool) (p : Plain) (m : Mark) → cond agrees (Some (plains_of bytes tokens)) None ≡ now → agrees ≡ true → (BeginsWith p (plains_of bytes tokens) → ⊥) → mark_plains m ≡ p ∷ [] → None ≡ matched now m
missed_one bytes tokens now agrees p m is alive never one =
    let ts = plains_of bytes tokens in
    let now_is : Some ts ≡ now = ap (λ (a : Bool). cond a (Some ts) None) (sym alive) ∙ is in
    sym (strip-none (p ∷ []) ts (λ rest e. never (rest, e)))
    ∙ ap (λ (ps : List Plain). strip ps ts) (sym one)
    ∙ ap (λ (o : Option (List Plain)). matched o m) now_is

pub some_tokens : (n : ℕ) → false ≡ (n == 0) → 0 < n
some_tokens n e = grind (arith, nat_tests)

pub behind_first : (tokens : List Token) → take (length tokens - 1) (drop 1 tokens) ≡ drop 1 tokens
behind_first [] = refl
behind_first (t ∷ tokens) = take_all (length (t ∷ tokens) - 1) tokens (omega arith)
