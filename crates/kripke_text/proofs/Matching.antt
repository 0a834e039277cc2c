-- Tokens that are compared with marks one by one.
use Rattle.std.proofs.Common.{◌≡◌, ℕ, List, [], ◌∷◌, ◌++◌, Option, None, Some, refl, sym, ap, ◌∙◌, append-nil}
use Rattle.std.specs.Prelude.{IsSome}
use Rattle.std.specs.List.{fold}
use Rattle.plain_tokens.specs.PlainTokens.{Plain}
use Rattle.plain_tokens.specs.Marks.{Mark, plains, mark_plains}
use Rattle.kripke_text.specs.steps.Comparing.{strip, matched}
use Rattle.kripke_text.proofs.Strips.{strip-append, strip-some, strip_then}

fold_none : (ms : List Mark) → fold matched None ms ≡ None
fold_none [] = refl
fold_none (m ∷ ms) = fold_none ms

fold_by : (m : Mark) (ms : List Mark) (o : Option (List Plain)) → ((ts : List Plain) → fold matched (Some ts) ms ≡ strip (plains ms) ts) → fold matched o ms ≡ elim o as (λ x. Option (List Plain)) [ None ↦ None | Some r ↦ strip (plains ms) r ]
fold_by m ms None ih = fold_none ms
fold_by m ms (Some ts) ih = ih ts

-- marks that are put one by one agree with the tokens where these begin with theirs
pub fold_matched : (ms : List Mark) (ts : List Plain) → fold matched (Some ts) ms ≡ strip (plains ms) ts
fold_matched [] ts = refl
fold_matched (m ∷ ms) ts = fold_by m ms (strip (mark_plains m) ts) (fold_matched ms) ∙ sym (strip_then (mark_plains m) (plains ms) ts)

pub same_some : {A : Type 0} → (x y : A) → Some x ≡ Some y → x ≡ y
same_some x y e = cc

pub some_of : (o : Option (List Plain)) → IsSome o → (ts : List Plain) × (o ≡ Some ts)
some_of None h = absurd cc
some_of (Some ts) h = (ts, refl)

-- the marks come next, and this is left
pub fold_taken : (ms : List Mark) (old now : Option (List Plain)) (rest : List Plain) → now ≡ fold matched old ms → now ≡ Some rest → old ≡ Some (plains ms ++ rest)
fold_taken ms None now rest e h = let no : None ≡ Some rest = sym (fold_none ms) ∙ sym e ∙ h in absurd cc
fold_taken ms (Some ts) now rest e h = ap Some (strip-some (plains ms) ts rest (sym (fold_matched ms ts) ∙ sym e ∙ h))

pub fold_comes : (ms : List Mark) (old now : Option (List Plain)) (rest : List Plain) → now ≡ fold matched old ms → old ≡ Some (plains ms ++ rest) → now ≡ Some rest
fold_comes ms old now rest e h = e ∙ ap (λ (o : Option (List Plain)). fold matched o ms) h ∙ fold_matched ms (plains ms ++ rest) ∙ strip-append (plains ms) rest

-- the marks are all that is left
pub done_is : (ms : List Mark) (old now : Option (List Plain)) → now ≡ fold matched old ms → (now ≡ Some [] → old ≡ Some (plains ms)) × (old ≡ Some (plains ms) → now ≡ Some [])
done_is ms old now e =
    ((λ h. fold_taken ms old now [] e h ∙ ap Some (append-nil (plains ms))), (λ h. fold_comes ms old now [] e (h ∙ ap Some (sym (append-nil (plains ms))))))

pub none_some : (n : ℕ) → None ≡ Some n → ⊥
none_some n e = cc
