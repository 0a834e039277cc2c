-- The statements of some tokens make them up, one after the other.
use Rattle.std.proofs.Common.{◌≡◌, Bool, true, false, cond, List, [], ◌∷◌, refl, ap, ◌∙◌}
use Rattle.plain_tokens.specs.PlainTokens.{Plain}
use Rattle.kripke_text_definitions.specs.TokenStatements.{is_stop, in_first, statements}
use Rattle.kripke_text_laws.proofs.Splits.{joined}

joined_first : (p : Plain) (ss : List (List Plain)) → joined (in_first p ss) ≡ p ∷ joined ss
joined_first p [] = refl
joined_first p (s ∷ ss) = refl

joined_by : (p : Plain) (ss : List (List Plain)) (b : Bool) → joined (cond b ((p ∷ []) ∷ ss) (in_first p ss)) ≡ p ∷ joined ss
joined_by p ss true = refl
joined_by p ss false = joined_first p ss

pub joined_back : (ps : List Plain) → joined (statements ps) ≡ ps
joined_back [] = refl
joined_back (p ∷ ps) = joined_by p (statements ps) (is_stop p) ∙ ap (λ (rest : List Plain). p ∷ rest) (joined_back ps)
