-- What was appended piece by piece was appended as a whole.
use Rattle.std.proofs.Common.{◌≡◌, ℕ, List, ◌++◌, ap, sym, ◌∙◌, append_assoc}

-- the last piece is still to be appended
pub after_one : (old a b mid : List ℕ) → mid ≡ old ++ a → old ++ (a ++ b) ≡ mid ++ b
after_one old a b mid e = sym (append_assoc old a b) ∙ ap (λ text. text ++ b) (sym e)

pub after_two : (old a b c mid next : List ℕ) → mid ≡ old ++ a → next ≡ mid ++ b → old ++ (a ++ b ++ c) ≡ next ++ c
after_two old a b c mid next e f = after_one old (a ++ b) c next (f ∙ sym (after_one old a b mid e))
