-- First faults: things in a row are judged from left to right, and the first that is refused decides.
use Rattle.std.specs.Prelude.{ℕ, suc, List, [], ◌∷◌, ◌++◌, Option, None, Some, Result, Ok, Err}
use Rattle.std.specs.Option.{option_or, option_map}

-- the first fault among the things from number k on, with its number, where `judge` judges a thing after those before it
abbrev pub first_fault : {A F : Type 0} → (List A → A → Option F) → ℕ → List A → List A → Option (ℕ × F)
first_fault judge k before [] = None
first_fault judge k before (x ∷ xs) = option_or (option_map (λ fault. (k, fault)) (judge before x)) (first_fault judge (suc k) (before ++ x ∷ []) xs)

-- the fault where there is one, else the answer
abbrev pub unless : {A F : Type 0} → Option F → A → Result A F
unless None answer = Ok answer
unless (Some fault) answer = Err fault
