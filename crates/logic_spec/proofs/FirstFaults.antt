-- The first fault of things in a row, without its number.
use Rattle.std.proofs.Common.{◌≡◌, ℕ, suc, List, [], ◌∷◌, ◌++◌, Option, None, Some, refl, ap, ◌∙◌}
use Rattle.std.specs.Option.{option_or, option_map}
use Rattle.nxf_tree.specs.Faults.{first_fault}

abbrev pub walked : {A F : Type 0} → (List A → A → Option F) → List A → List A → Option F
walked judge before [] = None
walked judge before (x ∷ xs) = option_or (judge before x) (walked judge (before ++ x ∷ []) xs)

step : {F : Type 0} (k : ℕ) (fault : Option F) (rest : Option (ℕ × F)) → option_map (λ (f : ℕ × F). f.1) (option_or (option_map (λ (f : F). (k, f)) fault) rest) ≡ option_or fault (option_map (λ (f : ℕ × F). f.1) rest)
step k None rest = refl
step k (Some fault) rest = refl

pub walked_is : {A F : Type 0} (judge : List A → A → Option F) (k : ℕ) (before xs : List A) → option_map (λ (f : ℕ × F). f.1) (first_fault judge k before xs) ≡ walked judge before xs
walked_is judge k before [] = refl
walked_is judge k before (x ∷ xs) = step k (judge before x) (first_fault judge (suc k) (before ++ x ∷ []) xs) ∙ ap (λ rest. option_or (judge before x) rest) (walked_is judge (suc k) (before ++ x ∷ []) xs)
