-- When words are a choice.
use Rattle.std.proofs.Common.{◌≡◌, ℕ, Bool, true, false, List, [], ◌∷◌, ◌++◌, refl, ap, ◌∙◌}
use Rattle.std.specs.Prelude.{◌&&◌, ◌||◌, not}
use Rattle.std.specs.List.{list_all}
use Rattle.std.proofs.lemmas.List.Folds.{list_all-append}
use Rattle.nxf_tree.specs.declared.tree.Setting.{Setting}
use Rattle.nxf_tree.specs.Specification.{is_empty}
use Rattle.nxf_tree.specs.SpecificationWords.{stands_alone, joins, one_alone, is_choice}

pub and_true : (b : Bool) → (b && true) ≡ b
and_true true = refl
and_true false = refl

pub choice_alone : (setting : Setting) (word : List ℕ) → is_choice setting (word ∷ []) ≡ (stands_alone setting word || joins setting word)
choice_alone setting word = ap (λ b. stands_alone setting word || b) (and_true (joins setting word))

pub choice_with : (setting : Setting) (words : List (List ℕ)) (word : List ℕ) → is_choice setting (words ++ word ∷ []) ≡ ((is_empty words && stands_alone setting word) || (list_all (joins setting) words && joins setting word))
choice_with setting [] word = choice_alone setting word
choice_with setting (first ∷ []) word = list_all-append (joins setting) (first ∷ []) (word ∷ []) ∙ ap (λ b. list_all (joins setting) (first ∷ []) && b) (and_true (joins setting word))
choice_with setting (first ∷ second ∷ words) word = list_all-append (joins setting) (first ∷ second ∷ words) (word ∷ []) ∙ ap (λ b. list_all (joins setting) (first ∷ second ∷ words) && b) (and_true (joins setting word))

pub choice_is : (setting : Setting) (words : List (List ℕ)) → is_choice setting words ≡ (one_alone setting words || (not (is_empty words) && list_all (joins setting) words))
choice_is setting [] = refl
choice_is setting (word ∷ words) = refl
