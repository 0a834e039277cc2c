-- The formulas of a classical file, one by one and together.
use Rattle.std.proofs.Common.{◌≡◌, ℕ, zero, suc, Bool, true, false, List, [], ◌∷◌, Option, None, Some, refl, sym, ap, ◌∙◌}
use Rattle.std.specs.Prelude.{◌&&◌, ◌↔◌, not, if◌then◌else◌, slice_get, codes}
use Rattle.std.specs.Option.{option_map}
use Rattle.std.specs.List.{list_all}
use Rattle.nxf_tree.specs.declared.tree.Body.TheVariants.{Formula as IsFormula, Typing as IsTyping, Logic as IsLogic}
use Rattle.nxf_tree.specs.declared.tree.Statement.{Statement}
use Rattle.nxf_tree.specs.declared.tree.Statement.TheVariants.{Annotated, Include}
use Rattle.nxf_tree.specs.Names.{same_text}
use Rattle.nxf_tree.specs.Classical.{ClassicalModel}
use Rattle.nxf_tree.specs.Countermodels.{meets_classical_statement, IsClassicalCountermodel}
use Rattle.name_laws.proofs.Spelling.{true-false}
use Rattle.name_laws.proofs.Types.{split}
use Rattle.fin_struct.specs.StructureTables.{classical_structure}
use Rattle.fin_struct.proofs.CallerLemmas.{structure-law}
use Rattle.classical_evaluation_definitions.specs.ClassicalFaults.{model_of, role_formulas, meets_role, IsFirstPlace}
use Rattle.classical_evaluation_laws.specs.ClassicalFaultLaws.{ClassicalCountermodelLaw, RolesLaw}
use Rattle.classical_evaluation_laws.proofs.Evaluation.{evaluates}

statements-all : (S : ClassicalModel) (ss : List Statement) → list_all (meets_role S) (role_formulas ss) ≡ list_all (meets_classical_statement S) ss
statements-all S [] = refl
statements-all S (Annotated name role (IsFormula f) ∷ ss) = ap (λ b. meets_classical_statement S (Annotated name role (IsFormula f)) && b) (statements-all S ss)
statements-all S (Annotated name role (IsTyping t) ∷ ss) = statements-all S ss
statements-all S (Annotated name role (IsLogic l) ∷ ss) = statements-all S ss
statements-all S (Include file names ∷ ss) = statements-all S ss

-- one that fails is among all
fails-at : {X : Type 0} (holds : X → Bool) (xs : List X) (k : ℕ) → option_map holds (slice_get xs k) ≡ Some false → list_all holds xs ≡ true → ⊥
fails-at holds [] k fails all = absurd cc
fails-at holds (x ∷ xs) zero fails all =
    let is : holds x ≡ false = cc in
    true-false (sym (split (holds x) _ all).0 ∙ is)
fails-at holds (x ∷ xs) (suc k) fails all = fails-at holds xs k fails (split (holds x) _ all).1

none-exactly : {X : Type 0} (holds : X → Bool) (xs : List X) (found : Option ℕ) → IsFirstPlace holds xs found → (found ≡ None) ↔ (list_all holds xs ≡ true)
none-exactly holds xs None h = (λ e. h, λ e. refl)
none-exactly holds xs (Some k) h = (λ e. absurd (some_none k e), λ all. absurd (fails-at holds xs k h.fails all))
  where
    some_none : (m : ℕ) → Some m ≡ None → ⊥
    some_none m e = cc

pub countermodel-law : ClassicalCountermodelLaw
countermodel-law csig file view found is over first =
    let exactly = none-exactly (meets_role (model_of csig view)) (role_formulas file.statements) found first in
    let all = statements-all (model_of csig view) file.statements in (
      λ none. record { over = structure-law csig view is over; statements = sym all ∙ exactly.0 none },
      λ (c : IsClassicalCountermodel csig file (classical_structure view)). exactly.1 (all ∙ c.statements),
    )

pub roles-law : RolesLaw
roles-law csig view wf is over n entry named sorted =
    ap (λ b. if same_text (codes "axiom") entry.word then b else (if same_text (codes "conjecture") entry.word then not b else true)) (evaluates csig view wf is over n entry.formula named sorted).same
