-- The formulas of a file with their roles, one statement after the other.
use Rattle.std.proofs.Common.{◌≡◌, ℕ, true, List, [], ◌∷◌, ◌++◌, Some, refl, sym, ap, ◌∙◌, subst, arith, append-nil}
use Rattle.std.specs.Prelude.{max, map}
use Rattle.std.specs.List.{All}
use Rattle.std.proofs.lemmas.List.{map_push}
use Rattle.std.proofs.lemmas.List.Elements.{All-push}
use Rattle.nxf_tree.specs.declared.tree.ClassicalSignature.{ClassicalSignature}
use Rattle.nxf_tree.specs.declared.tree.Formula.{Formula}
use Rattle.nxf_tree.specs.declared.tree.Body.TheVariants.{Formula as IsFormula, Typing as IsTyping, Logic as IsLogic}
use Rattle.nxf_tree.specs.declared.tree.Statement.{Statement}
use Rattle.nxf_tree.specs.declared.tree.Statement.TheVariants.{Annotated, Include}
use Rattle.nxf_tree.specs.Sorting.{classical_language}
use Rattle.numbered_definitions.specs.declared.node.Node.{Node}
use Rattle.numbered_definitions.specs.declared.node.Numbered.{Numbered}
use Rattle.formula_cells.specs.Stored.{Stored, formulas_in}
use Rattle.classical_evaluation_definitions.specs.ClassicalFaults.{RoleFormula, role_formulas}
use Rattle.classical_evaluation_definitions.specs.ClassicalForm.{named_form}
use Rattle.classical_evaluation_definitions.specs.ClassicalSorting.{is_classical}
use Rattle.classical_numbering.specs.Prepared.{meant_by, or_true, role_formula, deepest}
use Rattle.classical_numbering.specs.steps.Numbering.{Stands, AddsFormulas}

pub deepest-append : (fs gs : List RoleFormula) → deepest (fs ++ gs) ≡ max (deepest fs) (deepest gs)
deepest-append [] gs = omega arith
deepest-append (f ∷ fs) gs = omega (arith, deepest-append fs gs)

pub role_formulas-push : (ss : List Statement) (s : Statement) → role_formulas (ss ++ s ∷ []) ≡ role_formulas ss ++ role_formulas (s ∷ [])
role_formulas-push [] s = refl
role_formulas-push (Annotated name role (IsFormula f) ∷ ss) s = ap (λ fs. record { word = role.word; formula = f } ∷ fs) (role_formulas-push ss s)
role_formulas-push (Annotated name role (IsTyping t) ∷ ss) s = role_formulas-push ss s
role_formulas-push (Annotated name role (IsLogic l) ∷ ss) s = role_formulas-push ss s
role_formulas-push (Include file names ∷ ss) s = role_formulas-push ss s

-- one formula comes behind the others
pub one_added : (csig : ClassicalSignature) (old new : Stored) (place : ℕ) (word : List ℕ) (f : Formula) (n : Node)
    → formulas_in new ≡ formulas_in old ++ record { place = place; name = word; node = n } ∷ []
    → named_form csig [] n ≡ Some f → is_classical (classical_language csig) [] f ≡ true
    → AddsFormulas csig (record { word = word; formula = f } ∷ []) old new
one_added csig old new place word f n is named sorted =
    let made : Numbered = record { place = place; name = word; node = n } in
    let meant : meant_by csig n ≡ f = ap or_true named in
    record {
      formulas =
          ap (map (role_formula csig)) is ∙ map_push (role_formula csig) (formulas_in old) made
          ∙ ap (λ (g : Formula). map (role_formula csig) (formulas_in old) ++ record { word = word; formula = g } ∷ []) meant;
      stand = λ all. subst (All (Stands csig)) (sym is)
          (All-push (Stands csig) (formulas_in old) made all (record { named = named ∙ ap Some (sym meant); sorted = ap (is_classical (classical_language csig) []) meant ∙ sorted }));
    }

-- none comes
pub none_added : (csig : ClassicalSignature) (s : Stored) → AddsFormulas csig [] s s
none_added csig s = record { formulas = sym (append-nil _); stand = λ all. all }
