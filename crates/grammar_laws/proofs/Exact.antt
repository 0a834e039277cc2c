-- The descent and the grammar agree on whole inputs.
use Rattle.std.proofs.Common.{◌≡◌, ℕ, [], Some, sym, refl, ap, ◌∙◌}
use Rattle.nxf_tree.specs.declared.tree.Formula.{Formula}
use Rattle.nxf_terminals.specs.Input.{Input, Outcome}
use Rattle.syntax_definitions.specs.Formulas.{IsFormula}
use Rattle.grammar_laws.proofs.Complete.{formula_found}

same_found : (f g : Formula) (i j : Input) → ◌≡◌ {A = Outcome Formula} (Some (f, i)) (Some (g, j)) → (f ≡ g) × (i ≡ j)
same_found f g i j h = let same : ◌≡◌ {A = Formula × Input} (f, i) (g, j) = cc in (ap (λ (x : Formula × Input). x.0) same, ap (λ (x : Formula × Input). x.1) same)

pub one : (most n : ℕ) (xs : Input) (f g : Formula) → IsFormula most n xs f [] → IsFormula most n xs g [] → f ≡ g
one most n xs f g d e = (same_found f g [] [] (sym (formula_found d refl) ∙ formula_found e refl)).0
