use Rattle.std.proofs.Common.{◌≡◌, [], ◌∷◌, ◌++◌, ap₂, ◌∙◌}
use Rattle.nxf_tree.specs.declared.tree.Term.{App}
use Rattle.nxf_tree.specs.declared.tree.Formula.{Atom}
use Rattle.nxf_tree.specs.Names.{actual_name}
use Rattle.nxf_tree.specs.Sorting.{classical_language}
use Rattle.classical_evaluation_definitions.specs.ClassicalSorting.{is_classical}
use Rattle.evaluation_tests.specs.Flat.{flat}
use Rattle.evaluation_tests.proofs.FlatLemmas.{atom_flat}
use Rattle.evaluation_tests.proofs.formulas.atom.Goals as goal

pub returns : goal.returns
returns c b =
    let args : c.push.new.self ≡ App actual_name [] ∷ [] = c.in_ok-push.ensures.pushed ∙ (λ i. c.new-args.ensures i ++ App (c.in_ok-actual_name.ensures i) (c.new.ensures i) ∷ []) in
    ap₂ (λ n ts. is_classical (classical_language flat) b (Atom n ts)) c.in_ok-name.ensures args ∙ atom_flat b
