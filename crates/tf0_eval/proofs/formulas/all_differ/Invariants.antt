use Rattle.std.proofs.Common.{◌≡◌, ℕ, drop, map}
use Rattle.std.specs.Prelude.{nat_eq}
use Rattle.nxf_tree.specs.Counting.{all_different}
use Rattle.formula_cells.specs.Stored.{term_at}
use Rattle.classical_evaluation_definitions.specs.ClassicalMeaning.{node_value}
use Rattle.tf0_eval.proofs.formulas.all_differ.Given as goal

-- all differ exactly where those left do
abbrev pub invariant-loop-i : goal.invariant-loop-i
invariant-loop-i g l =
    let value = λ (n : ℕ). node_value l.here.view.now l.stack (term_at l.here.prepared.now.stored n) in
    all_different nat_eq (map value l.terms) ≡ all_different nat_eq (map value (drop l.i l.terms))
