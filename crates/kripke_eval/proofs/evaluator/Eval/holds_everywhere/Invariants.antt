use Rattle.std.proofs.Common.{◌≡◌, true, []}
use Rattle.nxf_tree.specs.Counting.{all_below}
use Rattle.formula_cells.specs.Stored.{node_at}
use Rattle.kripke_evaluation_definitions.specs.NumberedMeaning.{node_sat}
use Rattle.kripke_eval.proofs.evaluator.Eval.holds_everywhere.Given as goal

-- it holds at the worlds so far
abbrev pub invariant-loop-world : goal.invariant-loop-world
invariant-loop-world g l = record {
  kept : l.self ≡ l.fn.self;
  so_far : all_below l.world (λ w. node_sat l.view w [] (node_at l.checked.stored l.root)) ≡ true;
}
