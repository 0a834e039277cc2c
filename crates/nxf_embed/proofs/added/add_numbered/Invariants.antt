use Rattle.std.proofs.Common.{◌≡◌, ◌+◌, ◌++◌, length}
use Rattle.std.specs.Vec.Iter.{into_iter_items}
use Rattle.nxf_tree.specs.Problem.{axiom_statements}
use Rattle.nxf_embed.proofs.added.add_numbered.Given as goal

abbrev pub invariant-loop-formula : goal.invariant-loop-formula
invariant-loop-formula l = record {
  added : l.statements ++ axiom_statements l.number (into_iter_items l.formula-iterator) ≡ l.fn.statements ++ axiom_statements l.fn.first l.fn.axioms;
  counted : l.number + length (into_iter_items l.formula-iterator) ≡ l.fn.first + length l.fn.axioms;
}
