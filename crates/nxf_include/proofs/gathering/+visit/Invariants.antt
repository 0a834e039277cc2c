use Rattle.std.proofs.Common.{◌+◌, ◌-◌, ◌≤◌, map}
use Rattle.std.specs.Vec.Iter.{into_iter_items}
use Rattle.nxf_tree.specs.Weight.{statement_list_weight}
use Rattle.syntax_definitions.specs.Gathered.{Visits}
use Rattle.syntax_definitions.specs.Promises.{AreReadStatements, AreFine}
use Rattle.nxf_include.specs.Roots.{files_of, KeepEach}
use Rattle.nxf_include.proofs.Bringing.{Underway}
use Rattle.nxf_include.proofs.gathering.+visit.Given as goal

abbrev pub decreases-visit : goal.decreases-visit
decreases-visit g l = l.levels

abbrev pub invariant-loop-statement : goal.invariant-loop-statement
invariant-loop-statement g l =
    (goal.iterator-loop-statement g).can_next l.statement-iterator
    × (goal.iterator-loop-statement g).is_finite l.statement-iterator
    × Underway (files_of (map g.L.Library.shelf l.fn.libraries)) (λ files. Visits files l.fn.levels l.fn.sum l.fn.name) (l.fn.levels - 1) l.statements l.sum (into_iter_items l.statement-iterator)
    × KeepEach (map g.L.Library.shelf l.fn.libraries) (map g.L.Library.shelf l.libraries)
    × AreFine l.statements
    × AreReadStatements (into_iter_items l.statement-iterator)
    × (l.fn.sum + statement_list_weight l.statements + statement_list_weight (into_iter_items l.statement-iterator) ≤ l.sum)
    × (l.sum ≤ 67108864)
