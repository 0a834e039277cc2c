use Rattle.std.proofs.Common.{arith}
use Rattle.std.specs.Prelude.{IsTrue}
use Rattle.nxf_tree.specs.Sorting.{in_range}
use Rattle.classical_syntax.proofs.CallerLemmas.{in_range-below}
use Rattle.classical_signatures.proofs.classical_signature.next_result.Goals as goal

pub overflow_add-result : goal.overflow_add-result
overflow_add-result c =
    let h : IsTrue (in_range c.args.signature.now.sorts c.in-Some.number) = rw c.in-Some.is at c.requires.in_range in
    omega (arith, in_range-below c.args.signature.now.sorts c.in-Some.number h, c.requires.well_formed.size)
