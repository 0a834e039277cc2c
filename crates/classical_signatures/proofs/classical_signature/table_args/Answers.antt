use Rattle.std.proofs.Common.{◌≡◌, true, get_or, arith}
use Rattle.std.specs.List.{list_all}
use Rattle.nxf_tree.specs.Sorting.{in_range}
use Rattle.classical_syntax.proofs.CallerLemmas.{in_range-below}
use Rattle.classical_signatures.proofs.TableSteps.{member}
use Rattle.classical_signatures.proofs.classical_signature.table_args.Goals as goal

pub overflow_add-number : goal.overflow_add-number
overflow_add-number c =
    let sorts = c.args.signature.now.sorts in
    let numbers = c.as_slice-number-items.result.now in
    let all : list_all (in_range sorts) numbers ≡ true = rw c.as_slice-number-items.ensures c.requires.in_range in
    omega (arith, in_range-below sorts (get_or numbers c.loop-number.number-index 0) (member (in_range sorts) numbers c.loop-number.number-index 0 c.loop-number-test.true all), c.requires.well_formed.size)
