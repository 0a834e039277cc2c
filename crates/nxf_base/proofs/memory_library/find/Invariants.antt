use Rattle.std.proofs.Common.{◌≡◌}
use Rattle.std.specs.Ordering.{nat_cmp}
use Rattle.std.specs.Cmp.Lexicographic.{slice_cmp}
use Rattle.std.specs.FinMap as map
use Rattle.std.specs.VecDeque.Iter.{deque_iter_rest}
use Rattle.nxf_base.specs.Files.{file_of}
use Rattle.nxf_base.proofs.memory_library.find.Given as goal

abbrev pub invariant-loop-key : goal.invariant-loop-key
invariant-loop-key l =
    file_of l.name (map.from_entries l.stored.items) ≡ map.find (slice_cmp nat_cmp) l.name (deque_iter_rest l.key-iterator)
