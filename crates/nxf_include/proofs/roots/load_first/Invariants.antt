use Rattle.std.proofs.Common.{◌≡◌}
use Rattle.nxf_include.proofs.Asked.{Asked}
use Rattle.nxf_include.proofs.roots.load_first.Given as goal

abbrev pub invariant-loop-at : goal.invariant-loop-at
invariant-loop-at g l = Asked g.L.Library.shelf l.name l.at l.fn.libraries l.libraries × (l.into.items ≡ l.fn.into.items)
