use Rattle.std.proofs.Common.{◌≡◌, ◌++◌, map, length}
use Rattle.nxf_tree.specs.declared.tree.Override.{Override}
use Rattle.nxf_tree.specs.declared.tree.SpecEntry.{SpecEntry}
use Rattle.nxf_tree.specs.Specification.{overrides_of, key_text}
use Rattle.logic_spec.proofs.read.put_overrides.Given as goal

abbrev pub invariant-loop-items : goal.invariant-loop-items
invariant-loop-items l =
    let under : SpecEntry → Override = λ o. record { of = key_text l.of; key = o.key } in
    l.into ++ map under (overrides_of l.items) ≡ l.initial.into ++ map under (overrides_of l.initial.items)

abbrev pub decreases-loop-items : goal.decreases-loop-items
decreases-loop-items l = length l.items
