use Rattle.std.proofs.Common.{◌≡◌, take}
use Rattle.std.specs.Prelude.{map}
use Rattle.logic_spec.specs.Asked.{asked_by}
use Rattle.nxf_signatures.specs.Places.{index_list}
use Rattle.nxf_signatures.proofs.signature.index_entries.Given as goal

abbrev pub invariant-loop-name : goal.invariant-loop-name
invariant-loop-name l = l.entries ≡ map (λ i. record { name = i; schemes = (asked_by l.spec).schemes i }) (index_list l.plain (take l.name-index l.name-items))
