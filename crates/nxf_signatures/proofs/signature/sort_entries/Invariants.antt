use Rattle.std.proofs.Common.{◌≡◌, take}
use Rattle.std.specs.Prelude.{map}
use Rattle.logic_spec.specs.Asked.{asked_by}
use Rattle.nxf_signatures.specs.Places.{sort_list}
use Rattle.nxf_signatures.proofs.signature.sort_entries.Given as goal

abbrev pub invariant-loop-name : goal.invariant-loop-name
invariant-loop-name l = l.entries ≡ map (λ s. record { name = s; regime = (asked_by l.spec).regime s }) (sort_list l.individual (take l.name-index l.name-items))
