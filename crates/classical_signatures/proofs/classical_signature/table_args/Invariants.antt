use Rattle.std.proofs.Common.{◌≡◌, suc, ◌∷◌, take}
use Rattle.std.specs.Prelude.{map, if◌then◌else◌}
use Rattle.classical_signatures.proofs.classical_signature.table_args.Given as goal

abbrev pub invariant-loop-number : goal.invariant-loop-number
invariant-loop-number l = l.args ≡ (if l.with_world then 0 ∷ map suc (take l.number-index l.number-items) else map suc (take l.number-index l.number-items))
