use Rattle.std.proofs.Common.{◌≡◌, length}
use Rattle.nxf_terminals.specs.Signs.{number}
use Rattle.nxf_terminals.proofs.sign.number.Given as goal

abbrev pub invariant-loop-spelling : goal.invariant-loop-spelling
invariant-loop-spelling l = number l.spelling ≡ number l.initial.spelling

abbrev pub decreases-loop-spelling : goal.decreases-loop-spelling
decreases-loop-spelling l = length l.spelling
