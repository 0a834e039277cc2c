use Rattle.std.proofs.Common.{◌≡◌, take}
use Rattle.nxf_signatures.proofs.signature.copy_schemes.Given as goal

abbrev pub invariant-loop-scheme : goal.invariant-loop-scheme
invariant-loop-scheme l = l.copies ≡ take l.scheme-index l.schemes
