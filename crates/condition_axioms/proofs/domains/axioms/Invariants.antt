use Rattle.std.proofs.Common.{◌≡◌, take}
use Rattle.nxf_tree.specs.Axioms.{domain_axioms_of}
use Rattle.condition_axioms.proofs.domains.axioms.Given as goal

abbrev pub invariant-loop-sort : goal.invariant-loop-sort
invariant-loop-sort l = l.made ≡ domain_axioms_of l.signature (take l.sort-index l.sort-items)
