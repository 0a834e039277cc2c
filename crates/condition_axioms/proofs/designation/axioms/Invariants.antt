use Rattle.std.proofs.Common.{◌≡◌, take}
use Rattle.nxf_tree.specs.Axioms.{term_axioms_of}
use Rattle.condition_axioms.proofs.designation.axioms.Given as goal

abbrev pub invariant-loop-symbol : goal.invariant-loop-symbol
invariant-loop-symbol l = l.made ≡ term_axioms_of l.signature (take l.symbol-index l.symbol-items)
