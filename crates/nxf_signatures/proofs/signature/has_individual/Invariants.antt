use Rattle.std.proofs.Common.{◌≡◌, drop}
use Rattle.nxf_tree.specs.declared.tree.SortName.TheVariants.{Individual}
use Rattle.nxf_tree.specs.Counting.{has}
use Rattle.nxf_tree.specs.Signature.{same_sort}
use Rattle.nxf_signatures.proofs.signature.has_individual.Given as goal

abbrev pub invariant-loop-sort : goal.invariant-loop-sort
invariant-loop-sort l = has same_sort Individual l.sorts ≡ has same_sort Individual (drop l.sort-index l.sorts)
