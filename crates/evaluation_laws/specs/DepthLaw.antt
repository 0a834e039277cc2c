-- A numbered formula is as deep as what it stands for.
use Rattle.std.specs.Prelude.{◌≡◌, ℕ, List, Some}
use Rattle.nxf_tree.specs.declared.tree.Signature.{Signature}
use Rattle.nxf_tree.specs.declared.tree.Formula.{Formula}
use Rattle.nxf_tree.specs.Depth.{formula_depth}
use Rattle.numbered_definitions.specs.declared.node.Node.{Node}
use Rattle.numbered_definitions.specs.NamedForm.{named_form}
use Rattle.kripke_evaluation_definitions.specs.NumberedDepth.{node_depth}

abbrev pub DepthLaw : Type 0
DepthLaw = (sig : Signature) (n : Node) (xs : List (List ℕ)) (f : Formula) → named_form sig xs n ≡ Some f → node_depth n ≡ formula_depth f
