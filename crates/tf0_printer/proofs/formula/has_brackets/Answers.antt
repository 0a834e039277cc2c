use Rattle.std.proofs.Common.{ap, ◌∙◌, sym}
use Rattle.nxf_tree.specs.Shapes.{Not_is, Pair_is, Quant_is, Modal_is}
use Rattle.nxf_tree.specs.Text.{has_brackets}
use Rattle.tf0_printer.proofs.formula.has_brackets.Goals as goal

pub returns-in-Pair : goal.returns-in-Pair
returns-in-Pair c = sym (ap has_brackets (c.in-Pair.is ∙ Pair_is _ _ _))

pub returns-in-Not : goal.returns-in-Not
returns-in-Not c = sym (ap has_brackets (c.in-Not.is ∙ Not_is _))

pub returns-in-Quant : goal.returns-in-Quant
returns-in-Quant c = sym (ap has_brackets (c.in-Quant.is ∙ Quant_is _ _ _ _))

pub returns-in-Modal : goal.returns-in-Modal
returns-in-Modal c = sym (ap has_brackets (c.in-Modal.is ∙ Modal_is _ _ _))
