use Rattle.std.proofs.Common.{ap, ◌∙◌, sym}
use Rattle.nxf_tree.specs.Shapes.{Not_is, Pair_is, Quant_is, Modal_is}
use Rattle.interpretation_definitions.specs.Parts.{member_of}
use Rattle.interpretation_parts.proofs.reading.member.Goals as goal

pub returns-in-Pair : goal.returns-in-Pair
returns-in-Pair c = sym (ap (member_of c.args.x.now) (c.in-Pair.is ∙ Pair_is _ _ _))

pub returns-in-Not : goal.returns-in-Not
returns-in-Not c = sym (ap (member_of c.args.x.now) (c.in-Not.is ∙ Not_is _))

pub returns-in-Quant : goal.returns-in-Quant
returns-in-Quant c = sym (ap (member_of c.args.x.now) (c.in-Quant.is ∙ Quant_is _ _ _ _))

pub returns-in-Modal : goal.returns-in-Modal
returns-in-Modal c = sym (ap (member_of c.args.x.now) (c.in-Modal.is ∙ Modal_is _ _ _))
