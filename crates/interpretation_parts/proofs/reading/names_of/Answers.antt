use Rattle.std.proofs.Common.{ap, ◌∙◌, sym}
use Rattle.nxf_tree.specs.Shapes.{Not_is, Pair_is, Quant_is, Modal_is}
use Rattle.interpretation_definitions.specs.Parts.{closed_names}
use Rattle.interpretation_parts.proofs.ReadingLemmas.{closed_names_of_Or}
use Rattle.interpretation_parts.proofs.reading.names_of.Goals as goal

pub returns-in-Not : goal.returns-in-Not
returns-in-Not c = sym (ap (closed_names c.args.x.now) (c.in-Not.is ∙ Not_is _))

pub returns-in-Pair : goal.returns-in-Pair
returns-in-Pair c = sym (ap (closed_names c.args.x.now) (c.in-Pair.is ∙ Pair_is _ _ _))

pub returns-in-Quant : goal.returns-in-Quant
returns-in-Quant c = sym (ap (closed_names c.args.x.now) (c.in-Quant.is ∙ Quant_is _ _ _ _))

pub returns-in-Modal : goal.returns-in-Modal
returns-in-Modal c = sym (ap (closed_names c.args.x.now) (c.in-Modal.is ∙ Modal_is _ _ _))

pub returns-in-Or : goal.returns-in-Or
returns-in-Or c = rw (c.in-Or.is, closed_names_of_Or, ← c.as_slice.ensures) c.member_names.ensures
