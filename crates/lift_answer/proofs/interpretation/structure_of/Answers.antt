use Rattle.std.proofs.Common.{◌≡◌, Ok, subst}
use Rattle.nxf_tree.specs.declared.tree.ClassicalSignature.{ClassicalSignature}
use Rattle.interpretation_definitions.specs.Interpretation.{interpretation_of}
use Rattle.lift_answer.proofs.Given.{gives_none}
use Rattle.lift_answer.proofs.interpretation.structure_of.Goals as goal

pub returns-in-Ok-read-clause-given : goal.returns-in-Ok-read-clause-given
returns-in-Ok-read-clause-given c =
    subst (λ (csig : ClassicalSignature). interpretation_of csig c.args.file.now ≡ Ok c.in-Ok-read.structure) c.in-Ok.ensures.made c.in-Ok-read.ensures.exact

pub returns-clause-refused : goal.returns-clause-refused
returns-clause-refused c =
    gives_none c.args.over.now c.args.file.now c.in-Ok.classical c.in-Err.error c.status_of_interpretation.result c.in-Ok.ensures.made c.status_of_interpretation.ensures c.in-Err.ensures.refused
