use Rattle.std.proofs.Common.{sym, ap, ap₂, subst, arith}
use Rattle.nxf_base.specs.declared.status.Status.TheVariants as status
use Rattle.nxf_tree.specs.Parts.{parts_of}
use Rattle.nxf_tree.specs.SortFaults.{sort_fault_of}
use Rattle.nxf_tree.specs.Specification.{spec_of}
use Rattle.logic_spec.specs.Asked.{asked_by}
use Rattle.logic_spec.specs.steps.Judging.{IsRefusal}
use Rattle.nxf_roles.specs.Refusals.{Refuses}
use Rattle.nxf_sorts.specs.Judging.{IsFileFault}
use Rattle.answer_definitions.specs.Answer.{OrMemory}
use Rattle.answer_definitions.specs.ProblemFile.{IsProfileRefusal}
use Rattle.problem_reader.proofs.Reading.{statements_fit, refused_role, refused_spec, refused_sort, reading}
use Rattle.problem_reader.proofs.read_problem.Goals as goal

pub sort_roles-requires : goal.sort_roles-requires
sort_roles-requires c = omega (arith, statements_fit c.args.file.now.statements, c.requires.weight)

pub read_spec-requires : goal.read_spec-requires
read_spec-requires c = omega (arith, statements_fit c.args.file.now.statements, c.requires.weight)

pub check-requires-clause-weight : goal.check-requires-clause-weight
check-requires-clause-weight c = omega (arith, c.requires.weight)

pub returns-in-Ok-check : goal.returns-in-Ok-check
returns-in-Ok-check c = reading c.args.file.now c.in-Ok.parts c.in-Ok.ensures.parts _ c.in-Ok-read_spec.ensures c.in-Ok-check.checked c.in-Ok-check.ensures.judged c.in-Ok-check.ensures.signature c.in-Ok-check.ensures.well_formed c.in-Ok-check.ensures.formulas

pub returns-in-Err-Kind : goal.returns-in-Err-Kind
returns-in-Err-Kind c =
    let file = c.args.file.now in
    let fault = subst (Refuses (parts_of file)) c.in-Err-Kind.field-0-is c.in-Err-Kind.ensures.refusal in
    subst (OrMemory (IsProfileRefusal file)) (sym (ap₂ status.Role c.in-Err-Kind.kind-is c.in-Err-Kind.place-is)) (refused_role file c.in-Err-Kind.place c.in-Err-Kind.kind fault)

pub returns-in-Err-Kind-read_spec : goal.returns-in-Err-Kind-read_spec
returns-in-Err-Kind-read_spec c =
    let file = c.args.file.now in
    let fault = subst (IsRefusal (spec_of file)) c.in-Err-Kind-read_spec.field-0-is c.in-Err-Kind-read_spec.ensures in
    subst (OrMemory (IsProfileRefusal file)) (sym (ap status.Spec c.in-Err-Kind-read_spec.kind-is)) (refused_spec file c.in-Ok.parts c.in-Ok.ensures.parts c.in-Err-Kind-read_spec.kind fault)

pub returns-in-Err-Kind-check : goal.returns-in-Err-Kind-check
returns-in-Err-Kind-check c =
    let file = c.args.file.now in
    let spec = asked_by c.in-Ok-read_spec.spec in
    let fault = subst (IsFileFault (sort_fault_of spec file)) c.in-Err-Kind-check.field-0-is c.in-Err-Kind-check.ensures.judged in
    refused_sort file c.in-Ok.parts c.in-Ok.ensures.parts spec c.in-Ok-read_spec.ensures c.in-Err-Kind-check.kind c.in-Err-Kind-check.place c.in-Err-Kind-check.name fault
