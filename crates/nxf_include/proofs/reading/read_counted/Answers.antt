use Rattle.std.proofs.Common.{arith, rules}
use Rattle.std.proofs.lemmas.Grind.{common_steps}
use Rattle.nxf_include.proofs.OneFile.{read_ok, read_not}
use Rattle.nxf_include.proofs.reading.read_counted.Goals as goal

pub returns-clause-answers : goal.returns-clause-answers
returns-clause-answers c = read_ok c.args.name.now c.args.sum c.args.bytes.now c.in_ok-statements.statements (omega arith) c.in_ok-statements.ensures.answers

pub returns-in_err-statements-clause-answers : goal.returns-in_err-statements-clause-answers
returns-in_err-statements-clause-answers c =
    let h = read_not c.args.name.now c.args.sum c.args.bytes.now c.in_err-statements.field-0.0 (omega arith) c.in_err-statements.ensures.answers in
    first_of (search rules, grind (arith, common_steps))
