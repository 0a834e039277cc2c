use Rattle.std.proofs.Common.{map, subst, arith, rules}
use Rattle.std.proofs.lemmas.Grind.{common_steps}
use Rattle.syntax_definitions.specs.Gathered.{ReadsCounted}
use Rattle.nxf_include.specs.Roots.{files_of}
use Rattle.nxf_include.proofs.OneFile.{IsOrMemory, goes_on, stops}
use Rattle.nxf_include.proofs.reading.enter.Goals as goal

pub returns-clause-answers : goal.returns-clause-answers
returns-clause-answers g c =
    goes_on c.args.name.now c.args.sum (files_of (map g.L.Library.shelf c.args.libraries.now)) c.in_ok-bytes.bytes.items c.read_counted.result c.in_ok-bytes.ensures.bytes
    (subst (λ bytes. IsOrMemory (ReadsCounted c.args.name.now c.args.sum bytes) c.read_counted.result) c.deref.ensures.value c.read_counted.ensures.answers)

pub returns-in_err-bytes-clause-answers : goal.returns-in_err-bytes-clause-answers
returns-in_err-bytes-clause-answers g c =
    let h = stops c.args.name.now c.args.sum (files_of (map g.L.Library.shelf c.args.libraries.now)) c.in_err-bytes.field-0.0 c.in_err-bytes.ensures.refusal in
    first_of (search rules, grind (arith, common_steps))
