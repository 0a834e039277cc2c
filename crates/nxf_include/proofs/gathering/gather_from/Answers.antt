use Rattle.std.proofs.Common.{arith, map, rules}
use Rattle.std.proofs.lemmas.Grind.{common_steps}
use Rattle.nxf_include.specs.Roots.{files_of}
use Rattle.nxf_include.proofs.Bringing.{gathers, gathers_not}
use Rattle.nxf_include.proofs.Promising.{whole_fine}
use Rattle.nxf_include.proofs.gathering.gather_from.Goals as goal

pub returns-clause-answers : goal.returns-clause-answers
returns-clause-answers g c = gathers (files_of (map g.L.Library.shelf c.args.libraries.now)) c.args.name.now c.in_ok-whole.whole c.in_ok-whole.ensures.answers

pub returns-clause-fine : goal.returns-clause-fine
returns-clause-fine g c = whole_fine c.in_ok-whole.whole.statements c.in_ok-whole.ensures.fine (omega (arith, c.in_ok-whole.ensures.counts.0, c.in_ok-whole.ensures.counts.1))

pub returns-in_err-whole-clause-answers : goal.returns-in_err-whole-clause-answers
returns-in_err-whole-clause-answers g c =
    let h = gathers_not (files_of (map g.L.Library.shelf c.args.libraries.now)) c.args.name.now c.in_err-whole.field-0.0 c.in_err-whole.ensures.answers in
    first_of (search rules, grind (arith, common_steps))
