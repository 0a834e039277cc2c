use Rattle.std.proofs.Common.{ap, sym}
use Rattle.interpretation_definitions.specs.Parts.{argument, Equates}
use Rattle.interpretation_parts.proofs.ReadingLemmas.{arguments_hidden}
use Rattle.interpretation_parts.proofs.reading.equation.Goals as goal

pub returns-in-App : goal.returns-in-App
returns-in-App c = rw (c.in-App.is, c.as_slice.ensures) (sym (ap (λ args. Equates c.in-App.name args (argument c.args.right.now)) (arguments_hidden c.in-App.terms)))
