use Rattle.std.proofs.Common.{refl, subst}
use Rattle.std.specs.Prelude.{◌<◌}
use Rattle.kripke_text_definitions.specs.KripkeText.{domain_statement}
use Rattle.kripke_text.specs.steps.Reading.{Reads}
use Rattle.kripke_text.proofs.Nexts.{next_refused}
use Rattle.kripke_text.proofs.read_head.next_size.Goals as goal

pub returns-in-None-clause-refused : goal.returns-in-None-clause-refused
returns-in-None-clause-refused c = (
  refl,
  next_refused (domain_statement c.args.sort.now) (λ n. 0 < n) c.args.statements.now c.take_next.new.self c.in-Some.matcher c.in-Some.ensures.some
      (subst (λ found. Reads (domain_statement c.args.sort.now) (λ n. 0 < n) c.in-Some.matcher found) c.in-None.is c.in_ok-size.ensures),
)
