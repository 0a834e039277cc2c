use Rattle.std.proofs.Common.{◌≡◌}
use Rattle.interpretation_parts.proofs.DeclarationLemmas.{other_count, same_sorts-more}
use Rattle.interpretation_parts.proofs.declarations.have_numbers.Goals as goal

pub returns-then-numbers-names : goal.returns-then-numbers-names
returns-then-numbers-names c = other_count c.args.sorts.now c.args.numbers.now c.args.names.now c.if-numbers-names.true

pub loop-at-preserved : goal.loop-at-preserved
loop-at-preserved c =
    same_sorts-more c.args.sorts.now c.args.numbers.now c.args.names.now c.loop-at.at c.index-names-at.result c.loop-at.same c.has_number-has.result c.loop-at-test.true c.if-numbers-names.false c.index-names-at.is c.loop-at.invariant c.has_number-has.ensures
