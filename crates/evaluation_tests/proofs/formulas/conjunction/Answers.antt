use Rattle.std.proofs.Common.{ap, ◌∙◌}
use Rattle.std.specs.List.{list_all}
use Rattle.nxf_tree.specs.Sorting.{classical_language}
use Rattle.classical_evaluation_definitions.specs.ClassicalSorting.{is_classical}
use Rattle.evaluation_tests.specs.Flat.{flat, IsFlat}
use Rattle.evaluation_tests.proofs.FlatLemmas.{and_flat, flat_push}
use Rattle.evaluation_tests.proofs.formulas.conjunction.Goals as goal

pub more-preserved : goal.more-preserved
more-preserved c b =
    let one : IsFlat c.in_ok-negated.field-0 = λ x. ap (is_classical (classical_language flat) x) c.in_ok-negated.ensures ∙ c.in_ok-atom.ensures x in
    ap (list_all (is_classical (classical_language flat) b)) c.in_ok-push.ensures.pushed ∙ flat_push c.more.parts c.in_ok-negated.field-0 c.more.invariant one b

pub returns : goal.returns
returns c b = and_flat c.more.parts c.more.invariant b
