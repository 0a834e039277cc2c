use Rattle.std.proofs.Common.{◌++◌, ◌∷◌, [], ap, ◌∙◌}
use Rattle.nxf_tree.specs.declared.tree.SortName.TheVariants.{Individual}
use Rattle.nxf_signatures.proofs.Walks.{individuals_push}
use Rattle.nxf_signatures.proofs.occurring.individuals.Goals as goal

pub loop-preserved : goal.loop-preserved
loop-preserved c = c.in_ok-push.ensures.pushed ∙ ap (λ ss. ss ++ Individual ∷ []) c.loop.invariant ∙ individuals_push c.loop.counter
