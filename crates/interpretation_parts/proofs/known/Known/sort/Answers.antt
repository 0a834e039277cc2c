use Rattle.std.proofs.Common.{◌∙◌}
use Rattle.nxf_tree.specs.declared.tree.SortName.TheVariants.{Individual, User}
use Rattle.interpretation_parts.proofs.TableLemmas.{sort_within}
use Rattle.interpretation_parts.proofs.known.Known.sort.Goals as goal

pub returns-in-Individual-clause-within : goal.returns-in-Individual-clause-within
returns-in-Individual-clause-within c = sort_within c.args.self.now.over.now.sorts Individual _ c.args.self.now.knows.individual

pub returns-in-User-clause-within : goal.returns-in-User-clause-within
returns-in-User-clause-within c = sort_within c.args.self.now.over.now.sorts (User c.in-User.name) _ (c.copied.ensures ∙ c.get.ensures.value ∙ c.args.self.now.knows.sorts c.in-User.name)
