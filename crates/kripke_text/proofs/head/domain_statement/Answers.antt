use Rattle.std.proofs.Common.{ap, ◌∙◌}
use Rattle.std.specs.List.{fold}
use Rattle.std.specs.Prelude.{codes}
use Rattle.kripke_text_definitions.specs.KripkeText.{all_of, element, sort_mark, prefix}
use Rattle.kripke_text.specs.steps.Taking.{rest_marks}
use Rattle.kripke_text.proofs.Folds.{on_ok, statement_put, objects_put}
use Rattle.kripke_text.proofs.head.domain_statement.Goals as goal

pub returns : goal.returns
returns g c =
    let takes = g.M.Taker.takes in
    let sort = c.args.sort.now in
    let front = c.prefix.ensures in
    let rest = c.in_ok-listed_members.ensures ∙ ap (λ (f : _). fold takes c.sort_mark.new.out (rest_marks (codes "X") f c.args.count)) front in
    let objects = objects_put takes c.open_statement.new.out c.open_binder.new.out c.sort_mark.new.out c.listed_members.new.out (codes "X") (prefix sort) (sort_mark sort) c.args.count c.in_ok-open_binder.ensures c.in_ok-sort_mark.ensures rest in
    on_ok c.close_statement.result (λ h. statement_put takes c.args.out.now c.open_statement.new.out c.listed_members.new.out c.close_statement.new.out (codes "domain") (all_of (codes "X") (sort_mark sort) (element sort) c.args.count) c.in_ok-open_statement.ensures objects h) c.close_statement.ensures
