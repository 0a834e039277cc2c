use Rattle.std.specs.Prelude.{codes}
use Rattle.plain_tokens.specs.Marks.{Dollar}
use Rattle.kripke_text_definitions.specs.KripkeText.{all_of, world}
use Rattle.kripke_text.proofs.Folds.{on_ok, statement_put, objects_put}
use Rattle.kripke_text.proofs.head.worlds_statement.Goals as goal

pub returns : goal.returns
returns g c =
    let takes = g.M.Taker.takes in
    let objects = objects_put takes c.open_statement.new.out c.open_binder.new.out c.dollar.new.self c.listed_members.new.out (codes "W") (codes "w") (Dollar (codes "$world")) c.args.count c.in_ok-open_binder.ensures c.in_ok-dollar.ensures c.in_ok-listed_members.ensures in
    on_ok c.close_statement.result (λ h. statement_put takes c.args.out.now c.open_statement.new.out c.listed_members.new.out c.close_statement.new.out (codes "worlds") (all_of (codes "W") (Dollar (codes "$world")) world c.args.count) c.in_ok-open_statement.ensures objects h) c.close_statement.ensures
