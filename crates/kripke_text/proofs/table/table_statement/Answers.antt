use Rattle.kripke_text.proofs.Folds.{on_ok}
use Rattle.kripke_text.proofs.LinesLaw.{table_put}
use Rattle.kripke_text.specs.steps.Subjects.{label_of, table_of}
use Rattle.kripke_text.proofs.table.table_statement.Goals as goal

pub returns : goal.returns
returns g c =
    on_ok c.close_statement.result (λ h. table_put g.M.Taker.takes c.args.out.now c.open_statement.new.out c.literals.new.out c.truth.new.out c.close_statement.new.out c.statement_name.result.now (label_of c.args.over.now c.args.subject) (table_of c.args.kripke.now c.args.subject) c.in_ok-none.none c.statement_name.ensures c.in_ok-none.ensures.none c.in_ok-open_statement.ensures c.in_ok-none.ensures.marks c.in_ok-truth.ensures h) c.close_statement.ensures
