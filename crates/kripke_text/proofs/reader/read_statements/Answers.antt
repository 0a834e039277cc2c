use Rattle.std.proofs.Common.{sym, subst}
use Rattle.nxf_tree.specs.Rows.{size_at}
use Rattle.fin_struct.specs.KripkeTables.{others_of}
use Rattle.kripke_text.specs.steps.Reading.{HeadRefuses, LimitRefuses, TablesRefuse}
use Rattle.kripke_text.proofs.ReadHeads.{err_passed}
use Rattle.kripke_text.proofs.ReadWhole.{head_of, head_explains, limit_explains, tables_explain, made_head, made_blank, whole_text}
use Rattle.kripke_text.proofs.reader.read_statements.Goals as goal

pub returns-in_err-head-clause-refused : goal.returns-in_err-head-clause-refused
returns-in_err-head-clause-refused c =
    err_passed c.from_residual.result _ _
    (λ y e tokens split. head_explains c.args.over.now tokens c.args.statements.now y (sym split) (subst (HeadRefuses c.args.over.now c.args.statements.now) (sym e) c.in_err-head.ensures.refused)) c.from_residual.ensures

pub returns-in_err-kripke-clause-refused : goal.returns-in_err-kripke-clause-refused
returns-in_err-kripke-clause-refused c =
    let sizes = c.in_ok-head.head.sizes in
    err_passed c.from_residual-in_err-kripke.result _ _
    (λ y e tokens split. limit_explains c.args.over.now tokens (size_at sizes 0) c.in_ok-head.head.actual (others_of sizes) c.read_head.new.statements y c.requires.in_range
    (head_of c.args.over.now (size_at sizes 0) c.in_ok-head.head.actual (others_of sizes) tokens c.args.statements.now c.read_head.new.statements (sym split) c.in_ok-head.ensures.head)
    (subst (LimitRefuses c.args.over.now (size_at sizes 0) (others_of sizes)) (sym e) c.in_err-kripke.ensures.refused)) c.from_residual-in_err-kripke.ensures

pub read_tables-requires-clause-blank : goal.read_tables-requires-clause-blank
read_tables-requires-clause-blank c =
    let sizes = c.in_ok-head.head.sizes in
    made_blank c.args.over.now (size_at sizes 0) c.in_ok-head.head.actual (others_of sizes) c.in_ok-kripke.kripke c.in_ok-kripke.ensures.made

pub returns-in_err-read_tables-clause-refused : goal.returns-in_err-read_tables-clause-refused
returns-in_err-read_tables-clause-refused c =
    let sizes = c.in_ok-head.head.sizes in
    let view = c.in_ok-kripke.kripke in
    err_passed c.from_residual-in_err-read_tables.result _ _
    (λ y e tokens split. tables_explain c.args.over.now tokens view c.read_head.new.statements y c.requires.in_range c.in_ok-kripke.ensures.within c.in_ok-kripke.ensures.over
    (made_head c.args.over.now tokens (size_at sizes 0) c.in_ok-head.head.actual (others_of sizes) view c.read_head.new.statements c.in_ok-kripke.ensures.made
    (head_of c.args.over.now (size_at sizes 0) c.in_ok-head.head.actual (others_of sizes) tokens c.args.statements.now c.read_head.new.statements (sym split) c.in_ok-head.ensures.head))
    (subst (TablesRefuse c.args.over.now view c.read_head.new.statements) (sym e) c.in_err-read_tables.ensures.refused)) c.from_residual-in_err-read_tables.ensures

pub returns-clause-read : goal.returns-clause-read
returns-clause-read c = λ tokens split.
    let sizes = c.in_ok-head.head.sizes in
    let view = c.in_ok-kripke.kripke in
    record {
      within = c.in_ok-read_tables.ensures.within;
      over = c.in_ok-read_tables.ensures.over;
      tokens_are = whole_text c.args.over.now tokens view c.read_tables.new.kripke c.read_head.new.statements c.in_ok-read_tables.ensures.within
          (made_head c.args.over.now tokens (size_at sizes 0) c.in_ok-head.head.actual (others_of sizes) view c.read_head.new.statements c.in_ok-kripke.ensures.made
          (head_of c.args.over.now (size_at sizes 0) c.in_ok-head.head.actual (others_of sizes) tokens c.args.statements.now c.read_head.new.statements (sym split) c.in_ok-head.ensures.head))
          c.in_ok-read_tables.ensures.kept c.in_ok-read_tables.ensures.read;
    }
