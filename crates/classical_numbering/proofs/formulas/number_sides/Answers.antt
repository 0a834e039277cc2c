use Rattle.std.proofs.Common.{sym, subst}
use Rattle.formula_cells.specs.Putting.{PutsTerm}
use Rattle.formula_cells.proofs.CallerLemmas.{grows_twice, term_kept, term_at_kept}
use Rattle.classical_numbering.specs.steps.Numbering.{NamesTerm}
use Rattle.classical_numbering.proofs.formulas.number_sides.Goals as goal

pub returns : goal.returns
returns c =
    let csig = c.args.names.now.over.now in
    let xs = c.args.binders.now in
    let old = c.args.cells.now in
    let mid = c.number_term.new.cells in
    let new = c.number_term-2.new.cells in
    let a = c.in_ok-left.left in
    let h : PutsTerm (NamesTerm csig xs c.args.left.now) old mid a = c.in_ok-left.ensures in
    let k : PutsTerm (NamesTerm csig xs c.args.right.now) mid new c.in_ok-right.right = c.in_ok-right.ensures in
    record {
      grows = grows_twice old mid new h.grows k.grows;
      left_term = term_kept mid new k.grows a h.is_term;
      right_term = k.is_term;
      left = subst (NamesTerm csig xs c.args.left.now) (sym (term_at_kept mid new k.grows a h.is_term)) h.holds;
      right = k.holds;
    }
