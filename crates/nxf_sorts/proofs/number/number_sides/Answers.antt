use Rattle.std.proofs.Common.{sym, subst}
use Rattle.numbered_definitions.specs.declared.node.NTerm.{NTerm}
use Rattle.formula_cells.specs.Stored.{term_at}
use Rattle.formula_cells.proofs.CallerLemmas.{grows_twice, term_kept, term_at_kept}
use Rattle.nxf_sorts.specs.steps.Numbering.{NumbersTerm}
use Rattle.nxf_sorts.proofs.UseLemmas.{fault_first, fault_then, fault_is, refused_with}
use Rattle.nxf_sorts.proofs.TermLemmas.{sides_apart, sides_alike}
use Rattle.nxf_sorts.proofs.number.number_sides.Goals as goal

pub returns-in_err-a : goal.returns-in_err-a
returns-in_err-a c = refused_with _ _ _ c.in_err-a.field-0.0 c.from_residual.ensures.1 (rw (← c.get.ensures) (fault_first _ _ _ c.in_err-a.ensures))

pub returns-in_err-b : goal.returns-in_err-b
returns-in_err-b c =
    refused_with _ _ _ c.in_err-b.field-0.0 c.from_residual-in_err-b.ensures.1
    (rw (← c.get.ensures, ← c.get-2.ensures) (fault_then _ _ _ c.in_ok-a.ensures.holds.no_fault (fault_first _ _ _ c.in_err-b.ensures)))

pub returns-then-s-t : goal.returns-then-s-t
returns-then-s-t c =
    let sig = c.args.names.now.signature in
    let us = c.args.names.now.declared in
    let bs = c.args.binders.now in
    let mid = c.number_term.new.cells in
    let new = c.number_term-2.new.cells in
    let h = c.in_ok-a.ensures in
    let k = c.in_ok-b.ensures in
    let a = c.in_ok-a.a in
    let b = c.in_ok-b.b in
    rw (← c.get.ensures, ← c.get-2.ensures) (record {
      grows = grows_twice c.args.cells.now mid new h.grows k.grows;
      left = term_kept mid new k.grows a h.is_term;
      right = k.is_term;
      holds =
          sides_alike sig us bs c.get.result.now c.get-2.result.now (term_at new a) (term_at new b) c.in_ok-a.s c.in_ok-b.t
          (subst (λ (n : NTerm). NumbersTerm sig us bs c.get.result.now n c.in_ok-a.s) (sym (term_at_kept mid new k.grows a h.is_term)) h.holds) k.holds c.if-s-t.true;
    })

pub returns-else-s-t : goal.returns-else-s-t
returns-else-s-t c =
    let sig = c.args.names.now.signature in
    let us = c.args.names.now.declared in
    let bs = c.args.binders.now in
    let mid = c.number_term.new.cells in
    let new = c.number_term-2.new.cells in
    rw (← c.get.ensures, ← c.get-2.ensures)
    (fault_is _ _ _ (sides_apart sig us bs c.get.result.now c.get-2.result.now (term_at mid c.in_ok-a.a) (term_at new c.in_ok-b.b) c.in_ok-a.s c.in_ok-b.t c.requires.good c.in_ok-a.ensures.holds c.in_ok-b.ensures.holds c.if-s-t.false) c.fault_of.ensures)
