use Rattle.std.proofs.Common.{◌≡◌, ◌∙◌, ap, subst, arith, add-one, ◌++◌, ◌+◌, take, Ok, Err}
use Rattle.std.specs.Prelude.{Result}
use Rattle.std.specs.Result.{IsErrAnd, IsErrOf}
use Rattle.nxf_base.specs.declared.library.Found.{Found}
use Rattle.nxf_base.specs.declared.library.LoadError.{LoadError}
use Rattle.nxf_include.proofs.Asked.{asked_next, asked_keeps, asked_fault, asked_here, all_keep, all_missed, all_absent}
use Rattle.nxf_include.proofs.roots.load_first.Goals as goal

-- an error that is handed on is the error that came
handed_on : (r : Result Found LoadError) (came e : LoadError) → IsErrAnd r (λ (x : LoadError). x ≡ came) → IsErrOf r e → IsErrOf {T = Found} (Err came) e
handed_on (Ok found) came e same is = absurd same
handed_on (Err x) came e same is = subst (λ (y : LoadError). IsErrOf {T = Found} (Err y) e) same is

pub returns-in-Here-clause-loads : goal.returns-in-Here-clause-loads
returns-in-Here-clause-loads g c =
    let h = rw c.in-Here.is at c.in_ok-load.ensures.loads in
    (h.0, h.1 ∙ ap (λ bytes. bytes ++ take (c.args.limit + 1) h.0) c.loop-at.invariant.1, asked_here g.L.Library.shelf c.args.name.now h.0 c.loop-at.at _ c.loop-at.libraries c.index-libraries-at.result c.loop-at.invariant.0 (omega arith) h.2)

pub returns-in-Here-clause-keeps : goal.returns-in-Here-clause-keeps
returns-in-Here-clause-keeps g c =
    asked_keeps g.L.Library.shelf c.args.name.now c.loop-at.at _ c.loop-at.libraries c.index-libraries-at.result _ c.loop-at.invariant.0 (omega arith) c.load.ensures.keeps

pub returns-in_err-load-clause-keeps : goal.returns-in_err-load-clause-keeps
returns-in_err-load-clause-keeps g c =
    asked_keeps g.L.Library.shelf c.args.name.now c.loop-at.at _ c.loop-at.libraries c.index-libraries-at.result _ c.loop-at.invariant.0 (omega arith) c.load.ensures.keeps

pub returns-in_err-load-clause-fault : goal.returns-in_err-load-clause-fault
returns-in_err-load-clause-fault g c is =
    asked_fault g.L.Library.shelf c.args.name.now c.loop-at.at _ c.loop-at.libraries c.index-libraries-at.result _ c.loop-at.invariant.0 (omega arith) (c.in_err-load.ensures.fault (handed_on _ _ _ c.from_residual.ensures.1 is))

pub loop-at-preserved : goal.loop-at-preserved
loop-at-preserved g c =
    let h = rw c.in-Absent.is at c.in_ok-load.ensures.loads in
    let rose = c.in_ok-load.ensures.absent (ap Ok c.in-Absent.is) in
    (rw add-one (asked_next g.L.Library.shelf c.args.name.now c.loop-at.at _ c.loop-at.libraries c.index-libraries-at.result _ c.loop-at.invariant.0 (omega arith) (record { keeps = c.load.ensures.keeps; rose = rose; none = h.1 })), h.0 ∙ c.loop-at.invariant.1)

pub returns-clause-loads : goal.returns-clause-loads
returns-clause-loads g c =
    (c.loop-at.invariant.1, all_absent g.L.Library.shelf c.args.name.now c.loop-at.at _ c.loop-at.libraries c.loop-at.invariant.0 (omega arith))

pub returns-clause-keeps : goal.returns-clause-keeps
returns-clause-keeps g c = all_keep g.L.Library.shelf c.args.name.now c.loop-at.at _ c.loop-at.libraries c.loop-at.invariant.0

pub returns-clause-absent : goal.returns-clause-absent
returns-clause-absent g c is = all_missed g.L.Library.shelf c.args.name.now c.loop-at.at _ c.loop-at.libraries c.loop-at.invariant.0 (omega arith)
