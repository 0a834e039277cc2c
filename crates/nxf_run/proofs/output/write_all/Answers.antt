use Rattle.std.proofs.Common.{◌∙◌, ap, sym, refl, ◌++◌, [], take, drop, arith, append_assoc}
use Rattle.std.proofs.lemmas.Grind.{common_steps}
use Rattle.std.proofs.lemmas.List.{take-append-drop}
use Rattle.nxf_run.proofs.Appending.{appends_more, appends_none}
use Rattle.nxf_run.proofs.output.write_all.Goals as goal

pub loop-rest-init : goal.loop-rest-init
loop-rest-init g c =
    (record { done = []; rest = c.args.bytes.now; whole = refl; appends = appends_none _ }, refl, omega arith)

pub loop-rest-preserved : goal.loop-rest-preserved
loop-rest-preserved g c =
    let before = c.loop-rest.invariant.0 in
    let rest = c.loop-rest.rest.now in (
      record {
        done = before.done ++ take c.in-Ok.count rest;
        rest = drop c.in-Ok.count rest;
        whole = append_assoc before.done _ _ ∙ ap (λ xs. before.done ++ xs) (take-append-drop c.in-Ok.count rest) ∙ ap (λ xs. before.done ++ xs) (sym c.loop-rest.invariant.1) ∙ before.whole;
        appends = appends_more (g.S.Sink.held c.args.sink.now) (g.S.Sink.held c.loop-rest.sink) _ before.done _ before.appends c.in-Ok.ensures.takes.2;
      },
      grind (arith, common_steps),
      omega (arith, c.write.ensures.cause.later),
    )
