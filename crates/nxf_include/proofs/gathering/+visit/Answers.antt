use Rattle.std.proofs.Common.{◌-◌, ◌∙◌, ap, sym, subst, arith, map, [], ◌∷◌, rules}
use Rattle.std.proofs.lemmas.Grind.{common_steps}
use Rattle.std.specs.Vec.Iter.{into_iter_items}
use Rattle.nxf_tree.specs.Weight.{statement_list_weight}
use Rattle.syntax_definitions.specs.Gathered.{Visits}
use Rattle.syntax_definitions.specs.Promises.{AreReadStatements, AreFine}
use Rattle.nxf_include.specs.Roots.{files_of}
use Rattle.nxf_include.proofs.Callers.{Keeps-same, Keeps-after, fault_after, misses_after}
use Rattle.nxf_include.proofs.Bringing.{deep, begins, begins_not, met_first, adds_annotated, refuses_included, refuses_selected, ends}
use Rattle.nxf_include.proofs.Including.{includes_part}
use Rattle.nxf_include.proofs.Promising.{annotated_fine, rest_read, annotated_weight}
use Rattle.nxf_include.proofs.Selecting.{none_left}
use Rattle.nxf_include.proofs.gathering.+visit.Goals as goal

pub returns-then-levels-eq0-clause-answers : goal.returns-then-levels-eq0-clause-answers
returns-then-levels-eq0-clause-answers g t c =
    deep (files_of (map g.L.Library.shelf c.args.libraries.now)) c.args.levels c.args.sum c.args.name.now c.deep.result (omega (arith, c.if-levels-eq0.true)) c.deep.ensures

pub returns-then-levels-eq0-clause-keeps : goal.returns-then-levels-eq0-clause-keeps
returns-then-levels-eq0-clause-keeps g t c = Keeps-same _

pub returns-in_err-file-clause-answers : goal.returns-in_err-file-clause-answers
returns-in_err-file-clause-answers g t c =
    let h = begins_not (files_of (map g.L.Library.shelf c.args.libraries.now)) c.args.levels (c.args.levels - 1) c.args.sum c.args.name.now c.in_err-file.field-0.0 (omega (arith, c.if-levels-eq0.false)) c.in_err-file.ensures.answers in
    first_of (search rules, grind (arith, common_steps))

pub loop-statement-init : goal.loop-statement-init
loop-statement-init g t c =
    let all = c.into_iter-statement-iterator.ensures.into_iter_gives.0 ∙ c.into_vec-statement-items.ensures in (
      tt,
      tt,
      begins (files_of (map g.L.Library.shelf c.args.libraries.now)) c.args.levels (c.args.levels - 1) c.args.sum c.args.name.now c.in_ok-file.file c.new-statements.result _ (omega (arith, c.if-levels-eq0.false)) c.new-statements.ensures all c.in_ok-file.ensures.answers,
      c.in_ok-file.ensures.keeps,
      subst AreFine (sym c.new-statements.ensures) tt,
      subst AreReadStatements (sym all) c.in_ok-file.ensures.read,
      omega (arith, c.in_ok-file.ensures.counts.1, ap statement_list_weight c.new-statements.ensures, ap statement_list_weight all),
      c.in_ok-file.ensures.counts.0,
    )

pub returns-in_err-part-in-Include-clause-answers : goal.returns-in_err-part-in-Include-clause-answers
returns-in_err-part-in-Include-clause-answers g t c =
    let h = refuses_included _ (c.args.levels - 1) c.loop-statement.statements c.loop-statement.sum _ _ _ _ (files_of (map g.L.Library.shelf c.args.libraries.now)) c.in_err-part-in-Include.field-0.0 c.loop-statement.invariant.2
    (c.in-Some.ensures.steps.0 ∙ ap (λ s. s ∷ into_iter_items c.next.new.self) c.in-Include.is)
    (met_first _ _ (λ files. Visits files (c.args.levels - 1) c.loop-statement.sum c.in-Include.file) _ c.loop-statement.invariant.3 c.in_err-part-in-Include.ensures.answers) in
    first_of (search rules, grind (arith, common_steps))

pub returns-in_err-part-in-Include-clause-no_file : goal.returns-in_err-part-in-Include-clause-no_file
returns-in_err-part-in-Include-clause-no_file g t c missing is =
    misses_after _ _ _ c.loop-statement.invariant.3 (c.in_err-part-in-Include.ensures.no_file missing (grind (arith, common_steps)))

pub returns-in_err-part-in-Include-clause-read_fault : goal.returns-in_err-part-in-Include-clause-read_fault
returns-in_err-part-in-Include-clause-read_fault g t c is =
    fault_after _ _ _ c.loop-statement.invariant.3 (c.in_err-part-in-Include.ensures.read_fault (grind (arith, common_steps)))

pub returns-in_err-part-in-Include-clause-keeps : goal.returns-in_err-part-in-Include-clause-keeps
returns-in_err-part-in-Include-clause-keeps g t c = Keeps-after _ _ _ c.loop-statement.invariant.3 c.in_err-part-in-Include.ensures.keeps

pub returns-in_err-add_selected-in-Include-clause-answers : goal.returns-in_err-add_selected-in-Include-clause-answers
returns-in_err-add_selected-in-Include-clause-answers g t c =
    let h = refuses_selected _ (c.args.levels - 1) c.loop-statement.statements c.loop-statement.sum _ _ _ _ (files_of (map g.L.Library.shelf c.args.libraries.now)) c.in_ok-part-in-Include.part c.in_err-add_selected-in-Include.field-0.0 c.loop-statement.invariant.2
    (c.in-Some.ensures.steps.0 ∙ ap (λ s. s ∷ into_iter_items c.next.new.self) c.in-Include.is)
    (met_first _ _ (λ files. Visits files (c.args.levels - 1) c.loop-statement.sum c.in-Include.file) _ c.loop-statement.invariant.3 c.in_ok-part-in-Include.ensures.answers)
    c.in_err-add_selected-in-Include.ensures.refused in
    first_of (search rules, grind (arith, common_steps))

pub returns-in_err-add_selected-in-Include-clause-keeps : goal.returns-in_err-add_selected-in-Include-clause-keeps
returns-in_err-add_selected-in-Include-clause-keeps g t c = Keeps-after _ _ _ c.loop-statement.invariant.3 c.in_ok-part-in-Include.ensures.keeps

pub loop-statement-preserved-in_ok-add_selected-in-Include : goal.loop-statement-preserved-in_ok-add_selected-in-Include
loop-statement-preserved-in_ok-add_selected-in-Include g t c =
    let next = c.in-Some.ensures.steps.0 ∙ ap (λ s. s ∷ into_iter_items c.next.new.self) c.in-Include.is in
    let here = includes_part _ (c.args.levels - 1) c.args.sum c.loop-statement.sum _ _ _ c.in-Include.file _ c.in_ok-part-in-Include.part c.loop-statement.statements _ _ _ c.loop-statement.invariant.2 c.loop-statement.invariant.3 c.loop-statement.invariant.4 c.loop-statement.invariant.5 c.loop-statement.invariant.6
    c.in_ok-part-in-Include.ensures.answers c.in_ok-part-in-Include.ensures.keeps c.in_ok-part-in-Include.ensures.fine c.in_ok-part-in-Include.ensures.counts c.in_ok-add_selected-in-Include.ensures.added next in
    (tt, tt, here.0, here.1, here.2, here.3, here.4, here.5)

pub loop-statement-preserved-in_ok-add_selected-in-Include-2 : goal.loop-statement-preserved-in_ok-add_selected-in-Include-2
loop-statement-preserved-in_ok-add_selected-in-Include-2 g t c =
    let next = c.in-Some.ensures.steps.0 ∙ ap (λ s. s ∷ into_iter_items c.next.new.self) c.in-Include.is in
    let here = includes_part _ (c.args.levels - 1) c.args.sum c.loop-statement.sum _ _ _ c.in-Include.file _ c.in_ok-part-in-Include.part c.loop-statement.statements _ _ _ c.loop-statement.invariant.2 c.loop-statement.invariant.3 c.loop-statement.invariant.4 c.loop-statement.invariant.5 c.loop-statement.invariant.6
    c.in_ok-part-in-Include.ensures.answers c.in_ok-part-in-Include.ensures.keeps c.in_ok-part-in-Include.ensures.fine c.in_ok-part-in-Include.ensures.counts c.in_ok-add_selected-in-Include.ensures.added next in
    (tt, tt, here.0, here.1, here.2, here.3, here.4, here.5)

pub loop-statement-preserved : goal.loop-statement-preserved
loop-statement-preserved g t c =
    let rest = into_iter_items c.next.new.self in
    let next = c.in-Some.ensures.steps.0 ∙ ap (λ s. s ∷ rest) c.in-Annotated.is in (
      tt,
      tt,
      adds_annotated _ (c.args.levels - 1) c.loop-statement.statements c.loop-statement.sum _ _ (files_of (map g.L.Library.shelf c.args.libraries.now)) _ _ _ _ c.loop-statement.invariant.2 next c.in_ok-add-in-Annotated.ensures,
      c.loop-statement.invariant.3,
      annotated_fine c.loop-statement.statements _ _ rest _ _ _ c.in_ok-add-in-Annotated.ensures next c.loop-statement.invariant.4 c.loop-statement.invariant.5,
      rest_read _ rest _ next c.loop-statement.invariant.5,
      annotated_weight c.args.sum c.loop-statement.sum c.loop-statement.statements _ _ rest _ c.in_ok-add-in-Annotated.ensures next c.loop-statement.invariant.6,
      c.loop-statement.invariant.7,
    )

pub returns-clause-answers : goal.returns-clause-answers
returns-clause-answers g t c =
    ends _ (c.args.levels - 1) c.loop-statement.statements c.loop-statement.sum _ [] (files_of (map g.L.Library.shelf c.args.libraries.now)) c.loop-statement.invariant.2
    (none_left _ (omega (arith, c.loop-statement.statement-iterator.rest.ok, c.in-None.ensures.steps.0)))
