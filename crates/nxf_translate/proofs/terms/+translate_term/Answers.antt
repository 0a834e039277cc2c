use Rattle.std.proofs.Common.{◌≡◌, ◌<◌, ◌≤◌, ◌++◌, [], length, get_or, take, ap, ◌∙◌, sym, subst, arith}
use Rattle.std.specs.Prelude.{map, Some, slice_get}
use Rattle.std.proofs.lemmas.List.{map_more}
use Rattle.nxf_tree.specs.Embedding.{at_world, st_term}
use Rattle.nxf_tree.specs.declared.tree.Signature.{Signature}
use Rattle.numbered_definitions.specs.declared.node.NTerm.{NTerm, Bound}
use Rattle.numbered_definitions.specs.declared.node.NTerm as numbered
use Rattle.numbered_definitions.specs.NamedForm.{named_term}
use Rattle.formula_cells.specs.Expressions.{span_of}
use Rattle.formula_cells.specs.Stored.{IsArgument, AreArguments, term_at}
use Rattle.formula_cells.proofs.CallerLemmas.{good_read, term_read, argument_within}
use Rattle.nxf_translate.specs.steps.Forms.{HasTerm}
use Rattle.nxf_translate.specs.steps.Place.{term_of}
use Rattle.nxf_translate.proofs.Members.{term-member}
use Rattle.nxf_translate.proofs.TermCases.{bound-place, bound-is, app-arguments, app-symbol, app-is, terms-step}
use Rattle.nxf_translate.proofs.terms.+translate_term.Goals as goal

pub translate_term-bounds-binders-level : goal.translate_term-bounds-binders-level
translate_term-bounds-binders-level t c =
    let s = c.args.checked.now.stored in
    let sig = c.args.checked.now.signature in
    bound-place sig c.args.binders.now c.in-Bound.level (subst (HasTerm sig c.args.binders.now) (term_read s c.args.at _ _ c.in-Bound.is c.cell.ensures.stands) c.requires.named)

pub translate_term-get-symbol-requires : goal.translate_term-get-symbol-requires
translate_term-get-symbol-requires t c =
    let s = c.args.checked.now.stored in
    let sig = c.args.checked.now.signature in
    let has = subst (HasTerm sig c.args.binders.now) (term_read s c.args.at _ _ c.in-App.is c.cell.ensures.stands) c.requires.named in
    rw c.signature.ensures.value (app-symbol sig c.args.binders.now c.in-App.number (map (term_at s) (span_of s.kids c.in-App.span)) has)

pub translate_term-translate_terms-requires : goal.translate_term-translate_terms-requires
translate_term-translate_terms-requires t c =
    let s = c.args.checked.now.stored in
    let sig = c.args.checked.now.signature in
    let within : c.args.at ≤ length s.cells = omega (arith, c.requires.kind.below) in
    let good : AreArguments s.cells s.kids c.args.at c.in-App.span = good_read s c.args.at _ _ c.in-App.is c.cell.ensures.good in
    let has = subst (HasTerm sig c.args.binders.now) (term_read s c.args.at _ _ c.in-App.is c.cell.ensures.stands) c.requires.named in
    let each = app-arguments sig c.args.binders.now c.in-App.number (map (term_at s) (span_of s.kids c.in-App.span)) has in
    (omega (arith, c.decreases), (c.requires.different, (rw c.parts-args.ensures good.all, (within, rw c.parts-args.ensures each))))

pub translate_term-returns-in_ok-name-in-Bound : goal.translate_term-returns-in_ok-name-in-Bound
translate_term-returns-in_ok-name-in-Bound t c u named =
    let s = c.args.checked.now.stored in
    let sig = c.args.checked.now.signature in
    let is : term_at s c.args.at ≡ Bound c.in-Bound.level = term_read s c.args.at _ _ c.in-Bound.is c.cell.ensures.stands in
    rw c.in_ok-name-in-Bound.ensures
    (bound-is sig c.args.binders.now (term_of c.args.place) c.in-Bound.level c.index-binders-level.result c.index-binders-level.is u (subst (λ n. named_term sig c.args.binders.now n ≡ Some u) is named))

pub translate_term-returns-in_ok-translate_terms-in-App : goal.translate_term-returns-in_ok-translate_terms-in-App
translate_term-returns-in_ok-translate_terms-in-App t c u named =
    let s = c.args.checked.now.stored in
    let sig = c.args.checked.now.signature in
    let xs = c.args.binders.now in
    let w = term_of c.args.place in
    let ns = map (term_at s) (span_of s.kids c.in-App.span) in
    let is : term_at s c.args.at ≡ numbered.App c.in-App.number ns = term_read s c.args.at _ _ c.in-App.is c.cell.ensures.stands in
    let entry = ap (λ (g : Signature). slice_get g.symbols c.in-App.number) (sym c.signature.ensures.value) ∙ c.get-symbol.ensures in
    let front = c.in_ok-arguments-in-App.ensures ∙ ap (λ b. at_world b w []) c.is_flexible_designation-flexible.ensures in
    rw c.in_ok-name-in-App.ensures
    (app-is sig xs w c.in-App.number ns c.get-symbol.result.now c.translate_terms.new.made c.requires.different entry
    (λ us h. c.in_ok-translate_terms-in-App.ensures us (rw c.parts-args.ensures h) ∙ ap (λ ts. ts ++ map (st_term sig w) us) front)
    u (subst (λ n. named_term sig xs n ≡ Some u) is named))

pub translate_terms-translate_term-requires : goal.translate_terms-translate_term-requires
translate_terms-translate_term-requires t c =
    let s = c.args.checked.now.stored in
    let args = c.args.args.now in
    let i = c.loop-arg.arg-index in
    let within : i < length args = c.loop-arg-test.true in
    let before : IsArgument s.cells c.args.before (get_or args i 0) = c.requires.kind i 0 within in
    (omega (arith, c.decreases, before.below), (c.requires.different, (argument_within s.cells c.args.before (length s.cells) (get_or args i 0) c.requires.within before, term-member c.args.checked.now.signature c.args.binders.now s args i 0 within c.requires.named)))

pub translate_terms-loop-arg-preserved : goal.translate_terms-loop-arg-preserved
translate_terms-loop-arg-preserved t c =
    let s = c.args.checked.now.stored in
    let sig = c.args.checked.now.signature in
    let args = c.args.args.now in
    let i = c.loop-arg.arg-index in
    let one = term_at s (get_or args i 0) in
    rw (map_more (term_at s) args i 0 c.loop-arg-test.true, c.in_ok-push.ensures.pushed)
    (terms-step sig c.args.binders.now (term_of c.args.place) (map (term_at s) (take i args)) one c.args.made.now c.loop-arg.made c.in_ok-translated.translated c.loop-arg.invariant c.in_ok-translated.ensures)
