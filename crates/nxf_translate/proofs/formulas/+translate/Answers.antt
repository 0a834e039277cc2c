use Rattle.std.proofs.Common.{◌≡◌, suc, ◌<◌, ◌≤◌, length, get_or, take, ap, sym, ◌∙◌, subst, arith}
use Rattle.std.specs.Prelude.{map, slice_get}
use Rattle.std.proofs.lemmas.List.{map_more}
use Rattle.std.proofs.lemmas.Result.{IfOk-weaker}
use Rattle.nxf_tree.specs.declared.tree.Formula as formula
use Rattle.nxf_tree.specs.declared.tree.Signature.{Signature}
use Rattle.nxf_tree.specs.declared.tree.Term.{Var}
use Rattle.nxf_tree.specs.Names.{world_variable}
use Rattle.nxf_tree.specs.Embedding.{st}
use Rattle.numbered_definitions.specs.declared.node.Node as node
use Rattle.formula_cells.specs.Expressions.{span_of}
use Rattle.formula_cells.specs.Stored.{IsPart, AreParts, node_at, term_at}
use Rattle.formula_cells.proofs.CallerLemmas.{good_read, node_read, part_within}
use Rattle.nxf_translate.specs.steps.Forms.{HasForm, IsForm}
use Rattle.nxf_translate.specs.steps.Place.{term_of}
use Rattle.nxf_translate.proofs.Made.{made}
use Rattle.nxf_translate.proofs.Members.{form-member}
use Rattle.nxf_translate.proofs.FormCases.{and-parts, or-parts, pair-right, quant-sort, quant-body, not-is, and-is, or-is, pair-is, quant-is, modal-is, forms-step}
use Rattle.nxf_translate.proofs.formulas.+translate.Goals as goal

pub modality-returns-clause-translated : goal.modality-returns-clause-translated
modality-returns-clause-translated t c =
    let checked = c.args.here.checked.now in
    let n = node_at checked.stored c.args.body in
    let e : c.in-Some.next ≡ suc c.args.here.next = omega (arith, c.in-Some.ensures) in
    let entry = ap (λ (g : Signature). slice_get g.indexes c.args.index) (sym c.signature.ensures.value) ∙ c.get.ensures in
    made _ _ _ c.reached.ensures
    (modal-is checked.signature c.args.binders.now.items (term_of c.args.here.place) c.args.here.next c.args.mode c.args.index n c.get.result.now c.in_ok-body.body entry
    (λ g h. c.in_ok-body.ensures.translated g h ∙ ap (λ j. st checked.signature (Var (world_variable c.args.here.next)) j g) e))

pub negation-returns-clause-translated : goal.negation-returns-clause-translated
negation-returns-clause-translated t c =
    let checked = c.args.here.checked.now in
    let n = node_at checked.stored c.args.part in
    made _ _ _ c.negated.ensures
    (not-is checked.signature c.args.binders.now.items (term_of c.args.here.place) c.args.here.next n c.in_ok-part.part c.in_ok-part.ensures.translated)

pub quantification-translate-requires : goal.quantification-translate-requires
quantification-translate-requires t c =
    let checked = c.args.here.checked.now in
    let n = node_at checked.stored c.args.body in
    let inner = quant-body checked.signature c.args.binders.now.items c.args.quantifier c.args.sort c.args.variable.now n c.requires.named in
    (omega (arith, c.decreases), (c.requires.different, (c.requires.kind, rw c.in_ok-enter.ensures inner)))

pub quantification-get-sort-requires : goal.quantification-get-sort-requires
quantification-get-sort-requires t c =
    let checked = c.args.here.checked.now in
    let n = node_at checked.stored c.args.body in
    rw c.signature.ensures.value (quant-sort checked.signature c.args.binders.now.items c.args.quantifier c.args.sort c.args.variable.now n c.requires.named)

pub quantification-returns-clause-translated : goal.quantification-returns-clause-translated
quantification-returns-clause-translated t c =
    let checked = c.args.here.checked.now in
    let n = node_at checked.stored c.args.body in
    let inner = rw c.in_ok-enter.ensures at c.in_ok-body.ensures.translated in
    let entry = ap (λ (g : Signature). slice_get g.sorts c.args.sort) (sym c.signature.ensures.value) ∙ c.get-sort.ensures in
    made _ _ _ c.quantify.ensures
    (quant-is checked.signature c.args.binders.now.items (term_of c.args.here.place) c.args.here.next c.args.quantifier c.args.sort c.args.variable.now n c.get-sort.result.now c.in_ok-body.body c.requires.different entry inner)

pub translate_all-translate-requires : goal.translate_all-translate-requires
translate_all-translate-requires t c =
    let checked = c.args.here.checked.now in
    let s = checked.stored in
    let parts = c.args.parts.now in
    let i = c.loop-part.part-index in
    let within : i < length parts = c.loop-part-test.true in
    let before : IsPart s.cells c.args.before (get_or parts i 0) = c.requires.kind i 0 within in
    let this : HasForm checked.signature c.args.binders.now.items (node_at s (get_or parts i 0)) = form-member checked.signature c.args.binders.now.items s parts i 0 within c.requires.named in
    (omega (arith, c.decreases, before.below), (c.requires.different, (part_within s.cells c.args.before (length s.cells) (get_or parts i 0) c.requires.within before, rw c.loop-part.invariant.same this)))

pub translate_all-loop-part-preserved : goal.translate_all-loop-part-preserved
translate_all-loop-part-preserved t c =
    let checked = c.args.here.checked.now in
    let s = checked.stored in
    let xs = c.args.binders.now.items in
    let w = term_of c.args.here.place in
    let parts = c.args.parts.now in
    let i = c.loop-part.part-index in
    let one = node_at s (get_or parts i 0) in
    let this : IsForm checked.signature xs w c.args.here.next one c.in_ok-translated.translated = rw c.loop-part.invariant.same at c.in_ok-translated.ensures.translated in
    record {
      same = c.in_ok-translated.ensures.kept ∙ c.loop-part.invariant.same;
      so_far = rw (map_more (node_at s) parts i 0 c.loop-part-test.true, c.in_ok-push.ensures.pushed)
          (forms-step checked.signature xs w c.args.here.next (map (node_at s) (take i parts)) one c.loop-part.made c.in_ok-translated.translated c.loop-part.invariant.so_far this);
    }

pub two_sides-translate-requires-2 : goal.two_sides-translate-requires-2
two_sides-translate-requires-2 t c =
    let checked = c.args.here.checked.now in
    let node = node_at checked.stored in
    let right = pair-right checked.signature c.args.binders.now.items c.args.op (node c.args.left) (node c.args.right) c.requires.named in
    (omega (arith, c.decreases), (c.requires.different, (c.requires.right, rw c.in_ok-left.ensures.kept right)))

pub two_sides-returns-clause-translated : goal.two_sides-returns-clause-translated
two_sides-returns-clause-translated t c =
    let checked = c.args.here.checked.now in
    let node = node_at checked.stored in
    let r = rw c.in_ok-left.ensures.kept at c.in_ok-right.ensures.translated in
    made _ _ _ c.pair.ensures
    (pair-is checked.signature c.args.binders.now.items (term_of c.args.here.place) c.args.here.next c.args.op (node c.args.left) (node c.args.right) c.in_ok-left.left c.in_ok-right.right c.in_ok-left.ensures.translated r)

pub translate-translate_all-requires : goal.translate-translate_all-requires
translate-translate_all-requires t c =
    let checked = c.args.here.checked.now in
    let s = checked.stored in
    let xs = c.args.binders.now.items in
    let within : c.args.at ≤ length s.cells = omega (arith, c.requires.kind.below) in
    let good : AreParts s.cells s.kids c.args.at c.in-And.span = good_read s c.args.at _ _ c.in-And.is c.cell.ensures.good in
    let has = subst (HasForm checked.signature xs) (node_read s c.args.at _ _ c.in-And.is c.cell.ensures.stands) c.requires.named in
    let each = and-parts checked.signature xs (map (node_at s) (span_of s.kids c.in-And.span)) has in
    (omega (arith, c.decreases), (c.requires.different, (rw c.parts-parts.ensures good.all, (within, rw c.parts-parts.ensures each))))

pub translate-translate_all-requires-in-Or : goal.translate-translate_all-requires-in-Or
translate-translate_all-requires-in-Or t c =
    let checked = c.args.here.checked.now in
    let s = checked.stored in
    let xs = c.args.binders.now.items in
    let within : c.args.at ≤ length s.cells = omega (arith, c.requires.kind.below) in
    let good : AreParts s.cells s.kids c.args.at c.in-Or.span = good_read s c.args.at _ _ c.in-Or.is c.cell.ensures.good in
    let has = subst (HasForm checked.signature xs) (node_read s c.args.at _ _ c.in-Or.is c.cell.ensures.stands) c.requires.named in
    let each = or-parts checked.signature xs (map (node_at s) (span_of s.kids c.in-Or.span)) has in
    (omega (arith, c.decreases), (c.requires.different, (rw c.parts-parts-in-Or.ensures good.all, (within, rw c.parts-parts-in-Or.ensures each))))

pub translate-returns-in-Atom-clause-translated : goal.translate-returns-in-Atom-clause-translated
translate-returns-in-Atom-clause-translated t c =
    let checked = c.args.here.checked.now in
    let s = checked.stored in
    let w = term_of c.args.here.place in
    let d = c.args.here.next in
    let atom = node.Atom c.in-Atom.number (map (term_at s) c.parts-args.result.now) in
    let is : node_at s c.args.at ≡ atom =
    node_read s c.args.at _ _ c.in-Atom.is c.cell.ensures.stands ∙ ap (λ args. node.Atom c.in-Atom.number (map (term_at s) args)) (sym c.parts-args.ensures) in
    IfOk-weaker _ _ _ (λ f h.
    subst (λ n. IsForm checked.signature c.args.binders.now.items w d n f) (sym is) (subst (λ xs. IsForm checked.signature xs w d atom f) c.as_slice.ensures.value (h d))) c.atom.ensures

pub translate-returns-in_ok-translate_all-in-And-clause-translated : goal.translate-returns-in_ok-translate_all-in-And-clause-translated
translate-returns-in_ok-translate_all-in-And-clause-translated t c =
    let checked = c.args.here.checked.now in
    let s = checked.stored in
    let nodes = map (node_at s) c.parts-parts.result.now in
    let fs = c.in_ok-translate_all-in-And.field-0 in
    let is : node_at s c.args.at ≡ node.And nodes =
    node_read s c.args.at _ _ c.in-And.is c.cell.ensures.stands ∙ ap (λ parts. node.And (map (node_at s) parts)) (sym c.parts-parts.ensures) in
    let made = and-is checked.signature c.args.binders.now.items (term_of c.args.here.place) c.args.here.next nodes fs c.in_ok-translate_all-in-And.ensures.translated in
    subst (λ n. IsForm checked.signature c.args.binders.now.items (term_of c.args.here.place) c.args.here.next n (formula.And fs)) (sym is) made

pub translate-returns-in_ok-translate_all-in-Or-clause-translated : goal.translate-returns-in_ok-translate_all-in-Or-clause-translated
translate-returns-in_ok-translate_all-in-Or-clause-translated t c =
    let checked = c.args.here.checked.now in
    let s = checked.stored in
    let nodes = map (node_at s) c.parts-parts-in-Or.result.now in
    let fs = c.in_ok-translate_all-in-Or.field-0 in
    let is : node_at s c.args.at ≡ node.Or nodes =
    node_read s c.args.at _ _ c.in-Or.is c.cell.ensures.stands ∙ ap (λ parts. node.Or (map (node_at s) parts)) (sym c.parts-parts-in-Or.ensures) in
    let made = or-is checked.signature c.args.binders.now.items (term_of c.args.here.place) c.args.here.next nodes fs c.in_ok-translate_all-in-Or.ensures.translated in
    subst (λ n. IsForm checked.signature c.args.binders.now.items (term_of c.args.here.place) c.args.here.next n (formula.Or fs)) (sym is) made
