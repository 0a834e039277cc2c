use Rattle.std.proofs.Common.{◌≡◌, ℕ, ◌+◌, ◌<◌, ◌++◌, ◌∷◌, true, false, List, [], map, take, get_or, subst, sym, ap, ◌∙◌, arith, rules}
use Rattle.std.specs.Prelude.{not}
use Rattle.std.specs.List.{All as Each, list_any}
use Rattle.nxf_tree.specs.Counting.{same_truth}
use Rattle.nxf_tree.specs.Rows.{size_at}
use Rattle.numbered_definitions.specs.declared.node.Node as node
use Rattle.numbered_definitions.specs.NamedForm.{NodeQuant}
use Rattle.formula_cells.specs.Expressions.{span_of}
use Rattle.formula_cells.specs.Stored.{IsPart, AreParts, node_at, term_at}
use Rattle.formula_cells.proofs.CallerLemmas.{good_read, node_read}
use Rattle.classical_evaluation_definitions.specs.ClassicalFitting.{Fits}
use Rattle.kripke_evaluation_definitions.specs.NumberedDepth.{node_depth, nodes_depth}
use Rattle.classical_evaluation_definitions.specs.ClassicalMeaning.{node_value, node_sat, predicate_in}
use Rattle.tf0_eval.proofs.FormulaCases.{depth_of_And, depth_of_Or, part-depth, sat_of_And, sat_of_Or, fits_of_And, fits_of_Or, each_part, any-map, all_is, any_below_there, beq_is}
use Rattle.tf0_eval.proofs.formulas.+holds_at.Goals as goal

pub some_part-holds_at-requires : goal.some_part-holds_at-requires
some_part-holds_at-requires g t c κs within =
    let s = c.args.here.prepared.now.stored in
    let view = c.args.here.view.now in
    let i = c.loop-part.part-index in
    let n = get_or c.args.parts.now i 0 in
    let part : IsPart s.cells c.args.at n = c.requires.parts i 0 c.loop-part-test.true in
    let fits : Fits view (take c.args.top c.args.stack.now) (node_at s n) = c.requires.fits i 0 c.loop-part-test.true in
    let deep = part-depth s c.args.parts.now i c.loop-part-test.true in (
      omega (arith, c.decreases, part.below),
      (
        search rules,
        (
          record { below = omega (arith, part.below, c.requires.cell); formula = part.formula },
          (
            omega (arith, deep, c.requires.depth, c.loop-part.auto.stack),
            (
              omega (arith, deep, c.requires.room, c.loop-part.auto.room),
              subst (λ (e : List ℕ). Fits view e (node_at s n)) (sym c.loop-part.invariant.kept) fits,
            ),
          ),
        ),
      ),
    )

pub holds_at-some_part-requires : goal.holds_at-some_part-requires
holds_at-some_part-requires g t c κs within =
    let s = c.args.here.prepared.now.stored in
    let view = c.args.here.view.now in
    let e = take c.args.top c.args.stack.now in
    let parts = span_of s.kids c.in-And.parts in
    let read : c.parts-parts.result.now ≡ parts = c.parts-parts.ensures in
    let is : node_at s c.args.at ≡ node.And (map (node_at s) parts) = node_read s c.args.at _ _ c.in-And.is c.cell.ensures.stands in
    let good : AreParts s.cells s.kids c.args.at c.in-And.parts = good_read s c.args.at _ _ c.in-And.is c.cell.ensures.good in
    let fits = fits_of_And view e (map (node_at s) parts) (subst (Fits view e) is c.requires.fits) in
    let deep : node_depth (node_at s c.args.at) ≡ nodes_depth (map (node_at s) c.parts-parts.result.now) + 1 =
    ap node_depth is ∙ depth_of_And (map (node_at s) parts) ∙ ap (λ (l : List ℕ). nodes_depth (map (node_at s) l) + 1) (sym read) in (
      omega (arith, c.decreases),
      (
        search rules,
        (
          omega (arith, c.requires.formula.below),
          (
            subst (Each (IsPart s.cells c.args.at)) (sym read) good.all,
            (
              omega (arith, deep, c.requires.depth),
              (omega (arith, deep, c.requires.room), subst (Each (λ n. Fits view e (node_at s n))) (sym read) (each_part view e s parts fits)),
            ),
          ),
        ),
      ),
    )

pub holds_at-some_part-requires-in-Or : goal.holds_at-some_part-requires-in-Or
holds_at-some_part-requires-in-Or g t c κs within =
    let s = c.args.here.prepared.now.stored in
    let view = c.args.here.view.now in
    let e = take c.args.top c.args.stack.now in
    let parts = span_of s.kids c.in-Or.parts in
    let read : c.parts-parts-in-Or.result.now ≡ parts = c.parts-parts-in-Or.ensures in
    let is : node_at s c.args.at ≡ node.Or (map (node_at s) parts) = node_read s c.args.at _ _ c.in-Or.is c.cell.ensures.stands in
    let good : AreParts s.cells s.kids c.args.at c.in-Or.parts = good_read s c.args.at _ _ c.in-Or.is c.cell.ensures.good in
    let fits = fits_of_Or view e (map (node_at s) parts) (subst (Fits view e) is c.requires.fits) in
    let deep : node_depth (node_at s c.args.at) ≡ nodes_depth (map (node_at s) c.parts-parts-in-Or.result.now) + 1 =
    ap node_depth is ∙ depth_of_Or (map (node_at s) parts) ∙ ap (λ (l : List ℕ). nodes_depth (map (node_at s) l) + 1) (sym read) in (
      omega (arith, c.decreases),
      (
        search rules,
        (
          omega (arith, c.requires.formula.below),
          (
            subst (Each (IsPart s.cells c.args.at)) (sym read) good.all,
            (
              omega (arith, deep, c.requires.depth),
              (omega (arith, deep, c.requires.room), subst (Each (λ n. Fits view e (node_at s n))) (sym read) (each_part view e s parts fits)),
            ),
          ),
        ),
      ),
    )

pub holds_at-returns-in-Atom-clause-value : goal.holds_at-returns-in-Atom-clause-value
holds_at-returns-in-Atom-clause-value g t c =
    let s = c.args.here.prepared.now.stored in
    let view = c.args.here.view.now in
    let e = take c.args.top c.args.stack.now in
    c.atom.ensures
    ∙ ap (λ (l : List ℕ). predicate_in view c.in-Atom.symbol (map (node_value view e) (map (term_at s) l))) c.parts-terms.ensures
    ∙ sym (ap (node_sat view e) (node_read s c.args.at _ _ c.in-Atom.is c.cell.ensures.stands))

pub holds_at-returns-in-And-clause-value : goal.holds_at-returns-in-And-clause-value
holds_at-returns-in-And-clause-value g t c =
    let s = c.args.here.prepared.now.stored in
    let view = c.args.here.view.now in
    let e = take c.args.top c.args.stack.now in
    let parts = span_of s.kids c.in-And.parts in
    let is : node_at s c.args.at ≡ node.And (map (node_at s) parts) = node_read s c.args.at _ _ c.in-And.is c.cell.ensures.stands in
    ap not (c.some_part.ensures.value ∙ ap (list_any (λ n. same_truth false (node_sat view e (node_at s n)))) c.parts-parts.ensures ∙ sym (any-map (λ n. not (node_sat view e n)) (node_at s) parts))
    ∙ sym (ap (node_sat view e) is ∙ sat_of_And view e (map (node_at s) parts))

pub holds_at-returns-in-Or-clause-value : goal.holds_at-returns-in-Or-clause-value
holds_at-returns-in-Or-clause-value g t c =
    let s = c.args.here.prepared.now.stored in
    let view = c.args.here.view.now in
    let e = take c.args.top c.args.stack.now in
    let parts = span_of s.kids c.in-Or.parts in
    let is : node_at s c.args.at ≡ node.Or (map (node_at s) parts) = node_read s c.args.at _ _ c.in-Or.is c.cell.ensures.stands in
    c.some_part-in-Or.ensures.value ∙ ap (list_any (λ n. same_truth true (node_sat view e (node_at s n)))) c.parts-parts-in-Or.ensures ∙ sym (any-map (node_sat view e) (node_at s) parts)
    ∙ sym (ap (node_sat view e) is ∙ sat_of_Or view e (map (node_at s) parts))

pub quantified-returns-in-All-clause-value : goal.quantified-returns-in-All-clause-value
quantified-returns-in-All-clause-value g t c = λ x.
    let view = c.args.here.view.now in
    let e = take c.args.top c.args.stack.now in
    let n = node_at c.args.here.prepared.now.stored c.args.body in
    ap not c.some_element.ensures.value
    ∙ sym (all_is (size_at view.sizes c.args.sort) (λ a. node_sat view (e ++ a ∷ []) n))
    ∙ sym (ap (λ q. node_sat view e (NodeQuant q c.args.sort x n)) c.in-All.is)

pub some_element-returns-then-holds_of-truth-clause-value : goal.some_element-returns-then-holds_of-truth-clause-value
some_element-returns-then-holds_of-truth-clause-value g t c =
    let view = c.args.here.view.now in
    let e = take c.args.top c.args.stack.now in
    let n = node_at c.args.here.prepared.now.stored c.args.body in
    let a = c.loop-element.element in
    let value : c.holds_of.result ≡ node_sat view (e ++ a ∷ []) n = c.holds_of.ensures.value ∙ ap (λ (l : List ℕ). node_sat view (l ++ a ∷ []) n) c.loop-element.invariant.kept in
    let told : same_truth c.args.truth (node_sat view (e ++ a ∷ []) n) ≡ true = ap (same_truth c.args.truth) (sym value) ∙ sym (beq_is c.holds_of.result c.args.truth) ∙ c.if-holds_of-truth.true in
    let below : a < size_at view.sizes c.args.sort = omega (arith, c.loop-element-test.true, c.size-element-end.ensures) in
    sym (any_below_there (size_at view.sizes c.args.sort) a (λ b. same_truth c.args.truth (node_sat view (e ++ b ∷ []) n)) below told)
