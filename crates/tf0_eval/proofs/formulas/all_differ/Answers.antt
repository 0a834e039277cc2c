use Rattle.std.proofs.Common.{◌≡◌, ℕ, ◌+◌, true, false, List, drop, get_or, map, sym, ap, ◌∙◌, arith}
use Rattle.std.specs.Prelude.{◌&&◌, nat_eq, not}
use Rattle.std.specs.List.{list_any}
use Rattle.nxf_tree.specs.Counting.{all_different}
use Rattle.formula_cells.specs.Stored.{term_at}
use Rattle.kripke_evaluation_definitions.specs.NumberedDepth.{terms_depth}
use Rattle.classical_evaluation_definitions.specs.ClassicalMeaning.{node_value}
use Rattle.tf0_eval.proofs.TermCases.{argument-depth, differ_step, rest_is, rest_depth}
use Rattle.tf0_eval.proofs.formulas.all_differ.Goals as goal

pub value_at-value-requires-clause-room : goal.value_at-value-requires-clause-room
value_at-value-requires-clause-room g c =
    omega (arith, c.requires.room, argument-depth c.args.here.prepared.now.stored c.args.terms.now c.loop-i.i c.loop-i-test.true, c.loop-i.auto.room)

pub has_value-requires-clause-room : goal.has_value-requires-clause-room
has_value-requires-clause-room g c =
    let s = c.args.here.prepared.now.stored in
    let terms = c.args.terms.now in
    let i = c.loop-i.i in
    omega (arith, c.requires.room, ap (λ (l : List ℕ). terms_depth (map (term_at s) l)) (rest_is terms i), rest_depth (term_at s) terms (i + 1), c.loop-i.auto.room, c.value_at-value.auto.room)

pub returns-then-has_value : goal.returns-then-has_value
returns-then-has_value g c =
    let value = λ (n : ℕ). node_value c.args.here.view.now c.args.stack.now (term_at c.args.here.prepared.now.stored n) in
    let terms = c.args.terms.now in
    let i = c.loop-i.i in
    let told : list_any (λ n. nat_eq (value n) (value (get_or terms i 0))) (drop (i + 1) terms) ≡ true =
    ap (λ (x : ℕ). list_any (λ n. nat_eq (value n) x) (drop (i + 1) terms)) (sym c.value_at-value.ensures)
    ∙ ap (list_any (λ n. nat_eq (value n) c.value_at-value.result)) (sym (rest_is terms i))
    ∙ sym c.has_value.ensures
    ∙ c.if-has_value.true in
    sym (c.loop-i.invariant ∙ differ_step value terms i c.loop-i-test.true ∙ ap (λ b. not b && all_different nat_eq (map value (drop (i + 1) terms))) told)

pub loop-i-preserved : goal.loop-i-preserved
loop-i-preserved g c =
    let value = λ (n : ℕ). node_value c.args.here.view.now c.args.stack.now (term_at c.args.here.prepared.now.stored n) in
    let terms = c.args.terms.now in
    let i = c.loop-i.i in
    let told : list_any (λ n. nat_eq (value n) (value (get_or terms i 0))) (drop (i + 1) terms) ≡ false =
    ap (λ (x : ℕ). list_any (λ n. nat_eq (value n) x) (drop (i + 1) terms)) (sym c.value_at-value.ensures)
    ∙ ap (list_any (λ n. nat_eq (value n) c.value_at-value.result)) (sym (rest_is terms i))
    ∙ sym c.has_value.ensures
    ∙ c.if-has_value.false in
    c.loop-i.invariant ∙ differ_step value terms i c.loop-i-test.true ∙ ap (λ b. not b && all_different nat_eq (map value (drop (i + 1) terms))) told
