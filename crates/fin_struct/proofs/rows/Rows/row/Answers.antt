use Rattle.std.proofs.Common.{◌≡◌, ℕ, List, ◌∷◌, drop, sym, subst, ap, ◌∙◌}
use Rattle.nxf_tree.specs.Rows.{all_rows}
use Rattle.fin_struct.proofs.WalkLemmas.{walk-row, walk-over}
use Rattle.fin_struct.proofs.rows.Rows.row.Goals as goal

pub returns-then-self : goal.returns-then-self
returns-then-self c =
    let w = c.self.inside in
    subst (λ (rows : List (List ℕ)). rows ≡ c.as_slice.result.now ∷ drop 1 rows) c.self.view_is
    (walk-row w.sizes.items w.row.items w.at w.rows c.self.invariant c.if-self.true ∙ ap (λ (row : List ℕ). row ∷ drop 1 (drop w.at (all_rows w.sizes.items))) (sym c.as_slice.ensures.value))

pub returns-else-self : goal.returns-else-self
returns-else-self c =
    let w = c.self.inside in
    sym c.self.view_is ∙ walk-over w.sizes.items w.row.items w.at w.rows c.self.invariant c.if-self.false
