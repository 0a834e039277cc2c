use Rattle.std.proofs.Common.{◌≡◌, ℕ, List, [], drop, sym, subst, refl, ap, ◌∙◌}
use Rattle.fin_struct.proofs.WalkLemmas.{walk-next, walk-over}
use Rattle.fin_struct.proofs.rows.Rows.advance.Goals as goal

pub returns-then-self : goal.returns-then-self
returns-then-self c = let w = c.self.inside in walk-next w.sizes.items w.at ∙ ap (λ (rows : List (List ℕ)). drop 1 rows) c.self.view_is

pub returns-else-self : goal.returns-else-self
returns-else-self c =
    let w = c.self.inside in
    let none : c.args.self.now ≡ [] = sym c.self.view_is ∙ walk-over w.sizes.items w.row.items w.at w.rows c.self.invariant c.if-self.false in
    subst (λ (rows : List (List ℕ)). rows ≡ drop 1 rows) (sym none) refl
