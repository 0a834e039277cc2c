-- Statements before what a step brings.
use Rattle.std.proofs.Common.{ℕ, List, [], ◌++◌, Result, Ok, Err, refl, sym, ap, ◌∙◌, append_assoc, append-nil}
use mathlib.Core.Logic.{inl, inr}
use Rattle.nxf_tree.specs.declared.tree.Statement.{Statement}
use Rattle.syntax_definitions.specs.declared.gather_error.GatherError.{GatherError}
use Rattle.syntax_definitions.specs.declared.visited.Visited.{Visited}
use Rattle.syntax_definitions.specs.Gathered.{BroughtBefore}
use Rattle.syntax_definitions.specs.OneAfterAnother.{Step, Is}

-- no statements before
pub before_none : (S : Step Visited) (result : Result Visited GatherError) → BroughtBefore [] S result → S result
before_none S (Ok whole) (inl (others, brought, is)) = rw is brought
before_none S (Err e) (inl (others, brought, is)) = absurd (cc)
before_none S (Ok whole) (inr (e, refused, is)) = absurd (cc)
before_none S (Err d) (inr (e, refused, is)) = rw is refused

-- statements before other statements
pub before_both : (xs ys : List Statement) (S : Step Visited) (result : Result Visited GatherError) → BroughtBefore (xs ++ ys) S result → BroughtBefore xs (BroughtBefore ys S) result
before_both xs ys S result (inl (others, brought, is)) =
    inl (record { statements = ys ++ others.statements; sum = others.sum }, inl (others, brought, refl), is ∙ ap (λ zs. Ok (record { statements = zs; sum = others.sum })) (append_assoc xs ys others.statements))
before_both xs ys S result (inr (e, refused, is)) = inr (e, inr (e, refused, refl), is)

-- a step whose results are results of another
pub before_wider : (xs : List Statement) (S T : Step Visited) → ((r : Result Visited GatherError) → S r → T r) → (result : Result Visited GatherError) → BroughtBefore xs S result → BroughtBefore xs T result
before_wider xs S T wider result (inl (others, brought, is)) = inl (others, wider (Ok others) brought, is)
before_wider xs S T wider result (inr (e, refused, is)) = inr (e, wider (Err e) refused, is)

-- nothing after
pub before_end : (xs : List Statement) (sum : ℕ) → BroughtBefore xs (Is (Ok (record { statements = []; sum = sum }))) (Ok (record { statements = xs; sum = sum }))
before_end xs sum = inl (record { statements = []; sum = sum }, refl, ap (λ zs. Ok (record { statements = zs; sum = sum })) (sym (append-nil xs)))
