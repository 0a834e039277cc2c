-- The conditions of the schemes world by world and step by step, as loops test them.
use Rattle.std.specs.Prelude.{ℕ, Bool, true, ◌&&◌, nat_eq}
use Rattle.nxf_tree.specs.declared.tree.Scheme.{Scheme}
use Rattle.nxf_tree.specs.declared.tree.Scheme.TheVariants.{T, D, B, Four, Five, CD, BoxM, C4, C, U}
use Rattle.nxf_tree.specs.Counting.{all_below, any_below, implies}

-- each world that world o reaches, world w reaches
abbrev pub reaches_what : ℕ → (ℕ → ℕ → Bool) → ℕ → ℕ → Bool
reaches_what n R w o = all_below n (λ u. implies (R o u) (R w u))

-- each world that world w reaches, reaches one that world o reaches
abbrev pub meets_each : ℕ → (ℕ → ℕ → Bool) → ℕ → ℕ → Bool
meets_each n R w o = all_below n (λ u. implies (R w u) (any_below n (λ x. R o x && R u x)))

-- what a step from world w to world v must meet; T, D and U don't speak of steps
abbrev pub meets_step : Scheme → ℕ → (ℕ → ℕ → Bool) → ℕ → ℕ → Bool
meets_step T n R w v = true
meets_step D n R w v = true
meets_step B n R w v = R v w
meets_step Four n R w v = reaches_what n R w v
meets_step Five n R w v = reaches_what n R v w
meets_step CD n R w v = all_below n (λ u. implies (R w u) (nat_eq v u))
meets_step BoxM n R w v = R v v
meets_step C4 n R w v = any_below n (λ u. R w u && R u v)
meets_step C n R w v = meets_each n R w v
meets_step U n R w v = true

-- each step from world w meets the scheme
abbrev pub steps_meet : Scheme → ℕ → (ℕ → ℕ → Bool) → ℕ → Bool
steps_meet scheme n R w = all_below n (λ v. implies (R w v) (meets_step scheme n R w v))

-- what a world w must meet
abbrev pub meets_at : Scheme → ℕ → (ℕ → ℕ → Bool) → ℕ → Bool
meets_at T n R w = R w w
meets_at D n R w = any_below n (λ v. R w v)
meets_at B n R w = steps_meet B n R w
meets_at Four n R w = steps_meet Four n R w
meets_at Five n R w = steps_meet Five n R w
meets_at CD n R w = steps_meet CD n R w
meets_at BoxM n R w = steps_meet BoxM n R w
meets_at C4 n R w = steps_meet C4 n R w
meets_at C n R w = steps_meet C n R w
meets_at U n R w = all_below n (λ v. R w v)
