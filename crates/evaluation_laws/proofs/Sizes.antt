-- The size of a sort of values, where there is one.
use Rattle.std.proofs.Common.{◌≡◌, ℕ, refl, sym, ◌∙◌, subst}
use Rattle.std.specs.Prelude.{Option, None, Some}
use Rattle.std.specs.Option.{IsSome, option_map}

pub some-size : (f : ℕ → ℕ) (o values : Option ℕ) → values ≡ option_map f o → IsSome values → IsSome o
some-size f None values e h = absurd (let is : IsSome {T = ℕ} None = subst (λ (o : Option ℕ). IsSome o) e h in cc)
some-size f (Some n) values e h = refl

pub no-size : (f : ℕ → ℕ) (o values : Option ℕ) → values ≡ option_map f o → values ≡ None → o ≡ None
no-size f None values e h = refl
no-size f (Some n) values e h = absurd (let is : ◌≡◌ {A = Option ℕ} (Some (f n)) None = sym e ∙ h in cc)
