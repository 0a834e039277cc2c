-- Values that are made of parts, where they are there.
use Rattle.std.proofs.Common.{◌≡◌, refl}
use Rattle.std.specs.Prelude.{Option, None, Some}
use Rattle.std.specs.Option.{option_map}
use Rattle.numbered_definitions.specs.NamedForm.{both}

module _ {A B P : Type 0} where
  pub mapped : (f : A → B) (o : Option A) (y : B) → option_map f o ≡ Some y → ((x : A) → o ≡ Some x → f x ≡ y → P) → P
  mapped f None y h k = absurd cc
  mapped f (Some x) y h k = k x refl cc

module _ {A B C P : Type 0} where
  pub joined : (f : A → B → C) (a : Option A) (b : Option B) (z : C) → both f a b ≡ Some z → ((x : A) (y : B) → a ≡ Some x → b ≡ Some y → f x y ≡ z → P) → P
  joined f None b z h k = absurd cc
  joined f (Some x) None z h k = absurd cc
  joined f (Some x) (Some y) z h k = k x y refl refl cc
