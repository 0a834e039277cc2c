-- One more formula is as its role asks.
use Rattle.std.proofs.Common.{◌≡◌, ℕ, ◌+◌, Bool, true, List, take, Option, None, Some, refl, ap, ap₂, ◌∙◌}
use Rattle.std.specs.Prelude.{◌&&◌, slice_get}
use Rattle.std.specs.Option.{option_map}
use Rattle.std.specs.List.{list_all}
use Rattle.std.proofs.lemmas.List.Folds.{list_all_more}
use Rattle.std.proofs.lemmas.Option.{slice_get_within, get_or_from_slice_get}

module _ {X : Type 0} (p : X → Bool) (xs : List X) (i : ℕ) (b : Bool) (front : list_all p (take i xs) ≡ true) (passes : b ≡ true) where
  by : (o : Option X) → slice_get xs i ≡ o → option_map p o ≡ Some b → list_all p (take (i + 1) xs) ≡ true
  by None there e = absurd cc
  by (Some x) there e =
      let is : p x ≡ b = cc in
      list_all_more p xs i x (slice_get_within xs i x there) ∙ ap₂ (λ a c. a && c) front (ap p (get_or_from_slice_get xs i x x there) ∙ is ∙ passes)

  pub one_more : option_map p (slice_get xs i) ≡ Some b → list_all p (take (i + 1) xs) ≡ true
  one_more is = by (slice_get xs i) refl is
