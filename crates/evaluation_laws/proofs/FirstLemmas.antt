-- The first that fails of lists that are joined, and under tests that agree.
use Rattle.std.proofs.Common.{◌≡◌, Bool, true, List, [], ◌∷◌, ◌++◌, Option, None, Some, refl, sym, ap, ◌∙◌, append_assoc}
use Rattle.std.specs.Prelude.{◌&&◌}
use Rattle.std.specs.Option.{option_or}
use Rattle.std.specs.List.{list_all}
use Rattle.std.proofs.lemmas.Bool.{and_from}
use Rattle.std.proofs.lemmas.List.Folds.{list_all-append}
use Rattle.name_laws.proofs.Types.{split}
use Rattle.fin_struct.specs.FirstFault.{IsFirstFailing}

module _ {X : Type 0} where
  pub joined-first : (holds : X → Bool) (xs ys : List X) (found other : Option X) → IsFirstFailing holds xs found → IsFirstFailing holds ys other → IsFirstFailing holds (xs ++ ys) (option_or found other)
  joined-first holds xs ys None None h k = list_all-append holds xs ys ∙ and_from _ _ h k
  joined-first holds xs ys None (Some y) h k = record {
    before = xs ++ k.before;
    after = k.after;
    parts = ap (λ l. xs ++ l) k.parts ∙ sym (append_assoc xs k.before (y ∷ k.after));
    hold = list_all-append holds xs k.before ∙ and_from _ _ h k.hold;
    fails = k.fails;
  }
  joined-first holds xs ys (Some x) other h k = record {
    before = h.before;
    after = h.after ++ ys;
    parts = ap (λ l. l ++ ys) h.parts ∙ append_assoc h.before (x ∷ h.after) ys;
    hold = h.hold;
    fails = h.fails;
  }

  module _ (own p q : X → Bool) (agree : (x : X) → own x ≡ true → p x ≡ q x) where
    pub all-agree : (xs : List X) → list_all own xs ≡ true → list_all p xs ≡ list_all q xs
    all-agree [] h = refl
    all-agree (x ∷ xs) h = let parts = split (own x) _ h in (λ i. agree x parts.0 i && all-agree xs parts.1 i)

    pub first-agrees : (xs : List X) (found : Option X) → list_all own xs ≡ true → IsFirstFailing p xs found → IsFirstFailing q xs found
    first-agrees xs None h k = sym (all-agree xs h) ∙ k
    first-agrees xs (Some x) h k =
        let whole : list_all own k.before && (own x && list_all own k.after) ≡ true = sym (list_all-append own k.before (x ∷ k.after)) ∙ ap (list_all own) (sym k.parts) ∙ h in
        let front = split (list_all own k.before) _ whole in
        let here = split (own x) _ front.1 in
        record { before = k.before; after = k.after; parts = k.parts; hold = sym (all-agree k.before front.0) ∙ k.hold; fails = sym (agree x here.0) ∙ k.fails }
