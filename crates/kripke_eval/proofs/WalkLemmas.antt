-- One step of the walk over formulas and parts.
use Rattle.std.proofs.Common.{◌≡◌, ℕ, ◌+◌, ◌<◌, ◌≤◌, Bool, true, false, List, [], ◌∷◌, length, drop, get_or, refl, sym, ap, ◌∙◌}
use mathlib.Core.Bool.{beq}
use Rattle.std.specs.Prelude.{nat_eq, if◌then◌else◌, slice_get, Option, None, Some}
use Rattle.std.specs.Option.{option_map}
use Rattle.std.proofs.lemmas.List.{drop_more, drop_all}
use Rattle.std.proofs.lemmas.Option.{slice_get-get_or, slice_get_within, get_or_from_slice_get}
use Rattle.nxf_tree.specs.declared.tree.Part.{Part}
use Rattle.nxf_tree.specs.declared.tree.PartEntry.{PartEntry}
use Rattle.nxf_tree.specs.Parts.{is_conjecture}
use Rattle.fin_struct.specs.KripkeTables.{KripkeTables}
use Rattle.numbered_definitions.specs.declared.node.Node.{Node}
use Rattle.numbered_definitions.specs.declared.node.Node as node
use Rattle.numbered_definitions.specs.declared.node.Numbered.{Numbered}
use Rattle.kripke_evaluation_definitions.specs.FileConditions.{condition_of, node_meets}
use Rattle.kripke_eval.specs.steps.Judging.{passes, first_unmet, unmet_from}

-- what is read of a member
pub of-member : {X Y : Type 0} (f : X → Y) (o : Option X) (x : X) (y : Y) → o ≡ Some x → option_map f o ≡ Some y → f x ≡ y
of-member f None x y e h = absurd cc
of-member f (Some z) x y e h = let same : z ≡ x = cc in let is : f z ≡ y = cc in ap f (sym same) ∙ is

drop-member : {X : Type 0} (xs : List X) (i : ℕ) (x : X) → slice_get xs i ≡ Some x → drop i xs ≡ x ∷ drop (i + 1) xs
drop-member xs i x h = drop_more xs i x (slice_get_within xs i x h) ∙ ap (λ y. y ∷ drop (i + 1) xs) (get_or_from_slice_get xs i x x h)

no-parts : (test : Part → Node → Bool) (ns : List Numbered) → first_unmet test ns [] ≡ None
no-parts test [] = refl
no-parts test (n ∷ ns) = refl

-- the formula at a place
pub record There (ns : List Numbered) (at : ℕ) : Type 0 where
  pub formula : Numbered
  pub is : slice_get ns at ≡ Some formula

pub there : (ns : List Numbered) (at : ℕ) → at < length ns → There ns at
there ns at l =
    let blank : Numbered = record { place = 0; name = []; node = node.True } in
    record { formula = get_or ns at blank; is = slice_get-get_or ns at blank l }

module _ (view : KripkeTables) (conjecture : Bool) (ns : List Numbered) (ps : List PartEntry) (at next : ℕ) where
  abbrev test : Part → Node → Bool
  test = passes view conjecture

  pub none-left : length ps ≤ next → unmet_from view conjecture ns ps at next ≡ unmet_from view conjecture ns ps (at + 1) next
  none-left l =
      let none = drop_all next ps l in
      ap (first_unmet test (drop at ns)) none ∙ no-parts test (drop at ns) ∙ sym (ap (first_unmet test (drop (at + 1) ns)) none ∙ no-parts test (drop (at + 1) ns))

  module _ (n : Numbered) (p : PartEntry) (at-is : slice_get ns at ≡ Some n) (next-is : slice_get ps next ≡ Some p) where
    step : unmet_from view conjecture ns ps at next ≡ first_unmet test (n ∷ drop (at + 1) ns) (p ∷ drop (next + 1) ps)
    step = λ i. first_unmet test (drop-member ns at n at-is i) (drop-member ps next p next-is i)

    pub other-place : nat_eq p.place n.place ≡ false → unmet_from view conjecture ns ps at next ≡ unmet_from view conjecture ns ps (at + 1) next
    other-place h =
        step
        ∙ ap (λ b. if b then (if test p.part n.node then first_unmet test (drop (at + 1) ns) (drop (next + 1) ps) else Some (condition_of p.place p.part)) else first_unmet test (drop (at + 1) ns) (p ∷ drop (next + 1) ps)) h
        ∙ ap (first_unmet test (drop (at + 1) ns)) (sym (drop-member ps next p next-is))

    own-place : (b : Bool) → nat_eq p.place n.place ≡ true → test p.part n.node ≡ b → unmet_from view conjecture ns ps at next ≡ (if b then unmet_from view conjecture ns ps (at + 1) (next + 1) else Some (condition_of p.place p.part))
    own-place b h k =
        step
        ∙ ap (λ c. if c then (if test p.part n.node then first_unmet test (drop (at + 1) ns) (drop (next + 1) ps) else Some (condition_of p.place p.part)) else first_unmet test (drop (at + 1) ns) (p ∷ drop (next + 1) ps)) h
        ∙ ap (λ c. if c then first_unmet test (drop (at + 1) ns) (drop (next + 1) ps) else Some (condition_of p.place p.part)) k

    pub other-kind : nat_eq p.place n.place ≡ true → beq (is_conjecture (Some p.part)) conjecture ≡ false → unmet_from view conjecture ns ps at next ≡ unmet_from view conjecture ns ps (at + 1) (next + 1)
    other-kind h k = own-place true h (ap (λ b. if b then node_meets view p.part n.node else true) k)

    pub met : nat_eq p.place n.place ≡ true → beq (is_conjecture (Some p.part)) conjecture ≡ true → node_meets view p.part n.node ≡ true → unmet_from view conjecture ns ps at next ≡ unmet_from view conjecture ns ps (at + 1) (next + 1)
    met h k m = own-place true h (ap (λ b. if b then node_meets view p.part n.node else true) k ∙ m)

    pub unmet : nat_eq p.place n.place ≡ true → beq (is_conjecture (Some p.part)) conjecture ≡ true → node_meets view p.part n.node ≡ false → unmet_from view conjecture ns ps at next ≡ Some (condition_of p.place p.part)
    unmet h k m = own-place false h (ap (λ b. if b then node_meets view p.part n.node else true) k ∙ m)
