-- The overrides of a file's logic statement are those of its specification.
use Rattle.std.proofs.Common.{◌≡◌, ℕ, suc, List, [], ◌∷◌, ◌++◌, refl, sym, ap, ◌∙◌}
use Rattle.std.specs.Prelude.{flat_map, Option, None, Some, Ok}
use Rattle.nxf_base.specs.declared.status.SpecKind.{SpecKind}
use Rattle.nxf_tree.specs.declared.tree.Override.{Override}
use Rattle.nxf_tree.specs.declared.tree.Typing.TheVariants.{Individual as IsIndividual, Sort, Symbol}
use Rattle.nxf_tree.specs.declared.tree.Body.TheVariants.{Formula as IsFormula, Typing as IsTyping, Logic as IsLogic}
use Rattle.nxf_tree.specs.declared.tree.LogicSpec.{LogicSpec}
use Rattle.nxf_tree.specs.declared.tree.Statement.{Statement}
use Rattle.nxf_tree.specs.declared.tree.Statement.TheVariants.{Annotated, Include}
use Rattle.nxf_tree.specs.Faults.{unless}
use Rattle.nxf_tree.specs.Occurrences.{occurrences, key_occurrences, override_occurrences, occurrences_in}
use Rattle.nxf_tree.specs.Specification.{Specification, override_list, specification, logic_fault, logic_statements, only_logic}
use Rattle.nxf_signatures.specs.steps.Tables.{key_occurrences_in, occurrences_with}

-- each of the logic statements has these overrides
AllAsk : List Override → List (ℕ × LogicSpec) → Type 0
AllAsk os [] = Unit {0}
AllAsk os (l ∷ ls) = (override_list l.1.entries ≡ os) × AllAsk os ls

overrides_are : (os : List Override) → override_occurrences os ≡ key_occurrences_in os
overrides_are [] = refl
overrides_are (o ∷ os) = ap (λ ms. key_occurrences o.key ++ ms) (overrides_are os)

marks_are : (os : List Override) (k : ℕ) (ss : List Statement) → AllAsk os (logic_statements k ss) → flat_map (occurrences_with os) ss ≡ occurrences_in ss
unfolding AllAsk
marks_are os k [] h = refl
marks_are os k (Annotated name role (IsFormula f) ∷ ss) h = ap (λ ms. occurrences f ++ ms) (marks_are os (suc k) ss h)
marks_are os k (Annotated name role (IsTyping IsIndividual) ∷ ss) h = ap (λ ms. occurrences_with os (Annotated name role (IsTyping IsIndividual)) ++ ms) (marks_are os (suc k) ss h)
marks_are os k (Annotated name role (IsTyping (Sort s)) ∷ ss) h = marks_are os (suc k) ss h
marks_are os k (Annotated name role (IsTyping (Symbol f args gives)) ∷ ss) h = ap (λ ms. occurrences_with os (Annotated name role (IsTyping (Symbol f args gives))) ++ ms) (marks_are os (suc k) ss h)
marks_are os k (Annotated name role (IsLogic l) ∷ ss) h =
    (λ i. (sym (overrides_are os) ∙ ap override_occurrences (sym h.0)) i ++ marks_are os (suc k) ss h.1 i)
marks_are os k (Include file names ∷ ss) h = marks_are os (suc k) ss h

asked : (ls : List (ℕ × LogicSpec)) (spec : Specification) → only_logic ls ≡ Ok spec → AllAsk spec.overrides ls
unfolding AllAsk
asked [] spec h = absurd cc
asked (l ∷ []) spec h = (by (logic_fault l.1) h, tt)
  where
    by : (fault : Option SpecKind) → unless fault (specification l.0 l.1.entries) ≡ Ok spec → override_list l.1.entries ≡ spec.overrides
    by None e = let is : specification l.0 l.1.entries ≡ spec = cc in ap (λ (s : Specification). s.overrides) is
    by (Some kind) e = absurd cc
asked (l ∷ m ∷ ls) spec h = absurd cc

-- what occurs in the statements, where the specification is that of their logic statement
pub marks_of : (spec : Specification) (ss : List Statement) → only_logic (logic_statements 1 ss) ≡ Ok spec → flat_map (occurrences_with spec.overrides) ss ≡ occurrences_in ss
marks_of spec ss h = marks_are spec.overrides 1 ss (asked (logic_statements 1 ss) spec h)
