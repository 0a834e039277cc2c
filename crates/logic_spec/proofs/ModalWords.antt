-- The tables of the code are those of the definitions, and a list has what one of its members is.
use Rattle.std.proofs.Common.{◌≡◌, ℕ, Bool, List, [], ◌∷◌, ◌++◌, Option, Some, map, refl, ap, ◌∙◌}
use Rattle.std.specs.Prelude.{codes, if◌then◌else◌, ◌||◌}
use Rattle.std.specs.List.{list_any}
use Rattle.nxf_tree.specs.declared.tree.Scheme.{Scheme}
use Rattle.nxf_tree.specs.Names.{same_text}
use Rattle.nxf_tree.specs.Counting.{has}
use Rattle.nxf_tree.specs.SpecificationWords.{word_named, modal_systems, modal_axioms, system_named, axiom_named}
use Rattle.logic_spec.specs.declared.words.TheConstants.{MODAL_SYSTEMS, MODAL_AXIOMS}

pub has_any : {A : Type 0} (same : A → A → Bool) (x : A) (ys : List A) → has same x ys ≡ list_any (λ y. same y x) ys
has_any same x [] = refl
has_any same x (y ∷ ys) = ap (λ b. same y x || b) (has_any same x ys)

named_marked : {A : Type 0} (mark : List ℕ) (entries : List (List ℕ × A)) (word : List ℕ) → word_named [] (map (λ (e : List ℕ × A). (mark ++ e.0, e.1)) entries) word ≡ word_named mark entries word
named_marked mark [] word = refl
named_marked {A = A} mark (e ∷ entries) word = ap (λ (r : Option A). if same_text (mark ++ e.0) word then Some e.1 else r) (named_marked mark entries word)

systems_are : ◌≡◌ {A = List (List ℕ × List Scheme)} (map (λ e. (e.0.now, e.1.now)) MODAL_SYSTEMS) (map (λ e. (codes "$modal_system_" ++ e.0, e.1)) modal_systems)
systems_are = refl

axioms_are : ◌≡◌ {A = List (List ℕ × List Scheme)} (map (λ e. (e.0.now, e.1.now)) MODAL_AXIOMS) (map (λ e. (codes "$modal_axiom_" ++ e.0, e.1)) modal_axioms)
axioms_are = refl

pub of_system : (word : List ℕ) → word_named {A = List Scheme} [] (map (λ e. (e.0.now, e.1.now)) MODAL_SYSTEMS) word ≡ system_named word
unfolding system_named
of_system word = ap (λ entries. word_named [] entries word) systems_are ∙ named_marked (codes "$modal_system_") modal_systems word

pub of_axiom : (word : List ℕ) → word_named {A = List Scheme} [] (map (λ e. (e.0.now, e.1.now)) MODAL_AXIOMS) word ≡ axiom_named word
unfolding axiom_named
of_axiom word = ap (λ entries. word_named [] entries word) axioms_are ∙ named_marked (codes "$modal_axiom_") modal_axioms word
