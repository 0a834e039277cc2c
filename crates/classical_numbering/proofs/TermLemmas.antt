-- Numbered terms by the terms that they stand for.
use Rattle.std.proofs.Common.{◌≡◌, ℕ, zero, suc, ◌<◌, ◌≤◌, List, [], ◌∷◌, ◌++◌, length, get_or, Option, None, Some, refl, ap, ◌∙◌, arith}
use Rattle.nxf_tree.specs.declared.tree.ClassicalSignature.{ClassicalSignature}
use Rattle.nxf_tree.specs.declared.tree.Term.{Term, App}
use Rattle.nxf_tree.specs.Depth.{term_depth, list_depth}
use Rattle.numbered_definitions.specs.declared.node.NTerm.{NTerm, Row_of-NTerm, end_of-NTerm, more_of-NTerm}
use Rattle.numbered_definitions.specs.declared.node.NTerm as numbered
use Rattle.numbered_definitions.specs.declared.node.NTerm.TheBlock.{hidden-the_row-NTerm-0, items-the_row-NTerm, items_hidden-the_row-NTerm-0}
use Rattle.numbered_definitions.specs.NamedForm.{both}
use Rattle.classical_evaluation_definitions.specs.ClassicalForm.{function_name, named_term, named_row, named_terms}

-- a term of a list is no deeper than the deepest
pub term_within : (ts : List Term) (i : ℕ) (d : Term) → i < length ts → term_depth (get_or ts i d) ≤ list_depth ts
term_within [] i d l = absurd (omega (arith, l))
term_within (t ∷ ts) zero d l = omega arith
term_within (t ∷ ts) (suc i) d l = omega (arith, term_within ts i d (omega (arith, l)))

some_is : {X : Type 0} {a b : X} → ◌≡◌ {A = Option X} (Some a) (Some b) → a ≡ b
some_is h = cc

-- one more behind all that are there
pub none_push : {X : Type 0} (t : X) (ts : List X) (o : Option X) → ◌≡◌ {A = Option (List X)} (Some []) (Some ts) → o ≡ Some t → both (λ u us. u ∷ us) o (Some []) ≡ Some (ts ++ t ∷ [])
none_push t ts o h k = ap (λ p. both (λ u us. u ∷ us) p (Some [])) k ∙ ap (λ us. Some (us ++ t ∷ [])) (some_is h)

pub both_push : {X : Type 0} (t : X) (ts : List X) (o : Option X) (p q : Option (List X)) → ((us : List X) → p ≡ Some us → q ≡ Some (us ++ t ∷ [])) → both (λ u us. u ∷ us) o p ≡ Some ts → both (λ u us. u ∷ us) o q ≡ Some (ts ++ t ∷ [])
both_push t ts None p q next e = absurd cc
both_push t ts (Some u) None q next e = absurd cc
both_push t ts (Some u) (Some us) q next e = ap (both (λ v vs. v ∷ vs) (Some u)) (next us refl) ∙ ap (λ vs. Some (vs ++ t ∷ [])) (some_is e)

module _ (csig : ClassicalSignature) (xs : List (List ℕ)) where
  rows_named : {m : _} (ns : Row_of-NTerm m) → named_row csig xs ns ≡ named_terms csig xs (items-the_row-NTerm _ ns)
  rows_named end_of-NTerm = refl
  rows_named (more_of-NTerm n ns) = ap (both (λ t ts. t ∷ ts) (named_term csig xs n)) (rows_named ns)

  pub named_App : (k : ℕ) (f : List ℕ) (ns : List NTerm) (ts : List Term) → function_name csig k ≡ Some f → named_terms csig xs ns ≡ Some ts → named_term csig xs (numbered.App k ns) ≡ Some (App f ts)
  named_App k f ns ts h args =
      ap (both App (function_name csig k)) (rows_named (hidden-the_row-NTerm-0 ns) ∙ ap (named_terms csig xs) (items_hidden-the_row-NTerm-0 ns))
      ∙ (λ i. both App (h i) (args i))

  pub terms_push : (ns : List NTerm) (ts : List Term) (n : NTerm) (t : Term) → named_terms csig xs ns ≡ Some ts → named_term csig xs n ≡ Some t → named_terms csig xs (ns ++ n ∷ []) ≡ Some (ts ++ t ∷ [])
  terms_push [] ts n t h k = none_push t ts (named_term csig xs n) h k
  terms_push (m ∷ ns) ts n t h k = both_push t ts (named_term csig xs m) (named_terms csig xs ns) (named_terms csig xs (ns ++ n ∷ [])) (λ us e. terms_push ns us n t e k) h
