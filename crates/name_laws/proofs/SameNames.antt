-- Whether two names are the same does not depend on which is first.
use Rattle.std.proofs.Common.{◌≡◌, ℕ, true, List, refl, sym, ap, ◌∙◌}
use Rattle.std.specs.Prelude.{not}
use Rattle.nxf_tree.specs.declared.tree.SortName.{SortName}
use Rattle.nxf_tree.specs.declared.tree.SortName.TheVariants.{Individual, User}
use Rattle.nxf_tree.specs.declared.tree.IndexName.{IndexName}
use Rattle.nxf_tree.specs.declared.tree.IndexName.TheVariants.{Plain, Named}
use Rattle.nxf_tree.specs.Names.{same_text}
use Rattle.nxf_tree.specs.Signature.{same_sort, same_index}
use Rattle.name_laws.proofs.Spelling.{same_text-refl, same_text-true, both_ways}

-- the tests don't ask which is first
pub same_text-sym : (x y : List ℕ) → same_text x y ≡ same_text y x
same_text-sym x y = both_ways _ _
    (λ h. ap (λ z. same_text z x) (sym (same_text-true x y h)) ∙ same_text-refl x)
    (λ h. ap (λ z. same_text z y) (sym (same_text-true y x h)) ∙ same_text-refl y)

pub same_sort-sym : (s r : SortName) → same_sort s r ≡ same_sort r s
same_sort-sym Individual Individual = refl
same_sort-sym Individual (User b) = refl
same_sort-sym (User a) Individual = refl
same_sort-sym (User a) (User b) = same_text-sym a b

pub same_index-sym : (i j : IndexName) → same_index i j ≡ same_index j i
same_index-sym Plain Plain = refl
same_index-sym Plain (Named b) = refl
same_index-sym (Named a) Plain = refl
same_index-sym (Named a) (Named b) = same_text-sym a b

pub same_index-refl : (i : IndexName) → same_index i i ≡ true
same_index-refl Plain = refl
same_index-refl (Named a) = same_text-refl a
