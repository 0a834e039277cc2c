-- No two different things of a problem get one name.
use Rattle.std.proofs.Common.{◌≡◌, ℕ, Bool, true, false, List, ◌++◌, refl, sym, ap, ◌∙◌}
use Rattle.std.specs.Prelude.{codes, if◌then◌else◌}
use Rattle.std.specs.Cmp.Lexicographic.{bytes_decides}
use Rattle.nxf_tree.specs.declared.tree.IndexName.{IndexName}
use Rattle.nxf_tree.specs.declared.tree.IndexName.TheVariants.{Plain, Named}
use Rattle.nxf_tree.specs.declared.tree.SortName.{SortName}
use Rattle.nxf_tree.specs.declared.tree.SortName.TheVariants.{Individual, User}
use Rattle.nxf_tree.specs.Names.{same_text, begins, user_name, user_sort, world_name, actual_name, relation_name, existence_name}
use Rattle.nxf_tree.specs.Signature.{same_sort, same_index}
use Rattle.name_laws.proofs.Spelling.{same_text-true, both_ways, never, true-false, cancel_front}

pub same-user_name : (x y : List ℕ) → same_text (user_name x) (user_name y) ≡ same_text x y
unfolding user_name
same-user_name x y =
    both_ways _ _ (λ h. (bytes_decides x y).1 (apart x y _ _ refl refl (same_text-true _ _ h))) (λ h. (bytes_decides _ _).1 (ap user_name (same_text-true x y h)))
  where
    apart : (x y : List ℕ) (a b : Bool) → begins (codes "mk_") x ≡ a → begins (codes "mk_") y ≡ b → (if a then codes "mk_u_" ++ x else x) ≡ (if b then codes "mk_u_" ++ y else y) → x ≡ y
    apart x y true true p q e = cancel_front (codes "mk_u_") x y e
    apart x y true false p q e = absurd (true-false (ap (begins (codes "mk_")) e ∙ q))
    apart x y false true p q e = absurd (true-false (ap (begins (codes "mk_")) (sym e) ∙ p))
    apart x y false false p q e = e

-- what a user's name can't be: one that begins with mk_ and goes on otherwise than with u_
pub no_user_name : (n x : List ℕ) → begins (codes "mk_") n ≡ true → begins (codes "mk_u_") n ≡ false → user_name x ≡ n → ⊥
unfolding user_name
no_user_name n x m u e = by _ refl e
  where
    by : (b : Bool) → begins (codes "mk_") x ≡ b → (if b then codes "mk_u_" ++ x else x) ≡ n → ⊥
    by true p e = true-false (ap (begins (codes "mk_u_")) e ∙ u)
    by false p e = true-false (sym m ∙ ap (begins (codes "mk_")) (sym e) ∙ p)

pub same-relation_name : (i j : IndexName) → same_text (relation_name i) (relation_name j) ≡ same_index i j
unfolding relation_name
same-relation_name Plain Plain = refl
same-relation_name Plain (Named b) = refl
same-relation_name (Named a) Plain = refl
same-relation_name (Named a) (Named b) = refl

pub same-existence_name : (s r : SortName) → same_text (existence_name s) (existence_name r) ≡ same_sort s r
unfolding existence_name
same-existence_name Individual Individual = refl
same-existence_name Individual (User b) = refl
same-existence_name (User a) Individual = refl
same-existence_name (User a) (User b) = refl

pub apart-relation-existence : (i : IndexName) (s : SortName) → same_text (relation_name i) (existence_name s) ≡ false
unfolding relation_name existence_name
apart-relation-existence Plain Individual = refl
apart-relation-existence Plain (User b) = refl
apart-relation-existence (Named a) Individual = refl
apart-relation-existence (Named a) (User b) = refl

pub apart-existence-relation : (s : SortName) (i : IndexName) → same_text (existence_name s) (relation_name i) ≡ false
unfolding relation_name existence_name
apart-existence-relation Individual Plain = refl
apart-existence-relation (User b) Plain = refl
apart-existence-relation Individual (Named a) = refl
apart-existence-relation (User b) (Named a) = refl

pub relation-mk : (i : IndexName) → (begins (codes "mk_") (relation_name i) ≡ true) × (begins (codes "mk_u_") (relation_name i) ≡ false)
unfolding relation_name
relation-mk Plain = (refl, refl)
relation-mk (Named a) = (refl, refl)

pub existence-mk : (s : SortName) → (begins (codes "mk_") (existence_name s) ≡ true) × (begins (codes "mk_u_") (existence_name s) ≡ false)
unfolding existence_name
existence-mk Individual = (refl, refl)
existence-mk (User a) = (refl, refl)

pub actual-mk : (begins (codes "mk_") actual_name ≡ true) × (begins (codes "mk_u_") actual_name ≡ false)
unfolding actual_name
actual-mk = (refl, refl)

pub world-mk : (begins (codes "mk_") world_name ≡ true) × (begins (codes "mk_u_") world_name ≡ false)
unfolding world_name
world-mk = (refl, refl)

pub user-apart : (x n : List ℕ) → (begins (codes "mk_") n ≡ true) × (begins (codes "mk_u_") n ≡ false) → same_text (user_name x) n ≡ false
user-apart x n m = never _ (λ e. no_user_name n x m.0 m.1 (same_text-true _ _ e))

pub apart-user : (x n : List ℕ) → (begins (codes "mk_") n ≡ true) × (begins (codes "mk_u_") n ≡ false) → same_text n (user_name x) ≡ false
apart-user x n m = never _ (λ e. no_user_name n x m.0 m.1 (sym (same_text-true _ _ e)))

pub same-user_sort : (s r : SortName) → same_sort (user_sort s) (user_sort r) ≡ same_sort s r
same-user_sort Individual Individual = refl
same-user_sort Individual (User b) = refl
same-user_sort (User a) Individual = refl
same-user_sort (User a) (User b) = same-user_name a b

pub world-apart : (s : SortName) → same_sort (User world_name) (user_sort s) ≡ false
world-apart Individual = refl
world-apart (User a) = apart-user a world_name world-mk
