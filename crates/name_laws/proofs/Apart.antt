-- Different things get different names.
use Rattle.std.proofs.Common.{◌≡◌, ℕ, true, false, List, refl, sym, ap, ◌∙◌}
use Rattle.std.specs.Cmp.Lexicographic.{bytes_decides}
use Rattle.nxf_tree.specs.declared.tree.IndexName.{IndexName}
use Rattle.nxf_tree.specs.declared.tree.IndexName.TheVariants.{Plain, Named as NamedIndex}
use Rattle.nxf_tree.specs.declared.tree.SortName.{SortName}
use Rattle.nxf_tree.specs.declared.tree.SortName.TheVariants.{Individual, User}
use Rattle.nxf_tree.specs.Names.{same_text, world_name, actual_name, relation_name, existence_name}
use Rattle.nxf_tree.specs.Signature.{same_sort, same_index}
use Rattle.name_laws.specs.NameLaws.{Worlds, ActualWorld, Relation, Existence, Named, NamesApart, VariablesApart}
use Rattle.name_laws.proofs.Spelling.{same_text-true, true-false, user_variable-injective, user_variable-world, world_variable-injective}
use Rattle.name_laws.proofs.Naming.{same-user_name, same-relation_name, same-existence_name, apart-relation-existence, relation-mk, existence-mk, actual-mk, world-mk, user-apart}

-- texts that the test tells apart aren't the same
differ : (x y : List ℕ) → same_text x y ≡ false → x ≡ y → ⊥
differ x y h e = true-false (sym ((bytes_decides x y).1 e) ∙ h)

pub index-true : (i j : IndexName) → same_index i j ≡ true → i ≡ j
index-true Plain Plain h = refl
index-true Plain (NamedIndex b) h = cc
index-true (NamedIndex a) Plain h = cc
index-true (NamedIndex a) (NamedIndex b) h = ap NamedIndex (same_text-true a b h)

pub sort-true : (s r : SortName) → same_sort s r ≡ true → s ≡ r
sort-true Individual Individual h = refl
sort-true Individual (User b) h = cc
sort-true (User a) Individual h = cc
sort-true (User a) (User b) h = ap User (same_text-true a b h)

pub world-actual : same_text world_name actual_name ≡ false
unfolding world_name actual_name
world-actual = refl

pub world-relation : (i : IndexName) → same_text world_name (relation_name i) ≡ false
unfolding world_name relation_name
world-relation Plain = refl
world-relation (NamedIndex a) = refl

pub world-existence : (s : SortName) → same_text world_name (existence_name s) ≡ false
unfolding world_name existence_name
world-existence Individual = refl
world-existence (User a) = refl

pub actual-relation : (i : IndexName) → same_text actual_name (relation_name i) ≡ false
unfolding actual_name relation_name
actual-relation Plain = refl
actual-relation (NamedIndex a) = refl

pub actual-existence : (s : SortName) → same_text actual_name (existence_name s) ≡ false
unfolding actual_name existence_name
actual-existence Individual = refl
actual-existence (User a) = refl

pub names_apart : NamesApart
names_apart Worlds Worlds e = refl
names_apart Worlds ActualWorld e = absurd (differ _ _ world-actual e)
names_apart Worlds (Relation i) e = absurd (differ _ _ (world-relation i) e)
names_apart Worlds (Existence s) e = absurd (differ _ _ (world-existence s) e)
names_apart Worlds (Named x) e = absurd (differ _ _ (user-apart x world_name world-mk) (sym e))
names_apart ActualWorld Worlds e = absurd (differ _ _ world-actual (sym e))
names_apart ActualWorld ActualWorld e = refl
names_apart ActualWorld (Relation i) e = absurd (differ _ _ (actual-relation i) e)
names_apart ActualWorld (Existence s) e = absurd (differ _ _ (actual-existence s) e)
names_apart ActualWorld (Named x) e = absurd (differ _ _ (user-apart x actual_name actual-mk) (sym e))
names_apart (Relation i) Worlds e = absurd (differ _ _ (world-relation i) (sym e))
names_apart (Relation i) ActualWorld e = absurd (differ _ _ (actual-relation i) (sym e))
names_apart (Relation i) (Relation j) e = ap Relation (index-true i j (sym (same-relation_name i j) ∙ (bytes_decides _ _).1 e))
names_apart (Relation i) (Existence s) e = absurd (differ _ _ (apart-relation-existence i s) e)
names_apart (Relation i) (Named x) e = absurd (differ _ _ (user-apart x (relation_name i) (relation-mk i)) (sym e))
names_apart (Existence s) Worlds e = absurd (differ _ _ (world-existence s) (sym e))
names_apart (Existence s) ActualWorld e = absurd (differ _ _ (actual-existence s) (sym e))
names_apart (Existence s) (Relation i) e = absurd (differ _ _ (apart-relation-existence i s) (sym e))
names_apart (Existence s) (Existence r) e = ap Existence (sort-true s r (sym (same-existence_name s r) ∙ (bytes_decides _ _).1 e))
names_apart (Existence s) (Named x) e = absurd (differ _ _ (user-apart x (existence_name s) (existence-mk s)) (sym e))
names_apart (Named x) Worlds e = absurd (differ _ _ (user-apart x world_name world-mk) e)
names_apart (Named x) ActualWorld e = absurd (differ _ _ (user-apart x actual_name actual-mk) e)
names_apart (Named x) (Relation i) e = absurd (differ _ _ (user-apart x (relation_name i) (relation-mk i)) e)
names_apart (Named x) (Existence s) e = absurd (differ _ _ (user-apart x (existence_name s) (existence-mk s)) e)
names_apart (Named x) (Named y) e = ap Named (same_text-true x y (sym (same-user_name x y) ∙ (bytes_decides _ _).1 e))

pub variables_apart : VariablesApart
variables_apart = record {
  users = user_variable-injective;
  worlds = world_variable-injective;
  apart = λ x k e. differ _ _ (user_variable-world k x) e;
}
