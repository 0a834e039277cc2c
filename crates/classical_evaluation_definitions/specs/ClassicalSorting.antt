-- Good sorting of classical formulas, where `$distinct` may stand; and well-formed classical signatures.
use Rattle.std.specs.Prelude.{◌≡◌, ℕ, ◌≤◌, ◌^◌, ◌<◌, Bool, true, false, ◌&&◌, [], ◌∷◌, map, length, slice_get, Some, is_some}
use Rattle.std.specs.List.{list_all, All as Each}
use Rattle.nxf_tree.specs.declared.tree.SortName.TheVariants.{User}
use Rattle.nxf_tree.specs.declared.tree.TableEntry.{TableEntry}
use Rattle.nxf_tree.specs.declared.tree.ClassicalSignature.{ClassicalSignature}
use Rattle.nxf_tree.specs.declared.tree.Formula.{Formula, True, False, Atom, Same, Differ, And', Or', Distinct, Row_of-Formula, end_of-Formula, more_of-Formula}
use Rattle.nxf_tree.specs.declared.tree.Body.TheVariants.{Formula as IsFormula, Typing as IsTyping, Logic as IsLogic}
use Rattle.nxf_tree.specs.declared.tree.Statement.{Statement}
use Rattle.nxf_tree.specs.declared.tree.Statement.TheVariants.{Annotated, Include}
use Rattle.nxf_tree.specs.declared.tree.File.{File}
use Rattle.nxf_tree.specs.Shapes.{Not1, Pair2, Quant1, Modal1}
use Rattle.nxf_tree.specs.Names.{world_name}
use Rattle.nxf_tree.specs.Rows.{AllBelow}
use Rattle.nxf_tree.specs.Sorting.{Language, Bound, is_atom, have_one_sort, sort_of, classical_language}
use Rattle.name_laws.specs.NameLaws.{HasDifferentClassicalNames}
use Rattle.classical_signature_laws.specs.ClassicalSignatures.{GivesBelow}

abbrev mutual
  -- as good sorting of problems, but for `$distinct`, whose terms have sorts; there are no modalities
  pub is_classical : Language → Bound → Formula → Bool
  is_classical L b True = true
  is_classical L b False = true
  is_classical L b (Atom p ts) = is_atom (L.type_of p) (map (sort_of L b) ts)
  is_classical L b (Same t u) = have_one_sort (sort_of L b t) (sort_of L b u)
  is_classical L b (Differ t u) = have_one_sort (sort_of L b t) (sort_of L b u)
  is_classical L b (Not1 f) = is_classical L b f
  is_classical L b (And' shape fs) = are_classical L b fs
  is_classical L b (Or' shape fs) = are_classical L b fs
  is_classical L b (Pair2 op f g) = is_classical L b f && is_classical L b g
  is_classical L b (Quant1 q x s f) = L.knows_sort s && is_classical L ((x, s) ∷ b) f
  is_classical L b (Modal1 m i f) = false
  is_classical L b (Distinct ts) = list_all is_some (map (sort_of L b) ts)

  pub are_classical : {m : _} → Language → Bound → Row_of-Formula m → Bool
  are_classical L b end_of-Formula = true
  are_classical L b (more_of-Formula f fs) = is_classical L b f && are_classical L b fs

-- whether the formula of a statement is closed and well sorted
abbrev pub statement_is_classical : Language → Statement → Bool
statement_is_classical L (Annotated name role (IsFormula f)) = is_classical L [] f
statement_is_classical L (Annotated name role (IsTyping t)) = true
statement_is_classical L (Annotated name role (IsLogic l)) = true
statement_is_classical L (Include file names) = true

-- each formula of the file is closed and well sorted over the classical signature
abbrev pub HasClassicalFormulas : ClassicalSignature → File → Type 0
HasClassicalFormulas csig file = list_all (statement_is_classical (classical_language csig)) file.statements ≡ true

-- the numbers of sorts of a table are those of sorts, and it has at most 1,001 arguments
pub record IsGoodTable (n : ℕ) (entry : TableEntry) : Type 0 where
  pub args : AllBelow n entry.args
  pub gives : GivesBelow n entry.gives
  pub few : length entry.args ≤ 1001

-- names differ, the worlds are the first sort, each table is good, and sorts and tables have numbers below 2 ^ 32
pub record IsWellFormedClassical (csig : ClassicalSignature) : Type 0 where
  pub different : HasDifferentClassicalNames csig
  pub worlds : slice_get csig.sorts 0 ≡ Some (User world_name)
  pub tables : Each (λ (entry : TableEntry). IsGoodTable (length csig.sorts) entry) csig.tables
  pub few_sorts : length csig.sorts < 2 ^ 32
  pub few_tables : length csig.tables < 2 ^ 32
