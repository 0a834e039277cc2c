-- How many levels the grammar needs below a term, a formula or the body of a statement: the fewest with which some tokens are read as the tree.
-- An argument stands one level deeper than what holds it, and so does what stands behind `~`, a modality or a variable of a quantifier, or in brackets.
use Rattle.std.specs.Prelude.{ℕ, ◌+◌, max, Bool, true, false, List, [], ◌∷◌, ◌≡◌, ◌≤◌}
use Rattle.nxf_tree.specs.declared.tree.Term.{Term, Var, App', Row_of-Term, end_of-Term, more_of-Term}
use Rattle.nxf_tree.specs.declared.tree.Formula.{Formula, True, False, Atom, Same, Differ, And', Or', Distinct, Row_of-Formula, end_of-Formula, more_of-Formula}
use Rattle.nxf_tree.specs.declared.tree.Body.TheVariants as body
use Rattle.nxf_tree.specs.declared.tree.Statement.{Statement}
use Rattle.nxf_tree.specs.declared.tree.Statement.TheVariants as statement
use Rattle.nxf_tree.specs.declared.tree.File.{File}
use Rattle.nxf_tree.specs.Shapes.{Not1, Pair2, Quant1, Modal1}
use Rattle.nxf_tree.specs.Text.{has_brackets}
use Rattle.nxf_tree.specs.declared.profile.Profile.{Profile}
use Rattle.nxf_tree.specs.Profiles.{allowed_in, has_modalities, levels_of}
use Rattle.nxf_tree.specs.Regular.{IsRegular}

abbrev mutual
  pub term_levels : Term → ℕ
  term_levels (Var x) = 0
  term_levels (App' f shape ts) = arguments_levels ts

  -- none where there are no arguments
  pub arguments_levels : {m : _} → Row_of-Term m → ℕ
  arguments_levels end_of-Term = 0
  arguments_levels (more_of-Term t ts) = max (term_levels t + 1) (arguments_levels ts)

-- the levels of arguments
abbrev pub list_levels : List Term → ℕ
list_levels [] = 0
list_levels (t ∷ ts) = max (term_levels t + 1) (list_levels ts)

-- a level for the brackets, where there are any
abbrev pub with_brackets : Bool → ℕ → ℕ
with_brackets true n = n + 1
with_brackets false n = n

abbrev mutual
  -- the levels of a formula that stands without brackets
  pub formula_levels : Formula → ℕ
  formula_levels True = 0
  formula_levels False = 0
  formula_levels (Atom p ts) = list_levels ts
  formula_levels (Same t u) = max (term_levels t) (term_levels u)
  formula_levels (Differ t u) = max (term_levels t) (term_levels u)
  formula_levels (Not1 f) = with_brackets (has_brackets f) (formula_levels f) + 1
  formula_levels (And' shape fs) = members_levels fs
  formula_levels (Or' shape fs) = members_levels fs
  formula_levels (Pair2 op f g) = max (with_brackets (has_brackets f) (formula_levels f)) (with_brackets (has_brackets g) (formula_levels g))
  formula_levels (Quant1 q x s f) = with_brackets (has_brackets f) (formula_levels f) + 1
  -- the long form of a modality has brackets of its own
  formula_levels (Modal1 m i f) = formula_levels f + 1
  formula_levels (Distinct ts) = list_levels ts

  pub members_levels : {m : _} → Row_of-Formula m → ℕ
  members_levels end_of-Formula = 0
  members_levels (more_of-Formula f fs) = max (with_brackets (has_brackets f) (formula_levels f)) (members_levels fs)

-- the levels of a formula as a part of another
abbrev pub unit_levels : Formula → ℕ
unit_levels f = with_brackets (has_brackets f) (formula_levels f)

-- the levels of members that an operator joins
abbrev pub unit_list_levels : List Formula → ℕ
unit_list_levels [] = 0
unit_list_levels (f ∷ fs) = max (unit_levels f) (unit_list_levels fs)

-- the levels of the formula of a statement, or 0 where it has none
abbrev pub statement_levels : Statement → ℕ
statement_levels (statement.Annotated name role (body.Formula f)) = formula_levels f
statement_levels (statement.Annotated name role (body.Typing t)) = 0
statement_levels (statement.Annotated name role (body.Logic l)) = 0
statement_levels (statement.Include file names) = 0

abbrev pub statement_list_levels : List Statement → ℕ
statement_list_levels [] = 0
statement_list_levels (s ∷ ss) = max (statement_levels s) (statement_list_levels ss)

-- the most levels that a formula of the file needs
abbrev pub file_levels : File → ℕ
file_levels file = statement_list_levels file.statements

-- The profile has no modalities, the file is regular there, and it needs no more levels than the profile has.
pub record Fits (profile : Profile) (file : File) : Type 0 where
  pub plain : has_modalities profile ≡ false
  pub regular : IsRegular (allowed_in profile) file
  pub levels : file_levels file ≤ levels_of profile
