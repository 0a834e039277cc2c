-- The tokens of a printed file, as the grammar sees them: each function puts those of a tree in front of the others.
use Rattle.std.specs.Prelude.{ℕ, Bool, true, false, List, [], ◌∷◌, Option, None, Some, codes}
use Rattle.nxf_terminals.specs.declared.sign.Sign.TheVariants as sign
use Rattle.nxf_terminals.specs.Input.{Item, Input}
use Rattle.nxf_tree.specs.declared.tree.Quantifier.{Quantifier}
use Rattle.nxf_tree.specs.declared.tree.Quantifier.TheVariants as quantifier
use Rattle.nxf_tree.specs.declared.tree.Op.{Op}
use Rattle.nxf_tree.specs.declared.tree.Op.TheVariants as op
use Rattle.nxf_tree.specs.declared.tree.SortName.{SortName}
use Rattle.nxf_tree.specs.declared.tree.SortName.TheVariants as sort
use Rattle.nxf_tree.specs.declared.tree.Term.{Term, Var, App', Row_of-Term, end_of-Term, more_of-Term}
use Rattle.nxf_tree.specs.declared.tree.Formula.{Formula, True, False, Atom, Same, Differ, And', Or', Distinct, Row_of-Formula, end_of-Formula, more_of-Formula}
use Rattle.nxf_tree.specs.declared.tree.Typing.{Typing}
use Rattle.nxf_tree.specs.declared.tree.Typing.TheVariants as typing
use Rattle.nxf_tree.specs.declared.tree.Role.{Role}
use Rattle.nxf_tree.specs.declared.tree.Body.{Body}
use Rattle.nxf_tree.specs.declared.tree.Body.TheVariants as body
use Rattle.nxf_tree.specs.declared.tree.Statement.{Statement}
use Rattle.nxf_tree.specs.declared.tree.Statement.TheVariants as statement
use Rattle.nxf_tree.specs.Shapes.{Not1, Pair2, Quant1, Modal1}
use Rattle.nxf_tree.specs.Text.{name_text, has_brackets}
use Rattle.printed_text_laws.proofs.Writes.{joined}

abbrev pub name_item : List ℕ → Item
name_item a = (sign.Name, name_text a)

-- ---- terms

abbrev mutual
  pub term_items : Term → Input → Input
  term_items (Var v) rest = (sign.Upper, v) ∷ rest
  term_items (App' a shape ts) rest = name_item a ∷ given_items ts rest

  -- the arguments in brackets, or nothing where there are none
  pub given_items : {m : _} → Row_of-Term m → Input → Input
  given_items end_of-Term rest = rest
  given_items (more_of-Term t ts) rest = (sign.Open, codes "(") ∷ term_items t (more_items ts rest)

  pub more_items : {m : _} → Row_of-Term m → Input → Input
  more_items end_of-Term rest = (sign.Close, codes ")") ∷ rest
  more_items (more_of-Term t ts) rest = (sign.Comma, codes ",") ∷ term_items t (more_items ts rest)

-- terms behind a first one, each behind a comma
abbrev pub other_terms : List Term → Input → Input
other_terms = joined (sign.Comma, codes ",") term_items

abbrev pub arguments_items : List Term → Input → Input
arguments_items [] rest = rest
arguments_items (t ∷ ts) rest = (sign.Open, codes "(") ∷ term_items t (other_terms ts ((sign.Close, codes ")") ∷ rest))

-- ---- formulas

abbrev pub op_item : Op → Item
op_item op.Implies = (sign.Implies, codes "=>")
op_item op.ImpliedBy = (sign.ImpliedBy, codes "<=")
op_item op.Iff = (sign.Iff, codes "<=>")
op_item op.Xor = (sign.Xor, codes "<~>")
op_item op.Nor = (sign.Nor, codes "~|")
op_item op.Nand = (sign.Nand, codes "~&")

abbrev pub quantifier_item : Quantifier → Item
quantifier_item quantifier.All = (sign.All, codes "!")
quantifier_item quantifier.Exists = (sign.Exists, codes "?")

abbrev pub sort_item : SortName → Item
sort_item sort.Individual = (sign.Individual, codes "$i")
sort_item (sort.User s) = name_item s

abbrev pub sort_items : SortName → Input → Input
sort_items s rest = sort_item s ∷ rest

abbrev pub bracketed : Bool → (Input → Input) → Input → Input
bracketed true items rest = (sign.Open, codes "(") ∷ items ((sign.Close, codes ")") ∷ rest)
bracketed false items rest = items rest

-- a modality has none here
abbrev mutual
  pub formula_items : Formula → Input → Input
  formula_items True rest = (sign.True, codes "$true") ∷ rest
  formula_items False rest = (sign.False, codes "$false") ∷ rest
  formula_items (Atom p ts) rest = name_item p ∷ arguments_items ts rest
  formula_items (Same t u) rest = term_items t ((sign.Equal, codes "=") ∷ term_items u rest)
  formula_items (Differ t u) rest = term_items t ((sign.Differ, codes "!=") ∷ term_items u rest)
  formula_items (Not1 f) rest = (sign.Not, codes "~") ∷ bracketed (has_brackets f) (formula_items f) rest
  formula_items (And' shape fs) rest = members_items (sign.And, codes "&") fs rest
  formula_items (Or' shape fs) rest = members_items (sign.Or, codes "|") fs rest
  formula_items (Pair2 op f g) rest = bracketed (has_brackets f) (formula_items f) (op_item op ∷ bracketed (has_brackets g) (formula_items g) rest)
  formula_items (Quant1 q x s f) rest = quantifier_item q ∷ (sign.LeftBracket, codes "[") ∷ (sign.Upper, x) ∷ (sign.Colon, codes ":") ∷ sort_item s ∷ (sign.RightBracket, codes "]") ∷ (sign.Colon, codes ":") ∷ bracketed (has_brackets f) (formula_items f) rest
  formula_items (Modal1 m i f) rest = rest
  formula_items (Distinct []) rest = rest
  formula_items (Distinct (t ∷ ts)) rest = (sign.Distinct, codes "$distinct") ∷ (sign.Open, codes "(") ∷ term_items t (other_terms ts ((sign.Close, codes ")") ∷ rest))

  pub members_items : {m : _} → Item → Row_of-Formula m → Input → Input
  members_items joint end_of-Formula rest = rest
  members_items joint (more_of-Formula f fs) rest = bracketed (has_brackets f) (formula_items f) (next_items joint fs rest)

  pub next_items : {m : _} → Item → Row_of-Formula m → Input → Input
  next_items joint end_of-Formula rest = rest
  next_items joint (more_of-Formula f fs) rest = joint ∷ bracketed (has_brackets f) (formula_items f) (next_items joint fs rest)

abbrev pub unit_items : Formula → Input → Input
unit_items f = bracketed (has_brackets f) (formula_items f)

-- ---- statements

abbrev pub result_items : Option SortName → Input → Input
result_items None rest = (sign.Truth, codes "$o") ∷ rest
result_items (Some s) rest = sort_item s ∷ rest

abbrev pub other_sorts : List SortName → Input → Input
other_sorts = joined (sign.Star, codes "*") sort_items

abbrev pub type_items : List SortName → Option SortName → Input → Input
type_items [] gives rest = result_items gives rest
type_items (s ∷ []) gives rest = sort_item s ∷ (sign.Greater, codes ">") ∷ result_items gives rest
type_items (s ∷ t ∷ sorts) gives rest = (sign.Open, codes "(") ∷ sort_items s (other_sorts (t ∷ sorts) ((sign.Close, codes ")") ∷ (sign.Greater, codes ">") ∷ result_items gives rest))

abbrev pub typing_items : Typing → Input → Input
typing_items typing.Individual rest = (sign.Individual, codes "$i") ∷ (sign.Colon, codes ":") ∷ (sign.SortType, codes "$tType") ∷ rest
typing_items (typing.Sort s) rest = name_item s ∷ (sign.Colon, codes ":") ∷ (sign.SortType, codes "$tType") ∷ rest
typing_items (typing.Symbol f args gives) rest = name_item f ∷ (sign.Colon, codes ":") ∷ type_items args gives rest

abbrev pub suffix_items : Option (List ℕ) → Input → Input
suffix_items None rest = rest
suffix_items (Some suffix) rest = (sign.Minus, codes "-") ∷ (sign.Name, suffix) ∷ rest

abbrev pub role_items : Role → Input → Input
role_items role rest = (sign.Name, role.word) ∷ suffix_items role.suffix rest

-- a logic specification has none here
abbrev pub body_items : Body → Input → Input
body_items (body.Formula f) rest = formula_items f rest
body_items (body.Typing t) rest = typing_items t rest
body_items (body.Logic l) rest = rest

-- all but the end of a statement; an include has none here
abbrev pub statement_items : Statement → Input → Input
statement_items (statement.Annotated name role b) rest = (sign.Name, codes "tff") ∷ (sign.Open, codes "(") ∷ name_item name ∷ (sign.Comma, codes ",") ∷ role_items role ((sign.Comma, codes ",") ∷ body_items b rest)
statement_items (statement.Include file names) rest = rest

-- the bracket that closes a statement, and its full stop
abbrev pub ended : Input → Input
ended rest = (sign.Close, codes ")") ∷ (sign.Stop, codes ".") ∷ rest

abbrev pub file_items : List Statement → Input
file_items [] = []
file_items (s ∷ ss) = statement_items s (ended (file_items ss))
