-- The text of a file in the syntax of TPTP, in one layout: a line for each statement. What is printed has classical formulas and
-- typings alone; a modal file has its text in the syntax of NXF.
use Rattle.std.specs.Prelude.{ℕ, Bool, true, false, ◌&&◌, ◌||◌, ◌==◌, if◌then◌else◌, List, [], ◌∷◌, ◌++◌, flat_map, codes, Option, None, Some}
use Rattle.std.specs.List.{list_all, join_by}
use Rattle.std.specs.Char.{is_ascii_lowercase, is_ascii_alphanumeric}
use Rattle.nxf_tree.specs.declared.tree.SortName.{SortName}
use Rattle.nxf_tree.specs.declared.tree.SortName.TheVariants.{Individual, User}
use Rattle.nxf_tree.specs.declared.tree.IndexName.{IndexName}
use Rattle.nxf_tree.specs.declared.tree.IndexName.TheVariants.{Plain, Named}
use Rattle.nxf_tree.specs.declared.tree.Quantifier.{Quantifier}
use Rattle.nxf_tree.specs.declared.tree.Quantifier.TheVariants.{All, Exists}
use Rattle.nxf_tree.specs.declared.tree.Mode.{Mode}
use Rattle.nxf_tree.specs.declared.tree.Mode.TheVariants.{Box, Dia}
use Rattle.nxf_tree.specs.declared.tree.Op.{Op}
use Rattle.nxf_tree.specs.declared.tree.Op.TheVariants.{Implies, ImpliedBy, Iff, Xor, Nor, Nand}
use Rattle.nxf_tree.specs.declared.tree.Term.{Term, Var, App', Row_of-Term, end_of-Term, more_of-Term}
use Rattle.nxf_tree.specs.declared.tree.Formula.{Formula, True, False, Atom, Same, Differ, And', Or', Distinct, Row_of-Formula, end_of-Formula, more_of-Formula}
use Rattle.nxf_tree.specs.declared.tree.Typing.{Typing}
use Rattle.nxf_tree.specs.declared.tree.Typing.TheVariants as typing
use Rattle.nxf_tree.specs.declared.tree.Role.{Role}
use Rattle.nxf_tree.specs.declared.tree.Body.{Body}
use Rattle.nxf_tree.specs.declared.tree.Body.TheVariants as body
use Rattle.nxf_tree.specs.declared.tree.Statement.{Statement}
use Rattle.nxf_tree.specs.declared.tree.Statement.TheVariants.{Annotated, Include}
use Rattle.nxf_tree.specs.declared.tree.File.{File}
use Rattle.nxf_tree.specs.Shapes.{Not1, Pair2, Quant1, Modal1}

-- a letter, a digit or `_`
abbrev pub is_bare_byte : ℕ → Bool
is_bare_byte b = is_ascii_alphanumeric b || b == 95

-- whether a name is a word: a letter from `a` to `z`, then letters, digits and `_`
abbrev pub is_bare : List ℕ → Bool
is_bare [] = false
is_bare (b ∷ bs) = is_ascii_lowercase b && list_all is_bare_byte bs

-- `'` and `\` have `\` before them
abbrev pub escaped_byte : ℕ → List ℕ
escaped_byte b = if b == 39 || b == 92 then 92 ∷ b ∷ [] else b ∷ []

-- a name: bare where it is a word, else in single quotes
abbrev pub name_text : List ℕ → List ℕ
name_text name = if is_bare name then name else 39 ∷ (flat_map escaped_byte name ++ 39 ∷ [])

abbrev pub sort_text : SortName → List ℕ
sort_text Individual = codes "$i"
sort_text (User s) = name_text s

-- a variable as it stands, an application as its name and its arguments without blanks
abbrev mutual
  pub term_text : Term → List ℕ
  term_text (Var x) = x
  term_text (App' f shape ts) = name_text f ++ arguments_text ts

  pub arguments_text : {m : _} → Row_of-Term m → List ℕ
  arguments_text end_of-Term = []
  arguments_text (more_of-Term t ts) = codes "(" ++ term_text t ++ more_arguments_text ts

  pub more_arguments_text : {m : _} → Row_of-Term m → List ℕ
  more_arguments_text end_of-Term = codes ")"
  more_arguments_text (more_of-Term t ts) = codes "," ++ term_text t ++ more_arguments_text ts

-- terms between commas
abbrev pub terms_text : List Term → List ℕ
terms_text = join_by term_text (codes ",")

-- a symbol with its arguments
abbrev pub application_text : List ℕ → List Term → List ℕ
application_text name [] = name_text name
application_text name (t ∷ ts) = name_text name ++ codes "(" ++ terms_text (t ∷ ts) ++ codes ")"

abbrev pub operator_text : Op → List ℕ
operator_text Implies = codes " => "
operator_text ImpliedBy = codes " <= "
operator_text Iff = codes " <=> "
operator_text Xor = codes " <~> "
operator_text Nor = codes " ~| "
operator_text Nand = codes " ~& "

abbrev pub quantifier_text : Quantifier → List ℕ
quantifier_text All = codes "! ["
quantifier_text Exists = codes "? ["

abbrev pub modality_text : Mode → IndexName → List ℕ
modality_text Box Plain = codes "[.] "
modality_text Box (Named a) = codes "[#" ++ name_text a ++ codes "] "
modality_text Dia Plain = codes "<.> "
modality_text Dia (Named a) = codes "<#" ++ name_text a ++ codes "> "

-- whether a formula has brackets where it is a part of another: conjunctions, disjunctions and pairs
abbrev pub has_brackets : Formula → Bool
has_brackets True = false
has_brackets False = false
has_brackets (Atom p ts) = false
has_brackets (Same t u) = false
has_brackets (Differ t u) = false
has_brackets (Not1 f) = false
has_brackets (And' shape fs) = true
has_brackets (Or' shape fs) = true
has_brackets (Pair2 op f g) = true
has_brackets (Quant1 q x s f) = false
has_brackets (Modal1 m i f) = false
has_brackets (Distinct ts) = false

abbrev pub in_brackets : Bool → List ℕ → List ℕ
in_brackets true text = codes "( " ++ text ++ codes " )"
in_brackets false text = text

abbrev mutual
  pub formula_text : Formula → List ℕ
  formula_text True = codes "$true"
  formula_text False = codes "$false"
  formula_text (Atom p ts) = application_text p ts
  formula_text (Same t u) = term_text t ++ codes " = " ++ term_text u
  formula_text (Differ t u) = term_text t ++ codes " != " ++ term_text u
  formula_text (Not1 f) = codes "~ " ++ in_brackets (has_brackets f) (formula_text f)
  formula_text (And' shape fs) = members_text (codes " & ") fs
  formula_text (Or' shape fs) = members_text (codes " | ") fs
  formula_text (Pair2 op f g) = in_brackets (has_brackets f) (formula_text f) ++ operator_text op ++ in_brackets (has_brackets g) (formula_text g)
  formula_text (Quant1 q x s f) = quantifier_text q ++ x ++ codes ": " ++ sort_text s ++ codes "] : " ++ in_brackets (has_brackets f) (formula_text f)
  formula_text (Modal1 m i f) = modality_text m i ++ in_brackets (has_brackets f) (formula_text f)
  formula_text (Distinct ts) = codes "$distinct(" ++ terms_text ts ++ codes ")"

  pub members_text : {m : _} → List ℕ → Row_of-Formula m → List ℕ
  members_text operator end_of-Formula = []
  members_text operator (more_of-Formula f fs) = in_brackets (has_brackets f) (formula_text f) ++ more_members_text operator fs

  pub more_members_text : {m : _} → List ℕ → Row_of-Formula m → List ℕ
  more_members_text operator end_of-Formula = []
  more_members_text operator (more_of-Formula f fs) = operator ++ in_brackets (has_brackets f) (formula_text f) ++ more_members_text operator fs

-- a formula as a part of another
abbrev pub unit_text : Formula → List ℕ
unit_text f = in_brackets (has_brackets f) (formula_text f)

abbrev pub result_text : Option SortName → List ℕ
result_text None = codes "$o"
result_text (Some s) = sort_text s

-- the sorts of the arguments, in brackets where there are several, before `>` and the sort of the values
abbrev pub type_text : List SortName → Option SortName → List ℕ
type_text [] gives = result_text gives
type_text (s ∷ []) gives = sort_text s ++ codes " > " ++ result_text gives
type_text (s ∷ t ∷ sorts) gives = codes "( " ++ join_by sort_text (codes " * ") (s ∷ t ∷ sorts) ++ codes " ) > " ++ result_text gives

abbrev pub typing_text : Typing → List ℕ
typing_text typing.Individual = codes "$i: $tType"
typing_text (typing.Sort s) = name_text s ++ codes ": $tType"
typing_text (typing.Symbol f args gives) = name_text f ++ codes ": " ++ type_text args gives

abbrev pub suffix_text : Option (List ℕ) → List ℕ
suffix_text None = []
suffix_text (Some suffix) = codes "-" ++ suffix

-- a role's word, and its suffix behind `-`
abbrev pub role_text : Role → List ℕ
role_text role = role.word ++ suffix_text role.suffix

-- a logic specification has no text here: see `body_has_text`
abbrev pub body_text : Body → List ℕ
body_text (body.Formula f) = formula_text f
body_text (body.Typing t) = typing_text t
body_text (body.Logic l) = []

-- the names that an include statement chooses, between commas
abbrev pub chosen_text : Option (List (List ℕ)) → List ℕ
chosen_text None = []
chosen_text (Some names) = codes ",[" ++ join_by name_text (codes ",") names ++ codes "]"

-- a statement, with its line feed
abbrev pub statement_text : Statement → List ℕ
statement_text (Annotated name role b) = codes "tff(" ++ name_text name ++ codes "," ++ role_text role ++ codes "," ++ body_text b ++ codes ")." ++ 10 ∷ []
statement_text (Include file names) = codes "include(" ++ name_text file ++ chosen_text names ++ codes ")." ++ 10 ∷ []

-- the statements one after another
abbrev pub text_of : File → List ℕ
text_of file = flat_map statement_text file.statements

abbrev pub body_has_text : Body → Bool
body_has_text (body.Formula f) = true
body_has_text (body.Typing t) = true
body_has_text (body.Logic l) = false

-- whether a statement has a text: all but logic statements have
abbrev pub has_text : Statement → Bool
has_text (Annotated name role b) = body_has_text b
has_text (Include file names) = true

-- whether each statement of a file has a text
abbrev pub is_printable : File → Bool
is_printable file = list_all has_text file.statements
