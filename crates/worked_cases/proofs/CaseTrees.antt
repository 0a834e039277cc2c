-- Short words for the trees, files and readings of the worked cases.
use Rattle.std.specs.Prelude.{ℕ, List, [], ◌∷◌, codes, Option, None, Some, Result, Ok, Err}
use Rattle.nxf_tree.specs.declared.tree.IndexName.{IndexName}
use Rattle.nxf_tree.specs.declared.tree.IndexName.TheVariants.{Plain}
use Rattle.nxf_tree.specs.declared.tree.SortName.{SortName}
use Rattle.nxf_tree.specs.declared.tree.SortName.TheVariants.{User}
use Rattle.nxf_tree.specs.declared.tree.Regime.{Regime}
use Rattle.nxf_tree.specs.declared.tree.Designation.{Designation}
use Rattle.nxf_tree.specs.declared.tree.Designation.TheVariants.{Flexible}
use Rattle.nxf_tree.specs.declared.tree.Locality.{Locality}
use Rattle.nxf_tree.specs.declared.tree.Locality.TheVariants.{Global}
use Rattle.nxf_tree.specs.declared.tree.Scheme.{Scheme}
use Rattle.nxf_tree.specs.declared.tree.SortEntry.{SortEntry}
use Rattle.nxf_tree.specs.declared.tree.SymbolEntry.{SymbolEntry}
use Rattle.nxf_tree.specs.declared.tree.IndexEntry.{IndexEntry}
use Rattle.nxf_tree.specs.declared.tree.Signature.{Signature}
use Rattle.nxf_tree.specs.declared.tree.Quantifier.TheVariants.{All, Exists}
use Rattle.nxf_tree.specs.declared.tree.Mode.TheVariants.{Box, Dia}
use Rattle.nxf_tree.specs.declared.tree.Op.TheVariants.{Implies}
use Rattle.nxf_tree.specs.declared.tree.Term.{Term, Var}
use Rattle.nxf_tree.specs.declared.tree.Formula.{Formula, Atom}
use Rattle.nxf_tree.specs.declared.tree.Typing.TheVariants.{Sort, Symbol}
use Rattle.nxf_tree.specs.declared.tree.SpecKey.TheVariants.{Dollar}
use Rattle.nxf_tree.specs.declared.tree.SpecEntry.{SpecEntry}
use Rattle.nxf_tree.specs.declared.tree.SpecValue.{Word, Items}
use Rattle.nxf_tree.specs.declared.tree.SpecItem.{SpecItem}
use Rattle.nxf_tree.specs.declared.tree.Body.TheVariants.{Formula as IsFormula, Logic as IsLogic}
use Rattle.nxf_tree.specs.declared.tree.Statement.{Statement}
use Rattle.nxf_tree.specs.declared.tree.Statement.TheVariants.{Annotated}
use Rattle.nxf_tree.specs.declared.tree.File.{File}
use Rattle.nxf_tree.specs.Shapes.{Pair2, Quant1, Modal1, Name0}
use Rattle.nxf_tree.specs.Problem.{role_named, statement_of, declaration, problem_of}
use Rattle.nxf_tree.specs.Profile.{Reading, Refusal, reading_of}

-- logic statements
abbrev pub setting : List ℕ → List ℕ → SpecEntry
setting key word = record { key = Dollar key; value = Word word }

abbrev pub settings : List ℕ → List SpecItem → SpecEntry
settings key items = record { key = Dollar key; value = Items items }

abbrev pub modalities : List ℕ → SpecEntry
modalities = setting (codes "$modalities")

abbrev pub logic : List SpecEntry → Statement
logic entries = Annotated (codes "l") (role_named (codes "logic")) (IsLogic (record { logic = codes "$modal"; entries = entries }))

-- `$modal == [$modalities == $modal_system_K]`
abbrev pub system_k : Statement
system_k = logic (modalities (codes "$modal_system_K") ∷ [])

-- formulas with their roles
abbrev pub conjecture : Formula → Statement
conjecture = statement_of (codes "c") (codes "conjecture")

abbrev pub suffixed : List ℕ → List ℕ → List ℕ → Formula → Statement
suffixed name word suffix f = Annotated name (record { word = word; suffix = Some suffix }) (IsFormula f)

abbrev pub file_of : List Statement → File
file_of statements = record { statements = statements }

-- formulas
abbrev pub var : List ℕ → Term
var x = Var x

abbrev pub nullary : List ℕ → Formula
nullary p = Atom p []

abbrev pub unary : List ℕ → Term → Formula
unary p t = Atom p (t ∷ [])

abbrev pub binary : List ℕ → Term → Term → Formula
binary p t u = Atom p (t ∷ u ∷ [])

abbrev pub implies : Formula → Formula → Formula
implies = Pair2 Implies

abbrev pub for_all : List ℕ → SortName → Formula → Formula
for_all = Quant1 All

abbrev pub for_some : List ℕ → SortName → Formula → Formula
for_some = Quant1 Exists

abbrev pub necessarily : Formula → Formula
necessarily = Modal1 Box Plain

abbrev pub possibly : Formula → Formula
possibly = Modal1 Dia Plain

-- the printed problem's own names
abbrev pub world_sort : SortName
world_sort = User (codes "mk_world")

abbrev pub here : Term
here = Name0 (codes "mk_actual")

abbrev pub w : Term
w = Var (codes "W_0")

abbrev pub v : Term
v = Var (codes "W_1")

abbrev pub u : Term
u = Var (codes "W_2")

abbrev pub x : Term
x = Var (codes "X_0")

abbrev pub for_world : Formula → Formula
for_world = Quant1 All (codes "W_0") world_sort

abbrev pub for_next : Formula → Formula
for_next = Quant1 All (codes "W_1") world_sort

abbrev pub for_third : Formula → Formula
for_third = Quant1 All (codes "W_2") world_sort

abbrev pub acc : Term → Term → Formula
acc = binary (codes "mk_acc")

abbrev pub in_at : Term → Term → Formula
in_at = binary (codes "mk_in")

-- declarations and axioms
abbrev pub symbol : List ℕ → List SortName → Option SortName → Statement
symbol name args gives = declaration name (Symbol name args gives)

abbrev pub sort : List ℕ → Statement
sort name = declaration name (Sort name)

abbrev pub first_three : List Statement
first_three = sort (codes "mk_world") ∷ symbol (codes "mk_actual") [] (Some world_sort) ∷ symbol (codes "mk_acc") (world_sort ∷ world_sort ∷ []) None ∷ []

abbrev pub axiom_statement : List ℕ → Formula → Statement
axiom_statement name = statement_of name (codes "axiom")

-- signatures
abbrev pub sort_entry : SortName → Regime → SortEntry
sort_entry s r = record { name = s; regime = r }

abbrev pub predicate : List ℕ → List ℕ → SymbolEntry
predicate p args = record { name = p; args = args; gives = None; designation = Flexible; locality = Global }

abbrev pub constant : List ℕ → ℕ → Designation → Locality → SymbolEntry
constant c s d l = record { name = c; args = []; gives = Some s; designation = d; locality = l }

abbrev pub index_entry : IndexName → List Scheme → IndexEntry
index_entry i schemes = record { name = i; schemes = schemes }

-- what a file is read as: its signature, or why it is refused
abbrev pub reading : Result Reading Refusal → Result Signature Refusal
reading (Ok p) = Ok p.signature
reading (Err r) = Err r

abbrev pub signature_in : File → Result Signature Refusal
signature_in file = reading (reading_of file)

-- the printed problem of a file, or why it is refused
abbrev pub printing : File → Result Reading Refusal → Result (List Statement) Refusal
printing file (Ok p) = Ok (problem_of p.signature file).statements
printing file (Err r) = Err r

abbrev pub printed : File → Result (List Statement) Refusal
printed file = printing file (reading_of file)
