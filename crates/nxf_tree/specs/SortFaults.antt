-- The first fault of a file's sorts, with the number of its statement and a name: type statements, then formulas, then overrides.
use Rattle.std.specs.Prelude.{ℕ, Bool, true, false, ◌&&◌, nat_eq, if◌then◌else◌, List, [], ◌∷◌, ◌++◌, codes, length, Option, None, Some, is_some}
use Rattle.std.specs.Option.{option_or, option_map}
use Rattle.std.specs.Cmp.Lexicographic.{pointwise}
use Rattle.nxf_base.specs.declared.status.SortKind.{SortKind}
use Rattle.nxf_base.specs.declared.status.SortKind.TheVariants.{DoubleName, UnknownSort, Mismatch, FreeVariable, UnknownOverride}
use Rattle.nxf_tree.specs.declared.tree.SortName.{SortName}
use Rattle.nxf_tree.specs.declared.tree.SortName.TheVariants.{Individual, User}
use Rattle.nxf_tree.specs.declared.tree.SpecKey.{SpecKey}
use Rattle.nxf_tree.specs.declared.tree.SpecKey.TheVariants.{Dollar, Name, Index}
use Rattle.nxf_tree.specs.declared.tree.Override.{Override}
use Rattle.nxf_tree.specs.declared.tree.Typing.{Typing}
use Rattle.nxf_tree.specs.declared.tree.Typing.TheVariants.{Individual as IsIndividual, Sort, Symbol}
use Rattle.nxf_tree.specs.declared.tree.Body.TheVariants.{Formula as IsFormula, Typing as IsTyping, Logic as IsLogic}
use Rattle.nxf_tree.specs.declared.tree.Statement.{Statement}
use Rattle.nxf_tree.specs.declared.tree.Statement.TheVariants.{Annotated, Include}
use Rattle.nxf_tree.specs.declared.tree.File.{File}
use Rattle.nxf_tree.specs.declared.tree.Term.{Term, Var, App', Row_of-Term, end_of-Term, more_of-Term}
use Rattle.nxf_tree.specs.declared.tree.Formula.{Formula, True, False, Atom, Same, Differ, And', Or', Distinct, Row_of-Formula, end_of-Formula, more_of-Formula}
use Rattle.nxf_tree.specs.Shapes.{Not1, Pair2, Quant1, Modal1}
use Rattle.nxf_tree.specs.Names.{same_text}
use Rattle.nxf_tree.specs.Counting.{has, same_truth}
use Rattle.nxf_tree.specs.Signature.{same_sort}
use Rattle.nxf_tree.specs.Faults.{first_fault}
use Rattle.nxf_tree.specs.Sorting.{SymbolType, Language, Bound, bound_sort, is_sort, have_one_sort, sort_of, modal_language}
use Rattle.nxf_tree.specs.Specification.{Specification, setting_name}
use Rattle.nxf_tree.specs.declared.tree.Setting.TheVariants.{Domains}
use Rattle.nxf_tree.specs.Occurrences.{Use, row_length, declared, declared_sorts}
use Rattle.nxf_tree.specs.SignatureOf.{type_in, signature_of}

-- a fault: its kind, and the name that it is about
abbrev pub SortFault : Type 0
SortFault = SortKind × List ℕ

-- a sort as messages name it
abbrev pub sort_text : SortName → List ℕ
sort_text Individual = codes "$i"
sort_text (User s) = s

-- a sort that the file has not
abbrev pub unknown_sort : Language → SortName → Option SortFault
unknown_sort L s = if L.knows_sort s then None else Some (UnknownSort, sort_text s)

-- the first of the sorts that the file has not
abbrev pub unknown_sorts : Language → List SortName → Option SortFault
unknown_sorts L [] = None
unknown_sorts L (s ∷ ss) = option_or (unknown_sort L s) (unknown_sorts L ss)

-- Type statements. A declaration that equals an earlier one is accepted.
-- the sort of a function's value as a list; a predicate has none
abbrev pub gives_list : Option SortName → List SortName
gives_list None = []
gives_list (Some s) = s ∷ []

-- whether the types are the same
abbrev pub same_type : SymbolType → SymbolType → Bool
same_type s t = pointwise same_sort s.args t.args && pointwise same_sort (gives_list s.gives) (gives_list t.gives)

-- a symbol that was declared before with this type, if it was
abbrev pub declared_again : Language → List ℕ → SymbolType → Option SymbolType → Option SortFault
declared_again L f t None = unknown_sorts L (t.args ++ gives_list t.gives)
declared_again L f t (Some u) = if same_type u t then None else Some (DoubleName, f)

-- the fault of a typing after the statements before it: the name was declared before otherwise, or a sort of the type is unknown
abbrev pub typing_fault : Language → List Statement → Typing → Option SortFault
typing_fault L before IsIndividual = None
typing_fault L before (Sort s) = if is_some (type_in (declared before) s) then Some (DoubleName, s) else None
typing_fault L before (Symbol f args gives) =
    if has same_sort (User f) (declared_sorts before) then Some (DoubleName, f)
    else declared_again L f (record { args = args; gives = gives }) (type_in (declared before) f)

-- only type statements have such a fault
abbrev pub type_statement_fault : Language → List Statement → Statement → Option SortFault
type_statement_fault L before (Annotated name role (IsTyping t)) = typing_fault L before t
type_statement_fault L before (Annotated name role (IsFormula f)) = None
type_statement_fault L before (Annotated name role (IsLogic l)) = None
type_statement_fault L before (Include file names) = None

-- Formulas, from left to right, outer before inner; `L` is what the signature of the file says, and `us` are its declarations of symbols.

-- whether a symbol of the type is used rightly, with so many arguments and as a function or as a predicate; each symbol that occurs has a type
abbrev pub is_right_use : Option SymbolType → ℕ → Bool → Bool
is_right_use None count function = false
is_right_use (Some t) count function = nat_eq (length t.args) count && same_truth (is_some t.gives) function

-- a symbol is the name of a sort, or is used otherwise than it was declared, or otherwise than at its first occurrence
abbrev pub symbol_fault : Language → List Use → List ℕ → ℕ → Bool → Option SortFault
symbol_fault L us f count function =
    if L.knows_sort (User f) then Some (DoubleName, f)
    else (if is_right_use (L.type_of f) count function then None
    else (if is_some (type_in us f) then Some (Mismatch, f) else Some (DoubleName, f)))

-- the sorts that the arguments are to have, as many as there are arguments where the symbol is used rightly
abbrev pub argument_types : Option SymbolType → List SortName
argument_types None = []
argument_types (Some t) = t.args

-- no binder binds the variable
abbrev pub free_variable : Option SortName → List ℕ → Option SortFault
free_variable None x = Some (FreeVariable, x)
free_variable (Some s) x = None

-- the argument has another sort than the symbol wants
abbrev pub wrong_sort : List ℕ → SortName → Option SortName → Option SortFault
wrong_sort f s found = if is_sort s found then None else Some (Mismatch, f)

abbrev mutual
  -- the first fault of a term: of its symbol, and then of each argument, which is judged whole before its sort is compared
  pub term_fault : Language → List Use → Bound → Term → Option SortFault
  term_fault L us b (Var x) = free_variable (bound_sort b x) x
  term_fault L us b (App' f shape ts) = option_or (symbol_fault L us f (row_length ts) true) (row_fault L us b f (argument_types (L.type_of f)) ts)

  pub row_fault : {m : _} → Language → List Use → Bound → List ℕ → List SortName → Row_of-Term m → Option SortFault
  row_fault L us b f wanted end_of-Term = None
  row_fault L us b f [] (more_of-Term t ts) = Some (Mismatch, f)
  row_fault L us b f (s ∷ wanted) (more_of-Term t ts) = option_or (term_fault L us b t) (option_or (wrong_sort f s (sort_of L b t)) (row_fault L us b f wanted ts))

-- the first fault of the arguments of an atom
abbrev pub arguments_fault : Language → List Use → Bound → List ℕ → List SortName → List Term → Option SortFault
arguments_fault L us b f wanted [] = None
arguments_fault L us b f [] (t ∷ ts) = Some (Mismatch, f)
arguments_fault L us b f (s ∷ wanted) (t ∷ ts) = option_or (term_fault L us b t) (option_or (wrong_sort f s (sort_of L b t)) (arguments_fault L us b f wanted ts))

-- the left side, the right side, and then their sorts
abbrev pub equation_fault : Language → List Use → Bound → Term → Term → Option SortFault
equation_fault L us b t u =
    option_or (term_fault L us b t) (option_or (term_fault L us b u) (if have_one_sort (sort_of L b t) (sort_of L b u) then None else Some (Mismatch, codes "=")))

abbrev mutual
  -- the first fault of a formula; `$distinct` is none of a problem's
  pub formula_fault : Language → List Use → Bound → Formula → Option SortFault
  formula_fault L us b True = None
  formula_fault L us b False = None
  formula_fault L us b (Atom p ts) = option_or (symbol_fault L us p (length ts) false) (arguments_fault L us b p (argument_types (L.type_of p)) ts)
  formula_fault L us b (Same t u) = equation_fault L us b t u
  formula_fault L us b (Differ t u) = equation_fault L us b t u
  formula_fault L us b (Not1 f) = formula_fault L us b f
  formula_fault L us b (And' shape fs) = formulas_fault L us b fs
  formula_fault L us b (Or' shape fs) = formulas_fault L us b fs
  formula_fault L us b (Pair2 op f g) = option_or (formula_fault L us b f) (formula_fault L us b g)
  formula_fault L us b (Quant1 q x s f) = option_or (unknown_sort L s) (formula_fault L us ((x, s) ∷ b) f)
  formula_fault L us b (Modal1 m i f) = formula_fault L us b f
  formula_fault L us b (Distinct ts) = Some (Mismatch, codes "$distinct")

  pub formulas_fault : {m : _} → Language → List Use → Bound → Row_of-Formula m → Option SortFault
  formulas_fault L us b end_of-Formula = None
  formulas_fault L us b (more_of-Formula f fs) = option_or (formula_fault L us b f) (formulas_fault L us b fs)

-- the first fault of a statement's formula
abbrev pub formula_statement_fault : Language → List Use → Statement → Option SortFault
formula_statement_fault L us (Annotated name role (IsFormula f)) = formula_fault L us [] f
formula_statement_fault L us (Annotated name role (IsTyping t)) = None
formula_statement_fault L us (Annotated name role (IsLogic l)) = None
formula_statement_fault L us (Include file names) = None

-- Overrides: one of domains names a declared sort, and one of designations or terms a function symbol; `$i` and indexes are always accepted.
-- whether this is the type of a function symbol
abbrev pub is_function : Option SymbolType → Bool
is_function None = false
is_function (Some t) = is_some t.gives

-- the fault of an override of the name n in the list of the key `of`
abbrev pub named_fault : Language → List ℕ → List ℕ → Option SortFault
named_fault L of n =
    if (if same_text of (setting_name Domains) then L.knows_sort (User n) else is_function (L.type_of n)) then None else Some (UnknownOverride, n)

-- `$i` and indexes are accepted
abbrev pub override_fault : Language → List ℕ → SpecKey → Option SortFault
override_fault L of (Dollar t) = None
override_fault L of (Index i) = None
override_fault L of (Name n) = named_fault L of n

-- the first fault of the overrides
abbrev pub overrides_fault : Language → List Override → Option SortFault
overrides_fault L [] = None
overrides_fault L (o ∷ os) = option_or (override_fault L o.of o.key) (overrides_fault L os)

-- the first fault of the file's sorts with the number of its statement, over what its signature says
abbrev pub sorts_fault : Language → Specification → List Statement → Option (ℕ × SortFault)
sorts_fault L spec ss =
    option_or (first_fault (type_statement_fault L) 1 [] ss)
    (option_or (first_fault (λ before s. formula_statement_fault L (declared ss) s) 1 [] ss)
    (option_map (λ fault. (spec.place, fault)) (overrides_fault L spec.overrides)))

-- the same for a file, over its own signature
abbrev pub sort_fault_of : Specification → File → Option (ℕ × SortFault)
sort_fault_of spec file = sorts_fault (modal_language (signature_of spec file)) spec file.statements
