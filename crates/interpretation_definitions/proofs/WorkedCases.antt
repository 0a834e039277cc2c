-- Interpretations worked out: the structure that each gives, or why it gives none.
use Rattle.std.proofs.Common.{◌≡◌, ℕ, List, [], ◌∷◌, map, refl}
use Rattle.std.specs.Prelude.{codes, None, Some, Result, Ok, Err}
use Rattle.nxf_tree.specs.declared.tree.SortName.TheVariants.{Individual, User}
use Rattle.nxf_tree.specs.declared.tree.Quantifier.TheVariants.{All, Exists}
use Rattle.nxf_tree.specs.declared.tree.Op.TheVariants.{Implies}
use Rattle.nxf_tree.specs.declared.tree.Term.{Var, App', end_of-Term, more_of-Term}
use Rattle.nxf_tree.specs.declared.tree.Formula.{True, False, Atom, Same, Differ, And', Or', Distinct, end_of-Formula, more_of-Formula}
use Rattle.nxf_tree.specs.declared.tree.Typing.TheVariants as typing
use Rattle.nxf_tree.specs.declared.tree.Body.{Body}
use Rattle.nxf_tree.specs.declared.tree.Body.TheVariants.{Formula as IsFormula, Typing as IsTyping}
use Rattle.nxf_tree.specs.declared.tree.Statement.{Statement}
use Rattle.nxf_tree.specs.declared.tree.Statement.TheVariants.{Annotated}
use Rattle.nxf_tree.specs.declared.tree.File.{File}
use Rattle.nxf_tree.specs.declared.tree.ClassicalSignature.{ClassicalSignature}
use Rattle.nxf_tree.specs.Shapes.{Not1, Pair2, Quant1, Name0}
use Rattle.nxf_tree.specs.Names.{world_name, actual_name}
use Rattle.interpretation_definitions.specs.declared.fault.PartFault.{PartFault}
use Rattle.interpretation_definitions.specs.declared.fault.PartFault.TheVariants.{Form, UnknownSymbol, UnknownElement, Clash}
use Rattle.nxf_base.specs.declared.status.InterpKind.TheVariants as kind
use Rattle.fin_struct.specs.StructureTables.{StructureTables}
use Rattle.interpretation_definitions.specs.declared.error.InterpError.{InterpError}
use Rattle.interpretation_definitions.specs.declared.error.InterpError.TheVariants as error
use Rattle.interpretation_definitions.specs.Interpretation.{interpretation_of, kind_of}

-- what a structure is, without the shapes of its tables
record Cells : Type 0 where
  actual : ℕ
  sizes : List ℕ
  tables : List (List ℕ)

abbrev cells_of : Result StructureTables InterpError → Result Cells InterpError
cells_of (Ok S) = Ok (record { actual = S.actual; sizes = S.sizes; tables = map (λ table. table.cells) S.tables })
cells_of (Err refusal) = Err refusal

abbrev given_by : ClassicalSignature → File → Result Cells InterpError
given_by csig file = cells_of (interpretation_of csig file)

abbrev refused : ℕ → PartFault → Result Cells InterpError
refused k fault = Err (error.Kind (kind_of k fault))

-- a statement with this role
abbrev statement : List ℕ → Body → Statement
statement role body = Annotated (codes "s") (record { word = role; suffix = None }) body

abbrev sig_k : ClassicalSignature
sig_k = (record { sorts = ((User world_name) ∷ []); tables = ((record { name = (codes "mk_acc"); args = (0 ∷ 0 ∷ []); gives = None }) ∷ (record { name = (codes "p"); args = (0 ∷ []); gives = None }) ∷ []) })

abbrev sig_barcan : ClassicalSignature
sig_barcan = (record { sorts = ((User world_name) ∷ Individual ∷ []); tables = ((record { name = (codes "mk_acc"); args = (0 ∷ 0 ∷ []); gives = None }) ∷ (record { name = (codes "mk_in"); args = (0 ∷ 1 ∷ []); gives = None }) ∷ (record { name = (codes "q"); args = (0 ∷ 1 ∷ []); gives = None }) ∷ []) })

abbrev sig_constant : ClassicalSignature
sig_constant = (record { sorts = ((User world_name) ∷ Individual ∷ []); tables = ((record { name = (codes "mk_acc"); args = (0 ∷ 0 ∷ []); gives = None }) ∷ (record { name = (codes "q"); args = (0 ∷ 1 ∷ []); gives = None }) ∷ []) })

abbrev sig_empty : ClassicalSignature
sig_empty = (record { sorts = ((User world_name) ∷ (User (codes "s")) ∷ []); tables = ((record { name = (codes "mk_acc"); args = (0 ∷ 0 ∷ []); gives = None }) ∷ (record { name = (codes "u"); args = (0 ∷ 1 ∷ []); gives = None }) ∷ (record { name = (codes "p"); args = (0 ∷ []); gives = None }) ∷ []) })

abbrev sig_half : ClassicalSignature
sig_half = (record { sorts = ((User world_name) ∷ Individual ∷ []); tables = ((record { name = (codes "mk_acc"); args = (0 ∷ 0 ∷ []); gives = None }) ∷ (record { name = (codes "p"); args = (0 ∷ 1 ∷ []); gives = None }) ∷ (record { name = (codes "f"); args = (1 ∷ []); gives = Some 1 }) ∷ (record { name = (codes "a"); args = ([]); gives = Some 1 }) ∷ []) })

abbrev sig_people : ClassicalSignature
sig_people = (record { sorts = ((User world_name) ∷ (User (codes "person")) ∷ []); tables = ((record { name = (codes "mk_acc"); args = (0 ∷ 0 ∷ []); gives = None }) ∷ (record { name = (codes "ann"); args = ([]); gives = Some 1 }) ∷ (record { name = (codes "bob"); args = ([]); gives = Some 1 }) ∷ (record { name = (codes "knows"); args = (0 ∷ 1 ∷ 1 ∷ []); gives = None }) ∷ (record { name = (codes "happy"); args = (0 ∷ 1 ∷ []); gives = None }) ∷ []) })

lift_two_worlds : given_by sig_k (record { statements = ((statement (codes "axiom") (IsFormula (Quant1 All (codes "X") (User (codes "mk_world")) (Or' (tt ∷ tt ∷ []) (more_of-Formula (Same (Var (codes "X")) (Name0 (codes "a"))) (more_of-Formula (Same (Var (codes "X")) (Name0 (codes "b"))) end_of-Formula)))))) ∷ (statement (codes "axiom") (IsFormula (And' (tt ∷ tt ∷ tt ∷ tt ∷ tt ∷ tt ∷ tt ∷ []) (more_of-Formula (Same (Name0 (codes "mk_actual")) (Name0 (codes "a"))) (more_of-Formula (Atom (codes "mk_acc") ((Name0 (codes "a")) ∷ (Name0 (codes "b")) ∷ [])) (more_of-Formula (Not1 (Atom (codes "mk_acc") ((Name0 (codes "a")) ∷ (Name0 (codes "a")) ∷ []))) (more_of-Formula (Not1 (Atom (codes "mk_acc") ((Name0 (codes "b")) ∷ (Name0 (codes "a")) ∷ []))) (more_of-Formula (Not1 (Atom (codes "mk_acc") ((Name0 (codes "b")) ∷ (Name0 (codes "b")) ∷ []))) (more_of-Formula (Not1 (Atom (codes "p") ((Name0 (codes "a")) ∷ []))) (more_of-Formula (Atom (codes "p") ((Name0 (codes "b")) ∷ [])) end_of-Formula)))))))))) ∷ []) }) ≡ Ok (record { actual = 0; sizes = (2 ∷ []); tables = ((0 ∷ 1 ∷ 0 ∷ 0 ∷ []) ∷ (0 ∷ 1 ∷ []) ∷ []) })
unfolding world_name actual_name
lift_two_worlds = refl

barcan_cumulative : given_by sig_barcan (record { statements = ((statement (codes "axiom") (IsFormula (Quant1 All (codes "X") (User (codes "mk_world")) (Or' (tt ∷ tt ∷ []) (more_of-Formula (Same (Var (codes "X")) (Name0 (codes "a"))) (more_of-Formula (Same (Var (codes "X")) (Name0 (codes "b"))) end_of-Formula)))))) ∷ (statement (codes "axiom") (IsFormula (Quant1 All (codes "X") Individual (Or' (tt ∷ tt ∷ []) (more_of-Formula (Same (Var (codes "X")) (Name0 (codes "d"))) (more_of-Formula (Same (Var (codes "X")) (Name0 (codes "e"))) end_of-Formula)))))) ∷ (statement (codes "axiom") (IsFormula (And' (tt ∷ tt ∷ tt ∷ tt ∷ tt ∷ []) (more_of-Formula (Same (Name0 (codes "mk_actual")) (Name0 (codes "a"))) (more_of-Formula (Not1 (Atom (codes "mk_acc") ((Name0 (codes "a")) ∷ (Name0 (codes "a")) ∷ []))) (more_of-Formula (Atom (codes "mk_acc") ((Name0 (codes "a")) ∷ (Name0 (codes "b")) ∷ [])) (more_of-Formula (Not1 (Atom (codes "mk_acc") ((Name0 (codes "b")) ∷ (Name0 (codes "a")) ∷ []))) (more_of-Formula (Not1 (Atom (codes "mk_acc") ((Name0 (codes "b")) ∷ (Name0 (codes "b")) ∷ []))) end_of-Formula)))))))) ∷ (statement (codes "axiom") (IsFormula (And' (tt ∷ tt ∷ tt ∷ tt ∷ []) (more_of-Formula (Atom (codes "mk_in") ((Name0 (codes "a")) ∷ (Name0 (codes "d")) ∷ [])) (more_of-Formula (Not1 (Atom (codes "mk_in") ((Name0 (codes "a")) ∷ (Name0 (codes "e")) ∷ []))) (more_of-Formula (Atom (codes "mk_in") ((Name0 (codes "b")) ∷ (Name0 (codes "d")) ∷ [])) (more_of-Formula (Atom (codes "mk_in") ((Name0 (codes "b")) ∷ (Name0 (codes "e")) ∷ [])) end_of-Formula))))))) ∷ (statement (codes "axiom") (IsFormula (And' (tt ∷ tt ∷ tt ∷ tt ∷ []) (more_of-Formula (Not1 (Atom (codes "q") ((Name0 (codes "a")) ∷ (Name0 (codes "d")) ∷ []))) (more_of-Formula (Not1 (Atom (codes "q") ((Name0 (codes "a")) ∷ (Name0 (codes "e")) ∷ []))) (more_of-Formula (Atom (codes "q") ((Name0 (codes "b")) ∷ (Name0 (codes "d")) ∷ [])) (more_of-Formula (Not1 (Atom (codes "q") ((Name0 (codes "b")) ∷ (Name0 (codes "e")) ∷ []))) end_of-Formula))))))) ∷ []) }) ≡ Ok (record { actual = 0; sizes = (2 ∷ 2 ∷ []); tables = ((0 ∷ 1 ∷ 0 ∷ 0 ∷ []) ∷ (1 ∷ 0 ∷ 1 ∷ 1 ∷ []) ∷ (0 ∷ 0 ∷ 1 ∷ 0 ∷ []) ∷ []) })
unfolding world_name actual_name
barcan_cumulative = refl

barcan_constant : given_by sig_constant (record { statements = ((statement (codes "axiom") (IsFormula (Quant1 All (codes "X") (User (codes "mk_world")) (Or' (tt ∷ tt ∷ []) (more_of-Formula (Same (Var (codes "X")) (Name0 (codes "a"))) (more_of-Formula (Same (Var (codes "X")) (Name0 (codes "b"))) end_of-Formula)))))) ∷ (statement (codes "axiom") (IsFormula (Quant1 All (codes "X") Individual (Or' (tt ∷ tt ∷ []) (more_of-Formula (Same (Var (codes "X")) (Name0 (codes "d"))) (more_of-Formula (Same (Var (codes "X")) (Name0 (codes "e"))) end_of-Formula)))))) ∷ (statement (codes "axiom") (IsFormula (And' (tt ∷ tt ∷ tt ∷ tt ∷ tt ∷ []) (more_of-Formula (Same (Name0 (codes "mk_actual")) (Name0 (codes "a"))) (more_of-Formula (Not1 (Atom (codes "mk_acc") ((Name0 (codes "a")) ∷ (Name0 (codes "a")) ∷ []))) (more_of-Formula (Atom (codes "mk_acc") ((Name0 (codes "a")) ∷ (Name0 (codes "b")) ∷ [])) (more_of-Formula (Not1 (Atom (codes "mk_acc") ((Name0 (codes "b")) ∷ (Name0 (codes "a")) ∷ []))) (more_of-Formula (Not1 (Atom (codes "mk_acc") ((Name0 (codes "b")) ∷ (Name0 (codes "b")) ∷ []))) end_of-Formula)))))))) ∷ (statement (codes "axiom") (IsFormula (And' (tt ∷ tt ∷ tt ∷ tt ∷ []) (more_of-Formula (Not1 (Atom (codes "q") ((Name0 (codes "a")) ∷ (Name0 (codes "d")) ∷ []))) (more_of-Formula (Not1 (Atom (codes "q") ((Name0 (codes "a")) ∷ (Name0 (codes "e")) ∷ []))) (more_of-Formula (Atom (codes "q") ((Name0 (codes "b")) ∷ (Name0 (codes "d")) ∷ [])) (more_of-Formula (Not1 (Atom (codes "q") ((Name0 (codes "b")) ∷ (Name0 (codes "e")) ∷ []))) end_of-Formula))))))) ∷ []) }) ≡ Ok (record { actual = 0; sizes = (2 ∷ 2 ∷ []); tables = ((0 ∷ 1 ∷ 0 ∷ 0 ∷ []) ∷ (0 ∷ 0 ∷ 1 ∷ 0 ∷ []) ∷ []) })
unfolding world_name actual_name
barcan_constant = refl

barcan_constant_with_existence : given_by sig_constant (record { statements = ((statement (codes "axiom") (IsFormula (Quant1 All (codes "X") (User (codes "mk_world")) (Or' (tt ∷ tt ∷ []) (more_of-Formula (Same (Var (codes "X")) (Name0 (codes "a"))) (more_of-Formula (Same (Var (codes "X")) (Name0 (codes "b"))) end_of-Formula)))))) ∷ (statement (codes "axiom") (IsFormula (Quant1 All (codes "X") Individual (Or' (tt ∷ tt ∷ []) (more_of-Formula (Same (Var (codes "X")) (Name0 (codes "d"))) (more_of-Formula (Same (Var (codes "X")) (Name0 (codes "e"))) end_of-Formula)))))) ∷ (statement (codes "axiom") (IsFormula (And' (tt ∷ tt ∷ tt ∷ tt ∷ tt ∷ []) (more_of-Formula (Same (Name0 (codes "mk_actual")) (Name0 (codes "a"))) (more_of-Formula (Not1 (Atom (codes "mk_acc") ((Name0 (codes "a")) ∷ (Name0 (codes "a")) ∷ []))) (more_of-Formula (Atom (codes "mk_acc") ((Name0 (codes "a")) ∷ (Name0 (codes "b")) ∷ [])) (more_of-Formula (Not1 (Atom (codes "mk_acc") ((Name0 (codes "b")) ∷ (Name0 (codes "a")) ∷ []))) (more_of-Formula (Not1 (Atom (codes "mk_acc") ((Name0 (codes "b")) ∷ (Name0 (codes "b")) ∷ []))) end_of-Formula)))))))) ∷ (statement (codes "axiom") (IsFormula (And' (tt ∷ tt ∷ tt ∷ tt ∷ []) (more_of-Formula (Atom (codes "mk_in") ((Name0 (codes "a")) ∷ (Name0 (codes "d")) ∷ [])) (more_of-Formula (Not1 (Atom (codes "mk_in") ((Name0 (codes "a")) ∷ (Name0 (codes "e")) ∷ []))) (more_of-Formula (Atom (codes "mk_in") ((Name0 (codes "b")) ∷ (Name0 (codes "d")) ∷ [])) (more_of-Formula (Atom (codes "mk_in") ((Name0 (codes "b")) ∷ (Name0 (codes "e")) ∷ [])) end_of-Formula))))))) ∷ (statement (codes "axiom") (IsFormula (And' (tt ∷ tt ∷ tt ∷ tt ∷ []) (more_of-Formula (Not1 (Atom (codes "q") ((Name0 (codes "a")) ∷ (Name0 (codes "d")) ∷ []))) (more_of-Formula (Not1 (Atom (codes "q") ((Name0 (codes "a")) ∷ (Name0 (codes "e")) ∷ []))) (more_of-Formula (Atom (codes "q") ((Name0 (codes "b")) ∷ (Name0 (codes "d")) ∷ [])) (more_of-Formula (Not1 (Atom (codes "q") ((Name0 (codes "b")) ∷ (Name0 (codes "e")) ∷ []))) end_of-Formula))))))) ∷ []) }) ≡ refused 4 UnknownSymbol
unfolding world_name actual_name
barcan_constant_with_existence = refl

converse_barcan : given_by sig_barcan (record { statements = ((statement (codes "axiom") (IsFormula (Quant1 All (codes "X") (User (codes "mk_world")) (Or' (tt ∷ tt ∷ []) (more_of-Formula (Same (Var (codes "X")) (Name0 (codes "a"))) (more_of-Formula (Same (Var (codes "X")) (Name0 (codes "b"))) end_of-Formula)))))) ∷ (statement (codes "axiom") (IsFormula (Quant1 All (codes "X") Individual (Or' (tt ∷ tt ∷ []) (more_of-Formula (Same (Var (codes "X")) (Name0 (codes "d"))) (more_of-Formula (Same (Var (codes "X")) (Name0 (codes "e"))) end_of-Formula)))))) ∷ (statement (codes "axiom") (IsFormula (And' (tt ∷ tt ∷ tt ∷ tt ∷ tt ∷ []) (more_of-Formula (Same (Name0 (codes "mk_actual")) (Name0 (codes "a"))) (more_of-Formula (Not1 (Atom (codes "mk_acc") ((Name0 (codes "a")) ∷ (Name0 (codes "a")) ∷ []))) (more_of-Formula (Atom (codes "mk_acc") ((Name0 (codes "a")) ∷ (Name0 (codes "b")) ∷ [])) (more_of-Formula (Not1 (Atom (codes "mk_acc") ((Name0 (codes "b")) ∷ (Name0 (codes "a")) ∷ []))) (more_of-Formula (Not1 (Atom (codes "mk_acc") ((Name0 (codes "b")) ∷ (Name0 (codes "b")) ∷ []))) end_of-Formula)))))))) ∷ (statement (codes "axiom") (IsFormula (And' (tt ∷ tt ∷ tt ∷ tt ∷ []) (more_of-Formula (Atom (codes "mk_in") ((Name0 (codes "a")) ∷ (Name0 (codes "d")) ∷ [])) (more_of-Formula (Atom (codes "mk_in") ((Name0 (codes "a")) ∷ (Name0 (codes "e")) ∷ [])) (more_of-Formula (Atom (codes "mk_in") ((Name0 (codes "b")) ∷ (Name0 (codes "d")) ∷ [])) (more_of-Formula (Not1 (Atom (codes "mk_in") ((Name0 (codes "b")) ∷ (Name0 (codes "e")) ∷ []))) end_of-Formula))))))) ∷ (statement (codes "axiom") (IsFormula (And' (tt ∷ tt ∷ tt ∷ tt ∷ []) (more_of-Formula (Not1 (Atom (codes "q") ((Name0 (codes "a")) ∷ (Name0 (codes "d")) ∷ []))) (more_of-Formula (Not1 (Atom (codes "q") ((Name0 (codes "a")) ∷ (Name0 (codes "e")) ∷ []))) (more_of-Formula (Atom (codes "q") ((Name0 (codes "b")) ∷ (Name0 (codes "d")) ∷ [])) (more_of-Formula (Not1 (Atom (codes "q") ((Name0 (codes "b")) ∷ (Name0 (codes "e")) ∷ []))) end_of-Formula))))))) ∷ []) }) ≡ Ok (record { actual = 0; sizes = (2 ∷ 2 ∷ []); tables = ((0 ∷ 1 ∷ 0 ∷ 0 ∷ []) ∷ (1 ∷ 1 ∷ 1 ∷ 0 ∷ []) ∷ (0 ∷ 0 ∷ 1 ∷ 0 ∷ []) ∷ []) })
unfolding world_name actual_name
converse_barcan = refl

empty_interpretation : given_by sig_empty (record { statements = ([]) }) ≡ Ok (record { actual = 0; sizes = (1 ∷ 1 ∷ []); tables = ((0 ∷ []) ∷ (0 ∷ []) ∷ (0 ∷ []) ∷ []) })
unfolding world_name actual_name
empty_interpretation = refl

half_given_function : given_by sig_half (record { statements = ((statement (codes "axiom") (IsFormula (Quant1 All (codes "X") Individual (Or' (tt ∷ tt ∷ []) (more_of-Formula (Same (Var (codes "X")) (Name0 (codes "d"))) (more_of-Formula (Same (Var (codes "X")) (Name0 (codes "e"))) end_of-Formula)))))) ∷ (statement (codes "axiom") (IsFormula (And' (tt ∷ tt ∷ []) (more_of-Formula (Same (App' (codes "f") (tt ∷ []) (more_of-Term (Name0 (codes "d")) end_of-Term)) (Name0 (codes "e"))) (more_of-Formula (Same (Name0 (codes "a")) (Name0 (codes "d"))) end_of-Formula))))) ∷ []) }) ≡ Err (error.Kind (kind.Incomplete (codes "f")))
unfolding world_name actual_name
half_given_function = refl

half_given_two_values : given_by sig_half (record { statements = ((statement (codes "axiom") (IsFormula (Quant1 All (codes "X") Individual (Or' (tt ∷ tt ∷ []) (more_of-Formula (Same (Var (codes "X")) (Name0 (codes "d"))) (more_of-Formula (Same (Var (codes "X")) (Name0 (codes "e"))) end_of-Formula)))))) ∷ (statement (codes "axiom") (IsFormula (And' (tt ∷ tt ∷ []) (more_of-Formula (Same (Name0 (codes "a")) (Name0 (codes "d"))) (more_of-Formula (Same (Name0 (codes "a")) (Name0 (codes "e"))) end_of-Formula))))) ∷ []) }) ≡ refused 2 Clash
unfolding world_name actual_name
half_given_two_values = refl

half_given_unknown_value : given_by sig_half (record { statements = ((statement (codes "axiom") (IsFormula (Quant1 All (codes "X") Individual (Or' (tt ∷ tt ∷ []) (more_of-Formula (Same (Var (codes "X")) (Name0 (codes "d"))) (more_of-Formula (Same (Var (codes "X")) (Name0 (codes "e"))) end_of-Formula)))))) ∷ (statement (codes "axiom") (IsFormula (Same (Name0 (codes "a")) (Name0 (codes "g"))))) ∷ []) }) ≡ refused 2 UnknownElement
unfolding world_name actual_name
half_given_unknown_value = refl

half_given_unknown_symbol : given_by sig_half (record { statements = ((statement (codes "axiom") (IsFormula (Quant1 All (codes "X") Individual (Or' (tt ∷ tt ∷ []) (more_of-Formula (Same (Var (codes "X")) (Name0 (codes "d"))) (more_of-Formula (Same (Var (codes "X")) (Name0 (codes "e"))) end_of-Formula)))))) ∷ (statement (codes "axiom") (IsFormula (Same (Name0 (codes "b")) (Name0 (codes "d"))))) ∷ []) }) ≡ refused 2 UnknownSymbol
unfolding world_name actual_name
half_given_unknown_symbol = refl

half_given_disjunction : given_by sig_half (record { statements = ((statement (codes "axiom") (IsFormula (Quant1 All (codes "X") Individual (Or' (tt ∷ tt ∷ []) (more_of-Formula (Same (Var (codes "X")) (Name0 (codes "d"))) (more_of-Formula (Same (Var (codes "X")) (Name0 (codes "e"))) end_of-Formula)))))) ∷ (statement (codes "axiom") (IsFormula (Or' (tt ∷ tt ∷ []) (more_of-Formula (Same (Name0 (codes "a")) (Name0 (codes "d"))) (more_of-Formula (Same (Name0 (codes "a")) (Name0 (codes "e"))) end_of-Formula))))) ∷ []) }) ≡ refused 2 Form
unfolding world_name actual_name
half_given_disjunction = refl

half_given_constant : given_by sig_half (record { statements = ((statement (codes "axiom") (IsFormula (Quant1 All (codes "X") Individual (Or' (tt ∷ tt ∷ []) (more_of-Formula (Same (Var (codes "X")) (Name0 (codes "d"))) (more_of-Formula (Same (Var (codes "X")) (Name0 (codes "e"))) end_of-Formula)))))) ∷ (statement (codes "axiom") (IsFormula (Same (Name0 (codes "a")) (Name0 (codes "e"))))) ∷ []) }) ≡ Ok (record { actual = 0; sizes = (1 ∷ 2 ∷ []); tables = ((0 ∷ []) ∷ (0 ∷ 0 ∷ []) ∷ (0 ∷ 0 ∷ []) ∷ (1 ∷ []) ∷ []) })
unfolding world_name actual_name
half_given_constant = refl

people : given_by sig_people (record { statements = ((statement (codes "type") (IsTyping (typing.Sort (codes "mk_world")))) ∷ (statement (codes "type") (IsTyping (typing.Symbol (codes "fin_$w_1") ([]) (Some (User (codes "mk_world")))))) ∷ (statement (codes "axiom") (IsFormula (Quant1 All (codes "X") (User (codes "mk_world")) (Or' (tt ∷ tt ∷ []) (more_of-Formula (Same (Var (codes "X")) (Name0 (codes "fin_$w_1"))) (more_of-Formula (Same (Var (codes "X")) (Name0 (codes "v"))) end_of-Formula)))))) ∷ (statement (codes "axiom") (IsFormula (Differ (Name0 (codes "fin_$w_1")) (Name0 (codes "v"))))) ∷ (statement (codes "axiom") (IsFormula (Quant1 All (codes "X") (User (codes "person")) (Or' (tt ∷ tt ∷ []) (more_of-Formula (Same (Var (codes "X")) (Name0 (codes "ann"))) (more_of-Formula (Same (Var (codes "X")) (Name0 (codes "bob"))) end_of-Formula)))))) ∷ (statement (codes "type") (IsTyping (typing.Symbol (codes "sK0") ([]) (Some (User (codes "person")))))) ∷ (statement (codes "axiom") (IsFormula (Same (Name0 (codes "sK0")) (Name0 (codes "ann"))))) ∷ (statement (codes "axiom") (IsFormula (Same (Name0 (codes "mk_actual")) (Name0 (codes "fin_$w_1"))))) ∷ (statement (codes "axiom") (IsFormula (And' (tt ∷ tt ∷ tt ∷ tt ∷ []) (more_of-Formula (Atom (codes "mk_acc") ((Name0 (codes "fin_$w_1")) ∷ (Name0 (codes "fin_$w_1")) ∷ [])) (more_of-Formula (Atom (codes "mk_acc") ((Name0 (codes "fin_$w_1")) ∷ (Name0 (codes "v")) ∷ [])) (more_of-Formula (Not1 (Atom (codes "mk_acc") ((Name0 (codes "v")) ∷ (Name0 (codes "fin_$w_1")) ∷ []))) (more_of-Formula (Atom (codes "mk_acc") ((Name0 (codes "v")) ∷ (Name0 (codes "v")) ∷ [])) end_of-Formula))))))) ∷ (statement (codes "axiom") (IsFormula (And' (tt ∷ tt ∷ tt ∷ tt ∷ []) (more_of-Formula (Atom (codes "knows") ((Name0 (codes "fin_$w_1")) ∷ (Name0 (codes "ann")) ∷ (Name0 (codes "ann")) ∷ [])) (more_of-Formula (Not1 (Atom (codes "knows") ((Name0 (codes "fin_$w_1")) ∷ (Name0 (codes "ann")) ∷ (Name0 (codes "bob")) ∷ []))) (more_of-Formula (Not1 (Atom (codes "knows") ((Name0 (codes "fin_$w_1")) ∷ (Name0 (codes "bob")) ∷ (Name0 (codes "ann")) ∷ []))) (more_of-Formula (Atom (codes "knows") ((Name0 (codes "fin_$w_1")) ∷ (Name0 (codes "bob")) ∷ (Name0 (codes "bob")) ∷ [])) end_of-Formula))))))) ∷ (statement (codes "axiom") (IsFormula (And' (tt ∷ tt ∷ tt ∷ tt ∷ []) (more_of-Formula (Atom (codes "knows") ((Name0 (codes "v")) ∷ (Name0 (codes "ann")) ∷ (Name0 (codes "ann")) ∷ [])) (more_of-Formula (Atom (codes "knows") ((Name0 (codes "v")) ∷ (Name0 (codes "ann")) ∷ (Name0 (codes "bob")) ∷ [])) (more_of-Formula (Atom (codes "knows") ((Name0 (codes "v")) ∷ (Name0 (codes "bob")) ∷ (Name0 (codes "ann")) ∷ [])) (more_of-Formula (Atom (codes "knows") ((Name0 (codes "v")) ∷ (Name0 (codes "bob")) ∷ (Name0 (codes "bob")) ∷ [])) end_of-Formula))))))) ∷ (statement (codes "axiom") (IsFormula (And' (tt ∷ tt ∷ tt ∷ tt ∷ []) (more_of-Formula (Not1 (Atom (codes "happy") ((Name0 (codes "fin_$w_1")) ∷ (Name0 (codes "ann")) ∷ []))) (more_of-Formula (Not1 (Atom (codes "happy") ((Name0 (codes "fin_$w_1")) ∷ (Name0 (codes "bob")) ∷ []))) (more_of-Formula (Atom (codes "happy") ((Name0 (codes "v")) ∷ (Name0 (codes "ann")) ∷ [])) (more_of-Formula (Not1 (Atom (codes "happy") ((Name0 (codes "v")) ∷ (Name0 (codes "bob")) ∷ []))) end_of-Formula))))))) ∷ []) }) ≡ Ok (record { actual = 0; sizes = (2 ∷ 2 ∷ []); tables = ((1 ∷ 1 ∷ 0 ∷ 1 ∷ []) ∷ (0 ∷ []) ∷ (1 ∷ []) ∷ (1 ∷ 0 ∷ 0 ∷ 1 ∷ 1 ∷ 1 ∷ 1 ∷ 1 ∷ []) ∷ (0 ∷ 0 ∷ 1 ∷ 0 ∷ []) ∷ []) })
unfolding world_name actual_name
people = refl

lowered_and_back : given_by sig_k (record { statements = ((statement (codes "type") (IsTyping (typing.Sort (codes "mk_world")))) ∷ (statement (codes "type") (IsTyping (typing.Symbol (codes "mk_w_0") ([]) (Some (User (codes "mk_world")))))) ∷ (statement (codes "type") (IsTyping (typing.Symbol (codes "mk_w_1") ([]) (Some (User (codes "mk_world")))))) ∷ (statement (codes "axiom") (IsFormula (Quant1 All (codes "X") (User (codes "mk_world")) (Or' (tt ∷ tt ∷ []) (more_of-Formula (Same (Var (codes "X")) (Name0 (codes "mk_w_0"))) (more_of-Formula (Same (Var (codes "X")) (Name0 (codes "mk_w_1"))) end_of-Formula)))))) ∷ (statement (codes "axiom") (IsFormula (Distinct ((Name0 (codes "mk_w_0")) ∷ (Name0 (codes "mk_w_1")) ∷ [])))) ∷ (statement (codes "type") (IsTyping (typing.Symbol (codes "mk_actual") ([]) (Some (User (codes "mk_world")))))) ∷ (statement (codes "axiom") (IsFormula (Same (Name0 (codes "mk_actual")) (Name0 (codes "mk_w_0"))))) ∷ (statement (codes "type") (IsTyping (typing.Symbol (codes "mk_acc") ((User (codes "mk_world")) ∷ (User (codes "mk_world")) ∷ []) None))) ∷ (statement (codes "axiom") (IsFormula (And' (tt ∷ tt ∷ tt ∷ tt ∷ []) (more_of-Formula (Not1 (Atom (codes "mk_acc") ((Name0 (codes "mk_w_0")) ∷ (Name0 (codes "mk_w_0")) ∷ []))) (more_of-Formula (Atom (codes "mk_acc") ((Name0 (codes "mk_w_0")) ∷ (Name0 (codes "mk_w_1")) ∷ [])) (more_of-Formula (Not1 (Atom (codes "mk_acc") ((Name0 (codes "mk_w_1")) ∷ (Name0 (codes "mk_w_0")) ∷ []))) (more_of-Formula (Not1 (Atom (codes "mk_acc") ((Name0 (codes "mk_w_1")) ∷ (Name0 (codes "mk_w_1")) ∷ []))) end_of-Formula))))))) ∷ (statement (codes "type") (IsTyping (typing.Symbol (codes "p") ((User (codes "mk_world")) ∷ []) None))) ∷ (statement (codes "axiom") (IsFormula (And' (tt ∷ tt ∷ []) (more_of-Formula (Not1 (Atom (codes "p") ((Name0 (codes "mk_w_0")) ∷ []))) (more_of-Formula (Atom (codes "p") ((Name0 (codes "mk_w_1")) ∷ [])) end_of-Formula))))) ∷ []) }) ≡ Ok (record { actual = 0; sizes = (2 ∷ []); tables = ((0 ∷ 1 ∷ 0 ∷ 0 ∷ []) ∷ (0 ∷ 1 ∷ []) ∷ []) })
unfolding world_name actual_name
lowered_and_back = refl

bad_role : given_by sig_half (record { statements = ((statement (codes "axiom") (IsFormula (Quant1 All (codes "X") Individual (Or' (tt ∷ tt ∷ []) (more_of-Formula (Same (Var (codes "X")) (Name0 (codes "d"))) (more_of-Formula (Same (Var (codes "X")) (Name0 (codes "e"))) end_of-Formula)))))) ∷ (statement (codes "axiom") (IsFormula (Quant1 All (codes "X") (User (codes "mk_world")) (Or' (tt ∷ tt ∷ []) (more_of-Formula (Same (Var (codes "X")) (Name0 (codes "v"))) (more_of-Formula (Same (Var (codes "X")) (Name0 (codes "w"))) end_of-Formula)))))) ∷ (statement (codes "conjecture") (IsFormula True)) ∷ []) }) ≡ refused 3 Form
unfolding world_name actual_name
bad_role = refl

bad_role_first : given_by sig_half (record { statements = ((statement (codes "axiom") (IsFormula (Quant1 All (codes "X") Individual (Or' (tt ∷ tt ∷ []) (more_of-Formula (Same (Var (codes "X")) (Name0 (codes "d"))) (more_of-Formula (Same (Var (codes "X")) (Name0 (codes "e"))) end_of-Formula)))))) ∷ (statement (codes "axiom") (IsFormula (Quant1 All (codes "X") (User (codes "mk_world")) (Or' (tt ∷ tt ∷ []) (more_of-Formula (Same (Var (codes "X")) (Name0 (codes "v"))) (more_of-Formula (Same (Var (codes "X")) (Name0 (codes "w"))) end_of-Formula)))))) ∷ (statement (codes "plain") (IsFormula (Atom (codes "zz") ((Name0 (codes "d")) ∷ [])))) ∷ []) }) ≡ refused 3 Form
unfolding world_name actual_name
bad_role_first = refl

closure_of_refused_statement : given_by sig_half (record { statements = ((statement (codes "axiom") (IsFormula (Same (Name0 (codes "a")) (Name0 (codes "e"))))) ∷ (statement (codes "plain") (IsFormula (Quant1 All (codes "X") Individual (Or' (tt ∷ tt ∷ []) (more_of-Formula (Same (Var (codes "X")) (Name0 (codes "d"))) (more_of-Formula (Same (Var (codes "X")) (Name0 (codes "e"))) end_of-Formula)))))) ∷ []) }) ≡ refused 2 Form
unfolding world_name actual_name
closure_of_refused_statement = refl

suffixless_interpretation : given_by sig_half (record { statements = ((statement (codes "axiom") (IsFormula (Quant1 All (codes "X") Individual (Or' (tt ∷ tt ∷ []) (more_of-Formula (Same (Var (codes "X")) (Name0 (codes "d"))) (more_of-Formula (Same (Var (codes "X")) (Name0 (codes "e"))) end_of-Formula)))))) ∷ (statement (codes "axiom") (IsFormula (Quant1 All (codes "X") (User (codes "mk_world")) (Or' (tt ∷ tt ∷ []) (more_of-Formula (Same (Var (codes "X")) (Name0 (codes "v"))) (more_of-Formula (Same (Var (codes "X")) (Name0 (codes "w"))) end_of-Formula)))))) ∷ (statement (codes "interpretation") (IsFormula True)) ∷ []) }) ≡ Ok (record { actual = 0; sizes = (2 ∷ 2 ∷ []); tables = ((0 ∷ 0 ∷ 0 ∷ 0 ∷ []) ∷ (0 ∷ 0 ∷ 0 ∷ 0 ∷ []) ∷ (0 ∷ 0 ∷ []) ∷ (0 ∷ []) ∷ []) })
unfolding world_name actual_name
suffixless_interpretation = refl

false_is_no_literal : given_by sig_half (record { statements = ((statement (codes "axiom") (IsFormula (Quant1 All (codes "X") Individual (Or' (tt ∷ tt ∷ []) (more_of-Formula (Same (Var (codes "X")) (Name0 (codes "d"))) (more_of-Formula (Same (Var (codes "X")) (Name0 (codes "e"))) end_of-Formula)))))) ∷ (statement (codes "axiom") (IsFormula (Quant1 All (codes "X") (User (codes "mk_world")) (Or' (tt ∷ tt ∷ []) (more_of-Formula (Same (Var (codes "X")) (Name0 (codes "v"))) (more_of-Formula (Same (Var (codes "X")) (Name0 (codes "w"))) end_of-Formula)))))) ∷ (statement (codes "axiom") (IsFormula False)) ∷ []) }) ≡ refused 3 Form
unfolding world_name actual_name
false_is_no_literal = refl

negated_equation : given_by sig_half (record { statements = ((statement (codes "axiom") (IsFormula (Quant1 All (codes "X") Individual (Or' (tt ∷ tt ∷ []) (more_of-Formula (Same (Var (codes "X")) (Name0 (codes "d"))) (more_of-Formula (Same (Var (codes "X")) (Name0 (codes "e"))) end_of-Formula)))))) ∷ (statement (codes "axiom") (IsFormula (Quant1 All (codes "X") (User (codes "mk_world")) (Or' (tt ∷ tt ∷ []) (more_of-Formula (Same (Var (codes "X")) (Name0 (codes "v"))) (more_of-Formula (Same (Var (codes "X")) (Name0 (codes "w"))) end_of-Formula)))))) ∷ (statement (codes "axiom") (IsFormula (Not1 (Same (Name0 (codes "a")) (Name0 (codes "d")))))) ∷ []) }) ≡ refused 3 Form
unfolding world_name actual_name
negated_equation = refl

negated_true : given_by sig_half (record { statements = ((statement (codes "axiom") (IsFormula (Quant1 All (codes "X") Individual (Or' (tt ∷ tt ∷ []) (more_of-Formula (Same (Var (codes "X")) (Name0 (codes "d"))) (more_of-Formula (Same (Var (codes "X")) (Name0 (codes "e"))) end_of-Formula)))))) ∷ (statement (codes "axiom") (IsFormula (Quant1 All (codes "X") (User (codes "mk_world")) (Or' (tt ∷ tt ∷ []) (more_of-Formula (Same (Var (codes "X")) (Name0 (codes "v"))) (more_of-Formula (Same (Var (codes "X")) (Name0 (codes "w"))) end_of-Formula)))))) ∷ (statement (codes "axiom") (IsFormula (Not1 True))) ∷ []) }) ≡ refused 3 Form
unfolding world_name actual_name
negated_true = refl

two_negations : given_by sig_half (record { statements = ((statement (codes "axiom") (IsFormula (Quant1 All (codes "X") Individual (Or' (tt ∷ tt ∷ []) (more_of-Formula (Same (Var (codes "X")) (Name0 (codes "d"))) (more_of-Formula (Same (Var (codes "X")) (Name0 (codes "e"))) end_of-Formula)))))) ∷ (statement (codes "axiom") (IsFormula (Quant1 All (codes "X") (User (codes "mk_world")) (Or' (tt ∷ tt ∷ []) (more_of-Formula (Same (Var (codes "X")) (Name0 (codes "v"))) (more_of-Formula (Same (Var (codes "X")) (Name0 (codes "w"))) end_of-Formula)))))) ∷ (statement (codes "axiom") (IsFormula (Not1 (Not1 (Atom (codes "p") ((Name0 (codes "v")) ∷ (Name0 (codes "d")) ∷ [])))))) ∷ []) }) ≡ refused 3 Form
unfolding world_name actual_name
two_negations = refl

pair : given_by sig_half (record { statements = ((statement (codes "axiom") (IsFormula (Quant1 All (codes "X") Individual (Or' (tt ∷ tt ∷ []) (more_of-Formula (Same (Var (codes "X")) (Name0 (codes "d"))) (more_of-Formula (Same (Var (codes "X")) (Name0 (codes "e"))) end_of-Formula)))))) ∷ (statement (codes "axiom") (IsFormula (Quant1 All (codes "X") (User (codes "mk_world")) (Or' (tt ∷ tt ∷ []) (more_of-Formula (Same (Var (codes "X")) (Name0 (codes "v"))) (more_of-Formula (Same (Var (codes "X")) (Name0 (codes "w"))) end_of-Formula)))))) ∷ (statement (codes "axiom") (IsFormula (Pair2 Implies (Atom (codes "p") ((Name0 (codes "v")) ∷ (Name0 (codes "d")) ∷ [])) (Atom (codes "p") ((Name0 (codes "v")) ∷ (Name0 (codes "d")) ∷ []))))) ∷ []) }) ≡ refused 3 Form
unfolding world_name actual_name
pair = refl

exists : given_by sig_half (record { statements = ((statement (codes "axiom") (IsFormula (Quant1 All (codes "X") Individual (Or' (tt ∷ tt ∷ []) (more_of-Formula (Same (Var (codes "X")) (Name0 (codes "d"))) (more_of-Formula (Same (Var (codes "X")) (Name0 (codes "e"))) end_of-Formula)))))) ∷ (statement (codes "axiom") (IsFormula (Quant1 All (codes "X") (User (codes "mk_world")) (Or' (tt ∷ tt ∷ []) (more_of-Formula (Same (Var (codes "X")) (Name0 (codes "v"))) (more_of-Formula (Same (Var (codes "X")) (Name0 (codes "w"))) end_of-Formula)))))) ∷ (statement (codes "axiom") (IsFormula (Quant1 Exists (codes "X") Individual (Same (Var (codes "X")) (Name0 (codes "d")))))) ∷ []) }) ≡ refused 3 Form
unfolding world_name actual_name
exists = refl

closure_turned : given_by sig_half (record { statements = ((statement (codes "axiom") (IsFormula (Quant1 All (codes "X") Individual (Or' (tt ∷ tt ∷ []) (more_of-Formula (Same (Var (codes "X")) (Name0 (codes "d"))) (more_of-Formula (Same (Var (codes "X")) (Name0 (codes "e"))) end_of-Formula)))))) ∷ (statement (codes "axiom") (IsFormula (Quant1 All (codes "X") (User (codes "mk_world")) (Or' (tt ∷ tt ∷ []) (more_of-Formula (Same (Var (codes "X")) (Name0 (codes "v"))) (more_of-Formula (Same (Var (codes "X")) (Name0 (codes "w"))) end_of-Formula)))))) ∷ (statement (codes "axiom") (IsFormula (Quant1 All (codes "X") Individual (Same (Name0 (codes "d")) (Var (codes "X")))))) ∷ []) }) ≡ refused 3 Form
unfolding world_name actual_name
closure_turned = refl

closure_other_variable : given_by sig_half (record { statements = ((statement (codes "axiom") (IsFormula (Quant1 All (codes "X") Individual (Or' (tt ∷ tt ∷ []) (more_of-Formula (Same (Var (codes "X")) (Name0 (codes "d"))) (more_of-Formula (Same (Var (codes "X")) (Name0 (codes "e"))) end_of-Formula)))))) ∷ (statement (codes "axiom") (IsFormula (Quant1 All (codes "X") (User (codes "mk_world")) (Or' (tt ∷ tt ∷ []) (more_of-Formula (Same (Var (codes "X")) (Name0 (codes "v"))) (more_of-Formula (Same (Var (codes "X")) (Name0 (codes "w"))) end_of-Formula)))))) ∷ (statement (codes "axiom") (IsFormula (Quant1 All (codes "X") Individual (Same (Var (codes "Y")) (Name0 (codes "d")))))) ∷ []) }) ≡ refused 3 Form
unfolding world_name actual_name
closure_other_variable = refl

closure_nested_or : given_by sig_half (record { statements = ((statement (codes "axiom") (IsFormula (Quant1 All (codes "X") Individual (Or' (tt ∷ tt ∷ []) (more_of-Formula (Same (Var (codes "X")) (Name0 (codes "d"))) (more_of-Formula (Same (Var (codes "X")) (Name0 (codes "e"))) end_of-Formula)))))) ∷ (statement (codes "axiom") (IsFormula (Quant1 All (codes "X") (User (codes "mk_world")) (Or' (tt ∷ tt ∷ []) (more_of-Formula (Same (Var (codes "X")) (Name0 (codes "v"))) (more_of-Formula (Same (Var (codes "X")) (Name0 (codes "w"))) end_of-Formula)))))) ∷ (statement (codes "axiom") (IsFormula (Quant1 All (codes "X") (User (codes "mk_world")) (Or' (tt ∷ tt ∷ []) (more_of-Formula (Same (Var (codes "X")) (Name0 (codes "d"))) (more_of-Formula (Or' (tt ∷ tt ∷ []) (more_of-Formula (Same (Var (codes "X")) (Name0 (codes "e"))) (more_of-Formula (Same (Var (codes "X")) (Name0 (codes "g"))) end_of-Formula))) end_of-Formula)))))) ∷ []) }) ≡ refused 3 Form
unfolding world_name actual_name
closure_nested_or = refl

arity : given_by sig_half (record { statements = ((statement (codes "axiom") (IsFormula (Quant1 All (codes "X") Individual (Or' (tt ∷ tt ∷ []) (more_of-Formula (Same (Var (codes "X")) (Name0 (codes "d"))) (more_of-Formula (Same (Var (codes "X")) (Name0 (codes "e"))) end_of-Formula)))))) ∷ (statement (codes "axiom") (IsFormula (Quant1 All (codes "X") (User (codes "mk_world")) (Or' (tt ∷ tt ∷ []) (more_of-Formula (Same (Var (codes "X")) (Name0 (codes "v"))) (more_of-Formula (Same (Var (codes "X")) (Name0 (codes "w"))) end_of-Formula)))))) ∷ (statement (codes "axiom") (IsFormula (Atom (codes "p") ((Name0 (codes "v")) ∷ [])))) ∷ []) }) ≡ refused 3 Form
unfolding world_name actual_name
arity = refl

arity_function : given_by sig_half (record { statements = ((statement (codes "axiom") (IsFormula (Quant1 All (codes "X") Individual (Or' (tt ∷ tt ∷ []) (more_of-Formula (Same (Var (codes "X")) (Name0 (codes "d"))) (more_of-Formula (Same (Var (codes "X")) (Name0 (codes "e"))) end_of-Formula)))))) ∷ (statement (codes "axiom") (IsFormula (Quant1 All (codes "X") (User (codes "mk_world")) (Or' (tt ∷ tt ∷ []) (more_of-Formula (Same (Var (codes "X")) (Name0 (codes "v"))) (more_of-Formula (Same (Var (codes "X")) (Name0 (codes "w"))) end_of-Formula)))))) ∷ (statement (codes "axiom") (IsFormula (Same (Name0 (codes "f")) (Name0 (codes "d"))))) ∷ []) }) ≡ refused 3 Form
unfolding world_name actual_name
arity_function = refl

deep_argument : given_by sig_half (record { statements = ((statement (codes "axiom") (IsFormula (Quant1 All (codes "X") Individual (Or' (tt ∷ tt ∷ []) (more_of-Formula (Same (Var (codes "X")) (Name0 (codes "d"))) (more_of-Formula (Same (Var (codes "X")) (Name0 (codes "e"))) end_of-Formula)))))) ∷ (statement (codes "axiom") (IsFormula (Quant1 All (codes "X") (User (codes "mk_world")) (Or' (tt ∷ tt ∷ []) (more_of-Formula (Same (Var (codes "X")) (Name0 (codes "v"))) (more_of-Formula (Same (Var (codes "X")) (Name0 (codes "w"))) end_of-Formula)))))) ∷ (statement (codes "axiom") (IsFormula (Atom (codes "p") ((Name0 (codes "v")) ∷ (App' (codes "f") (tt ∷ []) (more_of-Term (Name0 (codes "d")) end_of-Term)) ∷ [])))) ∷ []) }) ≡ refused 3 Form
unfolding world_name actual_name
deep_argument = refl

variable_argument : given_by sig_half (record { statements = ((statement (codes "axiom") (IsFormula (Quant1 All (codes "X") Individual (Or' (tt ∷ tt ∷ []) (more_of-Formula (Same (Var (codes "X")) (Name0 (codes "d"))) (more_of-Formula (Same (Var (codes "X")) (Name0 (codes "e"))) end_of-Formula)))))) ∷ (statement (codes "axiom") (IsFormula (Quant1 All (codes "X") (User (codes "mk_world")) (Or' (tt ∷ tt ∷ []) (more_of-Formula (Same (Var (codes "X")) (Name0 (codes "v"))) (more_of-Formula (Same (Var (codes "X")) (Name0 (codes "w"))) end_of-Formula)))))) ∷ (statement (codes "axiom") (IsFormula (Atom (codes "p") ((Name0 (codes "v")) ∷ (Var (codes "X")) ∷ [])))) ∷ []) }) ≡ refused 3 Form
unfolding world_name actual_name
variable_argument = refl

deep_value : given_by sig_half (record { statements = ((statement (codes "axiom") (IsFormula (Quant1 All (codes "X") Individual (Or' (tt ∷ tt ∷ []) (more_of-Formula (Same (Var (codes "X")) (Name0 (codes "d"))) (more_of-Formula (Same (Var (codes "X")) (Name0 (codes "e"))) end_of-Formula)))))) ∷ (statement (codes "axiom") (IsFormula (Quant1 All (codes "X") (User (codes "mk_world")) (Or' (tt ∷ tt ∷ []) (more_of-Formula (Same (Var (codes "X")) (Name0 (codes "v"))) (more_of-Formula (Same (Var (codes "X")) (Name0 (codes "w"))) end_of-Formula)))))) ∷ (statement (codes "axiom") (IsFormula (Same (Name0 (codes "a")) (App' (codes "f") (tt ∷ []) (more_of-Term (Name0 (codes "d")) end_of-Term))))) ∷ []) }) ≡ refused 3 Form
unfolding world_name actual_name
deep_value = refl

form_before_symbol : given_by sig_half (record { statements = ((statement (codes "axiom") (IsFormula (Quant1 All (codes "X") Individual (Or' (tt ∷ tt ∷ []) (more_of-Formula (Same (Var (codes "X")) (Name0 (codes "d"))) (more_of-Formula (Same (Var (codes "X")) (Name0 (codes "e"))) end_of-Formula)))))) ∷ (statement (codes "axiom") (IsFormula (Quant1 All (codes "X") (User (codes "mk_world")) (Or' (tt ∷ tt ∷ []) (more_of-Formula (Same (Var (codes "X")) (Name0 (codes "v"))) (more_of-Formula (Same (Var (codes "X")) (Name0 (codes "w"))) end_of-Formula)))))) ∷ (statement (codes "axiom") (IsFormula (Atom (codes "zz") ((App' (codes "f") (tt ∷ []) (more_of-Term (Name0 (codes "d")) end_of-Term)) ∷ [])))) ∷ []) }) ≡ refused 3 Form
unfolding world_name actual_name
form_before_symbol = refl

element_left : given_by sig_half (record { statements = ((statement (codes "axiom") (IsFormula (Quant1 All (codes "X") Individual (Or' (tt ∷ tt ∷ []) (more_of-Formula (Same (Var (codes "X")) (Name0 (codes "d"))) (more_of-Formula (Same (Var (codes "X")) (Name0 (codes "e"))) end_of-Formula)))))) ∷ (statement (codes "axiom") (IsFormula (Quant1 All (codes "X") (User (codes "mk_world")) (Or' (tt ∷ tt ∷ []) (more_of-Formula (Same (Var (codes "X")) (Name0 (codes "v"))) (more_of-Formula (Same (Var (codes "X")) (Name0 (codes "w"))) end_of-Formula)))))) ∷ (statement (codes "axiom") (IsFormula (Same (Name0 (codes "d")) (Name0 (codes "e"))))) ∷ []) }) ≡ refused 3 Form
unfolding world_name actual_name
element_left = refl

variable_left : given_by sig_half (record { statements = ((statement (codes "axiom") (IsFormula (Quant1 All (codes "X") Individual (Or' (tt ∷ tt ∷ []) (more_of-Formula (Same (Var (codes "X")) (Name0 (codes "d"))) (more_of-Formula (Same (Var (codes "X")) (Name0 (codes "e"))) end_of-Formula)))))) ∷ (statement (codes "axiom") (IsFormula (Quant1 All (codes "X") (User (codes "mk_world")) (Or' (tt ∷ tt ∷ []) (more_of-Formula (Same (Var (codes "X")) (Name0 (codes "v"))) (more_of-Formula (Same (Var (codes "X")) (Name0 (codes "w"))) end_of-Formula)))))) ∷ (statement (codes "axiom") (IsFormula (Same (Var (codes "X")) (Name0 (codes "e"))))) ∷ []) }) ≡ refused 3 Form
unfolding world_name actual_name
variable_left = refl

atom_of_function : given_by sig_half (record { statements = ((statement (codes "axiom") (IsFormula (Quant1 All (codes "X") Individual (Or' (tt ∷ tt ∷ []) (more_of-Formula (Same (Var (codes "X")) (Name0 (codes "d"))) (more_of-Formula (Same (Var (codes "X")) (Name0 (codes "e"))) end_of-Formula)))))) ∷ (statement (codes "axiom") (IsFormula (Quant1 All (codes "X") (User (codes "mk_world")) (Or' (tt ∷ tt ∷ []) (more_of-Formula (Same (Var (codes "X")) (Name0 (codes "v"))) (more_of-Formula (Same (Var (codes "X")) (Name0 (codes "w"))) end_of-Formula)))))) ∷ (statement (codes "axiom") (IsFormula (Atom (codes "f") ((Name0 (codes "d")) ∷ [])))) ∷ []) }) ≡ refused 3 Form
unfolding world_name actual_name
atom_of_function = refl

atom_of_actual : given_by sig_half (record { statements = ((statement (codes "axiom") (IsFormula (Quant1 All (codes "X") Individual (Or' (tt ∷ tt ∷ []) (more_of-Formula (Same (Var (codes "X")) (Name0 (codes "d"))) (more_of-Formula (Same (Var (codes "X")) (Name0 (codes "e"))) end_of-Formula)))))) ∷ (statement (codes "axiom") (IsFormula (Quant1 All (codes "X") (User (codes "mk_world")) (Or' (tt ∷ tt ∷ []) (more_of-Formula (Same (Var (codes "X")) (Name0 (codes "v"))) (more_of-Formula (Same (Var (codes "X")) (Name0 (codes "w"))) end_of-Formula)))))) ∷ (statement (codes "axiom") (IsFormula (Atom (codes "mk_actual") ([])))) ∷ []) }) ≡ refused 3 Form
unfolding world_name actual_name
atom_of_actual = refl

atom_of_sort : given_by sig_half (record { statements = ((statement (codes "axiom") (IsFormula (Quant1 All (codes "X") Individual (Or' (tt ∷ tt ∷ []) (more_of-Formula (Same (Var (codes "X")) (Name0 (codes "d"))) (more_of-Formula (Same (Var (codes "X")) (Name0 (codes "e"))) end_of-Formula)))))) ∷ (statement (codes "axiom") (IsFormula (Quant1 All (codes "X") (User (codes "mk_world")) (Or' (tt ∷ tt ∷ []) (more_of-Formula (Same (Var (codes "X")) (Name0 (codes "v"))) (more_of-Formula (Same (Var (codes "X")) (Name0 (codes "w"))) end_of-Formula)))))) ∷ (statement (codes "axiom") (IsFormula (Atom (codes "mk_world") ([])))) ∷ []) }) ≡ refused 3 Form
unfolding world_name actual_name
atom_of_sort = refl

atom_of_element : given_by sig_half (record { statements = ((statement (codes "axiom") (IsFormula (Quant1 All (codes "X") Individual (Or' (tt ∷ tt ∷ []) (more_of-Formula (Same (Var (codes "X")) (Name0 (codes "d"))) (more_of-Formula (Same (Var (codes "X")) (Name0 (codes "e"))) end_of-Formula)))))) ∷ (statement (codes "axiom") (IsFormula (Quant1 All (codes "X") (User (codes "mk_world")) (Or' (tt ∷ tt ∷ []) (more_of-Formula (Same (Var (codes "X")) (Name0 (codes "v"))) (more_of-Formula (Same (Var (codes "X")) (Name0 (codes "w"))) end_of-Formula)))))) ∷ (statement (codes "axiom") (IsFormula (Atom (codes "d") ([])))) ∷ []) }) ≡ refused 3 Form
unfolding world_name actual_name
atom_of_element = refl

equation_of_predicate : given_by sig_half (record { statements = ((statement (codes "axiom") (IsFormula (Quant1 All (codes "X") Individual (Or' (tt ∷ tt ∷ []) (more_of-Formula (Same (Var (codes "X")) (Name0 (codes "d"))) (more_of-Formula (Same (Var (codes "X")) (Name0 (codes "e"))) end_of-Formula)))))) ∷ (statement (codes "axiom") (IsFormula (Quant1 All (codes "X") (User (codes "mk_world")) (Or' (tt ∷ tt ∷ []) (more_of-Formula (Same (Var (codes "X")) (Name0 (codes "v"))) (more_of-Formula (Same (Var (codes "X")) (Name0 (codes "w"))) end_of-Formula)))))) ∷ (statement (codes "axiom") (IsFormula (Same (App' (codes "p") (tt ∷ tt ∷ []) (more_of-Term (Name0 (codes "v")) (more_of-Term (Name0 (codes "d")) end_of-Term))) (Name0 (codes "d"))))) ∷ []) }) ≡ refused 3 Form
unfolding world_name actual_name
equation_of_predicate = refl

equation_of_sort : given_by sig_half (record { statements = ((statement (codes "axiom") (IsFormula (Quant1 All (codes "X") Individual (Or' (tt ∷ tt ∷ []) (more_of-Formula (Same (Var (codes "X")) (Name0 (codes "d"))) (more_of-Formula (Same (Var (codes "X")) (Name0 (codes "e"))) end_of-Formula)))))) ∷ (statement (codes "axiom") (IsFormula (Quant1 All (codes "X") (User (codes "mk_world")) (Or' (tt ∷ tt ∷ []) (more_of-Formula (Same (Var (codes "X")) (Name0 (codes "v"))) (more_of-Formula (Same (Var (codes "X")) (Name0 (codes "w"))) end_of-Formula)))))) ∷ (statement (codes "axiom") (IsFormula (Same (Name0 (codes "mk_world")) (Name0 (codes "d"))))) ∷ []) }) ≡ refused 3 Form
unfolding world_name actual_name
equation_of_sort = refl

unknown_atom : given_by sig_half (record { statements = ((statement (codes "axiom") (IsFormula (Quant1 All (codes "X") Individual (Or' (tt ∷ tt ∷ []) (more_of-Formula (Same (Var (codes "X")) (Name0 (codes "d"))) (more_of-Formula (Same (Var (codes "X")) (Name0 (codes "e"))) end_of-Formula)))))) ∷ (statement (codes "axiom") (IsFormula (Quant1 All (codes "X") (User (codes "mk_world")) (Or' (tt ∷ tt ∷ []) (more_of-Formula (Same (Var (codes "X")) (Name0 (codes "v"))) (more_of-Formula (Same (Var (codes "X")) (Name0 (codes "w"))) end_of-Formula)))))) ∷ (statement (codes "axiom") (IsFormula (Atom (codes "zz") ((Name0 (codes "v")) ∷ [])))) ∷ []) }) ≡ refused 3 UnknownSymbol
unfolding world_name actual_name
unknown_atom = refl

unknown_left : given_by sig_half (record { statements = ((statement (codes "axiom") (IsFormula (Quant1 All (codes "X") Individual (Or' (tt ∷ tt ∷ []) (more_of-Formula (Same (Var (codes "X")) (Name0 (codes "d"))) (more_of-Formula (Same (Var (codes "X")) (Name0 (codes "e"))) end_of-Formula)))))) ∷ (statement (codes "axiom") (IsFormula (Quant1 All (codes "X") (User (codes "mk_world")) (Or' (tt ∷ tt ∷ []) (more_of-Formula (Same (Var (codes "X")) (Name0 (codes "v"))) (more_of-Formula (Same (Var (codes "X")) (Name0 (codes "w"))) end_of-Formula)))))) ∷ (statement (codes "axiom") (IsFormula (Same (App' (codes "zz") (tt ∷ []) (more_of-Term (Name0 (codes "d")) end_of-Term)) (Name0 (codes "d"))))) ∷ []) }) ≡ refused 3 UnknownSymbol
unfolding world_name actual_name
unknown_left = refl

symbol_before_element : given_by sig_half (record { statements = ((statement (codes "axiom") (IsFormula (Quant1 All (codes "X") Individual (Or' (tt ∷ tt ∷ []) (more_of-Formula (Same (Var (codes "X")) (Name0 (codes "d"))) (more_of-Formula (Same (Var (codes "X")) (Name0 (codes "e"))) end_of-Formula)))))) ∷ (statement (codes "axiom") (IsFormula (Quant1 All (codes "X") (User (codes "mk_world")) (Or' (tt ∷ tt ∷ []) (more_of-Formula (Same (Var (codes "X")) (Name0 (codes "v"))) (more_of-Formula (Same (Var (codes "X")) (Name0 (codes "w"))) end_of-Formula)))))) ∷ (statement (codes "axiom") (IsFormula (Atom (codes "zz") ((Name0 (codes "g")) ∷ [])))) ∷ []) }) ≡ refused 3 UnknownSymbol
unfolding world_name actual_name
symbol_before_element = refl

unknown_sort : given_by sig_half (record { statements = ((statement (codes "axiom") (IsFormula (Quant1 All (codes "X") Individual (Or' (tt ∷ tt ∷ []) (more_of-Formula (Same (Var (codes "X")) (Name0 (codes "d"))) (more_of-Formula (Same (Var (codes "X")) (Name0 (codes "e"))) end_of-Formula)))))) ∷ (statement (codes "axiom") (IsFormula (Quant1 All (codes "X") (User (codes "mk_world")) (Or' (tt ∷ tt ∷ []) (more_of-Formula (Same (Var (codes "X")) (Name0 (codes "v"))) (more_of-Formula (Same (Var (codes "X")) (Name0 (codes "w"))) end_of-Formula)))))) ∷ (statement (codes "axiom") (IsFormula (Quant1 All (codes "X") (User (codes "s")) (Same (Var (codes "X")) (Name0 (codes "g")))))) ∷ []) }) ≡ refused 3 UnknownSymbol
unfolding world_name actual_name
unknown_sort = refl

closure_over_symbol : given_by sig_half (record { statements = ((statement (codes "axiom") (IsFormula (Quant1 All (codes "X") Individual (Or' (tt ∷ tt ∷ []) (more_of-Formula (Same (Var (codes "X")) (Name0 (codes "d"))) (more_of-Formula (Same (Var (codes "X")) (Name0 (codes "e"))) end_of-Formula)))))) ∷ (statement (codes "axiom") (IsFormula (Quant1 All (codes "X") (User (codes "mk_world")) (Or' (tt ∷ tt ∷ []) (more_of-Formula (Same (Var (codes "X")) (Name0 (codes "v"))) (more_of-Formula (Same (Var (codes "X")) (Name0 (codes "w"))) end_of-Formula)))))) ∷ (statement (codes "axiom") (IsFormula (Quant1 All (codes "X") (User (codes "f")) (Same (Var (codes "X")) (Name0 (codes "g")))))) ∷ []) }) ≡ refused 3 UnknownSymbol
unfolding world_name actual_name
closure_over_symbol = refl

unknown_argument : given_by sig_half (record { statements = ((statement (codes "axiom") (IsFormula (Quant1 All (codes "X") Individual (Or' (tt ∷ tt ∷ []) (more_of-Formula (Same (Var (codes "X")) (Name0 (codes "d"))) (more_of-Formula (Same (Var (codes "X")) (Name0 (codes "e"))) end_of-Formula)))))) ∷ (statement (codes "axiom") (IsFormula (Quant1 All (codes "X") (User (codes "mk_world")) (Or' (tt ∷ tt ∷ []) (more_of-Formula (Same (Var (codes "X")) (Name0 (codes "v"))) (more_of-Formula (Same (Var (codes "X")) (Name0 (codes "w"))) end_of-Formula)))))) ∷ (statement (codes "axiom") (IsFormula (Atom (codes "p") ((Name0 (codes "v")) ∷ (Name0 (codes "g")) ∷ [])))) ∷ []) }) ≡ refused 3 UnknownElement
unfolding world_name actual_name
unknown_argument = refl

unknown_value : given_by sig_half (record { statements = ((statement (codes "axiom") (IsFormula (Quant1 All (codes "X") Individual (Or' (tt ∷ tt ∷ []) (more_of-Formula (Same (Var (codes "X")) (Name0 (codes "d"))) (more_of-Formula (Same (Var (codes "X")) (Name0 (codes "e"))) end_of-Formula)))))) ∷ (statement (codes "axiom") (IsFormula (Quant1 All (codes "X") (User (codes "mk_world")) (Or' (tt ∷ tt ∷ []) (more_of-Formula (Same (Var (codes "X")) (Name0 (codes "v"))) (more_of-Formula (Same (Var (codes "X")) (Name0 (codes "w"))) end_of-Formula)))))) ∷ (statement (codes "axiom") (IsFormula (Same (Name0 (codes "a")) (Name0 (codes "g"))))) ∷ []) }) ≡ refused 3 UnknownElement
unfolding world_name actual_name
unknown_value = refl

unknown_differ : given_by sig_half (record { statements = ((statement (codes "axiom") (IsFormula (Quant1 All (codes "X") Individual (Or' (tt ∷ tt ∷ []) (more_of-Formula (Same (Var (codes "X")) (Name0 (codes "d"))) (more_of-Formula (Same (Var (codes "X")) (Name0 (codes "e"))) end_of-Formula)))))) ∷ (statement (codes "axiom") (IsFormula (Quant1 All (codes "X") (User (codes "mk_world")) (Or' (tt ∷ tt ∷ []) (more_of-Formula (Same (Var (codes "X")) (Name0 (codes "v"))) (more_of-Formula (Same (Var (codes "X")) (Name0 (codes "w"))) end_of-Formula)))))) ∷ (statement (codes "axiom") (IsFormula (Differ (Name0 (codes "d")) (Name0 (codes "g"))))) ∷ []) }) ≡ refused 3 UnknownElement
unfolding world_name actual_name
unknown_differ = refl

unknown_distinct : given_by sig_half (record { statements = ((statement (codes "axiom") (IsFormula (Quant1 All (codes "X") Individual (Or' (tt ∷ tt ∷ []) (more_of-Formula (Same (Var (codes "X")) (Name0 (codes "d"))) (more_of-Formula (Same (Var (codes "X")) (Name0 (codes "e"))) end_of-Formula)))))) ∷ (statement (codes "axiom") (IsFormula (Quant1 All (codes "X") (User (codes "mk_world")) (Or' (tt ∷ tt ∷ []) (more_of-Formula (Same (Var (codes "X")) (Name0 (codes "v"))) (more_of-Formula (Same (Var (codes "X")) (Name0 (codes "w"))) end_of-Formula)))))) ∷ (statement (codes "axiom") (IsFormula (Distinct ((Name0 (codes "d")) ∷ (Name0 (codes "g")) ∷ [])))) ∷ []) }) ≡ refused 3 UnknownElement
unfolding world_name actual_name
unknown_distinct = refl

element_before_clash : given_by sig_half (record { statements = ((statement (codes "axiom") (IsFormula (Quant1 All (codes "X") Individual (Or' (tt ∷ tt ∷ []) (more_of-Formula (Same (Var (codes "X")) (Name0 (codes "d"))) (more_of-Formula (Same (Var (codes "X")) (Name0 (codes "e"))) end_of-Formula)))))) ∷ (statement (codes "axiom") (IsFormula (Quant1 All (codes "X") (User (codes "mk_world")) (Or' (tt ∷ tt ∷ []) (more_of-Formula (Same (Var (codes "X")) (Name0 (codes "v"))) (more_of-Formula (Same (Var (codes "X")) (Name0 (codes "w"))) end_of-Formula)))))) ∷ (statement (codes "axiom") (IsFormula (Atom (codes "p") ((Name0 (codes "d")) ∷ (Name0 (codes "g")) ∷ [])))) ∷ []) }) ≡ refused 3 UnknownElement
unfolding world_name actual_name
element_before_clash = refl

clash_argument_sort : given_by sig_half (record { statements = ((statement (codes "axiom") (IsFormula (Quant1 All (codes "X") Individual (Or' (tt ∷ tt ∷ []) (more_of-Formula (Same (Var (codes "X")) (Name0 (codes "d"))) (more_of-Formula (Same (Var (codes "X")) (Name0 (codes "e"))) end_of-Formula)))))) ∷ (statement (codes "axiom") (IsFormula (Quant1 All (codes "X") (User (codes "mk_world")) (Or' (tt ∷ tt ∷ []) (more_of-Formula (Same (Var (codes "X")) (Name0 (codes "v"))) (more_of-Formula (Same (Var (codes "X")) (Name0 (codes "w"))) end_of-Formula)))))) ∷ (statement (codes "axiom") (IsFormula (Atom (codes "p") ((Name0 (codes "d")) ∷ (Name0 (codes "d")) ∷ [])))) ∷ []) }) ≡ refused 3 Clash
unfolding world_name actual_name
clash_argument_sort = refl

clash_value_sort : given_by sig_half (record { statements = ((statement (codes "axiom") (IsFormula (Quant1 All (codes "X") Individual (Or' (tt ∷ tt ∷ []) (more_of-Formula (Same (Var (codes "X")) (Name0 (codes "d"))) (more_of-Formula (Same (Var (codes "X")) (Name0 (codes "e"))) end_of-Formula)))))) ∷ (statement (codes "axiom") (IsFormula (Quant1 All (codes "X") (User (codes "mk_world")) (Or' (tt ∷ tt ∷ []) (more_of-Formula (Same (Var (codes "X")) (Name0 (codes "v"))) (more_of-Formula (Same (Var (codes "X")) (Name0 (codes "w"))) end_of-Formula)))))) ∷ (statement (codes "axiom") (IsFormula (Same (Name0 (codes "a")) (Name0 (codes "v"))))) ∷ []) }) ≡ refused 3 Clash
unfolding world_name actual_name
clash_value_sort = refl

clash_actual_sort : given_by sig_half (record { statements = ((statement (codes "axiom") (IsFormula (Quant1 All (codes "X") Individual (Or' (tt ∷ tt ∷ []) (more_of-Formula (Same (Var (codes "X")) (Name0 (codes "d"))) (more_of-Formula (Same (Var (codes "X")) (Name0 (codes "e"))) end_of-Formula)))))) ∷ (statement (codes "axiom") (IsFormula (Quant1 All (codes "X") (User (codes "mk_world")) (Or' (tt ∷ tt ∷ []) (more_of-Formula (Same (Var (codes "X")) (Name0 (codes "v"))) (more_of-Formula (Same (Var (codes "X")) (Name0 (codes "w"))) end_of-Formula)))))) ∷ (statement (codes "axiom") (IsFormula (Same (Name0 (codes "mk_actual")) (Name0 (codes "d"))))) ∷ []) }) ≡ refused 3 Clash
unfolding world_name actual_name
clash_actual_sort = refl

clash_differ_same : given_by sig_half (record { statements = ((statement (codes "axiom") (IsFormula (Quant1 All (codes "X") Individual (Or' (tt ∷ tt ∷ []) (more_of-Formula (Same (Var (codes "X")) (Name0 (codes "d"))) (more_of-Formula (Same (Var (codes "X")) (Name0 (codes "e"))) end_of-Formula)))))) ∷ (statement (codes "axiom") (IsFormula (Quant1 All (codes "X") (User (codes "mk_world")) (Or' (tt ∷ tt ∷ []) (more_of-Formula (Same (Var (codes "X")) (Name0 (codes "v"))) (more_of-Formula (Same (Var (codes "X")) (Name0 (codes "w"))) end_of-Formula)))))) ∷ (statement (codes "axiom") (IsFormula (Differ (Name0 (codes "d")) (Name0 (codes "d"))))) ∷ []) }) ≡ refused 3 Clash
unfolding world_name actual_name
clash_differ_same = refl

clash_differ_sorts : given_by sig_half (record { statements = ((statement (codes "axiom") (IsFormula (Quant1 All (codes "X") Individual (Or' (tt ∷ tt ∷ []) (more_of-Formula (Same (Var (codes "X")) (Name0 (codes "d"))) (more_of-Formula (Same (Var (codes "X")) (Name0 (codes "e"))) end_of-Formula)))))) ∷ (statement (codes "axiom") (IsFormula (Quant1 All (codes "X") (User (codes "mk_world")) (Or' (tt ∷ tt ∷ []) (more_of-Formula (Same (Var (codes "X")) (Name0 (codes "v"))) (more_of-Formula (Same (Var (codes "X")) (Name0 (codes "w"))) end_of-Formula)))))) ∷ (statement (codes "axiom") (IsFormula (Differ (Name0 (codes "d")) (Name0 (codes "v"))))) ∷ []) }) ≡ refused 3 Clash
unfolding world_name actual_name
clash_differ_sorts = refl

clash_distinct_twice : given_by sig_half (record { statements = ((statement (codes "axiom") (IsFormula (Quant1 All (codes "X") Individual (Or' (tt ∷ tt ∷ []) (more_of-Formula (Same (Var (codes "X")) (Name0 (codes "d"))) (more_of-Formula (Same (Var (codes "X")) (Name0 (codes "e"))) end_of-Formula)))))) ∷ (statement (codes "axiom") (IsFormula (Quant1 All (codes "X") (User (codes "mk_world")) (Or' (tt ∷ tt ∷ []) (more_of-Formula (Same (Var (codes "X")) (Name0 (codes "v"))) (more_of-Formula (Same (Var (codes "X")) (Name0 (codes "w"))) end_of-Formula)))))) ∷ (statement (codes "axiom") (IsFormula (Distinct ((Name0 (codes "d")) ∷ (Name0 (codes "e")) ∷ (Name0 (codes "d")) ∷ [])))) ∷ []) }) ≡ refused 3 Clash
unfolding world_name actual_name
clash_distinct_twice = refl

clash_distinct_sorts : given_by sig_half (record { statements = ((statement (codes "axiom") (IsFormula (Quant1 All (codes "X") Individual (Or' (tt ∷ tt ∷ []) (more_of-Formula (Same (Var (codes "X")) (Name0 (codes "d"))) (more_of-Formula (Same (Var (codes "X")) (Name0 (codes "e"))) end_of-Formula)))))) ∷ (statement (codes "axiom") (IsFormula (Quant1 All (codes "X") (User (codes "mk_world")) (Or' (tt ∷ tt ∷ []) (more_of-Formula (Same (Var (codes "X")) (Name0 (codes "v"))) (more_of-Formula (Same (Var (codes "X")) (Name0 (codes "w"))) end_of-Formula)))))) ∷ (statement (codes "axiom") (IsFormula (Distinct ((Name0 (codes "d")) ∷ (Name0 (codes "e")) ∷ (Name0 (codes "v")) ∷ [])))) ∷ []) }) ≡ refused 3 Clash
unfolding world_name actual_name
clash_distinct_sorts = refl

distinct_one : given_by sig_half (record { statements = ((statement (codes "axiom") (IsFormula (Quant1 All (codes "X") Individual (Or' (tt ∷ tt ∷ []) (more_of-Formula (Same (Var (codes "X")) (Name0 (codes "d"))) (more_of-Formula (Same (Var (codes "X")) (Name0 (codes "e"))) end_of-Formula)))))) ∷ (statement (codes "axiom") (IsFormula (Quant1 All (codes "X") (User (codes "mk_world")) (Or' (tt ∷ tt ∷ []) (more_of-Formula (Same (Var (codes "X")) (Name0 (codes "v"))) (more_of-Formula (Same (Var (codes "X")) (Name0 (codes "w"))) end_of-Formula)))))) ∷ (statement (codes "axiom") (IsFormula (Distinct ((Name0 (codes "d")) ∷ [])))) ∷ []) }) ≡ Ok (record { actual = 0; sizes = (2 ∷ 2 ∷ []); tables = ((0 ∷ 0 ∷ 0 ∷ 0 ∷ []) ∷ (0 ∷ 0 ∷ 0 ∷ 0 ∷ []) ∷ (0 ∷ 0 ∷ []) ∷ (0 ∷ []) ∷ []) })
unfolding world_name actual_name
distinct_one = refl

clash_row : given_by sig_half (record { statements = ((statement (codes "axiom") (IsFormula (Quant1 All (codes "X") Individual (Or' (tt ∷ tt ∷ []) (more_of-Formula (Same (Var (codes "X")) (Name0 (codes "d"))) (more_of-Formula (Same (Var (codes "X")) (Name0 (codes "e"))) end_of-Formula)))))) ∷ (statement (codes "axiom") (IsFormula (Quant1 All (codes "X") (User (codes "mk_world")) (Or' (tt ∷ tt ∷ []) (more_of-Formula (Same (Var (codes "X")) (Name0 (codes "v"))) (more_of-Formula (Same (Var (codes "X")) (Name0 (codes "w"))) end_of-Formula)))))) ∷ (statement (codes "axiom") (IsFormula (And' (tt ∷ tt ∷ []) (more_of-Formula (Atom (codes "p") ((Name0 (codes "v")) ∷ (Name0 (codes "d")) ∷ [])) (more_of-Formula (Not1 (Atom (codes "p") ((Name0 (codes "v")) ∷ (Name0 (codes "d")) ∷ []))) end_of-Formula))))) ∷ []) }) ≡ refused 3 Clash
unfolding world_name actual_name
clash_row = refl

same_row_twice : given_by sig_half (record { statements = ((statement (codes "axiom") (IsFormula (Quant1 All (codes "X") Individual (Or' (tt ∷ tt ∷ []) (more_of-Formula (Same (Var (codes "X")) (Name0 (codes "d"))) (more_of-Formula (Same (Var (codes "X")) (Name0 (codes "e"))) end_of-Formula)))))) ∷ (statement (codes "axiom") (IsFormula (Quant1 All (codes "X") (User (codes "mk_world")) (Or' (tt ∷ tt ∷ []) (more_of-Formula (Same (Var (codes "X")) (Name0 (codes "v"))) (more_of-Formula (Same (Var (codes "X")) (Name0 (codes "w"))) end_of-Formula)))))) ∷ (statement (codes "axiom") (IsFormula (And' (tt ∷ tt ∷ []) (more_of-Formula (Same (Name0 (codes "a")) (Name0 (codes "e"))) (more_of-Formula (Same (Name0 (codes "a")) (Name0 (codes "e"))) end_of-Formula))))) ∷ []) }) ≡ Ok (record { actual = 0; sizes = (2 ∷ 2 ∷ []); tables = ((0 ∷ 0 ∷ 0 ∷ 0 ∷ []) ∷ (0 ∷ 0 ∷ 0 ∷ 0 ∷ []) ∷ (0 ∷ 0 ∷ []) ∷ (1 ∷ []) ∷ []) })
unfolding world_name actual_name
same_row_twice = refl

clash_actual_row : given_by sig_half (record { statements = ((statement (codes "axiom") (IsFormula (Quant1 All (codes "X") Individual (Or' (tt ∷ tt ∷ []) (more_of-Formula (Same (Var (codes "X")) (Name0 (codes "d"))) (more_of-Formula (Same (Var (codes "X")) (Name0 (codes "e"))) end_of-Formula)))))) ∷ (statement (codes "axiom") (IsFormula (Quant1 All (codes "X") (User (codes "mk_world")) (Or' (tt ∷ tt ∷ []) (more_of-Formula (Same (Var (codes "X")) (Name0 (codes "v"))) (more_of-Formula (Same (Var (codes "X")) (Name0 (codes "w"))) end_of-Formula)))))) ∷ (statement (codes "axiom") (IsFormula (And' (tt ∷ tt ∷ []) (more_of-Formula (Same (Name0 (codes "mk_actual")) (Name0 (codes "w"))) (more_of-Formula (Same (Name0 (codes "mk_actual")) (Name0 (codes "v"))) end_of-Formula))))) ∷ []) }) ≡ refused 3 Clash
unfolding world_name actual_name
clash_actual_row = refl

actual_row : given_by sig_half (record { statements = ((statement (codes "axiom") (IsFormula (Quant1 All (codes "X") Individual (Or' (tt ∷ tt ∷ []) (more_of-Formula (Same (Var (codes "X")) (Name0 (codes "d"))) (more_of-Formula (Same (Var (codes "X")) (Name0 (codes "e"))) end_of-Formula)))))) ∷ (statement (codes "axiom") (IsFormula (Quant1 All (codes "X") (User (codes "mk_world")) (Or' (tt ∷ tt ∷ []) (more_of-Formula (Same (Var (codes "X")) (Name0 (codes "v"))) (more_of-Formula (Same (Var (codes "X")) (Name0 (codes "w"))) end_of-Formula)))))) ∷ (statement (codes "axiom") (IsFormula (Same (Name0 (codes "mk_actual")) (Name0 (codes "w"))))) ∷ []) }) ≡ Ok (record { actual = 1; sizes = (2 ∷ 2 ∷ []); tables = ((0 ∷ 0 ∷ 0 ∷ 0 ∷ []) ∷ (0 ∷ 0 ∷ 0 ∷ 0 ∷ []) ∷ (0 ∷ 0 ∷ []) ∷ (0 ∷ []) ∷ []) })
unfolding world_name actual_name
actual_row = refl

clash_second_closure : given_by sig_half (record { statements = ((statement (codes "axiom") (IsFormula (Quant1 All (codes "X") Individual (Or' (tt ∷ tt ∷ []) (more_of-Formula (Same (Var (codes "X")) (Name0 (codes "d"))) (more_of-Formula (Same (Var (codes "X")) (Name0 (codes "e"))) end_of-Formula)))))) ∷ (statement (codes "axiom") (IsFormula (Quant1 All (codes "X") (User (codes "mk_world")) (Or' (tt ∷ tt ∷ []) (more_of-Formula (Same (Var (codes "X")) (Name0 (codes "v"))) (more_of-Formula (Same (Var (codes "X")) (Name0 (codes "w"))) end_of-Formula)))))) ∷ (statement (codes "axiom") (IsFormula (Quant1 All (codes "X") Individual (Same (Var (codes "X")) (Name0 (codes "g")))))) ∷ []) }) ≡ refused 3 Clash
unfolding world_name actual_name
clash_second_closure = refl

clash_listed_twice : given_by sig_half (record { statements = ((statement (codes "axiom") (IsFormula (Quant1 All (codes "X") Individual (Or' (tt ∷ tt ∷ []) (more_of-Formula (Same (Var (codes "X")) (Name0 (codes "d"))) (more_of-Formula (Same (Var (codes "X")) (Name0 (codes "d"))) end_of-Formula)))))) ∷ []) }) ≡ refused 1 Clash
unfolding world_name actual_name
clash_listed_twice = refl

clash_listed_for_two_sorts : given_by sig_half (record { statements = ((statement (codes "axiom") (IsFormula (Quant1 All (codes "X") Individual (Same (Var (codes "X")) (Name0 (codes "d")))))) ∷ (statement (codes "axiom") (IsFormula (Quant1 All (codes "X") (User (codes "mk_world")) (Or' (tt ∷ tt ∷ []) (more_of-Formula (Same (Var (codes "X")) (Name0 (codes "v"))) (more_of-Formula (Same (Var (codes "X")) (Name0 (codes "d"))) end_of-Formula)))))) ∷ []) }) ≡ refused 2 Clash
unfolding world_name actual_name
clash_listed_for_two_sorts = refl

clash_listed_function : given_by sig_half (record { statements = ((statement (codes "axiom") (IsFormula (Quant1 All (codes "X") Individual (Same (Var (codes "X")) (Name0 (codes "f")))))) ∷ []) }) ≡ refused 1 Clash
unfolding world_name actual_name
clash_listed_function = refl

clash_listed_predicate : given_by sig_half (record { statements = ((statement (codes "axiom") (IsFormula (Quant1 All (codes "X") Individual (Same (Var (codes "X")) (Name0 (codes "p")))))) ∷ []) }) ≡ refused 1 Clash
unfolding world_name actual_name
clash_listed_predicate = refl

clash_listed_sort : given_by sig_half (record { statements = ((statement (codes "axiom") (IsFormula (Quant1 All (codes "X") Individual (Same (Var (codes "X")) (Name0 (codes "mk_world")))))) ∷ []) }) ≡ refused 1 Clash
unfolding world_name actual_name
clash_listed_sort = refl

clash_listed_constant_of_another : given_by sig_half (record { statements = ((statement (codes "axiom") (IsFormula (Quant1 All (codes "X") (User (codes "mk_world")) (Same (Var (codes "X")) (Name0 (codes "a")))))) ∷ []) }) ≡ refused 1 Clash
unfolding world_name actual_name
clash_listed_constant_of_another = refl

listed_constant : given_by sig_half (record { statements = ((statement (codes "axiom") (IsFormula (Quant1 All (codes "X") Individual (Or' (tt ∷ tt ∷ []) (more_of-Formula (Same (Var (codes "X")) (Name0 (codes "d"))) (more_of-Formula (Same (Var (codes "X")) (Name0 (codes "a"))) end_of-Formula)))))) ∷ (statement (codes "axiom") (IsFormula (Quant1 All (codes "X") (User (codes "mk_world")) (Or' (tt ∷ tt ∷ []) (more_of-Formula (Same (Var (codes "X")) (Name0 (codes "v"))) (more_of-Formula (Same (Var (codes "X")) (Name0 (codes "mk_actual"))) end_of-Formula)))))) ∷ []) }) ≡ Ok (record { actual = 1; sizes = (2 ∷ 2 ∷ []); tables = ((0 ∷ 0 ∷ 0 ∷ 0 ∷ []) ∷ (0 ∷ 0 ∷ 0 ∷ 0 ∷ []) ∷ (0 ∷ 0 ∷ []) ∷ (1 ∷ []) ∷ []) })
unfolding world_name actual_name
listed_constant = refl

row_of_closure_first : given_by sig_half (record { statements = ((statement (codes "axiom") (IsFormula (Same (Name0 (codes "a")) (Name0 (codes "d"))))) ∷ (statement (codes "axiom") (IsFormula (Quant1 All (codes "X") Individual (Or' (tt ∷ tt ∷ []) (more_of-Formula (Same (Var (codes "X")) (Name0 (codes "d"))) (more_of-Formula (Same (Var (codes "X")) (Name0 (codes "a"))) end_of-Formula)))))) ∷ []) }) ≡ refused 1 Clash
unfolding world_name actual_name
row_of_closure_first = refl

listed_predicate_is_element : given_by sig_half (record { statements = ((statement (codes "axiom") (IsFormula (Atom (codes "p") ((Name0 (codes "v")) ∷ (Name0 (codes "d")) ∷ [])))) ∷ (statement (codes "axiom") (IsFormula (Quant1 All (codes "X") Individual (Or' (tt ∷ tt ∷ []) (more_of-Formula (Same (Var (codes "X")) (Name0 (codes "d"))) (more_of-Formula (Same (Var (codes "X")) (Name0 (codes "p"))) end_of-Formula)))))) ∷ (statement (codes "axiom") (IsFormula (Quant1 All (codes "X") (User (codes "mk_world")) (Same (Var (codes "X")) (Name0 (codes "v")))))) ∷ []) }) ≡ refused 1 Form
unfolding world_name actual_name
listed_predicate_is_element = refl

declared_other_type : given_by sig_half (record { statements = ((statement (codes "axiom") (IsFormula (Quant1 All (codes "X") Individual (Or' (tt ∷ tt ∷ []) (more_of-Formula (Same (Var (codes "X")) (Name0 (codes "d"))) (more_of-Formula (Same (Var (codes "X")) (Name0 (codes "e"))) end_of-Formula)))))) ∷ (statement (codes "axiom") (IsFormula (Quant1 All (codes "X") (User (codes "mk_world")) (Or' (tt ∷ tt ∷ []) (more_of-Formula (Same (Var (codes "X")) (Name0 (codes "v"))) (more_of-Formula (Same (Var (codes "X")) (Name0 (codes "w"))) end_of-Formula)))))) ∷ (statement (codes "type") (IsTyping (typing.Symbol (codes "p") ((User (codes "mk_world")) ∷ []) None))) ∷ []) }) ≡ refused 3 Clash
unfolding world_name actual_name
declared_other_type = refl

declared_same_type : given_by sig_half (record { statements = ((statement (codes "axiom") (IsFormula (Quant1 All (codes "X") Individual (Or' (tt ∷ tt ∷ []) (more_of-Formula (Same (Var (codes "X")) (Name0 (codes "d"))) (more_of-Formula (Same (Var (codes "X")) (Name0 (codes "e"))) end_of-Formula)))))) ∷ (statement (codes "axiom") (IsFormula (Quant1 All (codes "X") (User (codes "mk_world")) (Or' (tt ∷ tt ∷ []) (more_of-Formula (Same (Var (codes "X")) (Name0 (codes "v"))) (more_of-Formula (Same (Var (codes "X")) (Name0 (codes "w"))) end_of-Formula)))))) ∷ (statement (codes "type") (IsTyping (typing.Symbol (codes "p") ((User (codes "mk_world")) ∷ Individual ∷ []) None))) ∷ (statement (codes "type") (IsTyping (typing.Symbol (codes "f") (Individual ∷ []) (Some Individual)))) ∷ (statement (codes "type") (IsTyping (typing.Symbol (codes "mk_actual") ([]) (Some (User (codes "mk_world")))))) ∷ (statement (codes "type") (IsTyping (typing.Sort (codes "mk_world")))) ∷ (statement (codes "type") (IsTyping typing.Individual)) ∷ []) }) ≡ Ok (record { actual = 0; sizes = (2 ∷ 2 ∷ []); tables = ((0 ∷ 0 ∷ 0 ∷ 0 ∷ []) ∷ (0 ∷ 0 ∷ 0 ∷ 0 ∷ []) ∷ (0 ∷ 0 ∷ []) ∷ (0 ∷ []) ∷ []) })
unfolding world_name actual_name
declared_same_type = refl

declared_sort_as_symbol : given_by sig_half (record { statements = ((statement (codes "axiom") (IsFormula (Quant1 All (codes "X") Individual (Or' (tt ∷ tt ∷ []) (more_of-Formula (Same (Var (codes "X")) (Name0 (codes "d"))) (more_of-Formula (Same (Var (codes "X")) (Name0 (codes "e"))) end_of-Formula)))))) ∷ (statement (codes "axiom") (IsFormula (Quant1 All (codes "X") (User (codes "mk_world")) (Or' (tt ∷ tt ∷ []) (more_of-Formula (Same (Var (codes "X")) (Name0 (codes "v"))) (more_of-Formula (Same (Var (codes "X")) (Name0 (codes "w"))) end_of-Formula)))))) ∷ (statement (codes "type") (IsTyping (typing.Symbol (codes "mk_world") ([]) (Some Individual)))) ∷ []) }) ≡ refused 3 Clash
unfolding world_name actual_name
declared_sort_as_symbol = refl

declared_symbol_as_sort : given_by sig_half (record { statements = ((statement (codes "axiom") (IsFormula (Quant1 All (codes "X") Individual (Or' (tt ∷ tt ∷ []) (more_of-Formula (Same (Var (codes "X")) (Name0 (codes "d"))) (more_of-Formula (Same (Var (codes "X")) (Name0 (codes "e"))) end_of-Formula)))))) ∷ (statement (codes "axiom") (IsFormula (Quant1 All (codes "X") (User (codes "mk_world")) (Or' (tt ∷ tt ∷ []) (more_of-Formula (Same (Var (codes "X")) (Name0 (codes "v"))) (more_of-Formula (Same (Var (codes "X")) (Name0 (codes "w"))) end_of-Formula)))))) ∷ (statement (codes "type") (IsTyping (typing.Sort (codes "p")))) ∷ []) }) ≡ refused 3 Clash
unfolding world_name actual_name
declared_symbol_as_sort = refl

declared_element : given_by sig_half (record { statements = ((statement (codes "axiom") (IsFormula (Quant1 All (codes "X") Individual (Or' (tt ∷ tt ∷ []) (more_of-Formula (Same (Var (codes "X")) (Name0 (codes "d"))) (more_of-Formula (Same (Var (codes "X")) (Name0 (codes "e"))) end_of-Formula)))))) ∷ (statement (codes "axiom") (IsFormula (Quant1 All (codes "X") (User (codes "mk_world")) (Or' (tt ∷ tt ∷ []) (more_of-Formula (Same (Var (codes "X")) (Name0 (codes "v"))) (more_of-Formula (Same (Var (codes "X")) (Name0 (codes "w"))) end_of-Formula)))))) ∷ (statement (codes "type") (IsTyping (typing.Symbol (codes "d") ([]) (Some Individual)))) ∷ (statement (codes "type") (IsTyping (typing.Symbol (codes "v") ([]) (Some (User (codes "mk_world")))))) ∷ []) }) ≡ Ok (record { actual = 0; sizes = (2 ∷ 2 ∷ []); tables = ((0 ∷ 0 ∷ 0 ∷ 0 ∷ []) ∷ (0 ∷ 0 ∷ 0 ∷ 0 ∷ []) ∷ (0 ∷ 0 ∷ []) ∷ (0 ∷ []) ∷ []) })
unfolding world_name actual_name
declared_element = refl

declared_element_other_sort : given_by sig_half (record { statements = ((statement (codes "axiom") (IsFormula (Quant1 All (codes "X") Individual (Or' (tt ∷ tt ∷ []) (more_of-Formula (Same (Var (codes "X")) (Name0 (codes "d"))) (more_of-Formula (Same (Var (codes "X")) (Name0 (codes "e"))) end_of-Formula)))))) ∷ (statement (codes "axiom") (IsFormula (Quant1 All (codes "X") (User (codes "mk_world")) (Or' (tt ∷ tt ∷ []) (more_of-Formula (Same (Var (codes "X")) (Name0 (codes "v"))) (more_of-Formula (Same (Var (codes "X")) (Name0 (codes "w"))) end_of-Formula)))))) ∷ (statement (codes "type") (IsTyping (typing.Symbol (codes "d") ([]) (Some (User (codes "mk_world")))))) ∷ []) }) ≡ refused 3 Clash
unfolding world_name actual_name
declared_element_other_sort = refl

declared_element_predicate : given_by sig_half (record { statements = ((statement (codes "axiom") (IsFormula (Quant1 All (codes "X") Individual (Or' (tt ∷ tt ∷ []) (more_of-Formula (Same (Var (codes "X")) (Name0 (codes "d"))) (more_of-Formula (Same (Var (codes "X")) (Name0 (codes "e"))) end_of-Formula)))))) ∷ (statement (codes "axiom") (IsFormula (Quant1 All (codes "X") (User (codes "mk_world")) (Or' (tt ∷ tt ∷ []) (more_of-Formula (Same (Var (codes "X")) (Name0 (codes "v"))) (more_of-Formula (Same (Var (codes "X")) (Name0 (codes "w"))) end_of-Formula)))))) ∷ (statement (codes "type") (IsTyping (typing.Symbol (codes "d") ([]) None))) ∷ []) }) ≡ refused 3 Clash
unfolding world_name actual_name
declared_element_predicate = refl

declared_element_sort : given_by sig_half (record { statements = ((statement (codes "axiom") (IsFormula (Quant1 All (codes "X") Individual (Or' (tt ∷ tt ∷ []) (more_of-Formula (Same (Var (codes "X")) (Name0 (codes "d"))) (more_of-Formula (Same (Var (codes "X")) (Name0 (codes "e"))) end_of-Formula)))))) ∷ (statement (codes "axiom") (IsFormula (Quant1 All (codes "X") (User (codes "mk_world")) (Or' (tt ∷ tt ∷ []) (more_of-Formula (Same (Var (codes "X")) (Name0 (codes "v"))) (more_of-Formula (Same (Var (codes "X")) (Name0 (codes "w"))) end_of-Formula)))))) ∷ (statement (codes "type") (IsTyping (typing.Sort (codes "d")))) ∷ []) }) ≡ refused 3 Clash
unfolding world_name actual_name
declared_element_sort = refl

declared_element_function : given_by sig_half (record { statements = ((statement (codes "axiom") (IsFormula (Quant1 All (codes "X") Individual (Or' (tt ∷ tt ∷ []) (more_of-Formula (Same (Var (codes "X")) (Name0 (codes "d"))) (more_of-Formula (Same (Var (codes "X")) (Name0 (codes "e"))) end_of-Formula)))))) ∷ (statement (codes "axiom") (IsFormula (Quant1 All (codes "X") (User (codes "mk_world")) (Or' (tt ∷ tt ∷ []) (more_of-Formula (Same (Var (codes "X")) (Name0 (codes "v"))) (more_of-Formula (Same (Var (codes "X")) (Name0 (codes "w"))) end_of-Formula)))))) ∷ (statement (codes "type") (IsTyping (typing.Symbol (codes "d") (Individual ∷ []) (Some Individual)))) ∷ []) }) ≡ refused 3 Clash
unfolding world_name actual_name
declared_element_function = refl

extra_atom : given_by sig_half (record { statements = ((statement (codes "axiom") (IsFormula (Quant1 All (codes "X") Individual (Or' (tt ∷ tt ∷ []) (more_of-Formula (Same (Var (codes "X")) (Name0 (codes "d"))) (more_of-Formula (Same (Var (codes "X")) (Name0 (codes "e"))) end_of-Formula)))))) ∷ (statement (codes "axiom") (IsFormula (Quant1 All (codes "X") (User (codes "mk_world")) (Or' (tt ∷ tt ∷ []) (more_of-Formula (Same (Var (codes "X")) (Name0 (codes "v"))) (more_of-Formula (Same (Var (codes "X")) (Name0 (codes "w"))) end_of-Formula)))))) ∷ (statement (codes "type") (IsTyping (typing.Symbol (codes "x") ([]) (Some Individual)))) ∷ (statement (codes "type") (IsTyping (typing.Symbol (codes "x") ([]) None))) ∷ (statement (codes "axiom") (IsFormula (And' (tt ∷ tt ∷ []) (more_of-Formula (Atom (codes "x") ((App' (codes "f") (tt ∷ []) (more_of-Term (Var (codes "Y")) end_of-Term)) ∷ [])) (more_of-Formula (Not1 (Atom (codes "x") ((Name0 (codes "g")) ∷ []))) end_of-Formula))))) ∷ []) }) ≡ Ok (record { actual = 0; sizes = (2 ∷ 2 ∷ []); tables = ((0 ∷ 0 ∷ 0 ∷ 0 ∷ []) ∷ (0 ∷ 0 ∷ 0 ∷ 0 ∷ []) ∷ (0 ∷ 0 ∷ []) ∷ (0 ∷ []) ∷ []) })
unfolding world_name actual_name
extra_atom = refl

extra_equation : given_by sig_half (record { statements = ((statement (codes "axiom") (IsFormula (Quant1 All (codes "X") Individual (Or' (tt ∷ tt ∷ []) (more_of-Formula (Same (Var (codes "X")) (Name0 (codes "d"))) (more_of-Formula (Same (Var (codes "X")) (Name0 (codes "e"))) end_of-Formula)))))) ∷ (statement (codes "axiom") (IsFormula (Quant1 All (codes "X") (User (codes "mk_world")) (Or' (tt ∷ tt ∷ []) (more_of-Formula (Same (Var (codes "X")) (Name0 (codes "v"))) (more_of-Formula (Same (Var (codes "X")) (Name0 (codes "w"))) end_of-Formula)))))) ∷ (statement (codes "type") (IsTyping (typing.Symbol (codes "x") ([]) (Some Individual)))) ∷ (statement (codes "type") (IsTyping (typing.Symbol (codes "x") ([]) None))) ∷ (statement (codes "axiom") (IsFormula (Same (App' (codes "x") (tt ∷ []) (more_of-Term (Var (codes "Z")) end_of-Term)) (App' (codes "f") (tt ∷ []) (more_of-Term (Name0 (codes "zz")) end_of-Term))))) ∷ []) }) ≡ Ok (record { actual = 0; sizes = (2 ∷ 2 ∷ []); tables = ((0 ∷ 0 ∷ 0 ∷ 0 ∷ []) ∷ (0 ∷ 0 ∷ 0 ∷ 0 ∷ []) ∷ (0 ∷ 0 ∷ []) ∷ (0 ∷ []) ∷ []) })
unfolding world_name actual_name
extra_equation = refl

extra_differ : given_by sig_half (record { statements = ((statement (codes "axiom") (IsFormula (Quant1 All (codes "X") Individual (Or' (tt ∷ tt ∷ []) (more_of-Formula (Same (Var (codes "X")) (Name0 (codes "d"))) (more_of-Formula (Same (Var (codes "X")) (Name0 (codes "e"))) end_of-Formula)))))) ∷ (statement (codes "axiom") (IsFormula (Quant1 All (codes "X") (User (codes "mk_world")) (Or' (tt ∷ tt ∷ []) (more_of-Formula (Same (Var (codes "X")) (Name0 (codes "v"))) (more_of-Formula (Same (Var (codes "X")) (Name0 (codes "w"))) end_of-Formula)))))) ∷ (statement (codes "type") (IsTyping (typing.Symbol (codes "x") ([]) (Some Individual)))) ∷ (statement (codes "type") (IsTyping (typing.Symbol (codes "x") ([]) None))) ∷ (statement (codes "axiom") (IsFormula (Differ (App' (codes "x") (tt ∷ []) (more_of-Term (Name0 (codes "d")) end_of-Term)) (Name0 (codes "g"))))) ∷ []) }) ≡ Ok (record { actual = 0; sizes = (2 ∷ 2 ∷ []); tables = ((0 ∷ 0 ∷ 0 ∷ 0 ∷ []) ∷ (0 ∷ 0 ∷ 0 ∷ 0 ∷ []) ∷ (0 ∷ 0 ∷ []) ∷ (0 ∷ []) ∷ []) })
unfolding world_name actual_name
extra_differ = refl

extra_differ_right : given_by sig_half (record { statements = ((statement (codes "axiom") (IsFormula (Quant1 All (codes "X") Individual (Or' (tt ∷ tt ∷ []) (more_of-Formula (Same (Var (codes "X")) (Name0 (codes "d"))) (more_of-Formula (Same (Var (codes "X")) (Name0 (codes "e"))) end_of-Formula)))))) ∷ (statement (codes "axiom") (IsFormula (Quant1 All (codes "X") (User (codes "mk_world")) (Or' (tt ∷ tt ∷ []) (more_of-Formula (Same (Var (codes "X")) (Name0 (codes "v"))) (more_of-Formula (Same (Var (codes "X")) (Name0 (codes "w"))) end_of-Formula)))))) ∷ (statement (codes "type") (IsTyping (typing.Symbol (codes "x") ([]) (Some Individual)))) ∷ (statement (codes "type") (IsTyping (typing.Symbol (codes "x") ([]) None))) ∷ (statement (codes "axiom") (IsFormula (Differ (Name0 (codes "d")) (Name0 (codes "x"))))) ∷ []) }) ≡ refused 5 UnknownElement
unfolding world_name actual_name
extra_differ_right = refl

extra_distinct : given_by sig_half (record { statements = ((statement (codes "axiom") (IsFormula (Quant1 All (codes "X") Individual (Or' (tt ∷ tt ∷ []) (more_of-Formula (Same (Var (codes "X")) (Name0 (codes "d"))) (more_of-Formula (Same (Var (codes "X")) (Name0 (codes "e"))) end_of-Formula)))))) ∷ (statement (codes "axiom") (IsFormula (Quant1 All (codes "X") (User (codes "mk_world")) (Or' (tt ∷ tt ∷ []) (more_of-Formula (Same (Var (codes "X")) (Name0 (codes "v"))) (more_of-Formula (Same (Var (codes "X")) (Name0 (codes "w"))) end_of-Formula)))))) ∷ (statement (codes "type") (IsTyping (typing.Symbol (codes "x") ([]) (Some Individual)))) ∷ (statement (codes "type") (IsTyping (typing.Symbol (codes "x") ([]) None))) ∷ (statement (codes "axiom") (IsFormula (Distinct ((Name0 (codes "g")) ∷ (App' (codes "x") (tt ∷ []) (more_of-Term (Name0 (codes "d")) end_of-Term)) ∷ [])))) ∷ []) }) ≡ Ok (record { actual = 0; sizes = (2 ∷ 2 ∷ []); tables = ((0 ∷ 0 ∷ 0 ∷ 0 ∷ []) ∷ (0 ∷ 0 ∷ 0 ∷ 0 ∷ []) ∷ (0 ∷ 0 ∷ []) ∷ (0 ∷ []) ∷ []) })
unfolding world_name actual_name
extra_distinct = refl

extra_deep : given_by sig_half (record { statements = ((statement (codes "axiom") (IsFormula (Quant1 All (codes "X") Individual (Or' (tt ∷ tt ∷ []) (more_of-Formula (Same (Var (codes "X")) (Name0 (codes "d"))) (more_of-Formula (Same (Var (codes "X")) (Name0 (codes "e"))) end_of-Formula)))))) ∷ (statement (codes "axiom") (IsFormula (Quant1 All (codes "X") (User (codes "mk_world")) (Or' (tt ∷ tt ∷ []) (more_of-Formula (Same (Var (codes "X")) (Name0 (codes "v"))) (more_of-Formula (Same (Var (codes "X")) (Name0 (codes "w"))) end_of-Formula)))))) ∷ (statement (codes "type") (IsTyping (typing.Symbol (codes "x") ([]) (Some Individual)))) ∷ (statement (codes "type") (IsTyping (typing.Symbol (codes "x") ([]) None))) ∷ (statement (codes "axiom") (IsFormula (Atom (codes "p") ((Name0 (codes "v")) ∷ (App' (codes "f") (tt ∷ []) (more_of-Term (Name0 (codes "x")) end_of-Term)) ∷ [])))) ∷ []) }) ≡ refused 5 Form
unfolding world_name actual_name
extra_deep = refl

extra_value : given_by sig_half (record { statements = ((statement (codes "axiom") (IsFormula (Quant1 All (codes "X") Individual (Or' (tt ∷ tt ∷ []) (more_of-Formula (Same (Var (codes "X")) (Name0 (codes "d"))) (more_of-Formula (Same (Var (codes "X")) (Name0 (codes "e"))) end_of-Formula)))))) ∷ (statement (codes "axiom") (IsFormula (Quant1 All (codes "X") (User (codes "mk_world")) (Or' (tt ∷ tt ∷ []) (more_of-Formula (Same (Var (codes "X")) (Name0 (codes "v"))) (more_of-Formula (Same (Var (codes "X")) (Name0 (codes "w"))) end_of-Formula)))))) ∷ (statement (codes "type") (IsTyping (typing.Symbol (codes "x") ([]) (Some Individual)))) ∷ (statement (codes "type") (IsTyping (typing.Symbol (codes "x") ([]) None))) ∷ (statement (codes "axiom") (IsFormula (Same (Name0 (codes "a")) (Name0 (codes "x"))))) ∷ []) }) ≡ refused 5 UnknownElement
unfolding world_name actual_name
extra_value = refl

extra_closure : given_by sig_half (record { statements = ((statement (codes "axiom") (IsFormula (Quant1 All (codes "X") Individual (Or' (tt ∷ tt ∷ []) (more_of-Formula (Same (Var (codes "X")) (Name0 (codes "d"))) (more_of-Formula (Same (Var (codes "X")) (Name0 (codes "e"))) end_of-Formula)))))) ∷ (statement (codes "axiom") (IsFormula (Quant1 All (codes "X") (User (codes "mk_world")) (Or' (tt ∷ tt ∷ []) (more_of-Formula (Same (Var (codes "X")) (Name0 (codes "v"))) (more_of-Formula (Same (Var (codes "X")) (Name0 (codes "w"))) end_of-Formula)))))) ∷ (statement (codes "type") (IsTyping (typing.Symbol (codes "x") ([]) (Some Individual)))) ∷ (statement (codes "type") (IsTyping (typing.Symbol (codes "x") ([]) None))) ∷ (statement (codes "axiom") (IsFormula (Quant1 All (codes "Y") (User (codes "x")) (Or' (tt ∷ tt ∷ []) (more_of-Formula (Same (Var (codes "Y")) (Name0 (codes "d"))) (more_of-Formula (Same (Var (codes "Y")) (Name0 (codes "q"))) end_of-Formula)))))) ∷ []) }) ≡ Ok (record { actual = 0; sizes = (2 ∷ 2 ∷ []); tables = ((0 ∷ 0 ∷ 0 ∷ 0 ∷ []) ∷ (0 ∷ 0 ∷ 0 ∷ 0 ∷ []) ∷ (0 ∷ 0 ∷ []) ∷ (0 ∷ []) ∷ []) })
unfolding world_name actual_name
extra_closure = refl

extra_closure_shape : given_by sig_half (record { statements = ((statement (codes "axiom") (IsFormula (Quant1 All (codes "X") Individual (Or' (tt ∷ tt ∷ []) (more_of-Formula (Same (Var (codes "X")) (Name0 (codes "d"))) (more_of-Formula (Same (Var (codes "X")) (Name0 (codes "e"))) end_of-Formula)))))) ∷ (statement (codes "axiom") (IsFormula (Quant1 All (codes "X") (User (codes "mk_world")) (Or' (tt ∷ tt ∷ []) (more_of-Formula (Same (Var (codes "X")) (Name0 (codes "v"))) (more_of-Formula (Same (Var (codes "X")) (Name0 (codes "w"))) end_of-Formula)))))) ∷ (statement (codes "type") (IsTyping (typing.Symbol (codes "x") ([]) (Some Individual)))) ∷ (statement (codes "type") (IsTyping (typing.Symbol (codes "x") ([]) None))) ∷ (statement (codes "axiom") (IsFormula (Quant1 All (codes "Y") (User (codes "x")) (Same (Var (codes "Y")) (App' (codes "f") (tt ∷ []) (more_of-Term (Name0 (codes "d")) end_of-Term)))))) ∷ []) }) ≡ refused 5 Form
unfolding world_name actual_name
extra_closure_shape = refl

negated_extra_equation : given_by sig_half (record { statements = ((statement (codes "axiom") (IsFormula (Quant1 All (codes "X") Individual (Or' (tt ∷ tt ∷ []) (more_of-Formula (Same (Var (codes "X")) (Name0 (codes "d"))) (more_of-Formula (Same (Var (codes "X")) (Name0 (codes "e"))) end_of-Formula)))))) ∷ (statement (codes "axiom") (IsFormula (Quant1 All (codes "X") (User (codes "mk_world")) (Or' (tt ∷ tt ∷ []) (more_of-Formula (Same (Var (codes "X")) (Name0 (codes "v"))) (more_of-Formula (Same (Var (codes "X")) (Name0 (codes "w"))) end_of-Formula)))))) ∷ (statement (codes "type") (IsTyping (typing.Symbol (codes "x") ([]) (Some Individual)))) ∷ (statement (codes "type") (IsTyping (typing.Symbol (codes "x") ([]) None))) ∷ (statement (codes "axiom") (IsFormula (Not1 (Same (Name0 (codes "x")) (Name0 (codes "d")))))) ∷ []) }) ≡ refused 5 Form
unfolding world_name actual_name
negated_extra_equation = refl

extra_listed_nothing : given_by sig_half (record { statements = ((statement (codes "axiom") (IsFormula (Quant1 All (codes "X") Individual (Or' (tt ∷ tt ∷ []) (more_of-Formula (Same (Var (codes "X")) (Name0 (codes "d"))) (more_of-Formula (Same (Var (codes "X")) (Name0 (codes "e"))) end_of-Formula)))))) ∷ (statement (codes "axiom") (IsFormula (Quant1 All (codes "X") (User (codes "mk_world")) (Or' (tt ∷ tt ∷ []) (more_of-Formula (Same (Var (codes "X")) (Name0 (codes "v"))) (more_of-Formula (Same (Var (codes "X")) (Name0 (codes "w"))) end_of-Formula)))))) ∷ (statement (codes "type") (IsTyping (typing.Symbol (codes "x") ([]) (Some Individual)))) ∷ (statement (codes "type") (IsTyping (typing.Symbol (codes "x") ([]) None))) ∷ (statement (codes "axiom") (IsFormula (Quant1 All (codes "Y") (User (codes "x")) (Same (Var (codes "Y")) (Name0 (codes "g")))))) ∷ (statement (codes "axiom") (IsFormula (Same (Name0 (codes "a")) (Name0 (codes "g"))))) ∷ []) }) ≡ refused 6 UnknownElement
unfolding world_name actual_name
extra_listed_nothing = refl

individual_unknown : given_by sig_k (record { statements = ((statement (codes "type") (IsTyping typing.Individual)) ∷ (statement (codes "axiom") (IsFormula (Quant1 All (codes "X") Individual (Same (Var (codes "X")) (Name0 (codes "d")))))) ∷ []) }) ≡ refused 2 UnknownSymbol
unfolding world_name actual_name
individual_unknown = refl

nested : given_by sig_half (record { statements = ((statement (codes "axiom") (IsFormula (Quant1 All (codes "X") Individual (Or' (tt ∷ tt ∷ []) (more_of-Formula (Same (Var (codes "X")) (Name0 (codes "d"))) (more_of-Formula (Same (Var (codes "X")) (Name0 (codes "e"))) end_of-Formula)))))) ∷ (statement (codes "axiom") (IsFormula (Quant1 All (codes "X") (User (codes "mk_world")) (Or' (tt ∷ tt ∷ []) (more_of-Formula (Same (Var (codes "X")) (Name0 (codes "v"))) (more_of-Formula (Same (Var (codes "X")) (Name0 (codes "w"))) end_of-Formula)))))) ∷ (statement (codes "axiom") (IsFormula (And' (tt ∷ tt ∷ []) (more_of-Formula (And' (tt ∷ tt ∷ []) (more_of-Formula (Atom (codes "p") ((Name0 (codes "v")) ∷ (Name0 (codes "d")) ∷ [])) (more_of-Formula (And' (tt ∷ tt ∷ []) (more_of-Formula True (more_of-Formula (Atom (codes "p") ((Name0 (codes "v")) ∷ (Name0 (codes "e")) ∷ [])) end_of-Formula))) end_of-Formula))) (more_of-Formula (And' (tt ∷ tt ∷ []) (more_of-Formula (Atom (codes "p") ((Name0 (codes "w")) ∷ (Name0 (codes "d")) ∷ [])) (more_of-Formula (Atom (codes "p") ((Name0 (codes "w")) ∷ (Name0 (codes "e")) ∷ [])) end_of-Formula))) end_of-Formula))))) ∷ []) }) ≡ Ok (record { actual = 0; sizes = (2 ∷ 2 ∷ []); tables = ((0 ∷ 0 ∷ 0 ∷ 0 ∷ []) ∷ (1 ∷ 1 ∷ 1 ∷ 1 ∷ []) ∷ (0 ∷ 0 ∷ []) ∷ (0 ∷ []) ∷ []) })
unfolding world_name actual_name
nested = refl

first_from_the_left : given_by sig_half (record { statements = ((statement (codes "axiom") (IsFormula (Quant1 All (codes "X") Individual (Or' (tt ∷ tt ∷ []) (more_of-Formula (Same (Var (codes "X")) (Name0 (codes "d"))) (more_of-Formula (Same (Var (codes "X")) (Name0 (codes "e"))) end_of-Formula)))))) ∷ (statement (codes "axiom") (IsFormula (Quant1 All (codes "X") (User (codes "mk_world")) (Or' (tt ∷ tt ∷ []) (more_of-Formula (Same (Var (codes "X")) (Name0 (codes "v"))) (more_of-Formula (Same (Var (codes "X")) (Name0 (codes "w"))) end_of-Formula)))))) ∷ (statement (codes "axiom") (IsFormula (And' (tt ∷ tt ∷ []) (more_of-Formula (Same (Name0 (codes "a")) (Name0 (codes "g"))) (more_of-Formula (Atom (codes "zz") ([])) end_of-Formula))))) ∷ []) }) ≡ refused 3 UnknownElement
unfolding world_name actual_name
first_from_the_left = refl

incomplete : given_by sig_half (record { statements = ((statement (codes "axiom") (IsFormula (Quant1 All (codes "X") Individual (Or' (tt ∷ tt ∷ []) (more_of-Formula (Same (Var (codes "X")) (Name0 (codes "d"))) (more_of-Formula (Same (Var (codes "X")) (Name0 (codes "e"))) end_of-Formula)))))) ∷ (statement (codes "axiom") (IsFormula (Quant1 All (codes "X") (User (codes "mk_world")) (Or' (tt ∷ tt ∷ []) (more_of-Formula (Same (Var (codes "X")) (Name0 (codes "v"))) (more_of-Formula (Same (Var (codes "X")) (Name0 (codes "w"))) end_of-Formula)))))) ∷ (statement (codes "axiom") (IsFormula (Atom (codes "p") ((Name0 (codes "v")) ∷ (Name0 (codes "d")) ∷ [])))) ∷ []) }) ≡ Err (error.Kind (kind.Incomplete (codes "p")))
unfolding world_name actual_name
incomplete = refl

incomplete_in_order : given_by sig_half (record { statements = ((statement (codes "axiom") (IsFormula (Quant1 All (codes "X") Individual (Or' (tt ∷ tt ∷ []) (more_of-Formula (Same (Var (codes "X")) (Name0 (codes "d"))) (more_of-Formula (Same (Var (codes "X")) (Name0 (codes "e"))) end_of-Formula)))))) ∷ (statement (codes "axiom") (IsFormula (Quant1 All (codes "X") (User (codes "mk_world")) (Or' (tt ∷ tt ∷ []) (more_of-Formula (Same (Var (codes "X")) (Name0 (codes "v"))) (more_of-Formula (Same (Var (codes "X")) (Name0 (codes "w"))) end_of-Formula)))))) ∷ (statement (codes "axiom") (IsFormula (And' (tt ∷ tt ∷ []) (more_of-Formula (Atom (codes "p") ((Name0 (codes "v")) ∷ (Name0 (codes "d")) ∷ [])) (more_of-Formula (Atom (codes "mk_acc") ((Name0 (codes "v")) ∷ (Name0 (codes "v")) ∷ [])) end_of-Formula))))) ∷ []) }) ≡ Err (error.Kind (kind.Incomplete (codes "mk_acc")))
unfolding world_name actual_name
incomplete_in_order = refl
