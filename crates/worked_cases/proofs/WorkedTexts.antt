-- Texts worked out by the definitions.
use Rattle.std.proofs.Common.{◌≡◌, ℕ, List, [], ◌∷◌, ◌++◌, refl, None, Some}
use Rattle.std.specs.Prelude.{codes}
use Rattle.nxf_tree.specs.declared.tree.IndexName.TheVariants.{Plain, Named}
use Rattle.nxf_tree.specs.declared.tree.SortName.TheVariants.{Individual, User}
use Rattle.nxf_tree.specs.declared.tree.Quantifier.TheVariants.{All, Exists}
use Rattle.nxf_tree.specs.declared.tree.Mode.TheVariants.{Box, Dia}
use Rattle.nxf_tree.specs.declared.tree.Op.TheVariants.{Implies, Nor}
use Rattle.nxf_tree.specs.declared.tree.Term.{Var}
use Rattle.nxf_tree.specs.declared.tree.Formula.{Formula, Atom, Same, Differ, Distinct, True, False}
use Rattle.nxf_tree.specs.declared.tree.Typing.TheVariants as typing
use Rattle.nxf_tree.specs.declared.tree.Body.TheVariants as body
use Rattle.nxf_tree.specs.declared.tree.Statement.TheVariants.{Annotated, Include}
use Rattle.nxf_tree.specs.Shapes.{Not1, And2, Pair2, Quant1, Modal1, Name0}
use Rattle.nxf_tree.specs.Problem.{statement_of, declaration}
use Rattle.nxf_tree.specs.Text.{name_text, formula_text, statement_text}

abbrev line : List ℕ → List ℕ
line text = text ++ 10 ∷ []

abbrev atom : List ℕ → Formula
atom name = Atom name []

-- names: words are bare, all others stand in quotes
pub a_word : name_text (codes "mk_acc_1") ≡ codes "mk_acc_1"
a_word = refl

pub a_number : name_text (codes "1") ≡ codes "'1'"
a_number = refl

pub a_capital : name_text (codes "Ann") ≡ codes "'Ann'"
a_capital = refl

pub with_dollar : name_text (codes "fin_$w_1") ≡ codes "'fin_$w_1'"
with_dollar = refl

pub with_escapes : name_text (105 ∷ 116 ∷ 39 ∷ 115 ∷ 92 ∷ []) ≡ 39 ∷ 105 ∷ 116 ∷ 92 ∷ 39 ∷ 115 ∷ 92 ∷ 92 ∷ 39 ∷ []
with_escapes = refl

-- typings
pub a_sort : statement_text (declaration (codes "person") (typing.Sort (codes "person"))) ≡ line (codes "tff(person,type,person: $tType).")
a_sort = refl

pub individuals : statement_text (declaration (codes "i") typing.Individual) ≡ line (codes "tff(i,type,$i: $tType).")
individuals = refl

pub a_constant : statement_text (declaration (codes "ann") (typing.Symbol (codes "ann") [] (Some (User (codes "person"))))) ≡ line (codes "tff(ann,type,ann: person).")
a_constant = refl

pub a_proposition : statement_text (declaration (codes "p") (typing.Symbol (codes "p") [] None)) ≡ line (codes "tff(p,type,p: $o).")
a_proposition = refl

pub flexible_constant : statement_text (declaration (codes "c") (typing.Symbol (codes "c") (User (codes "mk_world") ∷ []) (Some Individual))) ≡ line (codes "tff(c,type,c: mk_world > $i).")
flexible_constant = refl

pub a_predicate : statement_text (declaration (codes "q") (typing.Symbol (codes "q") (User (codes "mk_world") ∷ Individual ∷ []) None)) ≡ line (codes "tff(q,type,q: ( mk_world * $i ) > $o).")
a_predicate = refl

-- formulas
pub a_chain : formula_text (Pair2 Implies (And2 (atom (codes "a")) (atom (codes "b"))) (Not1 (Pair2 Nor (atom (codes "a")) (atom (codes "b"))))) ≡ codes "( a & b ) => ~ ( a ~| b )"
a_chain = refl

pub a_diamond : formula_text (Quant1 Exists (codes "W_0") (User (codes "mk_world")) (And2 (Atom (codes "mk_acc") (Name0 (codes "mk_actual") ∷ Var (codes "W_0") ∷ [])) True))
    ≡ codes "? [W_0: mk_world] : ( mk_acc(mk_actual,W_0) & $true )"
a_diamond = refl

pub an_inequation : statement_text (statement_of (codes "a7") (codes "axiom") (Quant1 All (codes "W_0") (User (codes "mk_world")) (Differ (Name0 (codes "ann")) (Name0 (codes "bob")))))
    ≡ line (codes "tff(a7,axiom,! [W_0: mk_world] : ann != bob).")
an_inequation = refl

pub an_equation : formula_text (Same (Var (codes "X")) (Name0 (codes "c"))) ≡ codes "X = c"
an_equation = refl

pub different_elements : formula_text (Distinct (Name0 (codes "mk_w_0") ∷ Name0 (codes "mk_w_1") ∷ [])) ≡ codes "$distinct(mk_w_0,mk_w_1)"
different_elements = refl

pub modalities : formula_text (Modal1 Box Plain (Modal1 Dia (Named (codes "1")) (Pair2 Implies (atom (codes "p")) False))) ≡ codes "[.] <#'1'> ( p => $false )"
modalities = refl

-- a role with a suffix, and an include
pub with_suffix : statement_text (Annotated (codes "1") (record { word = codes "axiom"; suffix = Some (codes "local") }) (body.Formula (atom (codes "p")))) ≡ line (codes "tff('1',axiom-local,p).")
with_suffix = refl

pub an_include : statement_text (Include (codes "people.ax") (Some (codes "a1" ∷ codes "a 2" ∷ []))) ≡ line (codes "include('people.ax',[a1,'a 2']).")
an_include = refl
