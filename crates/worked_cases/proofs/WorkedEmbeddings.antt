-- Printed problems worked out: what the definitions give for small files, word for word as a reader expects.
use Rattle.std.proofs.Common.{◌≡◌, ℕ, List, [], ◌∷◌, ◌++◌, refl}
use Rattle.std.specs.Prelude.{codes, None, Some}
use Rattle.nxf_tree.specs.declared.tree.Signature.{Signature}
use Rattle.nxf_tree.specs.declared.tree.SymbolEntry.{SymbolEntry}
use Rattle.nxf_tree.specs.declared.tree.IndexEntry.{IndexEntry}
use Rattle.nxf_tree.specs.declared.tree.IndexName.TheVariants.{Plain, Named}
use Rattle.nxf_tree.specs.declared.tree.SortName.TheVariants.{Individual, User}
use Rattle.nxf_tree.specs.declared.tree.Regime.TheVariants.{Constant, Cumulative, Varying}
use Rattle.nxf_tree.specs.declared.tree.Designation.TheVariants.{Rigid, Flexible}
use Rattle.nxf_tree.specs.declared.tree.Locality.TheVariants.{Local, Global}
use Rattle.nxf_tree.specs.declared.tree.Scheme.TheVariants.{T, B, Four, Five}
use Rattle.nxf_tree.specs.declared.tree.Quantifier.TheVariants.{All, Exists}
use Rattle.nxf_tree.specs.declared.tree.Mode.TheVariants.{Box, Dia}
use Rattle.nxf_tree.specs.declared.tree.Op.TheVariants.{Implies}
use Rattle.nxf_tree.specs.declared.tree.Term.{Var}
use Rattle.nxf_tree.specs.declared.tree.Term.TheBlock.{hidden-the_row-Term-0, shape-the_row-Term-0}
use Rattle.nxf_tree.specs.declared.tree.Formula.{Formula, Atom, Same}
use Rattle.nxf_tree.specs.declared.tree.Formula.TheBlock.{hidden-the_row-Formula-1, shape-the_row-Formula-1}
use Rattle.nxf_tree.specs.declared.tree.File.{File}
use Rattle.nxf_tree.specs.Shapes.{Not1, And2, Pair2, Quant1, Modal1, Name0}
use Rattle.nxf_tree.specs.Names.{user_name, user_variable, world_variable, element_variable, relation_name, existence_name, actual_name, world_name}
use Rattle.nxf_tree.specs.Signature.{is_constant, is_flexible}
use Rattle.nxf_tree.specs.Problem.{statement_of, problem_of}
use Rattle.nxf_tree.specs.Text.{text_of}
use denote.Hole.Carrier.{hidden}

abbrev line : List ℕ → List ℕ
line text = text ++ 10 ∷ []

abbrev predicate : List ℕ → List ℕ → SymbolEntry
predicate name args = record { name = name; args = args; gives = None; designation = Flexible; locality = Global }

abbrev plain : IndexEntry
plain = record { name = Plain; schemes = [] }

abbrev only : List ℕ → List ℕ → Formula → File
only name role f = record { statements = statement_of name role f ∷ [] }

abbrev at_q : List ℕ → Formula
at_q x = Atom (codes "q") (Var x ∷ [])

abbrev cumulative : Signature
cumulative = record { sorts = record { name = Individual; regime = Cumulative } ∷ []; symbols = predicate (codes "q") (0 ∷ []) ∷ []; indexes = plain ∷ [] }

-- `! [X] : [.] q(X) => [.] ! [X] : q(X)` with cumulative domains
pub barcan : text_of (problem_of cumulative (only (codes "c") (codes "conjecture") (Pair2 Implies (Quant1 All (codes "X") Individual (Modal1 Box Plain (at_q (codes "X")))) (Modal1 Box Plain (Quant1 All (codes "X") Individual (at_q (codes "X")))))))
    ≡ line (codes "tff(mk_world,type,mk_world: $tType).")
    ++ line (codes "tff(mk_actual,type,mk_actual: mk_world).")
    ++ line (codes "tff(mk_acc,type,mk_acc: ( mk_world * mk_world ) > $o).")
    ++ line (codes "tff(mk_in,type,mk_in: ( mk_world * $i ) > $o).")
    ++ line (codes "tff(q,type,q: ( mk_world * $i ) > $o).")
    ++ line (codes "tff(mk_ax_1,axiom,! [W_0: mk_world] : ? [X_0: $i] : mk_in(W_0,X_0)).")
    ++ line (codes "tff(mk_ax_2,axiom,! [X_0: $i] : ? [W_0: mk_world] : mk_in(W_0,X_0)).")
    ++ line (codes "tff(mk_ax_3,axiom,! [W_0: mk_world] : ! [W_1: mk_world] : ! [X_0: $i] : ( ( mk_acc(W_0,W_1) & mk_in(W_0,X_0) ) => mk_in(W_1,X_0) )).")
    ++ line (codes "tff(c,conjecture,! [X: $i] : ( mk_in(mk_actual,X) => ! [W_0: mk_world] : ( mk_acc(mk_actual,W_0) => q(W_0,X) ) ) => ! [W_0: mk_world] : ( mk_acc(mk_actual,W_0) => ! [X: $i] : ( mk_in(W_0,X) => q(W_0,X) ) )).")
unfolding user_name user_variable world_variable element_variable relation_name existence_name actual_name world_name is_constant is_flexible hidden-the_row-Term-0 shape-the_row-Term-0 hidden-the_row-Formula-1 shape-the_row-Formula-1 hidden
barcan = refl

abbrev flexible : Signature
flexible = record {
  sorts = record { name = Individual; regime = Constant } ∷ [];
  symbols = record { name = codes "c"; args = []; gives = Some 0; designation = Flexible; locality = Local } ∷ [];
  indexes = plain ∷ [];
}

-- `? [X] : ( X = c & [.] X = c )` with a flexible constant, which is taken at the world that is reached
pub flexible_constant : text_of (problem_of flexible (only (codes "c") (codes "conjecture") (Quant1 Exists (codes "X") Individual (And2 (Same (Var (codes "X")) (Name0 (codes "c"))) (Modal1 Box Plain (Same (Var (codes "X")) (Name0 (codes "c"))))))))
    ≡ line (codes "tff(mk_world,type,mk_world: $tType).")
    ++ line (codes "tff(mk_actual,type,mk_actual: mk_world).")
    ++ line (codes "tff(mk_acc,type,mk_acc: ( mk_world * mk_world ) > $o).")
    ++ line (codes "tff(c,type,c: mk_world > $i).")
    ++ line (codes "tff(c,conjecture,? [X: $i] : ( X = c(mk_actual) & ! [W_0: mk_world] : ( mk_acc(mk_actual,W_0) => X = c(W_0) ) )).")
unfolding user_name user_variable world_variable element_variable relation_name existence_name actual_name world_name is_constant is_flexible hidden-the_row-Term-0 shape-the_row-Term-0 hidden-the_row-Formula-1 shape-the_row-Formula-1 hidden
flexible_constant = refl

abbrev indexed : Signature
indexed = record {
  sorts = [];
  symbols = predicate (codes "p") [] ∷ [];
  indexes = plain ∷ record { name = Named (codes "a"); schemes = T ∷ Four ∷ [] } ∷ record { name = Named (codes "b"); schemes = B ∷ Five ∷ [] } ∷ [];
}

-- `[#a] p => <#b> [.] p`, each index with its own schemes
pub several_indexes : text_of (problem_of indexed (only (codes "c") (codes "conjecture") (Pair2 Implies (Modal1 Box (Named (codes "a")) (Atom (codes "p") [])) (Modal1 Dia (Named (codes "b")) (Modal1 Box Plain (Atom (codes "p") []))))))
    ≡ line (codes "tff(mk_world,type,mk_world: $tType).")
    ++ line (codes "tff(mk_actual,type,mk_actual: mk_world).")
    ++ line (codes "tff(mk_acc,type,mk_acc: ( mk_world * mk_world ) > $o).")
    ++ line (codes "tff(mk_acc_a,type,mk_acc_a: ( mk_world * mk_world ) > $o).")
    ++ line (codes "tff(mk_acc_b,type,mk_acc_b: ( mk_world * mk_world ) > $o).")
    ++ line (codes "tff(p,type,p: mk_world > $o).")
    ++ line (codes "tff(mk_ax_1,axiom,! [W_0: mk_world] : mk_acc_a(W_0,W_0)).")
    ++ line (codes "tff(mk_ax_2,axiom,! [W_0: mk_world] : ! [W_1: mk_world] : ! [W_2: mk_world] : ( ( mk_acc_a(W_0,W_1) & mk_acc_a(W_1,W_2) ) => mk_acc_a(W_0,W_2) )).")
    ++ line (codes "tff(mk_ax_3,axiom,! [W_0: mk_world] : ! [W_1: mk_world] : ( mk_acc_b(W_0,W_1) => mk_acc_b(W_1,W_0) )).")
    ++ line (codes "tff(mk_ax_4,axiom,! [W_0: mk_world] : ! [W_1: mk_world] : ! [W_2: mk_world] : ( ( mk_acc_b(W_0,W_1) & mk_acc_b(W_0,W_2) ) => mk_acc_b(W_1,W_2) )).")
    ++ line (codes "tff(c,conjecture,! [W_0: mk_world] : ( mk_acc_a(mk_actual,W_0) => p(W_0) ) => ? [W_0: mk_world] : ( mk_acc_b(mk_actual,W_0) & ! [W_1: mk_world] : ( mk_acc(W_0,W_1) => p(W_1) ) )).")
unfolding user_name user_variable world_variable element_variable relation_name existence_name actual_name world_name is_constant is_flexible hidden-the_row-Term-0 shape-the_row-Term-0 hidden-the_row-Formula-1 shape-the_row-Formula-1 hidden
several_indexes = refl

abbrev reserved : Signature
reserved = record {
  sorts = record { name = Individual; regime = Varying } ∷ record { name = User (codes "i"); regime = Varying } ∷ [];
  symbols = predicate (codes "mk_acc") (0 ∷ 1 ∷ []) ∷ [];
  indexes = plain ∷ [];
}

-- `[.] ! [W_0] : ? [Y: i] : mk_acc(W_0,Y)`, whose names are those of the printed problem's own, as a local premise
pub reserved_names : text_of (problem_of reserved (only (codes "h") (codes "hypothesis") (Modal1 Box Plain (Quant1 All (codes "W_0") Individual (Quant1 Exists (codes "Y") (User (codes "i")) (Atom (codes "mk_acc") (Var (codes "W_0") ∷ Var (codes "Y") ∷ [])))))))
    ≡ line (codes "tff(mk_world,type,mk_world: $tType).")
    ++ line (codes "tff(i,type,i: $tType).")
    ++ line (codes "tff(mk_actual,type,mk_actual: mk_world).")
    ++ line (codes "tff(mk_acc,type,mk_acc: ( mk_world * mk_world ) > $o).")
    ++ line (codes "tff(mk_in,type,mk_in: ( mk_world * $i ) > $o).")
    ++ line (codes "tff(mk_in_i,type,mk_in_i: ( mk_world * i ) > $o).")
    ++ line (codes "tff(mk_u_mk_acc,type,mk_u_mk_acc: ( mk_world * $i * i ) > $o).")
    ++ line (codes "tff(mk_ax_1,axiom,! [W_0: mk_world] : ? [X_0: $i] : mk_in(W_0,X_0)).")
    ++ line (codes "tff(mk_ax_2,axiom,! [X_0: $i] : ? [W_0: mk_world] : mk_in(W_0,X_0)).")
    ++ line (codes "tff(mk_ax_3,axiom,! [W_0: mk_world] : ? [X_0: i] : mk_in_i(W_0,X_0)).")
    ++ line (codes "tff(mk_ax_4,axiom,! [X_0: i] : ? [W_0: mk_world] : mk_in_i(W_0,X_0)).")
    ++ line (codes "tff(h,axiom,! [W_0: mk_world] : ( mk_acc(mk_actual,W_0) => ! [W_W_0: $i] : ( mk_in(W_0,W_W_0) => ? [Y: i] : ( mk_in_i(W_0,Y) & mk_u_mk_acc(W_0,W_W_0,Y) ) ) )).")
unfolding user_name user_variable world_variable element_variable relation_name existence_name actual_name world_name is_constant is_flexible hidden-the_row-Term-0 shape-the_row-Term-0 hidden-the_row-Formula-1 shape-the_row-Formula-1 hidden
reserved_names = refl

abbrev local_values : Signature
local_values = record {
  sorts = record { name = Individual; regime = Varying } ∷ record { name = User (codes "s"); regime = Constant } ∷ [];
  symbols = record { name = codes "f"; args = 0 ∷ 1 ∷ 0 ∷ []; gives = Some 0; designation = Flexible; locality = Local }
      ∷ record { name = codes "g"; args = 0 ∷ []; gives = Some 0; designation = Rigid; locality = Local }
      ∷ record { name = codes "h"; args = 0 ∷ []; gives = Some 0; designation = Rigid; locality = Global }
      ∷ record { name = codes "k"; args = 0 ∷ []; gives = Some 1; designation = Rigid; locality = Local }
      ∷ [];
  indexes = [];
}

-- local functions into a sort that isn't constant have an axiom, a flexible one at each world; and a global premise is about every world
pub values_of_functions : text_of (problem_of local_values (only (codes "a") (codes "axiom") (Not1 (Same (Var (codes "Z")) (Var (codes "Z"))))))
    ≡ line (codes "tff(mk_world,type,mk_world: $tType).")
    ++ line (codes "tff(s,type,s: $tType).")
    ++ line (codes "tff(mk_actual,type,mk_actual: mk_world).")
    ++ line (codes "tff(mk_in,type,mk_in: ( mk_world * $i ) > $o).")
    ++ line (codes "tff(f,type,f: ( mk_world * $i * s * $i ) > $i).")
    ++ line (codes "tff(g,type,g: $i > $i).")
    ++ line (codes "tff(h,type,h: $i > $i).")
    ++ line (codes "tff(k,type,k: $i > s).")
    ++ line (codes "tff(mk_ax_1,axiom,! [W_0: mk_world] : ? [X_0: $i] : mk_in(W_0,X_0)).")
    ++ line (codes "tff(mk_ax_2,axiom,! [X_0: $i] : ? [W_0: mk_world] : mk_in(W_0,X_0)).")
    ++ line (codes "tff(mk_ax_3,axiom,! [W_0: mk_world] : ! [X_0: $i] : ! [X_1: s] : ! [X_2: $i] : ( ( mk_in(W_0,X_0) & mk_in(W_0,X_2) ) => mk_in(W_0,f(W_0,X_0,X_1,X_2)) )).")
    ++ line (codes "tff(mk_ax_4,axiom,! [W_0: mk_world] : ! [X_0: $i] : ( mk_in(W_0,X_0) => mk_in(W_0,g(X_0)) )).")
    ++ line (codes "tff(a,axiom,! [W_0: mk_world] : ~ Z = Z).")
unfolding user_name user_variable world_variable element_variable relation_name existence_name actual_name world_name is_constant is_flexible hidden-the_row-Term-0 shape-the_row-Term-0 hidden-the_row-Formula-1 shape-the_row-Formula-1 hidden
values_of_functions = refl
