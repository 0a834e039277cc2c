-- Problems worked out from the file to the printed problem.
use Rattle.std.proofs.Common.{◌≡◌, ℕ, List, [], ◌∷◌, ◌++◌, refl}
use Rattle.std.specs.Prelude.{codes, None, Some, Ok}
use denote.Hole.Carrier
use Rattle.nxf_tree.specs.declared.tree.IndexName.TheVariants.{Plain, Named}
use Rattle.nxf_tree.specs.declared.tree.SortName.TheVariants.{Individual, User}
use Rattle.nxf_tree.specs.declared.tree.Regime.TheVariants.{Constant, Varying}
use Rattle.nxf_tree.specs.declared.tree.Designation.TheVariants.{Rigid, Flexible}
use Rattle.nxf_tree.specs.declared.tree.Locality.TheVariants.{Local, Global}
use Rattle.nxf_tree.specs.declared.tree.Scheme.TheVariants.{T, Five}
use Rattle.nxf_tree.specs.declared.tree.Mode.TheVariants.{Box, Dia}
use Rattle.nxf_tree.specs.declared.tree.Term.{Term, App}
use Rattle.nxf_tree.specs.declared.tree.Term.TheBlock.{hidden-the_row-Term-0}
use Rattle.nxf_tree.specs.declared.tree.Formula.{Formula, Atom, Same}
use Rattle.nxf_tree.specs.declared.tree.SpecKey.TheVariants.{Name, Index}
use Rattle.nxf_tree.specs.declared.tree.SpecValue.{Word, out-SpecValue, roll-SpecValue}
use Rattle.nxf_tree.specs.declared.tree.SpecItem.{SpecItem, Entry, out-SpecItem, roll-SpecItem}
use Rattle.nxf_tree.specs.declared.tree.SpecItem as item
use Rattle.nxf_tree.specs.declared.tree.SpecItem.TheBlock.{shown-the_row-SpecItem-0}
use Rattle.nxf_tree.specs.declared.tree.Statement.{Statement}
use Rattle.nxf_tree.specs.declared.tree.File.{File}
use Rattle.nxf_tree.specs.Shapes.{And2, Modal1, Name0}
use Rattle.nxf_tree.specs.Names.{user_name, user_variable, world_variable, element_variable, relation_name, existence_name, actual_name, world_name}
use Rattle.nxf_tree.specs.Signature.{is_constant, is_flexible}
use Rattle.nxf_tree.specs.SpecificationWords.{regime_named, designation_named, locality_named, system_named, axiom_named, same_scheme}
use Rattle.nxf_tree.specs.Specification.{setting_of, takes_key}
use Rattle.nxf_tree.specs.Problem.{statement_of}
use Rattle.worked_cases.proofs.CaseTrees.{setting, settings, modalities, logic, system_k, conjecture, file_of, var, nullary, unary, binary, implies, for_all, for_some, necessarily, world_sort, here, w, v, u, x, for_world, for_next, for_third, acc, in_at, symbol, sort, first_three, axiom_statement, sort_entry, predicate, constant, index_entry, signature_in, printed}

abbrev box_p : Formula
box_p = implies (necessarily (nullary (codes "p"))) (nullary (codes "p"))

abbrev box_p_printed : Statement
box_p_printed = conjecture (implies (for_world (implies (acc here w) (unary (codes "p") w))) (unary (codes "p") here))

-- `[.] p => p` in K: no axiom
propositional_k : printed (file_of (system_k ∷ conjecture box_p ∷ [])) ≡ Ok (first_three ++ symbol (codes "p") (world_sort ∷ []) None ∷ box_p_printed ∷ [])
unfolding regime_named designation_named locality_named system_named axiom_named same_scheme setting_of takes_key out-SpecValue out-SpecItem roll-SpecValue roll-SpecItem denote.Hole.Carrier.out denote.Hole.Carrier.roll shown-the_row-SpecItem-0 denote.Hole.Carrier.shown denote.Hole.Carrier.hidden is_constant is_flexible hidden-the_row-Term-0 user_name user_variable world_variable element_variable relation_name existence_name actual_name world_name
propositional_k = refl

-- the same in T: the relation is reflexive
reflexive_frame : printed (file_of (logic (modalities (codes "$modal_system_T") ∷ []) ∷ conjecture box_p ∷ [])) ≡ Ok (first_three ++ symbol (codes "p") (world_sort ∷ []) None ∷ axiom_statement (codes "mk_ax_1") (for_world (acc w w)) ∷ box_p_printed ∷ [])
unfolding regime_named designation_named locality_named system_named axiom_named same_scheme setting_of takes_key out-SpecValue out-SpecItem roll-SpecValue roll-SpecItem denote.Hole.Carrier.out denote.Hole.Carrier.roll shown-the_row-SpecItem-0 denote.Hole.Carrier.shown denote.Hole.Carrier.hidden is_constant is_flexible hidden-the_row-Term-0 user_name user_variable world_variable element_variable relation_name existence_name actual_name world_name
reflexive_frame = refl

-- the Barcan formula and its converse
abbrev barcan : Formula
barcan = implies (for_all (codes "X") Individual (necessarily (unary (codes "q") (var (codes "X"))))) (necessarily (for_all (codes "X") Individual (unary (codes "q") (var (codes "X")))))

abbrev converse_barcan : Formula
converse_barcan = implies (necessarily (for_all (codes "X") Individual (unary (codes "q") (var (codes "X"))))) (for_all (codes "X") Individual (necessarily (unary (codes "q") (var (codes "X")))))

abbrev domains : List ℕ → Formula → File
domains = λ word f. file_of (logic (setting (codes "$domains") word ∷ modalities (codes "$modal_system_K") ∷ []) ∷ conjecture f ∷ [])

abbrev q_at : Term → Formula
q_at = λ t. binary (codes "q") t (var (codes "X"))

-- cumulative domains: existence, its three axioms, and guards
barcan_cumulative : printed (domains (codes "$cumulative") barcan) ≡ Ok (first_three ++ (
    symbol (codes "mk_in") (world_sort ∷ Individual ∷ []) None
    ∷ symbol (codes "q") (world_sort ∷ Individual ∷ []) None
    ∷ axiom_statement (codes "mk_ax_1") (for_world (for_some (codes "X_0") Individual (in_at w x)))
    ∷ axiom_statement (codes "mk_ax_2") (for_all (codes "X_0") Individual (for_some (codes "W_0") world_sort (in_at w x)))
    ∷ axiom_statement (codes "mk_ax_3") (for_world (for_next (for_all (codes "X_0") Individual (implies (And2 (acc w v) (in_at w x)) (in_at v x)))))
    ∷ conjecture (implies
    (for_all (codes "X") Individual (implies (in_at here (var (codes "X"))) (for_world (implies (acc here w) (q_at w)))))
    (for_world (implies (acc here w) (for_all (codes "X") Individual (implies (in_at w (var (codes "X"))) (q_at w))))))
    ∷ []))
unfolding regime_named designation_named locality_named system_named axiom_named same_scheme setting_of takes_key out-SpecValue out-SpecItem roll-SpecValue roll-SpecItem denote.Hole.Carrier.out denote.Hole.Carrier.roll shown-the_row-SpecItem-0 denote.Hole.Carrier.shown denote.Hole.Carrier.hidden is_constant is_flexible hidden-the_row-Term-0 user_name user_variable world_variable element_variable relation_name existence_name actual_name world_name
barcan_cumulative = refl

-- decreasing domains: the third axiom goes the other way
converse_barcan_decreasing : printed (domains (codes "$decreasing") converse_barcan) ≡ Ok (first_three ++ (
    symbol (codes "mk_in") (world_sort ∷ Individual ∷ []) None
    ∷ symbol (codes "q") (world_sort ∷ Individual ∷ []) None
    ∷ axiom_statement (codes "mk_ax_1") (for_world (for_some (codes "X_0") Individual (in_at w x)))
    ∷ axiom_statement (codes "mk_ax_2") (for_all (codes "X_0") Individual (for_some (codes "W_0") world_sort (in_at w x)))
    ∷ axiom_statement (codes "mk_ax_3") (for_world (for_next (for_all (codes "X_0") Individual (implies (And2 (acc w v) (in_at v x)) (in_at w x)))))
    ∷ conjecture (implies
    (for_world (implies (acc here w) (for_all (codes "X") Individual (implies (in_at w (var (codes "X"))) (q_at w)))))
    (for_all (codes "X") Individual (implies (in_at here (var (codes "X"))) (for_world (implies (acc here w) (q_at w))))))
    ∷ []))
unfolding regime_named designation_named locality_named system_named axiom_named same_scheme setting_of takes_key out-SpecValue out-SpecItem roll-SpecValue roll-SpecItem denote.Hole.Carrier.out denote.Hole.Carrier.roll shown-the_row-SpecItem-0 denote.Hole.Carrier.shown denote.Hole.Carrier.hidden is_constant is_flexible hidden-the_row-Term-0 user_name user_variable world_variable element_variable relation_name existence_name actual_name world_name
converse_barcan_decreasing = refl

abbrev is_c : Term → Formula
is_c = λ t. Same (var (codes "X")) t

-- a flexible constant under a box takes the world that is reached
flexible_constant : printed (file_of (logic (setting (codes "$designation") (codes "$flexible") ∷ modalities (codes "$modal_system_K") ∷ [])
    ∷ conjecture (for_some (codes "X") Individual (And2 (is_c (Name0 (codes "c"))) (necessarily (is_c (Name0 (codes "c")))))) ∷ [])) ≡ Ok (first_three ++ (
    symbol (codes "c") (world_sort ∷ []) (Some Individual)
    ∷ conjecture (for_some (codes "X") Individual (And2 (is_c (App (codes "c") (here ∷ []))) (for_world (implies (acc here w) (is_c (App (codes "c") (w ∷ [])))))))
    ∷ []))
unfolding regime_named designation_named locality_named system_named axiom_named same_scheme setting_of takes_key out-SpecValue out-SpecItem roll-SpecValue roll-SpecItem denote.Hole.Carrier.out denote.Hole.Carrier.roll shown-the_row-SpecItem-0 denote.Hole.Carrier.shown denote.Hole.Carrier.hidden is_constant is_flexible hidden-the_row-Term-0 user_name user_variable world_variable element_variable relation_name existence_name actual_name world_name
flexible_constant = refl

-- a rigid local constant exists at each world
local_constant : printed (domains (codes "$varying") (for_some (codes "X") Individual (is_c (Name0 (codes "c"))))) ≡ Ok (
    sort (codes "mk_world") ∷ symbol (codes "mk_actual") [] (Some world_sort)
    ∷ symbol (codes "mk_in") (world_sort ∷ Individual ∷ []) None
    ∷ symbol (codes "c") [] (Some Individual)
    ∷ axiom_statement (codes "mk_ax_1") (for_world (for_some (codes "X_0") Individual (in_at w x)))
    ∷ axiom_statement (codes "mk_ax_2") (for_all (codes "X_0") Individual (for_some (codes "W_0") world_sort (in_at w x)))
    ∷ axiom_statement (codes "mk_ax_3") (for_world (in_at w (App (codes "c") [])))
    ∷ conjecture (for_some (codes "X") Individual (And2 (in_at here (var (codes "X"))) (is_c (App (codes "c") []))))
    ∷ [])
unfolding regime_named designation_named locality_named system_named axiom_named same_scheme setting_of takes_key out-SpecValue out-SpecItem roll-SpecValue roll-SpecItem denote.Hole.Carrier.out denote.Hole.Carrier.roll shown-the_row-SpecItem-0 denote.Hole.Carrier.shown denote.Hole.Carrier.hidden is_constant is_flexible hidden-the_row-Term-0 user_name user_variable world_variable element_variable relation_name existence_name actual_name world_name
local_constant = refl

abbrev acc_a : Term → Term → Formula
acc_a = binary (codes "mk_acc_a")

abbrev acc_b : Term → Term → Formula
acc_b = binary (codes "mk_acc_b")

-- two named indexes and the unindexed modality, which comes first
three_relations : printed (file_of (logic (settings (codes "$modalities") (item.Word (codes "$modal_system_K")
    ∷ Entry (record { key = Index (Named (codes "a")); value = Word (codes "$modal_system_S4") })
    ∷ Entry (record { key = Index (Named (codes "b")); value = Word (codes "$modal_system_KB5") }) ∷ []) ∷ [])
    ∷ conjecture (implies (Modal1 Box (Named (codes "a")) (nullary (codes "p"))) (Modal1 Dia (Named (codes "b")) (necessarily (nullary (codes "p"))))) ∷ [])) ≡ Ok (first_three ++ (
    symbol (codes "mk_acc_a") (world_sort ∷ world_sort ∷ []) None
    ∷ symbol (codes "mk_acc_b") (world_sort ∷ world_sort ∷ []) None
    ∷ symbol (codes "p") (world_sort ∷ []) None
    ∷ axiom_statement (codes "mk_ax_1") (for_world (acc_a w w))
    ∷ axiom_statement (codes "mk_ax_2") (for_world (for_next (for_third (implies (And2 (acc_a w v) (acc_a v u)) (acc_a w u)))))
    ∷ axiom_statement (codes "mk_ax_3") (for_world (for_next (implies (acc_b w v) (acc_b v w))))
    ∷ axiom_statement (codes "mk_ax_4") (for_world (for_next (for_third (implies (And2 (acc_b w v) (acc_b w u)) (acc_b v u)))))
    ∷ conjecture (implies
    (for_world (implies (acc_a here w) (unary (codes "p") w)))
    (for_some (codes "W_0") world_sort (And2 (acc_b here w) (for_next (implies (acc w v) (unary (codes "p") v))))))
    ∷ []))
unfolding regime_named designation_named locality_named system_named axiom_named same_scheme setting_of takes_key out-SpecValue out-SpecItem roll-SpecValue roll-SpecItem denote.Hole.Carrier.out denote.Hole.Carrier.roll shown-the_row-SpecItem-0 denote.Hole.Carrier.shown denote.Hole.Carrier.hidden is_constant is_flexible hidden-the_row-Term-0 user_name user_variable world_variable element_variable relation_name existence_name actual_name world_name
three_relations = refl

-- `$i` beside a declared sort; no modality, so no relation
two_sorts : printed (file_of (system_k ∷ sort (codes "s") ∷ symbol (codes "r") (User (codes "s") ∷ []) None
    ∷ conjecture (for_all (codes "X") Individual (implies (unary (codes "q") (var (codes "X"))) (for_some (codes "X") (User (codes "s")) (unary (codes "r") (var (codes "X")))))) ∷ [])) ≡ Ok (
    sort (codes "mk_world") ∷ sort (codes "s") ∷ symbol (codes "mk_actual") [] (Some world_sort)
    ∷ symbol (codes "r") (world_sort ∷ User (codes "s") ∷ []) None
    ∷ symbol (codes "q") (world_sort ∷ Individual ∷ []) None
    ∷ conjecture (for_all (codes "X") Individual (implies (binary (codes "q") here (var (codes "X"))) (for_some (codes "X") (User (codes "s")) (binary (codes "r") here (var (codes "X"))))))
    ∷ [])
unfolding regime_named designation_named locality_named system_named axiom_named same_scheme setting_of takes_key out-SpecValue out-SpecItem roll-SpecValue roll-SpecItem denote.Hole.Carrier.out denote.Hole.Carrier.roll shown-the_row-SpecItem-0 denote.Hole.Carrier.shown denote.Hole.Carrier.hidden is_constant is_flexible hidden-the_row-Term-0 user_name user_variable world_variable element_variable relation_name existence_name actual_name world_name
two_sorts = refl

-- names that the printed problem takes for itself, and a sort `i` beside `$i`
reserved_names : printed (file_of (logic (setting (codes "$domains") (codes "$varying") ∷ modalities (codes "$modal_system_K") ∷ [])
    ∷ sort (codes "i") ∷ symbol (codes "mk_acc") (Individual ∷ User (codes "i") ∷ []) None
    ∷ statement_of (codes "h") (codes "hypothesis") (necessarily (for_all (codes "W_0") Individual (for_some (codes "Y") (User (codes "i")) (binary (codes "mk_acc") (var (codes "W_0")) (var (codes "Y")))))) ∷ [])) ≡ Ok (
    sort (codes "mk_world") ∷ sort (codes "i") ∷ symbol (codes "mk_actual") [] (Some world_sort)
    ∷ symbol (codes "mk_acc") (world_sort ∷ world_sort ∷ []) None
    ∷ symbol (codes "mk_in") (world_sort ∷ Individual ∷ []) None
    ∷ symbol (codes "mk_in_i") (world_sort ∷ User (codes "i") ∷ []) None
    ∷ symbol (codes "mk_u_mk_acc") (world_sort ∷ Individual ∷ User (codes "i") ∷ []) None
    ∷ axiom_statement (codes "mk_ax_1") (for_world (for_some (codes "X_0") Individual (in_at w x)))
    ∷ axiom_statement (codes "mk_ax_2") (for_all (codes "X_0") Individual (for_some (codes "W_0") world_sort (in_at w x)))
    ∷ axiom_statement (codes "mk_ax_3") (for_world (for_some (codes "X_0") (User (codes "i")) (binary (codes "mk_in_i") w x)))
    ∷ axiom_statement (codes "mk_ax_4") (for_all (codes "X_0") (User (codes "i")) (for_some (codes "W_0") world_sort (binary (codes "mk_in_i") w x)))
    ∷ axiom_statement (codes "h") (for_world (implies (acc here w)
    (for_all (codes "W_W_0") Individual (implies (in_at w (var (codes "W_W_0")))
    (for_some (codes "Y") (User (codes "i")) (And2 (binary (codes "mk_in_i") w (var (codes "Y"))) (Atom (codes "mk_u_mk_acc") (w ∷ var (codes "W_W_0") ∷ var (codes "Y") ∷ []))))))))
    ∷ [])
unfolding regime_named designation_named locality_named system_named axiom_named same_scheme setting_of takes_key out-SpecValue out-SpecItem roll-SpecValue roll-SpecItem denote.Hole.Carrier.out denote.Hole.Carrier.roll shown-the_row-SpecItem-0 denote.Hole.Carrier.shown denote.Hole.Carrier.hidden is_constant is_flexible hidden-the_row-Term-0 user_name user_variable world_variable element_variable relation_name existence_name actual_name world_name
reserved_names = refl

-- indexes are the same by their text; an index that nobody names is not there
indexes_by_text : signature_in (file_of (system_k ∷ conjecture (implies (Modal1 Box (Named (codes "a")) (nullary (codes "p"))) (implies (Modal1 Box (Named (codes "a")) (nullary (codes "p"))) (Modal1 Box (Named (codes "1")) (nullary (codes "p"))))) ∷ [])) ≡ Ok (record {
  sorts = [];
  symbols = predicate (codes "p") [] ∷ [];
  indexes = index_entry (Named (codes "a")) [] ∷ index_entry (Named (codes "1")) [] ∷ [];
})
unfolding regime_named designation_named locality_named system_named axiom_named same_scheme setting_of takes_key out-SpecValue out-SpecItem roll-SpecValue roll-SpecItem denote.Hole.Carrier.out denote.Hole.Carrier.roll shown-the_row-SpecItem-0 denote.Hole.Carrier.shown denote.Hole.Carrier.hidden is_constant is_flexible hidden-the_row-Term-0
indexes_by_text = refl

-- `$i` is no sort of a file in which it does not occur
declared_sort_alone : signature_in (file_of (system_k ∷ sort (codes "s") ∷ symbol (codes "u") (User (codes "s") ∷ []) None ∷ conjecture (nullary (codes "p")) ∷ [])) ≡ Ok (record {
  sorts = sort_entry (User (codes "s")) Constant ∷ [];
  symbols = predicate (codes "u") (0 ∷ []) ∷ predicate (codes "p") [] ∷ [];
  indexes = [];
})
unfolding regime_named designation_named locality_named system_named axiom_named same_scheme setting_of takes_key out-SpecValue out-SpecItem roll-SpecValue roll-SpecItem denote.Hole.Carrier.out denote.Hole.Carrier.roll shown-the_row-SpecItem-0 denote.Hole.Carrier.shown denote.Hole.Carrier.hidden is_constant is_flexible hidden-the_row-Term-0
declared_sort_alone = refl

-- defaults and overrides; schemes stand in their order, each once; a symbol comes before its arguments
overrides : signature_in (file_of (logic (settings (codes "$domains") (Entry (record { key = Name (codes "s"); value = Word (codes "$constant") }) ∷ item.Word (codes "$varying") ∷ [])
    ∷ settings (codes "$designation") (Entry (record { key = Name (codes "g"); value = Word (codes "$flexible") }) ∷ [])
    ∷ settings (codes "$terms") (item.Word (codes "$global") ∷ Entry (record { key = Name (codes "g"); value = Word (codes "$local") }) ∷ [])
    ∷ settings (codes "$modalities") (item.Word (codes "$modal_axiom_5") ∷ item.Word (codes "$modal_axiom_M") ∷ item.Word (codes "$modal_axiom_5") ∷ []) ∷ [])
    ∷ sort (codes "s") ∷ conjecture (necessarily (Same (App (codes "g") (Name0 (codes "c") ∷ [])) (Name0 (codes "c")))) ∷ [])) ≡ Ok (record {
      sorts = sort_entry Individual Varying ∷ sort_entry (User (codes "s")) Constant ∷ [];
      symbols = record { name = codes "g"; args = 0 ∷ []; gives = Some 0; designation = Flexible; locality = Local } ∷ constant (codes "c") 0 Rigid Global ∷ [];
      indexes = index_entry Plain (T ∷ Five ∷ []) ∷ [];
    })
unfolding regime_named designation_named locality_named system_named axiom_named same_scheme setting_of takes_key out-SpecValue out-SpecItem roll-SpecValue roll-SpecItem denote.Hole.Carrier.out denote.Hole.Carrier.roll shown-the_row-SpecItem-0 denote.Hole.Carrier.shown denote.Hole.Carrier.hidden is_constant is_flexible hidden-the_row-Term-0
overrides = refl

-- a declaration counts wherever it stands; the order is that of first occurrence
late_declaration : signature_in (file_of (system_k ∷ conjecture (unary (codes "p") (Name0 (codes "c"))) ∷ symbol (codes "c") [] (Some (User (codes "s"))) ∷ symbol (codes "p") (User (codes "s") ∷ []) None ∷ sort (codes "s") ∷ [])) ≡ Ok (record {
  sorts = sort_entry (User (codes "s")) Constant ∷ [];
  symbols = predicate (codes "p") (0 ∷ []) ∷ constant (codes "c") 0 Rigid Local ∷ [];
  indexes = [];
})
unfolding regime_named designation_named locality_named system_named axiom_named same_scheme setting_of takes_key out-SpecValue out-SpecItem roll-SpecValue roll-SpecItem denote.Hole.Carrier.out denote.Hole.Carrier.roll shown-the_row-SpecItem-0 denote.Hole.Carrier.shown denote.Hole.Carrier.hidden is_constant is_flexible hidden-the_row-Term-0
late_declaration = refl
