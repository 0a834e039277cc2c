-- Structures worked out: which are countermodels, and what those that are none fail.
use Rattle.std.proofs.Common.{◌≡◌, ℕ, Bool, true, false, List, [], ◌∷◌, refl, arith}
use Rattle.std.specs.Prelude.{codes, map, None, Some, Ok}
use denote.Hole.Carrier
use Rattle.nxf_tree.specs.declared.tree.IndexName.TheVariants.{Plain}
use Rattle.nxf_tree.specs.declared.tree.SortName.TheVariants.{Individual, User}
use Rattle.nxf_tree.specs.declared.tree.Signature.{Signature}
use Rattle.nxf_tree.specs.declared.tree.Regime.{Regime}
use Rattle.nxf_tree.specs.declared.tree.Regime.TheVariants.{Constant, Cumulative, Decreasing, Varying}
use Rattle.nxf_tree.specs.declared.tree.Designation.TheVariants.{Rigid, Flexible}
use Rattle.nxf_tree.specs.declared.tree.Locality.TheVariants.{Local, Global}
use Rattle.nxf_tree.specs.declared.tree.Scheme.TheVariants.{T, U}
use Rattle.nxf_tree.specs.declared.tree.Term.{App}
use Rattle.nxf_tree.specs.declared.tree.Term.TheBlock.{hidden-the_row-Term-0}
use Rattle.nxf_tree.specs.declared.tree.Formula.{Formula, Same, And}
use Rattle.nxf_tree.specs.declared.tree.SpecValue.{out-SpecValue, roll-SpecValue}
use Rattle.nxf_tree.specs.declared.tree.SpecItem.{out-SpecItem, roll-SpecItem}
use Rattle.nxf_tree.specs.declared.tree.SpecItem.TheBlock.{shown-the_row-SpecItem-0}
use Rattle.nxf_tree.specs.declared.tree.File.{File}
use Rattle.nxf_tree.specs.declared.tree.Scope.TheVariants.{Local as Here}
use Rattle.nxf_tree.specs.Shapes.{And2, Name0}
use Rattle.nxf_tree.specs.Names.{numeral, user_name, user_variable, world_variable, element_variable, relation_name, existence_name, actual_name, world_name}
use Rattle.nxf_tree.specs.Signature.{is_constant, is_flexible}
use Rattle.nxf_tree.specs.SpecificationWords.{regime_named, designation_named, locality_named, system_named, axiom_named, same_scheme, scheme_order}
use Rattle.nxf_tree.specs.Specification.{setting_of, takes_key}
use Rattle.nxf_tree.specs.Rows.{Rows, Values, all_rows, AreRows, AreValues, AreSizes, IsTable, AreTables}
use Rattle.nxf_tree.specs.Structures.{KripkeStructure, ClassicalStructure, relation_shapes, IsOver, kripke_model}
use Rattle.nxf_tree.specs.declared.tree.Op.{Op}
use Rattle.nxf_tree.specs.declared.tree.Op.TheVariants.{Implies, ImpliedBy, Iff, Xor, Nor, Nand}
use Rattle.nxf_tree.specs.Kripke.{connect}
use Rattle.nxf_tree.specs.Conditions.{meets_frames, meets_domains, meets_terms}
use Rattle.nxf_tree.specs.Axioms.{frame_axiom, term_axioms}
use Rattle.nxf_tree.specs.ClassicalSignature.{classical_signature_of}
use Rattle.nxf_tree.specs.Problem.{statement_of, problem_of}
use Rattle.nxf_tree.specs.Countermodels.{holds_in, meets_statement, IsKripkeCountermodel, IsClassicalCountermodel}
use Rattle.worked_cases.proofs.CaseTrees.{setting, modalities, logic, system_k, conjecture, suffixed, file_of, var, nullary, unary, implies, for_all, for_some, necessarily, possibly, world_sort, here, w, v, u, x, for_world, for_next, for_third, acc, in_at, symbol, sort, axiom_statement, sort_entry, predicate, constant, index_entry, signature_in, printed}

abbrev box_p : Formula
box_p = implies (necessarily (nullary (codes "p"))) (nullary (codes "p"))

abbrev k_signature : Signature
k_signature = record {
  sorts = [];
  symbols = predicate (codes "p") [] ∷ [];
  indexes = index_entry Plain [] ∷ [];
}

k_reading : signature_in (file_of (system_k ∷ conjecture box_p ∷ [])) ≡ Ok k_signature
unfolding regime_named designation_named locality_named system_named axiom_named same_scheme setting_of takes_key out-SpecValue out-SpecItem roll-SpecValue roll-SpecItem denote.Hole.Carrier.out denote.Hole.Carrier.roll shown-the_row-SpecItem-0 denote.Hole.Carrier.shown denote.Hole.Carrier.hidden is_constant is_flexible hidden-the_row-Term-0
k_reading = refl

-- two worlds, the second reached from the first; p holds at the second alone
abbrev k_structure : KripkeStructure
k_structure = record {
  worlds = 2;
  actual = 0;
  relations = ((0 ∷ 1 ∷ []) ∷ []) ∷ [];
  sizes = [];
  existing = [];
  symbols = Rows ((1 ∷ []) ∷ []) ∷ [];
}

box_p_fails : IsKripkeCountermodel k_signature (file_of (system_k ∷ conjecture box_p ∷ [])) k_structure
unfolding regime_named designation_named locality_named system_named axiom_named same_scheme setting_of takes_key out-SpecValue out-SpecItem roll-SpecValue roll-SpecItem denote.Hole.Carrier.out denote.Hole.Carrier.roll shown-the_row-SpecItem-0 denote.Hole.Carrier.shown denote.Hole.Carrier.hidden is_constant is_flexible hidden-the_row-Term-0
box_p_fails = record {
  over = record {
    actual = omega arith;
    sizes = tt;
    relations = (refl, tt);
    existing = tt;
    symbols = (refl, tt);
  };
  frames = refl;
  domains = refl;
  terms = refl;
  statements = refl;
}

abbrev t_signature : Signature
t_signature = record {
  sorts = [];
  symbols = predicate (codes "p") [] ∷ [];
  indexes = index_entry Plain (T ∷ []) ∷ [];
}

-- in T the relation has to be reflexive
not_reflexive : meets_frames t_signature (kripke_model t_signature k_structure) ≡ false
unfolding regime_named designation_named locality_named system_named axiom_named same_scheme setting_of takes_key out-SpecValue out-SpecItem roll-SpecValue roll-SpecItem denote.Hole.Carrier.out denote.Hole.Carrier.roll shown-the_row-SpecItem-0 denote.Hole.Carrier.shown denote.Hole.Carrier.hidden is_constant is_flexible hidden-the_row-Term-0
not_reflexive = refl

abbrev q_of : Formula
q_of = unary (codes "q") (var (codes "X"))

abbrev barcan : Formula
barcan = implies (for_all (codes "X") Individual (necessarily q_of)) (necessarily (for_all (codes "X") Individual q_of))

abbrev converse_barcan : Formula
converse_barcan = implies (necessarily (for_all (codes "X") Individual q_of)) (for_all (codes "X") Individual (necessarily q_of))

-- a conjecture about q in the system K, over individuals of a regime
abbrev q_file : List ℕ → Formula → File
q_file regime formula = file_of (logic (setting (codes "$domains") regime ∷ modalities (codes "$modal_system_K") ∷ []) ∷ conjecture formula ∷ [])

abbrev q_signature : Regime → Signature
q_signature regime = record {
  sorts = sort_entry Individual regime ∷ [];
  symbols = predicate (codes "q") (0 ∷ []) ∷ [];
  indexes = index_entry Plain [] ∷ [];
}

-- two worlds, the second reached from the first, and two elements, which exist as told; q holds of the first element at the
-- second world
abbrev q_structure : List (List ℕ) → KripkeStructure
q_structure existing = record {
  worlds = 2;
  actual = 0;
  relations = ((0 ∷ 1 ∷ []) ∷ []) ∷ [];
  sizes = 2 ∷ [];
  existing = existing ∷ [];
  symbols = Rows ((1 ∷ 0 ∷ []) ∷ []) ∷ [];
}

abbrev q_structure_printed : List (List ℕ) → ClassicalStructure
q_structure_printed existing = record {
  actual = 0;
  sizes = 2 ∷ 2 ∷ [];
  tables = Rows ((0 ∷ 1 ∷ []) ∷ []) ∷ Rows existing ∷ Rows ((1 ∷ 0 ∷ []) ∷ []) ∷ [];
}

abbrev barcan_file : File
barcan_file = q_file (codes "$cumulative") barcan

abbrev barcan_signature : Signature
barcan_signature = q_signature Cumulative

barcan_reading : signature_in barcan_file ≡ Ok barcan_signature
unfolding regime_named designation_named locality_named system_named axiom_named same_scheme setting_of takes_key out-SpecValue out-SpecItem roll-SpecValue roll-SpecItem denote.Hole.Carrier.out denote.Hole.Carrier.roll shown-the_row-SpecItem-0 denote.Hole.Carrier.shown denote.Hole.Carrier.hidden is_constant is_flexible hidden-the_row-Term-0
barcan_reading = refl

-- two worlds, the second reached from the first; one more element exists at the second, of which q does not hold
abbrev grows : List (List ℕ)
grows = (0 ∷ 0 ∷ []) ∷ (1 ∷ 0 ∷ []) ∷ (1 ∷ 1 ∷ []) ∷ []

abbrev barcan_structure : KripkeStructure
barcan_structure = q_structure grows

barcan_fails : IsKripkeCountermodel barcan_signature barcan_file barcan_structure
unfolding regime_named designation_named locality_named system_named axiom_named same_scheme setting_of takes_key out-SpecValue out-SpecItem roll-SpecValue roll-SpecItem denote.Hole.Carrier.out denote.Hole.Carrier.roll shown-the_row-SpecItem-0 denote.Hole.Carrier.shown denote.Hole.Carrier.hidden is_constant is_flexible hidden-the_row-Term-0
barcan_fails = record {
  over = record {
    actual = omega arith;
    sizes = (omega arith, tt);
    relations = (refl, tt);
    existing = (refl, tt);
    symbols = (refl, tt);
  };
  frames = refl;
  domains = refl;
  terms = refl;
  statements = refl;
}

-- the same rows under the printed names
barcan_fails_printed : IsClassicalCountermodel (classical_signature_of barcan_signature) (problem_of barcan_signature barcan_file) (q_structure_printed grows)
unfolding regime_named designation_named locality_named system_named axiom_named same_scheme setting_of takes_key out-SpecValue out-SpecItem roll-SpecValue roll-SpecItem denote.Hole.Carrier.out denote.Hole.Carrier.roll shown-the_row-SpecItem-0 denote.Hole.Carrier.shown denote.Hole.Carrier.hidden is_constant is_flexible hidden-the_row-Term-0 user_name user_variable world_variable element_variable relation_name existence_name actual_name world_name
barcan_fails_printed = record {
  over = record { actual = omega arith; sizes = (omega arith, (omega arith, tt)); tables = (refl, (refl, (refl, tt))) };
  statements = refl;
}

abbrev converse_barcan_file : File
converse_barcan_file = q_file (codes "$decreasing") converse_barcan

abbrev converse_barcan_signature : Signature
converse_barcan_signature = q_signature Decreasing

converse_barcan_reading : signature_in converse_barcan_file ≡ Ok converse_barcan_signature
unfolding regime_named designation_named locality_named system_named axiom_named same_scheme setting_of takes_key out-SpecValue out-SpecItem roll-SpecValue roll-SpecItem denote.Hole.Carrier.out denote.Hole.Carrier.roll shown-the_row-SpecItem-0 denote.Hole.Carrier.shown denote.Hole.Carrier.hidden is_constant is_flexible hidden-the_row-Term-0
converse_barcan_reading = refl

-- the element that ends
abbrev shrinks : List (List ℕ)
shrinks = (0 ∷ 0 ∷ []) ∷ (0 ∷ 1 ∷ []) ∷ (1 ∷ 0 ∷ []) ∷ []

abbrev converse_barcan_structure : KripkeStructure
converse_barcan_structure = q_structure shrinks

converse_barcan_fails : IsKripkeCountermodel converse_barcan_signature converse_barcan_file converse_barcan_structure
unfolding regime_named designation_named locality_named system_named axiom_named same_scheme setting_of takes_key out-SpecValue out-SpecItem roll-SpecValue roll-SpecItem denote.Hole.Carrier.out denote.Hole.Carrier.roll shown-the_row-SpecItem-0 denote.Hole.Carrier.shown denote.Hole.Carrier.hidden is_constant is_flexible hidden-the_row-Term-0
converse_barcan_fails = record {
  over = record {
    actual = omega arith;
    sizes = (omega arith, tt);
    relations = (refl, tt);
    existing = (refl, tt);
    symbols = (refl, tt);
  };
  frames = refl;
  domains = refl;
  terms = refl;
  statements = refl;
}

-- the same rows under the printed names
converse_barcan_fails_printed : IsClassicalCountermodel (classical_signature_of converse_barcan_signature) (problem_of converse_barcan_signature converse_barcan_file) (q_structure_printed shrinks)
unfolding regime_named designation_named locality_named system_named axiom_named same_scheme setting_of takes_key out-SpecValue out-SpecItem roll-SpecValue roll-SpecItem denote.Hole.Carrier.out denote.Hole.Carrier.roll shown-the_row-SpecItem-0 denote.Hole.Carrier.shown denote.Hole.Carrier.hidden is_constant is_flexible hidden-the_row-Term-0 user_name user_variable world_variable element_variable relation_name existence_name actual_name world_name
converse_barcan_fails_printed = record {
  over = record { actual = omega arith; sizes = (omega arith, (omega arith, tt)); tables = (refl, (refl, (refl, tt))) };
  statements = refl;
}

-- a growing domain is not decreasing, and a shrinking one not cumulative
cumulative_reversed : meets_domains converse_barcan_signature (kripke_model converse_barcan_signature barcan_structure) ≡ false
unfolding regime_named designation_named locality_named system_named axiom_named same_scheme setting_of takes_key out-SpecValue out-SpecItem roll-SpecValue roll-SpecItem denote.Hole.Carrier.out denote.Hole.Carrier.roll shown-the_row-SpecItem-0 denote.Hole.Carrier.shown denote.Hole.Carrier.hidden is_constant is_flexible hidden-the_row-Term-0
cumulative_reversed = refl

decreasing_reversed : meets_domains barcan_signature (kripke_model barcan_signature converse_barcan_structure) ≡ false
unfolding regime_named designation_named locality_named system_named axiom_named same_scheme setting_of takes_key out-SpecValue out-SpecItem roll-SpecValue roll-SpecItem denote.Hole.Carrier.out denote.Hole.Carrier.roll shown-the_row-SpecItem-0 denote.Hole.Carrier.shown denote.Hole.Carrier.hidden is_constant is_flexible hidden-the_row-Term-0
decreasing_reversed = refl

abbrev constant_signature : Signature
constant_signature = record {
  sorts = sort_entry Individual Constant ∷ [];
  symbols = predicate (codes "q") (0 ∷ []) ∷ [];
  indexes = index_entry Plain [] ∷ [];
}

abbrev constant_structure : KripkeStructure
constant_structure = record {
  worlds = 2;
  actual = 0;
  relations = ((0 ∷ 1 ∷ []) ∷ []) ∷ [];
  sizes = 2 ∷ [];
  existing = [];
  symbols = Rows ((1 ∷ 0 ∷ []) ∷ []) ∷ [];
}

-- with constant domains the Barcan formula holds there
barcan_constant_refuted : holds_in (kripke_model constant_signature constant_structure) Here barcan ≡ true
unfolding regime_named designation_named locality_named system_named axiom_named same_scheme setting_of takes_key out-SpecValue out-SpecItem roll-SpecValue roll-SpecItem denote.Hole.Carrier.out denote.Hole.Carrier.roll shown-the_row-SpecItem-0 denote.Hole.Carrier.shown denote.Hole.Carrier.hidden is_constant is_flexible hidden-the_row-Term-0
barcan_constant_refuted = refl

abbrev c_signature : Signature
c_signature = record {
  sorts = sort_entry Individual Varying ∷ [];
  symbols = constant (codes "c") 0 Rigid Local ∷ [];
  indexes = [];
}

-- c does not exist at the second world
abbrev c_structure : KripkeStructure
c_structure = record {
  worlds = 2;
  actual = 0;
  relations = [];
  sizes = 2 ∷ [];
  existing = ((0 ∷ 0 ∷ []) ∷ (1 ∷ 1 ∷ []) ∷ []) ∷ [];
  symbols = Values (([], 0) ∷ []) ∷ [];
}

local_constant_reading : signature_in (file_of (logic (setting (codes "$domains") (codes "$varying") ∷ modalities (codes "$modal_system_K") ∷ []) ∷ conjecture (for_some (codes "X") Individual (Same (var (codes "X")) (Name0 (codes "c")))) ∷ [])) ≡ Ok c_signature
unfolding regime_named designation_named locality_named system_named axiom_named same_scheme setting_of takes_key out-SpecValue out-SpecItem roll-SpecValue roll-SpecItem denote.Hole.Carrier.out denote.Hole.Carrier.roll shown-the_row-SpecItem-0 denote.Hole.Carrier.shown denote.Hole.Carrier.hidden is_constant is_flexible hidden-the_row-Term-0
local_constant_reading = refl

local_constant_domains : meets_domains c_signature (kripke_model c_signature c_structure) ≡ true
unfolding regime_named designation_named locality_named system_named axiom_named same_scheme setting_of takes_key out-SpecValue out-SpecItem roll-SpecValue roll-SpecItem denote.Hole.Carrier.out denote.Hole.Carrier.roll shown-the_row-SpecItem-0 denote.Hole.Carrier.shown denote.Hole.Carrier.hidden is_constant is_flexible hidden-the_row-Term-0
local_constant_domains = refl

local_constant_fails : meets_terms c_signature (kripke_model c_signature c_structure) ≡ false
unfolding regime_named designation_named locality_named system_named axiom_named same_scheme setting_of takes_key out-SpecValue out-SpecItem roll-SpecValue roll-SpecItem denote.Hole.Carrier.out denote.Hole.Carrier.roll shown-the_row-SpecItem-0 denote.Hole.Carrier.shown denote.Hole.Carrier.hidden is_constant is_flexible hidden-the_row-Term-0
local_constant_fails = refl

abbrev g_signature : Signature
g_signature = record {
  sorts = sort_entry Individual Varying ∷ [];
  symbols = constant (codes "c") 0 Rigid Global ∷ [];
  indexes = index_entry Plain (U ∷ []) ∷ [];
}

universal_reading : signature_in (file_of (logic (setting (codes "$domains") (codes "$varying") ∷ setting (codes "$terms") (codes "$global") ∷ modalities (codes "$modal_system_S5U") ∷ []) ∷ conjecture (possibly (for_some (codes "X") Individual (Same (var (codes "X")) (Name0 (codes "c"))))) ∷ [])) ≡ Ok g_signature
unfolding regime_named designation_named locality_named system_named axiom_named same_scheme setting_of takes_key out-SpecValue out-SpecItem roll-SpecValue roll-SpecItem denote.Hole.Carrier.out denote.Hole.Carrier.roll shown-the_row-SpecItem-0 denote.Hole.Carrier.shown denote.Hole.Carrier.hidden is_constant is_flexible hidden-the_row-Term-0
universal_reading = refl

abbrev related_structure : KripkeStructure
related_structure = record {
  worlds = 1;
  actual = 0;
  relations = ((0 ∷ 0 ∷ []) ∷ []) ∷ [];
  sizes = 2 ∷ [];
  existing = ((0 ∷ 0 ∷ []) ∷ []) ∷ [];
  symbols = Values (([], 1) ∷ []) ∷ [];
}

abbrev unrelated_structure : KripkeStructure
unrelated_structure = record {
  worlds = 1;
  actual = 0;
  relations = ([]) ∷ [];
  sizes = 2 ∷ [];
  existing = ((0 ∷ 0 ∷ []) ∷ []) ∷ [];
  symbols = Values (([], 1) ∷ []) ∷ [];
}

-- the second element exists nowhere
union_frames : meets_frames g_signature (kripke_model g_signature related_structure) ≡ true
unfolding regime_named designation_named locality_named system_named axiom_named same_scheme setting_of takes_key out-SpecValue out-SpecItem roll-SpecValue roll-SpecItem denote.Hole.Carrier.out denote.Hole.Carrier.roll shown-the_row-SpecItem-0 denote.Hole.Carrier.shown denote.Hole.Carrier.hidden is_constant is_flexible hidden-the_row-Term-0
union_frames = refl

union_fails : meets_domains g_signature (kripke_model g_signature related_structure) ≡ false
unfolding regime_named designation_named locality_named system_named axiom_named same_scheme setting_of takes_key out-SpecValue out-SpecItem roll-SpecValue roll-SpecItem denote.Hole.Carrier.out denote.Hole.Carrier.roll shown-the_row-SpecItem-0 denote.Hole.Carrier.shown denote.Hole.Carrier.hidden is_constant is_flexible hidden-the_row-Term-0
union_fails = refl

global_terms : meets_terms g_signature (kripke_model g_signature related_structure) ≡ true
unfolding regime_named designation_named locality_named system_named axiom_named same_scheme setting_of takes_key out-SpecValue out-SpecItem roll-SpecValue roll-SpecItem denote.Hole.Carrier.out denote.Hole.Carrier.roll shown-the_row-SpecItem-0 denote.Hole.Carrier.shown denote.Hole.Carrier.hidden is_constant is_flexible hidden-the_row-Term-0
global_terms = refl

universal_fails : meets_frames g_signature (kripke_model g_signature unrelated_structure) ≡ false
unfolding regime_named designation_named locality_named system_named axiom_named same_scheme setting_of takes_key out-SpecValue out-SpecItem roll-SpecValue roll-SpecItem denote.Hole.Carrier.out denote.Hole.Carrier.roll shown-the_row-SpecItem-0 denote.Hole.Carrier.shown denote.Hole.Carrier.hidden is_constant is_flexible hidden-the_row-Term-0
universal_fails = refl

abbrev shadow_signature : Signature
shadow_signature = record {
  sorts = sort_entry Individual Constant ∷ [];
  symbols = predicate (codes "p") (0 ∷ []) ∷ [];
  indexes = [];
}

-- p holds of the first element alone
abbrev shadow_structure : KripkeStructure
shadow_structure = record {
  worlds = 1;
  actual = 0;
  relations = [];
  sizes = 2 ∷ [];
  existing = [];
  symbols = Rows ((0 ∷ 0 ∷ []) ∷ []) ∷ [];
}

-- an inner binder hides an outer one of the same variable
shadowed_binder : holds_in (kripke_model shadow_signature shadow_structure) Here (for_all (codes "X") Individual (for_some (codes "X") Individual (unary (codes "p") (var (codes "X"))))) ≡ true
unfolding regime_named designation_named locality_named system_named axiom_named same_scheme setting_of takes_key out-SpecValue out-SpecItem roll-SpecValue roll-SpecItem denote.Hole.Carrier.out denote.Hole.Carrier.roll shown-the_row-SpecItem-0 denote.Hole.Carrier.shown denote.Hole.Carrier.hidden is_constant is_flexible hidden-the_row-Term-0
shadowed_binder = refl

not_shadowed : holds_in (kripke_model shadow_signature shadow_structure) Here (for_all (codes "X") Individual (for_some (codes "Y") Individual (unary (codes "p") (var (codes "X"))))) ≡ false
unfolding regime_named designation_named locality_named system_named axiom_named same_scheme setting_of takes_key out-SpecValue out-SpecItem roll-SpecValue roll-SpecItem denote.Hole.Carrier.out denote.Hole.Carrier.roll shown-the_row-SpecItem-0 denote.Hole.Carrier.shown denote.Hole.Carrier.hidden is_constant is_flexible hidden-the_row-Term-0
not_shadowed = refl

abbrev flexible_signature : Signature
flexible_signature = record {
  sorts = sort_entry Individual Constant ∷ [];
  symbols = constant (codes "c") 0 Flexible Local ∷ [];
  indexes = index_entry Plain [] ∷ [];
}

-- c changes on the way to the second world
abbrev flexible_structure : KripkeStructure
flexible_structure = record {
  worlds = 2;
  actual = 0;
  relations = ((0 ∷ 1 ∷ []) ∷ []) ∷ [];
  sizes = 2 ∷ [];
  existing = [];
  symbols = Values ((0 ∷ [], 0) ∷ (1 ∷ [], 1) ∷ []) ∷ [];
}

abbrev always_c : Formula
always_c = for_some (codes "X") Individual (And2 (Same (var (codes "X")) (Name0 (codes "c"))) (necessarily (Same (var (codes "X")) (Name0 (codes "c")))))

flexible_reading : signature_in (file_of (logic (setting (codes "$designation") (codes "$flexible") ∷ modalities (codes "$modal_system_K") ∷ []) ∷ conjecture always_c ∷ [])) ≡ Ok flexible_signature
unfolding regime_named designation_named locality_named system_named axiom_named same_scheme setting_of takes_key out-SpecValue out-SpecItem roll-SpecValue roll-SpecItem denote.Hole.Carrier.out denote.Hole.Carrier.roll shown-the_row-SpecItem-0 denote.Hole.Carrier.shown denote.Hole.Carrier.hidden is_constant is_flexible hidden-the_row-Term-0
flexible_reading = refl

flexible_constant_fails : IsKripkeCountermodel flexible_signature (file_of (logic (setting (codes "$designation") (codes "$flexible") ∷ modalities (codes "$modal_system_K") ∷ []) ∷ conjecture always_c ∷ [])) flexible_structure
unfolding regime_named designation_named locality_named system_named axiom_named same_scheme setting_of takes_key out-SpecValue out-SpecItem roll-SpecValue roll-SpecItem denote.Hole.Carrier.out denote.Hole.Carrier.roll shown-the_row-SpecItem-0 denote.Hole.Carrier.shown denote.Hole.Carrier.hidden is_constant is_flexible hidden-the_row-Term-0
flexible_constant_fails = record {
  over = record {
    actual = omega arith;
    sizes = (omega arith, tt);
    relations = (refl, tt);
    existing = tt;
    symbols = (record { total = refl; below = (omega arith, (omega arith, tt)) }, tt);
  };
  frames = refl;
  domains = refl;
  terms = refl;
  statements = refl;
}

abbrev gone_signature : Signature
gone_signature = record {
  sorts = sort_entry Individual Varying ∷ [];
  symbols = predicate (codes "q") (0 ∷ []) ∷ [];
  indexes = index_entry Plain [] ∷ [];
}

-- the only element of the first world is gone at the second, where q holds of it
abbrev gone_structure : KripkeStructure
gone_structure = record {
  worlds = 2;
  actual = 0;
  relations = ((0 ∷ 1 ∷ []) ∷ []) ∷ [];
  sizes = 2 ∷ [];
  existing = ((0 ∷ 0 ∷ []) ∷ (1 ∷ 1 ∷ []) ∷ []) ∷ [];
  symbols = Rows ((1 ∷ 0 ∷ []) ∷ []) ∷ [];
}

-- a variable's value need not exist at the world that is reached, but a quantifier there does not range over it
value_need_not_exist : holds_in (kripke_model gone_signature gone_structure) Here (for_some (codes "X") Individual (necessarily q_of)) ≡ true
unfolding regime_named designation_named locality_named system_named axiom_named same_scheme setting_of takes_key out-SpecValue out-SpecItem roll-SpecValue roll-SpecItem denote.Hole.Carrier.out denote.Hole.Carrier.roll shown-the_row-SpecItem-0 denote.Hole.Carrier.shown denote.Hole.Carrier.hidden is_constant is_flexible hidden-the_row-Term-0
value_need_not_exist = refl

quantifier_ranges_here : holds_in (kripke_model gone_signature gone_structure) Here (necessarily (for_some (codes "X") Individual q_of)) ≡ false
unfolding regime_named designation_named locality_named system_named axiom_named same_scheme setting_of takes_key out-SpecValue out-SpecItem roll-SpecValue roll-SpecItem denote.Hole.Carrier.out denote.Hole.Carrier.roll shown-the_row-SpecItem-0 denote.Hole.Carrier.shown denote.Hole.Carrier.hidden is_constant is_flexible hidden-the_row-Term-0
quantifier_ranges_here = refl

-- p holds at the actual world alone
abbrev p_at_actual : KripkeStructure
p_at_actual = record {
  worlds = 2;
  actual = 0;
  relations = [] ∷ [];
  sizes = [];
  existing = [];
  symbols = Rows ((0 ∷ []) ∷ []) ∷ [];
}

-- premises hold at the actual world or everywhere, by their role and suffix
hypothesis_is_local : meets_statement (kripke_model k_signature p_at_actual) (statement_of (codes "h") (codes "hypothesis") (nullary (codes "p"))) ≡ true
unfolding regime_named designation_named locality_named system_named axiom_named same_scheme setting_of takes_key out-SpecValue out-SpecItem roll-SpecValue roll-SpecItem denote.Hole.Carrier.out denote.Hole.Carrier.roll shown-the_row-SpecItem-0 denote.Hole.Carrier.shown denote.Hole.Carrier.hidden is_constant is_flexible hidden-the_row-Term-0
hypothesis_is_local = refl

axiom_is_global : meets_statement (kripke_model k_signature p_at_actual) (statement_of (codes "a") (codes "axiom") (nullary (codes "p"))) ≡ false
unfolding regime_named designation_named locality_named system_named axiom_named same_scheme setting_of takes_key out-SpecValue out-SpecItem roll-SpecValue roll-SpecItem denote.Hole.Carrier.out denote.Hole.Carrier.roll shown-the_row-SpecItem-0 denote.Hole.Carrier.shown denote.Hole.Carrier.hidden is_constant is_flexible hidden-the_row-Term-0
axiom_is_global = refl

axiom_made_local : meets_statement (kripke_model k_signature p_at_actual) (suffixed (codes "a") (codes "axiom") (codes "local") (nullary (codes "p"))) ≡ true
unfolding regime_named designation_named locality_named system_named axiom_named same_scheme setting_of takes_key out-SpecValue out-SpecItem roll-SpecValue roll-SpecItem denote.Hole.Carrier.out denote.Hole.Carrier.roll shown-the_row-SpecItem-0 denote.Hole.Carrier.shown denote.Hole.Carrier.hidden is_constant is_flexible hidden-the_row-Term-0
axiom_made_local = refl

hypothesis_made_global : meets_statement (kripke_model k_signature p_at_actual) (suffixed (codes "h") (codes "hypothesis") (codes "global") (nullary (codes "p"))) ≡ false
unfolding regime_named designation_named locality_named system_named axiom_named same_scheme setting_of takes_key out-SpecValue out-SpecItem roll-SpecValue roll-SpecItem denote.Hole.Carrier.out denote.Hole.Carrier.roll shown-the_row-SpecItem-0 denote.Hole.Carrier.shown denote.Hole.Carrier.hidden is_constant is_flexible hidden-the_row-Term-0
hypothesis_made_global = refl

-- a local conjecture has to fail at the actual world, a global one anywhere
conjecture_is_local : meets_statement (kripke_model k_signature p_at_actual) (conjecture (nullary (codes "p"))) ≡ false
unfolding regime_named designation_named locality_named system_named axiom_named same_scheme setting_of takes_key out-SpecValue out-SpecItem roll-SpecValue roll-SpecItem denote.Hole.Carrier.out denote.Hole.Carrier.roll shown-the_row-SpecItem-0 denote.Hole.Carrier.shown denote.Hole.Carrier.hidden is_constant is_flexible hidden-the_row-Term-0
conjecture_is_local = refl

conjecture_made_global : meets_statement (kripke_model k_signature p_at_actual) (suffixed (codes "c") (codes "conjecture") (codes "global") (nullary (codes "p"))) ≡ true
unfolding regime_named designation_named locality_named system_named axiom_named same_scheme setting_of takes_key out-SpecValue out-SpecItem roll-SpecValue roll-SpecItem denote.Hole.Carrier.out denote.Hole.Carrier.roll shown-the_row-SpecItem-0 denote.Hole.Carrier.shown denote.Hole.Carrier.hidden is_constant is_flexible hidden-the_row-Term-0
conjecture_made_global = refl

scopes_printed : printed (file_of (system_k ∷ statement_of (codes "h") (codes "hypothesis") (nullary (codes "p")) ∷ statement_of (codes "a") (codes "axiom") (nullary (codes "p"))
    ∷ suffixed (codes "b") (codes "axiom") (codes "local") (nullary (codes "p")) ∷ suffixed (codes "c") (codes "conjecture") (codes "global") (nullary (codes "p")) ∷ [])) ≡ Ok (
    sort (codes "mk_world") ∷ symbol (codes "mk_actual") [] (Some world_sort) ∷ symbol (codes "p") (world_sort ∷ []) None
    ∷ axiom_statement (codes "h") (unary (codes "p") here)
    ∷ axiom_statement (codes "a") (for_world (unary (codes "p") w))
    ∷ axiom_statement (codes "b") (unary (codes "p") here)
    ∷ conjecture (for_world (unary (codes "p") w)) ∷ [])
unfolding regime_named designation_named locality_named system_named axiom_named same_scheme setting_of takes_key out-SpecValue out-SpecItem roll-SpecValue roll-SpecItem denote.Hole.Carrier.out denote.Hole.Carrier.roll shown-the_row-SpecItem-0 denote.Hole.Carrier.shown denote.Hole.Carrier.hidden is_constant is_flexible hidden-the_row-Term-0 user_name user_variable world_variable element_variable relation_name existence_name actual_name world_name
scopes_printed = refl

abbrev some_next : Formula → Formula
some_next = for_some (codes "W_1") world_sort

-- the axiom of each scheme
frame_axioms_of_schemes : map (frame_axiom Plain) scheme_order ≡
    for_world (acc w w)
    ∷ for_world (some_next (acc w v))
    ∷ for_world (for_next (implies (acc w v) (acc v w)))
    ∷ for_world (for_next (for_third (implies (And2 (acc w v) (acc v u)) (acc w u))))
    ∷ for_world (for_next (for_third (implies (And2 (acc w v) (acc w u)) (acc v u))))
    ∷ for_world (for_next (for_third (implies (And2 (acc w v) (acc w u)) (Same v u))))
    ∷ for_world (for_next (implies (acc w v) (acc v v)))
    ∷ for_world (for_next (implies (acc w v) (for_some (codes "W_2") world_sort (And2 (acc w u) (acc u v)))))
    ∷ for_world (for_next (for_third (implies (And2 (acc w v) (acc w u)) (for_some (codes "W_3") world_sort (And2 (acc v (var (codes "W_3"))) (acc u (var (codes "W_3"))))))))
    ∷ for_world (for_next (acc w v))
    ∷ []
unfolding regime_named designation_named locality_named system_named axiom_named same_scheme setting_of takes_key out-SpecValue out-SpecItem roll-SpecValue roll-SpecItem denote.Hole.Carrier.out denote.Hole.Carrier.roll shown-the_row-SpecItem-0 denote.Hole.Carrier.shown denote.Hole.Carrier.hidden is_constant is_flexible hidden-the_row-Term-0 user_name user_variable world_variable element_variable relation_name existence_name actual_name world_name
frame_axioms_of_schemes = refl

-- functions that are local, into a constant sort, or global
abbrev local_signature : Signature
local_signature = record {
  sorts = sort_entry Individual Varying ∷ sort_entry (User (codes "s")) Constant ∷ [];
  symbols = record { name = codes "f"; args = 0 ∷ 1 ∷ []; gives = Some 0; designation = Flexible; locality = Local }
      ∷ record { name = codes "g"; args = 0 ∷ 0 ∷ []; gives = Some 0; designation = Rigid; locality = Local }
      ∷ record { name = codes "h"; args = 0 ∷ []; gives = Some 1; designation = Rigid; locality = Local }
      ∷ record { name = codes "k"; args = 0 ∷ []; gives = Some 0; designation = Rigid; locality = Global } ∷ [];
  indexes = [];
}

-- one guard stands alone, several are joined, and a constant sort needs none
local_axioms : term_axioms local_signature ≡
    for_world (for_all (codes "X_0") Individual (for_all (codes "X_1") (User (codes "s")) (implies (in_at w x) (in_at w (App (codes "f") (w ∷ x ∷ var (codes "X_1") ∷ []))))))
    ∷ for_world (for_all (codes "X_0") Individual (for_all (codes "X_1") Individual (implies (And (in_at w x ∷ in_at w (var (codes "X_1")) ∷ [])) (in_at w (App (codes "g") (x ∷ var (codes "X_1") ∷ []))))))
    ∷ []
unfolding regime_named designation_named locality_named system_named axiom_named same_scheme setting_of takes_key out-SpecValue out-SpecItem roll-SpecValue roll-SpecItem denote.Hole.Carrier.out denote.Hole.Carrier.roll shown-the_row-SpecItem-0 denote.Hole.Carrier.shown denote.Hole.Carrier.hidden is_constant is_flexible hidden-the_row-Term-0 user_name user_variable world_variable element_variable relation_name existence_name actual_name world_name
local_axioms = refl

-- rows are in range, in row-major order, each at most once; a function has a value in range for each row
all_rows_in_order : all_rows (2 ∷ 3 ∷ []) ≡ (0 ∷ 0 ∷ []) ∷ (0 ∷ 1 ∷ []) ∷ (0 ∷ 2 ∷ []) ∷ (1 ∷ 0 ∷ []) ∷ (1 ∷ 1 ∷ []) ∷ (1 ∷ 2 ∷ []) ∷ []
all_rows_in_order = refl

no_arguments : all_rows [] ≡ [] ∷ []
no_arguments = refl

good_rows : AreRows (2 ∷ 2 ∷ []) ((0 ∷ 1 ∷ []) ∷ (1 ∷ 0 ∷ []) ∷ [])
good_rows = refl

repeated_row : AreRows (2 ∷ []) ((0 ∷ []) ∷ (0 ∷ []) ∷ []) → ⊥
repeated_row h = cc

rows_out_of_order : AreRows (2 ∷ []) ((1 ∷ []) ∷ (0 ∷ []) ∷ []) → ⊥
rows_out_of_order h = cc

row_out_of_range : AreRows (2 ∷ []) ((2 ∷ []) ∷ []) → ⊥
row_out_of_range h = cc

missing_value : AreValues (2 ∷ []) 2 ((0 ∷ [], 1) ∷ []) → ⊥
missing_value h = let e : (0 ∷ []) ∷ [] ≡ (0 ∷ []) ∷ (1 ∷ []) ∷ [] = h.total in cc

value_out_of_range : AreValues (1 ∷ []) 2 ((0 ∷ [], 2) ∷ []) → ⊥
value_out_of_range h = omega (arith, h.below.0)

empty_sort : AreSizes (Individual ∷ []) (0 ∷ []) → ⊥
empty_sort h = omega (arith, h.0)

missing_size : AreSizes (Individual ∷ []) [] → ⊥
missing_size h = h

missing_table : AreTables (relation_shapes 1 (index_entry Plain [] ∷ [])) [] → ⊥
missing_table h = h

function_without_values : IsTable (record { sizes = []; values = Some 1 }) (Rows []) → ⊥
function_without_values h = h

no_world : IsOver k_signature (record { worlds = 0; actual = 0; relations = [] ∷ []; sizes = []; existing = []; symbols = Rows [] ∷ [] }) → ⊥
no_world h = omega (arith, h.actual)

no_actual_world : IsOver k_signature (record { worlds = 1; actual = 1; relations = [] ∷ []; sizes = []; existing = []; symbols = Rows [] ∷ [] }) → ⊥
no_actual_world h = omega (arith, h.actual)

-- the truth tables, for both sides true, the left alone, the right alone, and neither
abbrev table : Op → List Bool
table op = connect op true true ∷ connect op true false ∷ connect op false true ∷ connect op false false ∷ []

implication : table Implies ≡ true ∷ false ∷ true ∷ true ∷ []
implication = refl

converse_implication : table ImpliedBy ≡ true ∷ true ∷ false ∷ true ∷ []
converse_implication = refl

equivalence : table Iff ≡ true ∷ false ∷ false ∷ true ∷ []
equivalence = refl

exclusive_or : table Xor ≡ false ∷ true ∷ true ∷ false ∷ []
exclusive_or = refl

neither_nor : table Nor ≡ false ∷ false ∷ false ∷ true ∷ []
neither_nor = refl

not_both : table Nand ≡ false ∷ true ∷ true ∷ true ∷ []
not_both = refl

thousand : numeral 1000 ≡ codes "1000"
thousand = refl
