-- The value and the truth of what a cell of a checked file stands for, at world w, where the enclosing quantifiers have the values e.
use Rattle.std.specs.Prelude.{ℕ, ◌<◌, Bool, ◌&&◌, nat_eq, List, [], ◌∷◌, ◌++◌, map}
use Rattle.std.specs.List.{list_any}
use Rattle.nxf_tree.specs.Counting.{any_below, same_truth}
use Rattle.nxf_tree.specs.Rows.{size_at}
use Rattle.fin_struct.specs.KripkeTables.{KripkeTables, related_in, exists_in}
use Rattle.numbered_definitions.specs.declared.node.Node as node
use Rattle.formula_cells.specs.Checked.{CheckedFile}
use Rattle.formula_cells.specs.Stored.{node_at, term_at}
use Rattle.kripke_evaluation_definitions.specs.Fitting.{Fits, TermFits}
use Rattle.kripke_evaluation_definitions.specs.NumberedMeaning.{node_value, node_sat}

-- the value of a cell's term, and of several; whether two have the same
abbrev pub cell_value : KripkeTables → CheckedFile → ℕ → List ℕ → ℕ → ℕ
cell_value view checked w e at = node_value view w e (term_at checked.stored at)

abbrev pub values_at : KripkeTables → CheckedFile → ℕ → List ℕ → List ℕ → List ℕ
values_at view checked w e terms = map (λ n. cell_value view checked w e n) terms

abbrev pub have_same_value : KripkeTables → CheckedFile → ℕ → List ℕ → ℕ → ℕ → Bool
have_same_value view checked w e left right = nat_eq (cell_value view checked w e left) (cell_value view checked w e right)

-- whether a cell's formula holds, and a predicate of the terms of some cells
abbrev pub sat_at : KripkeTables → CheckedFile → ℕ → List ℕ → ℕ → Bool
sat_at view checked w e at = node_sat view w e (node_at checked.stored at)

abbrev pub atom_holds : KripkeTables → CheckedFile → ℕ → List ℕ → ℕ → List ℕ → Bool
atom_holds view checked w e symbol terms = node_sat view w e (node.Atom symbol (map (term_at checked.stored) terms))

-- what evaluating it reads is there
abbrev pub CellTermFits : KripkeTables → CheckedFile → ℕ → List ℕ → ℕ → Type 0
CellTermFits view checked w e at = TermFits view w e (term_at checked.stored at)

abbrev pub CellFits : KripkeTables → CheckedFile → ℕ → List ℕ → ℕ → Type 0
CellFits view checked w e at = Fits view w e (node_at checked.stored at)

abbrev pub AtomFits : KripkeTables → CheckedFile → ℕ → List ℕ → ℕ → List ℕ → Type 0
AtomFits view checked w e symbol terms = Fits view w e (node.Atom symbol (map (term_at checked.stored) terms))

-- the same for each element of a sort, and for each world
abbrev pub FitsEachElement : KripkeTables → CheckedFile → ℕ → List ℕ → ℕ → ℕ → Type 0
FitsEachElement view checked w e sort at = (a : ℕ) → a < size_at view.sizes sort → CellFits view checked w (e ++ a ∷ []) at

abbrev pub FitsEachWorld : KripkeTables → CheckedFile → List ℕ → ℕ → Type 0
FitsEachWorld view checked e at = (v : ℕ) → v < view.worlds → CellFits view checked v e at

-- whether some of the formulas has this truth
abbrev pub some_has : KripkeTables → CheckedFile → ℕ → List ℕ → List ℕ → Bool → Bool
some_has view checked w e parts truth = list_any (λ n. same_truth truth (sat_at view checked w e n)) parts

-- whether the formula has this truth for some element that exists, or at some world that is reached
abbrev pub any_element : KripkeTables → CheckedFile → ℕ → List ℕ → ℕ → ℕ → Bool → Bool
any_element view checked w e sort at truth =
    any_below (size_at view.sizes sort) (λ a. exists_in view sort w a && same_truth truth (sat_at view checked w (e ++ a ∷ []) at))

abbrev pub any_world : KripkeTables → CheckedFile → ℕ → List ℕ → ℕ → ℕ → Bool → Bool
any_world view checked w e index at truth = any_below view.worlds (λ v. related_in view index w v && same_truth truth (sat_at view checked v e at))
