-- The condition of a local function by numbers, row by row of the elements that exist at a world.
use Rattle.std.specs.Prelude.{◌≡◌, ℕ, ◌<◌, ◌≤◌, Bool, if◌then◌else◌, List, [], ◌∷◌, ◌++◌, map, length, slice_index, Some}
use Rattle.nxf_tree.specs.declared.tree.Signature.{Signature}
use Rattle.nxf_tree.specs.declared.tree.SymbolEntry.{SymbolEntry}
use Rattle.nxf_tree.specs.Conditions.{meets_result, argument_sorts, varying_result}
use Rattle.nxf_tree.specs.Structures.{kripke_model}
use Rattle.nxf_tree.specs.Counting.{all_below, implies}
use Rattle.nxf_tree.specs.Rows.{size_at}
use Rattle.fin_struct.specs.KripkeTables.{KripkeTables, exists_in, takes_world_in, symbol_table, value_in, kripke_structure}

-- whether each row of elements of these sorts that exist at world w passes
abbrev pub rows_pass : KripkeTables → ℕ → List ℕ → (List ℕ → Bool) → Bool
rows_pass view w [] p = p []
rows_pass view w (s ∷ ss) p = all_below (size_at view.sizes s) (λ a. implies (exists_in view s w a) (rows_pass view w ss (λ row. p (a ∷ row))))

-- the value of symbol f for the row, an element of sort r, exists at world w
abbrev pub value_exists_at : KripkeTables → ℕ → ℕ → ℕ → List ℕ → Bool
value_exists_at view f r w row = exists_in view r w (value_in view f w row)

-- where all arguments behind these first ones exist, the value exists
abbrev pub rows_pass_behind : KripkeTables → ℕ → ℕ → ℕ → List ℕ → List ℕ → Bool
rows_pass_behind view f r w sorts first = rows_pass view w sorts (λ rest. value_exists_at view f r w (first ++ rest))

-- at each world, where all arguments exist, the value exists
abbrev pub values_exist_in : KripkeTables → ℕ → List ℕ → ℕ → Bool
values_exist_in view f sorts r = all_below view.worlds (λ w. rows_pass view w sorts (λ row. value_exists_at view f r w row))

-- symbol f is a function from elements of these sorts to elements of sort r
pub record HasFunction (view : KripkeTables) (f : ℕ) (sorts : List ℕ) (r : ℕ) : Type 0 where
  pub symbol : f < length view.world_first
  pub rows : (symbol_table view f).sizes ≡ (if takes_world_in view f then view.worlds ∷ map (size_at view.sizes) sorts else map (size_at view.sizes) sorts)
  pub values : (symbol_table view f).values ≡ Some (size_at view.sizes r)
  pub sorts_in : (k : ℕ) → k < length sorts → slice_index sorts k < length view.existence
  pub gives_in : r < length view.existence
  pub few : length sorts ≤ 1000

-- the values of the symbol exist where its arguments do, if they are of a sort that isn't constant
abbrev pub meets_result_in : Signature → KripkeTables → SymbolEntry → Bool
meets_result_in sig view entry =
    meets_result (kripke_model sig (kripke_structure view)) entry.name (argument_sorts sig entry) (varying_result sig entry.gives)
