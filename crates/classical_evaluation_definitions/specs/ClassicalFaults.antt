-- The first formula of a classical file that keeps a structure from being a countermodel, by `Countermodels` of `nxf_tree`.
use Rattle.std.specs.Prelude.{◌≡◌, ℕ, Bool, true, false, not, if◌then◌else◌, List, [], ◌∷◌, take, slice_get, codes, Option, None, Some}
use Rattle.std.specs.Option.{option_map}
use Rattle.std.specs.List.{list_all}
use Rattle.nxf_tree.specs.declared.tree.ClassicalSignature.{ClassicalSignature}
use Rattle.nxf_tree.specs.declared.tree.Formula.{Formula}
use Rattle.nxf_tree.specs.declared.tree.Body.TheVariants.{Formula as IsFormula, Typing as IsTyping, Logic as IsLogic}
use Rattle.nxf_tree.specs.declared.tree.Statement.{Statement}
use Rattle.nxf_tree.specs.declared.tree.Statement.TheVariants.{Annotated, Include}
use Rattle.nxf_tree.specs.Names.{same_text}
use Rattle.nxf_tree.specs.Classical.{ClassicalModel}
use Rattle.nxf_tree.specs.Structures.{classical_model}
use Rattle.nxf_tree.specs.Countermodels.{meets_formula}
use Rattle.fin_struct.specs.StructureTables.{StructureTables, classical_structure}
use Rattle.numbered_definitions.specs.declared.node.Node.{Node}
use Rattle.classical_evaluation_definitions.specs.ClassicalMeaning.{node_sat}

-- the model that a structure in tables is
abbrev pub model_of : ClassicalSignature → StructureTables → ClassicalModel
model_of csig view = classical_model csig (classical_structure view)

-- a formula with the word of its role
pub record RoleFormula : Type 0 where
  pub word : List ℕ
  pub formula : Formula

-- the formulas of a file in their order
abbrev pub role_formulas : List Statement → List RoleFormula
role_formulas [] = []
role_formulas (Annotated name role (IsFormula f) ∷ ss) = record { word = role.word; formula = f } ∷ role_formulas ss
role_formulas (Annotated name role (IsTyping t) ∷ ss) = role_formulas ss
role_formulas (Annotated name role (IsLogic l) ∷ ss) = role_formulas ss
role_formulas (Include file names ∷ ss) = role_formulas ss

-- an axiom is true, and the conjecture is false; other roles ask nothing
abbrev pub meets_role : ClassicalModel → RoleFormula → Bool
meets_role S entry = meets_formula S entry.word entry.formula

-- the same of a numbered formula
abbrev pub node_meets : StructureTables → List ℕ → Node → Bool
node_meets view word n =
    if same_text (codes "axiom") word then node_sat view [] n
    else (if same_text (codes "conjecture") word then not (node_sat view [] n) else true)

-- the member of a list at a place, counted from 0, is the first that fails
pub record FailsFirstAt {X : Type 0} (holds : X → Bool) (xs : List X) (k : ℕ) : Type 0 where
  pub hold : list_all holds (take k xs) ≡ true
  pub fails : option_map holds (slice_get xs k) ≡ Some false

-- None where each holds, else the place of the first that fails
abbrev pub IsFirstPlace : {X : Type 0} → (X → Bool) → List X → Option ℕ → Type 0
IsFirstPlace holds xs None = list_all holds xs ≡ true
IsFirstPlace holds xs (Some k) = FailsFirstAt holds xs k
