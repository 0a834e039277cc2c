-- The words of a logic statement: regimes, designations and localities, and the systems and schemes of modal logic by their usual names.
use denote.Enum.Bare.{sameb}
use Rattle.std.specs.Prelude.{ℕ, Bool, false, ◌||◌, if◌then◌else◌, List, [], ◌∷◌, ◌++◌, filter, codes, Option, None, Some, is_some}
use Rattle.std.specs.Option.{option_or, unwrap_or}
use Rattle.std.specs.List.{list_any, list_all}
use Rattle.nxf_tree.specs.contracts.tree.Scheme.{the_type}
use Rattle.nxf_tree.specs.declared.tree.Regime.{Regime}
use Rattle.nxf_tree.specs.declared.tree.Regime.TheVariants.{Constant, Cumulative, Decreasing, Varying}
use Rattle.nxf_tree.specs.declared.tree.Designation.{Designation}
use Rattle.nxf_tree.specs.declared.tree.Designation.TheVariants.{Rigid, Flexible}
use Rattle.nxf_tree.specs.declared.tree.Locality.{Locality}
use Rattle.nxf_tree.specs.declared.tree.Locality.TheVariants.{Local, Global}
use Rattle.nxf_tree.specs.declared.tree.Scheme.{Scheme}
use Rattle.nxf_tree.specs.declared.tree.Scheme.TheVariants.{T, D, B, Four, Five, CD, BoxM, C4, C, U}
use Rattle.nxf_tree.specs.declared.tree.Setting.{Setting}
use Rattle.nxf_tree.specs.declared.tree.Setting.TheVariants.{Domains, Designation as Designations, Terms, Modalities}
use Rattle.nxf_tree.specs.Names.{same_text}
use Rattle.nxf_tree.specs.Counting.{has}

-- what stands under a name in a table whose names all begin with the mark
abbrev pub word_named : {A : Type 0} → List ℕ → List (List ℕ × A) → List ℕ → Option A
word_named mark [] word = None
word_named mark (entry ∷ entries) word = if same_text (mark ++ entry.0) word then Some entry.1 else word_named mark entries word

-- the words for regimes, designations and localities, without the `$` before them
abbrev pub regimes : List (List ℕ × Regime)
regimes = (codes "constant", Constant) ∷ (codes "cumulative", Cumulative) ∷ (codes "decreasing", Decreasing) ∷ (codes "varying", Varying) ∷ []

abbrev pub designations : List (List ℕ × Designation)
designations = (codes "rigid", Rigid) ∷ (codes "flexible", Flexible) ∷ []

abbrev pub localities : List (List ℕ × Locality)
localities = (codes "local", Local) ∷ (codes "global", Global) ∷ []

-- the systems of modal logic, each with its schemes; M is another name of T, and S5U is S5 with a universal relation
abbrev pub modal_systems : List (List ℕ × List Scheme)
modal_systems =
    (codes "K", [])
    ∷ (codes "KB", B ∷ [])
    ∷ (codes "K4", Four ∷ [])
    ∷ (codes "K5", Five ∷ [])
    ∷ (codes "K45", Four ∷ Five ∷ [])
    ∷ (codes "KB5", B ∷ Five ∷ [])
    ∷ (codes "D", D ∷ [])
    ∷ (codes "DB", D ∷ B ∷ [])
    ∷ (codes "D4", D ∷ Four ∷ [])
    ∷ (codes "D5", D ∷ Five ∷ [])
    ∷ (codes "D45", D ∷ Four ∷ Five ∷ [])
    ∷ (codes "T", T ∷ [])
    ∷ (codes "M", T ∷ [])
    ∷ (codes "B", T ∷ B ∷ [])
    ∷ (codes "S4", T ∷ Four ∷ [])
    ∷ (codes "S5", T ∷ Five ∷ [])
    ∷ (codes "S5U", U ∷ [])
    ∷ []

-- the schemes of axioms by name; K adds nothing, and M is another name of T
abbrev pub modal_axioms : List (List ℕ × List Scheme)
modal_axioms =
    (codes "K", [])
    ∷ (codes "T", T ∷ [])
    ∷ (codes "M", T ∷ [])
    ∷ (codes "B", B ∷ [])
    ∷ (codes "D", D ∷ [])
    ∷ (codes "4", Four ∷ [])
    ∷ (codes "5", Five ∷ [])
    ∷ (codes "CD", CD ∷ [])
    ∷ (codes "BoxM", BoxM ∷ [])
    ∷ (codes "C4", C4 ∷ [])
    ∷ (codes "C", C ∷ [])
    ∷ []

-- what a word means, if it is one of its kind
unfoldable pub regime_named : List ℕ → Option Regime
regime_named = word_named (codes "$") regimes

unfoldable pub designation_named : List ℕ → Option Designation
designation_named = word_named (codes "$") designations

unfoldable pub locality_named : List ℕ → Option Locality
locality_named = word_named (codes "$") localities

unfoldable pub system_named : List ℕ → Option (List Scheme)
system_named = word_named (codes "$modal_system_") modal_systems

unfoldable pub axiom_named : List ℕ → Option (List Scheme)
axiom_named = word_named (codes "$modal_axiom_") modal_axioms

-- the words that are a choice by themselves
abbrev pub stands_alone : Setting → List ℕ → Bool
stands_alone Domains word = is_some (regime_named word)
stands_alone Designations word = is_some (designation_named word)
stands_alone Terms word = is_some (locality_named word)
stands_alone Modalities word = is_some (system_named word)

-- the words that are a choice together with others of their kind
abbrev pub joins : Setting → List ℕ → Bool
joins Domains word = false
joins Designations word = false
joins Terms word = false
joins Modalities word = is_some (axiom_named word)

-- whether there is one word, which stands alone
abbrev pub one_alone : Setting → List (List ℕ) → Bool
one_alone setting [] = false
one_alone setting (word ∷ []) = stands_alone setting word
one_alone setting (word ∷ next ∷ words) = false

-- whether there are one or more words, which all join
abbrev pub some_join : Setting → List (List ℕ) → Bool
some_join setting [] = false
some_join setting (word ∷ words) = list_all (joins setting) (word ∷ words)

-- a choice: one word that stands alone, or one or more that join
abbrev pub is_choice : Setting → List (List ℕ) → Bool
is_choice setting words = one_alone setting words || some_join setting words

-- the schemes in their order
abbrev pub scheme_order : List Scheme
scheme_order = T ∷ D ∷ B ∷ Four ∷ Five ∷ CD ∷ BoxM ∷ C4 ∷ C ∷ U ∷ []

-- whether the schemes are the same; `==` on schemes
unfoldable pub same_scheme : Scheme → Scheme → Bool
same_scheme = sameb the_type

-- the schemes that a word asks
abbrev pub schemes_of_word : List ℕ → List Scheme
schemes_of_word word = unwrap_or (option_or (system_named word) (axiom_named word)) []

-- the schemes that the words ask, in scheme order, each once
abbrev pub schemes_of : List (List ℕ) → List Scheme
schemes_of words = filter (λ scheme. list_any (λ word. has same_scheme scheme (schemes_of_word word)) words) scheme_order
