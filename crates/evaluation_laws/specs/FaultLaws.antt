-- What is proved of the first fault of a whole file.
use Rattle.std.specs.Prelude.{◌≡◌, ◌↔◌, ℕ, Bool, ◌&&◌, List, slice_get, Option, None, Some}
use Rattle.std.specs.Option.{option_or}
use Rattle.std.specs.List.{list_all, All}
use Rattle.nxf_tree.specs.declared.tree.Signature.{Signature}
use Rattle.nxf_tree.specs.declared.tree.File.{File}
use Rattle.nxf_tree.specs.declared.tree.PartEntry.{PartEntry}
use Rattle.nxf_tree.specs.Kripke.{KripkeModel}
use Rattle.nxf_tree.specs.Parts.{part_entries}
use Rattle.nxf_tree.specs.Conditions.{meets_frames, meets_domains, meets_terms}
use Rattle.nxf_tree.specs.Countermodels.{meets_statement, IsKripkeCountermodel}
use Rattle.nxf_tree.specs.WellFormed.{HasDifferentNames, IsWellFormed}
use Rattle.fin_struct.specs.declared.condition.Condition.{Condition}
use Rattle.fin_struct.specs.FirstFault.{IsFirstFailing, meets_condition, frame_conditions, domain_conditions, term_conditions}
use Rattle.fin_struct.specs.KripkeTables.{KripkeTables, IsKripke, IsKripkeFor, kripke_structure}
use Rattle.numbered_definitions.specs.declared.node.Numbered.{Numbered}
use Rattle.numbered_definitions.specs.NamedForm.{all_named, formulas_of, IsSortedFormula}
use Rattle.kripke_evaluation_definitions.specs.FileConditions.{meets, meets_by_file, premise_conditions, conjecture_conditions, part_conditions, all_conditions, premises_of, conjectures_of, condition_of, node_meets}

-- the conditions hold one by one exactly where they hold by the definition of a countermodel
abbrev pub WholeConditions : Type 0
WholeConditions =
    (sig : Signature) (file : File) (K : KripkeModel) → HasDifferentNames sig
    → list_all (meets sig file K) (all_conditions sig file) ≡ meets_frames sig K && (meets_domains sig K && (meets_terms sig K && list_all (meets_statement K) file.statements))

-- none fails exactly where the structure is a countermodel of the file
abbrev pub CountermodelLaw : Type 0
CountermodelLaw =
    (sig : Signature) (file : File) (view : KripkeTables) (found : Option Condition) → HasDifferentNames sig → IsKripke view → IsKripkeFor sig view
    → IsFirstFailing (meets_by_file sig file view) (all_conditions sig file) found
    → (found ≡ None) ↔ IsKripkeCountermodel sig file (kripke_structure view)

-- the first faults of frames, of domains, of terms and of the parts give that of the whole
abbrev pub JoinedFaults : Type 0
JoinedFaults =
    (sig : Signature) (file : File) (K : KripkeModel) (frame domain term part : Option Condition)
    → IsFirstFailing (meets_condition sig K) (frame_conditions sig) frame
    → IsFirstFailing (meets_condition sig K) (domain_conditions sig) domain
    → IsFirstFailing (meets_condition sig K) (term_conditions sig) term
    → IsFirstFailing (meets sig file K) (part_conditions file) part
    → IsFirstFailing (meets sig file K) (all_conditions sig file) (option_or frame (option_or domain (option_or term part)))

-- the premises and the conjecture stand in the parts of the file, and what they ask is what their numbered formulas say
pub record PartsTell (file : File) (parts : List PartEntry) (formulas : List Numbered) (view : KripkeTables) (test : Condition → Bool) : Type 0 where
  pub premises : premise_conditions file ≡ premises_of parts
  pub conjectures : conjecture_conditions file ≡ conjectures_of parts
  -- each part has a formula
  pub there : (j : ℕ) (entry : PartEntry) → slice_get parts j ≡ Some entry → (k : ℕ) × (n : Numbered) × (slice_get formulas k ≡ Some n) × (n.place ≡ entry.place)
  -- and what it asks is what this formula says
  pub same : (j k : ℕ) (entry : PartEntry) (n : Numbered) → slice_get parts j ≡ Some entry → slice_get formulas k ≡ Some n → n.place ≡ entry.place
      → test (condition_of entry.place entry.part) ≡ node_meets view entry.part n.node

abbrev pub PartsLaw : Type 0
PartsLaw =
    (sig : Signature) (file : File) (view : KripkeTables) (formulas : List Numbered) → IsWellFormed sig → IsKripke view → IsKripkeFor sig view
    → all_named sig formulas ≡ Some (formulas_of file) → All (λ (n : Numbered). IsSortedFormula sig n.node) formulas
    → PartsTell file (part_entries 1 file.statements) formulas view (meets_by_file sig file view)
