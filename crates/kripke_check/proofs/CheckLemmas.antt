-- The first fault of the kind that was found first is that of the whole file.
use Rattle.std.proofs.Common.{◌≡◌, Bool, List, None, Some, Option, subst}
use Rattle.nxf_tree.specs.declared.tree.Signature.{Signature}
use Rattle.nxf_tree.specs.declared.tree.File.{File}
use Rattle.fin_struct.specs.declared.condition.Condition.{Condition}
use Rattle.fin_struct.specs.KripkeTables.{KripkeTables}
use Rattle.fin_struct.specs.FirstFault.{IsFirstFailing, meets_in_tables, frame_conditions, domain_conditions, term_conditions}
use Rattle.structure_laws.proofs.FirstFaultLemmas.{first_found}
use Rattle.kripke_evaluation_definitions.specs.FileConditions.{model_of, meets_by_file, part_conditions, all_conditions}
use Rattle.evaluation_laws.proofs.WholeLemmas.{joined-faults}

module _ (sig : Signature) (file : File) (tables : KripkeTables) where
  abbrev Own : Condition → Bool
  Own = meets_in_tables sig tables

  abbrev Whole : Condition → Bool
  Whole = meets_by_file sig file tables

  pub frame-first : (c : Condition) → IsFirstFailing Own (frame_conditions sig) (Some c) → IsFirstFailing Whole (all_conditions sig file) (Some c)
  frame-first c frames =
      joined-faults sig file (model_of sig tables) (Some c) _ _ _ frames (first_found Own (domain_conditions sig)) (first_found Own (term_conditions sig)) (first_found Whole (part_conditions file))

  pub domain-first : (c : Condition) → IsFirstFailing Own (frame_conditions sig) None → IsFirstFailing Own (domain_conditions sig) (Some c) → IsFirstFailing Whole (all_conditions sig file) (Some c)
  domain-first c frames domains =
      joined-faults sig file (model_of sig tables) None (Some c) _ _ frames domains (first_found Own (term_conditions sig)) (first_found Whole (part_conditions file))

  pub term-first : (c : Condition) → IsFirstFailing Own (frame_conditions sig) None → IsFirstFailing Own (domain_conditions sig) None → IsFirstFailing Own (term_conditions sig) (Some c)
      → IsFirstFailing Whole (all_conditions sig file) (Some c)
  term-first c frames domains terms =
      joined-faults sig file (model_of sig tables) None None (Some c) _ frames domains terms (first_found Whole (part_conditions file))

  pub part-first : (found : Option Condition) → IsFirstFailing Own (frame_conditions sig) None → IsFirstFailing Own (domain_conditions sig) None → IsFirstFailing Own (term_conditions sig) None
      → IsFirstFailing Whole (part_conditions file) found → IsFirstFailing Whole (all_conditions sig file) found
  part-first found frames domains terms parts = joined-faults sig file (model_of sig tables) None None None found frames domains terms parts

-- the same signature and result
pub moved : (tables : KripkeTables) (conditions : Signature → List Condition) (sig own : Signature) (found result : Option Condition) → own ≡ sig → result ≡ found
    → IsFirstFailing (meets_in_tables own tables) (conditions own) result → IsFirstFailing (meets_in_tables sig tables) (conditions sig) found
moved tables conditions sig own found result same is first =
    subst (λ s. IsFirstFailing (meets_in_tables s tables) (conditions s) found) same (subst (λ r. IsFirstFailing (meets_in_tables own tables) (conditions own) r) is first)
