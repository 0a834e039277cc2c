-- What a second file is read as has exactly one answer; and the answer is a text exactly where it has a countermodel.
use Rattle.std.proofs.Common.{◌≡◌, ℕ, List, Option, None, Some, Result, Ok, Err, refl, sym, ap, subst, ◌∙◌}
use Rattle.std.specs.List.{list_all}
use Rattle.std.proofs.lemmas.Bool.{and_parts, and_from}
use Rattle.nxf_base.specs.declared.status.Status.{Status}
use Rattle.nxf_tree.specs.declared.tree.Signature.{Signature}
use Rattle.nxf_tree.specs.declared.tree.File.{File}
use Rattle.nxf_tree.specs.Conditions.{meets_frames, meets_domains, meets_terms}
use Rattle.nxf_tree.specs.Countermodels.{IsKripkeCountermodel, meets_statement}
use Rattle.nxf_tree.specs.Kripke.{KripkeModel}
use Rattle.nxf_tree.specs.Structures.{KripkeStructure, IsOver, kripke_model}
use Rattle.nxf_tree.specs.WellFormed.{HasDifferentNames}
use Rattle.fin_struct.specs.declared.condition.Condition.{Condition}
use Rattle.structure_laws.proofs.FirstFaultLemmas.{first_failing, first_found, one_first}
use Rattle.kripke_evaluation_definitions.specs.FileConditions.{meets, all_conditions}
use Rattle.evaluation_laws.proofs.WholeLemmas.{whole-conditions}
use Rattle.answer_definitions.specs.Answer.{Answer}
use Rattle.answer_definitions.specs.Verdict.{IsFirstFault, verdict, IsVerdict, JudgesReading}

module _ (sig : Signature) (file : File) (Reads : Result KripkeStructure Status → Type 0) (text : KripkeStructure → List ℕ) where
  -- ---- exactly one answer

  some_verdict : (reading : Result KripkeStructure Status) → (answer : Answer) × IsVerdict sig file text reading answer
  some_verdict (Err refusal) = (Err refusal, refl)
  some_verdict (Ok K) =
      let holds = meets sig file (kripke_model sig K) in
      let fault = first_failing holds (all_conditions sig file) in
      (verdict sig (text K) fault, (fault, first_found holds (all_conditions sig file), refl))

  one_verdict : (reading : Result KripkeStructure Status) (a b : Answer) → IsVerdict sig file text reading a → IsVerdict sig file text reading b → a ≡ b
  one_verdict (Err refusal) a b h k = h ∙ sym k
  one_verdict (Ok K) a b h k =
      h.2 ∙ ap (verdict sig (text K)) (one_first (meets sig file (kripke_model sig K)) (all_conditions sig file) h.0 k.0 h.1 k.1) ∙ sym k.2

  pub some_judged : (reading : Result KripkeStructure Status) → Reads reading → (answer : Answer) × JudgesReading sig file Reads text answer
  some_judged reading reads =
      let v = some_verdict reading in
      (v.0, record { reading = reading; reads = reads; judged = v.1 })

  pub one_judged : ((r s : Result KripkeStructure Status) → Reads r → Reads s → r ≡ s) → (a b : Answer) → JudgesReading sig file Reads text a → JudgesReading sig file Reads text b → a ≡ b
  one_judged one a b h k =
      one_verdict h.reading a b h.judged (subst (λ (r : Result KripkeStructure Status). IsVerdict sig file text r b) (one k.reading h.reading k.reads h.reads) k.judged)

  -- ---- a text

  -- the line is the text of a countermodel
  pub record IsTextOfOne (line : List ℕ) : Type 0 where
    pub K : KripkeStructure
    pub reads : Reads (Ok K)
    pub countermodel : IsKripkeCountermodel sig file K
    pub line_is : line ≡ text K

  line_and_none : (words line : List ℕ) (fault : Option Condition) → Ok line ≡ verdict sig words fault → (line ≡ words) × (fault ≡ None)
  line_and_none words line None e = ((cc), refl)
  line_and_none words line (Some fault) e = absurd cc

  module _ (different : HasDifferentNames sig) where
    -- no condition fails exactly where the structure is a countermodel

    none_is_countermodel : (K : KripkeStructure) → IsOver sig K → IsFirstFault sig file K None → IsKripkeCountermodel sig file K
    none_is_countermodel K over all =
        let model : KripkeModel = kripke_model sig K in
        let frames = and_parts (meets_frames sig model) _ (sym (whole-conditions sig file model different) ∙ all) in
        let domains = and_parts (meets_domains sig model) _ frames.1 in
        let terms = and_parts (meets_terms sig model) (list_all (meets_statement model) file.statements) domains.1 in
        record { over = over; frames = frames.0; domains = domains.0; terms = terms.0; statements = terms.1 }

    countermodel_is_none : (K : KripkeStructure) → IsKripkeCountermodel sig file K → IsFirstFault sig file K None
    countermodel_is_none K c = whole-conditions sig file (kripke_model sig K) different ∙ and_from _ _ c.frames (and_from _ _ c.domains (and_from _ _ c.terms c.statements))

    judged_by : ((K : KripkeStructure) → Reads (Ok K) → IsOver sig K) → (line : List ℕ) (reading : Result KripkeStructure Status) → Reads reading → IsVerdict sig file text reading (Ok line) → IsTextOfOne line
    judged_by over line (Err refusal) reads judged = absurd cc
    judged_by over line (Ok K) reads judged =
        let is = line_and_none (text K) line judged.0 judged.2 in
        record {
          K = K;
          reads = reads;
          countermodel = none_is_countermodel K (over K reads) (subst (IsFirstFault sig file K) is.1 judged.1);
          line_is = is.0;
        }

    pub judged_text : ((K : KripkeStructure) → Reads (Ok K) → IsOver sig K) → (line : List ℕ) → JudgesReading sig file Reads text (Ok line) → IsTextOfOne line
    judged_text over line h = judged_by over line h.reading h.reads h.judged

    pub text_judged : (line : List ℕ) → IsTextOfOne line → JudgesReading sig file Reads text (Ok line)
    text_judged line t = record { reading = Ok t.K; reads = t.reads; judged = (None, countermodel_is_none t.K t.countermodel, ap Ok t.line_is) }
