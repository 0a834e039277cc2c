-- The verdict on what a second file is read as.
use Rattle.std.proofs.Common.{◌≡◌, ℕ, List, None, Some, Result, Ok, Err, refl, sym, ap, subst}
use Rattle.std.specs.Prelude.{◌⊎◌, IfErr, IsErrAnd}
use mathlib.Core.Logic.{inl, inr}
use Rattle.nxf_base.specs.declared.status.Status.{Status}
use Rattle.nxf_base.specs.declared.status.Status.TheVariants as status
use Rattle.nxf_tree.specs.declared.tree.PartEntry.{PartEntry}
use Rattle.nxf_tree.specs.Structures.{KripkeStructure}
use Rattle.fin_struct.specs.declared.condition.Condition.{Condition}
use Rattle.formula_cells.specs.Checked.{CheckedFile}
use Rattle.answer_definitions.specs.Answer.{Answer, OrMemory}
use Rattle.answer_definitions.specs.FaultNames.{fails_of}
use Rattle.answer_definitions.specs.ProblemFile.{OfItsProblem}
use Rattle.answer_definitions.specs.Verdict.{JudgesReading, IsFaultOf, NamesFault}

-- an error that is handed on
pub handed_on : {X : Type 0} (r : Result X Status) (P : Status → Type 0) (e : Status) → IsErrAnd r (λ (x : Status). x ≡ e) → P e → IfErr r P
handed_on (Ok x) P e is h = absurd is
handed_on (Err x) P e is h = subst P (sym is) h

-- the answer is the verdict on what the second file is read as
abbrev pub IsJudged : CheckedFile → List PartEntry → (Result KripkeStructure Status → Type 0) → (KripkeStructure → List ℕ) → Answer → Type 0
IsJudged checked parts Reads text answer = OfItsProblem checked parts (λ file. JudgesReading checked.signature file Reads text answer)

module _ (checked : CheckedFile) (parts : List PartEntry) (Reads : Result KripkeStructure Status → Type 0) (text : KripkeStructure → List ℕ) where
  -- it is refused
  pub unread : (s : Status) → OrMemory (λ t. Reads (Err t)) s → OrMemory (λ t. IsJudged checked parts Reads text (Err t)) s
  unread s (inl h) = inl (λ file is. record { reading = Err s; reads = h; judged = refl })
  unread s (inr e) = inr e

  module _ (K : KripkeStructure) (reads : Reads (Ok K)) where
    -- it has a structure that doesn't meet a condition
    pub has_fault : (s : Status) → OrMemory (NamesFault checked parts K) s → OrMemory (λ t. IsJudged checked parts Reads text (Err t)) s
    has_fault s (inl h) = inl (λ file is. record { reading = Ok K; reads = reads; judged = (Some h.fault, h.first file is, ap Err h.status_is) })
    has_fault s (inr e) = inr e

    -- it has a structure that meets all
    pub meets_all : (line : List ℕ) → IsFaultOf checked parts K None → line ≡ text K → IsJudged checked parts Reads text (Ok line)
    meets_all line all is file read = record { reading = Ok K; reads = reads; judged = (None, all file read, ap Ok is) }

-- a fault that is named
pub named : (checked : CheckedFile) (parts : List PartEntry) (K : KripkeStructure) (fault : Condition) (s : Status) → IsFaultOf checked parts K (Some fault)
    → (s ≡ status.NotCountermodel (fails_of checked.signature fault)) ⊎ (s ≡ status.Memory) → OrMemory (NamesFault checked parts K) s
named checked parts K fault s found (inl is) = inl (record { fault = fault; first = found; status_is = is })
named checked parts K fault s found (inr e) = inr e
