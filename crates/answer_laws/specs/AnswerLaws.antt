-- Answers are one each, and the line of `check` tells a countermodel.
use Rattle.std.specs.Prelude.{◌≡◌, ◌↔◌, ℕ, List, Result, Ok}
use Rattle.nxf_base.specs.Exactly.{ExactlyOne}
use Rattle.nxf_tree.specs.declared.tree.File.{File}
use Rattle.nxf_tree.specs.declared.tree.Signature.{Signature}
use Rattle.nxf_tree.specs.WellFormed.{HasSortsInRange}
use Rattle.syntax_definitions.specs.declared.gather_error.GatherError.{GatherError}
use Rattle.answer_definitions.specs.Check.{Checks, IsCountermodelText, countermodel_line}
use Rattle.answer_definitions.specs.KripkeFile.{ReadsStructure}

abbrev pub OneReadingLaw : Type 0
OneReadingLaw = (sig : Signature) (name bytes : List ℕ) → HasSortsInRange sig → ExactlyOne (ReadsStructure sig name bytes)

abbrev pub OneCheckLaw : Type 0
OneCheckLaw =
    (outcome : Result File GatherError) (name : List ℕ) (loaded : Result (List ℕ) GatherError) → ExactlyOne (Checks outcome name loaded)

-- the files lead to a line exactly where the second is the text of a countermodel
abbrev pub CountermodelLaw : Type 0
CountermodelLaw =
    (file : File) (name bytes line : List ℕ)
    → Checks (Ok file) name (Ok bytes) (Ok line) ↔ ((line ≡ countermodel_line) × IsCountermodelText file bytes)
