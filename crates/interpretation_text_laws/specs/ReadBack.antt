-- What the interpretation of a structure is read as: that structure.
use Rattle.std.specs.Prelude.{◌≡◌, Ok}
use Rattle.nxf_tree.specs.declared.tree.Signature.{Signature}
use Rattle.nxf_tree.specs.declared.tree.ClassicalSignature.{ClassicalSignature}
use Rattle.fin_struct.specs.StructureTables.{StructureTables}
use Rattle.interpretation_definitions.specs.Interpretation.{interpretation_of}
use Rattle.interpretation_text_definitions.specs.InterpretationText.{interpretation_file}
use Rattle.interpretation_text_laws.specs.SpelledInterpretations.{IsOverSome}

-- the file gives the structure that it was made for, and no part of it is refused
abbrev pub ReadBackLaw : Type 0
ReadBackLaw = (sig : Signature) (csig : ClassicalSignature) (S : StructureTables) → IsOverSome sig csig S → interpretation_of csig (interpretation_file csig S) ≡ Ok S
