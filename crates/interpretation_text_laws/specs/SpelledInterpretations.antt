-- The text of a structure's interpretation spells the interpretation, and nothing else.
use Rattle.std.specs.Prelude.{◌≡◌}
use Rattle.nxf_tree.specs.declared.profile.Profile.TheVariants.{Interpretation}
use Rattle.nxf_tree.specs.declared.tree.Signature.{Signature}
use Rattle.nxf_tree.specs.declared.tree.ClassicalSignature.{ClassicalSignature}
use Rattle.nxf_tree.specs.declared.tree.File.{File}
use Rattle.syntax_definitions.specs.Levels.{Fits}
use Rattle.syntax_definitions.specs.Spells.{Spells}
use Rattle.classical_signature_laws.specs.ClassicalSignatures.{IsClassicalOf}
use Rattle.fin_struct.specs.StructureTables.{StructureTables, IsStructure, IsFor}
use Rattle.interpretation_text_definitions.specs.InterpretationText.{interpretation_file, interpretation_text}

-- the structure is one for the classical signature of a well-formed signature
pub record IsOverSome (sig : Signature) (csig : ClassicalSignature) (S : StructureTables) : Type 0 where
  pub classical : IsClassicalOf sig csig
  pub structure : IsStructure S
  pub over : IsFor csig S

-- the interpretation is regular among interpretations, and within their levels
abbrev pub FitsLaw : Type 0
FitsLaw = (sig : Signature) (csig : ClassicalSignature) (S : StructureTables) → IsOverSome sig csig S → Fits Interpretation (interpretation_file csig S)

-- its text spells it
abbrev pub SpellsLaw : Type 0
SpellsLaw = (sig : Signature) (csig : ClassicalSignature) (S : StructureTables) → IsOverSome sig csig S → Spells Interpretation (interpretation_text csig S) (interpretation_file csig S)

-- and no other file
abbrev pub OnlyLaw : Type 0
OnlyLaw =
    (sig : Signature) (csig : ClassicalSignature) (S : StructureTables) (other : File) → IsOverSome sig csig S
    → Spells Interpretation (interpretation_text csig S) other → other ≡ interpretation_file csig S
