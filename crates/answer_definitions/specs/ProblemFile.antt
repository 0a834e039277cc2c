-- What a problem's file is read as, and why it isn't.
use Rattle.std.specs.Prelude.{◌≡◌, List, Some, Ok, Err}
use Rattle.nxf_base.specs.declared.status.Status.{Status}
use Rattle.nxf_tree.specs.declared.tree.File.{File}
use Rattle.nxf_tree.specs.declared.tree.PartEntry.{PartEntry}
use Rattle.nxf_tree.specs.Parts.{parts_of}
use Rattle.nxf_tree.specs.Profile.{Reading, Refusal, reading_of}
use Rattle.nxf_tree.specs.WellFormed.{IsWellFormed}
use Rattle.formula_cells.specs.Checked.{CheckedFile}
use Rattle.numbered_definitions.specs.NamedForm.{all_named, formulas_of}
use Rattle.answer_definitions.specs.Answer.{status_of_refusal}

-- the parts and the checked formulas are what the file, which is in the profile, is read as
pub record IsReading (file : File) (parts : List PartEntry) (checked : CheckedFile) : Type 0 where
  pub problem : Reading
  pub in_profile : reading_of file ≡ Ok problem
  pub parts_are : parts_of file ≡ Ok parts
  pub signature_is : problem.signature ≡ checked.signature
  pub well_formed : IsWellFormed checked.signature
  pub formulas_are : all_named checked.signature checked.formulas ≡ Some (formulas_of file)

-- so it is of each file that is read so
abbrev pub OfItsProblem : CheckedFile → List PartEntry → (File → Type 0) → Type 0
OfItsProblem checked parts IsSo = (file : File) → IsReading file parts checked → IsSo file

-- the first refusal of a gathered file: of its roles, its logic statement or its sorts
pub record IsProfileRefusal (file : File) (s : Status) : Type 0 where
  pub refusal : Refusal
  pub refused : reading_of file ≡ Err refusal
  pub status_is : s ≡ status_of_refusal refusal
