-- The file that checked formulas and parts are read from.
use Rattle.std.specs.Prelude.{◌≡◌, List, Some, Ok}
use Rattle.nxf_tree.specs.declared.tree.PartEntry.{PartEntry}
use Rattle.nxf_tree.specs.declared.tree.Signature.{Signature}
use Rattle.nxf_tree.specs.declared.tree.File.{File}
use Rattle.nxf_tree.specs.Parts.{parts_of}
use Rattle.numbered_definitions.specs.NamedForm.{all_named, formulas_of}
use Rattle.formula_cells.specs.Checked.{CheckedFile}

-- the formulas and the parts are those of the file
pub record IsReadAs (file : File) (checked : CheckedFile) (entries : List PartEntry) : Type 0 where
  pub formulas : all_named checked.signature checked.formulas ≡ Some (formulas_of file)
  pub parts : parts_of file ≡ Ok entries

-- so it is of the signature and of each file that is read so
abbrev pub OfItsFile : CheckedFile → List PartEntry → (Signature → File → Type 0) → Type 0
OfItsFile checked entries IsSo = (file : File) → IsReadAs file checked entries → IsSo checked.signature file
