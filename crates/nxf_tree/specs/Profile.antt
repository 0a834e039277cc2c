-- Which files are in the profile, and what such a file is read as: the parts of its formulas, its specification and its signature. The file is a
-- gathered one, in which what the includes bring stands in their place.
use Rattle.std.specs.Prelude.{ℕ, List, Option, None, Some, Result, Ok, Err}
use Rattle.nxf_base.specs.declared.status.RoleKind.{RoleKind}
use Rattle.nxf_base.specs.declared.status.SpecKind.{SpecKind}
use Rattle.nxf_base.specs.declared.status.SortKind.{SortKind}
use Rattle.nxf_tree.specs.declared.tree.PartEntry.{PartEntry}
use Rattle.nxf_tree.specs.declared.tree.Signature.{Signature}
use Rattle.nxf_tree.specs.declared.tree.File.{File}
use Rattle.nxf_tree.specs.Parts.{parts_of}
use Rattle.nxf_tree.specs.Specification.{Specification, spec_of}
use Rattle.nxf_tree.specs.SignatureOf.{signature_of}
use Rattle.nxf_tree.specs.SortFaults.{SortFault, sort_fault_of}

-- why a file is refused; the numbers are those of statements
pub data Refusal : Type 0 where
  RefusedRole : (kind : RoleKind) (k : ℕ) → Refusal
  RefusedSpec : (kind : SpecKind) → Refusal
  RefusedSort : (kind : SortKind) (k : ℕ) (name : List ℕ) → Refusal

-- what a file in the profile is read as
pub record Reading : Type 0 where
  pub parts : List PartEntry
  pub spec : Specification
  pub signature : Signature

-- the outcome of the third step: sorts
abbrev pub with_sorts : List PartEntry → Specification → Signature → Option (ℕ × SortFault) → Result Reading Refusal
with_sorts parts spec sig None = Ok (record { parts = parts; spec = spec; signature = sig })
with_sorts parts spec sig (Some fault) = Err (RefusedSort fault.1.0 fault.0 fault.1.1)

-- the outcome of the second step: the specification
abbrev pub with_spec : File → List PartEntry → Result Specification SpecKind → Result Reading Refusal
with_spec file parts (Err kind) = Err (RefusedSpec kind)
with_spec file parts (Ok spec) = with_sorts parts spec (signature_of spec file) (sort_fault_of spec file)

-- the outcome of the first step: roles
abbrev pub with_parts : File → Result (List PartEntry) (ℕ × RoleKind) → Result Reading Refusal
with_parts file (Err fault) = Err (RefusedRole fault.1 fault.0)
with_parts file (Ok parts) = with_spec file parts (spec_of file)

-- what the file is read as, or the first refusal: roles, then the specification, then sorts
abbrev pub reading_of : File → Result Reading Refusal
reading_of file = with_parts file (parts_of file)
