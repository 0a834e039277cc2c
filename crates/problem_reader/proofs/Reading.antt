-- What the steps of reading a problem find, as its reading or its first refusal.
use Rattle.std.proofs.Common.{◌≡◌, ◌≤◌, ℕ, List, [], ◌∷◌, length, None, Some, Ok, Err, refl, sym, ap, ◌∙◌, arith}
use mathlib.Core.Logic.{inl}
use Rattle.nxf_base.specs.declared.status.RoleKind.{RoleKind}
use Rattle.nxf_base.specs.declared.status.SpecKind.{SpecKind}
use Rattle.nxf_base.specs.declared.status.SortKind.{SortKind}
use Rattle.nxf_base.specs.declared.status.Status.TheVariants as status
use Rattle.nxf_tree.specs.declared.tree.PartEntry.{PartEntry}
use Rattle.nxf_tree.specs.declared.tree.Statement.{Statement}
use Rattle.nxf_tree.specs.declared.tree.Statement.TheVariants.{Annotated, Include}
use Rattle.nxf_tree.specs.declared.tree.File.{File}
use Rattle.nxf_tree.specs.Parts.{parts_of}
use Rattle.nxf_tree.specs.Profile.{RefusedRole, RefusedSpec, RefusedSort, reading_of, with_parts, with_spec, with_sorts}
use Rattle.nxf_tree.specs.SignatureOf.{signature_of}
use Rattle.nxf_tree.specs.SortFaults.{sort_fault_of}
use Rattle.nxf_tree.specs.Specification.{Specification, spec_of}
use Rattle.nxf_tree.specs.Weight.{statement_list_weight}
use Rattle.nxf_tree.specs.WellFormed.{IsWellFormed}
use Rattle.formula_cells.specs.Checked.{CheckedFile}
use Rattle.numbered_definitions.specs.NamedForm.{all_named, formulas_of}
use Rattle.answer_definitions.specs.Answer.{OrMemory}
use Rattle.answer_definitions.specs.ProblemFile.{IsReading, IsProfileRefusal}

-- a file has no more statements than its weight
pub statements_fit : (ss : List Statement) → length ss ≤ statement_list_weight ss
statements_fit [] = omega arith
statements_fit (Annotated name role body ∷ ss) = omega (arith, statements_fit ss)
statements_fit (Include file names ∷ ss) = omega (arith, statements_fit ss)

module _ (file : File) where
  pub refused_role : (place : ℕ) (kind : RoleKind) → parts_of file ≡ Err (place, kind) → OrMemory (IsProfileRefusal file) (status.Role kind place)
  refused_role place kind h = inl (record { refusal = RefusedRole kind place; refused = ap (with_parts file) h; status_is = refl })

  module _ (parts : List PartEntry) (parted : parts_of file ≡ Ok parts) where
    pub refused_spec : (kind : SpecKind) → spec_of file ≡ Err kind → OrMemory (IsProfileRefusal file) (status.Spec kind)
    refused_spec kind h = inl (record { refusal = RefusedSpec kind; refused = ap (with_parts file) parted ∙ ap (with_spec file parts) h; status_is = refl })

    module _ (spec : Specification) (asked : spec_of file ≡ Ok spec) where
      judged : reading_of file ≡ with_sorts parts spec (signature_of spec file) (sort_fault_of spec file)
      judged = ap (with_parts file) parted ∙ ap (with_spec file parts) asked

      pub refused_sort : (kind : SortKind) (place : ℕ) (name : List ℕ) → sort_fault_of spec file ≡ Some (place, (kind, name)) → OrMemory (IsProfileRefusal file) (status.Sort kind place name)
      refused_sort kind place name h = inl (record { refusal = RefusedSort kind place name; refused = judged ∙ ap (with_sorts parts spec (signature_of spec file)) h; status_is = refl })

      pub reading : (checked : CheckedFile) → sort_fault_of spec file ≡ None → checked.signature ≡ signature_of spec file → IsWellFormed checked.signature → all_named checked.signature checked.formulas ≡ Some (formulas_of file) → IsReading file parts checked
      reading checked fine signed well_formed named = record {
        problem = record { parts = parts; spec = spec; signature = signature_of spec file };
        in_profile = judged ∙ ap (with_sorts parts spec (signature_of spec file)) fine;
        parts_are = parted;
        signature_is = sym signed;
        well_formed = well_formed;
        formulas_are = named;
      }
