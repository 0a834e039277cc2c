-- How a refusal stands to the parts of the file.
use Rattle.std.specs.Prelude.{◌≡◌, ℕ, List, Option, None, Some, Result, Ok, Err}
use Rattle.nxf_base.specs.declared.status.RoleKind.{RoleKind}
use Rattle.nxf_tree.specs.declared.tree.PartEntry.{PartEntry}
use Rattle.nxf_roles.specs.declared.sorting.RoleError.{RoleError}
use Rattle.nxf_roles.specs.declared.sorting.RoleError.TheVariants.{Kind, Memory}

-- a refused role is the first that the file's parts refuse, with the number of its statement; want of memory says nothing of them
abbrev pub Refuses : Result (List PartEntry) (ℕ × RoleKind) → RoleError → Type 0
Refuses answer (Kind kind place) = answer ≡ Err (place, kind)
Refuses answer Memory = Unit {0}

-- the fault of a judgement
abbrev pub fault_of : {A F : Type 0} → Result A F → Option F
fault_of (Ok part) = None
fault_of (Err fault) = Some fault
