-- What a load answers and appends.
use Rattle.std.specs.Prelude.{◌≡◌, ℕ, ◌+◌, List, ◌++◌, take, Option, None, Some, IfSome, Result, Ok, Err}
use Rattle.nxf_base.specs.Files.{Files, file_of}
use Rattle.nxf_base.specs.declared.library.Found.{Found}
use Rattle.nxf_base.specs.declared.library.Found.TheVariants.{Here, Absent}
use Rattle.nxf_base.specs.declared.library.LoadError.{LoadError}

-- The file's bytes are appended, or its first limit + 1; by the files where they are told.
abbrev pub Loads : Option Files → List ℕ → ℕ → Result Found LoadError → List ℕ → List ℕ → Type 0
Loads told name limit (Ok Here) before now =
    (bytes : List ℕ) × (now ≡ before ++ take (limit + 1) bytes) × IfSome told (λ files. file_of name files ≡ Some bytes)
Loads told name limit (Ok Absent) before now = (now ≡ before) × IfSome told (λ files. file_of name files ≡ None)
Loads told name limit (Err e) before now = now ≡ before
