-- The bytes of one file, by the files that are told.
use Rattle.std.specs.Prelude.{ℕ, if◌then◌else◌, leb, List, length, Option, None, Some, Result, Ok, Err}
use Rattle.nxf_base.specs.Files.{Files, file_of}
use Rattle.syntax_definitions.specs.declared.gather_error.GatherError.{GatherError}
use Rattle.syntax_definitions.specs.declared.gather_error.GatherError.TheVariants.{NoFile, TooLong}

-- the bytes that were found under the name, or the refusal of an absent file or of one of more than 16,777,216 bytes
abbrev pub within : List ℕ → Option (List ℕ) → Result (List ℕ) GatherError
within name None = Err (NoFile name)
within name (Some bytes) = if leb (length bytes) 16777216 then Ok bytes else Err (TooLong name)

-- the bytes of the file of the name
abbrev pub loaded : Files → List ℕ → Result (List ℕ) GatherError
loaded files name = within name (file_of name files)
