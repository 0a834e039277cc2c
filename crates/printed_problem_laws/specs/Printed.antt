-- What is asked of a file so that its printed problem can be read.
use Rattle.std.specs.Prelude.{◌≤◌}
use Rattle.nxf_tree.specs.declared.profile.Profile.TheVariants.{Problem, Classical}
use Rattle.nxf_tree.specs.declared.tree.Signature.{Signature}
use Rattle.nxf_tree.specs.declared.tree.File.{File}
use Rattle.nxf_tree.specs.Problem.{problem_of}
use Rattle.nxf_tree.specs.WellFormed.{IsWellFormed}
use Rattle.nxf_tree.specs.Regular.{IsRegular}
use Rattle.nxf_tree.specs.Profiles.{allowed_in, levels_of}
use Rattle.syntax_definitions.specs.Levels.{file_levels}

-- The signature is well formed, and the file is regular as a problem and needs no more levels than a problem has.
pub record IsProblemOver (sig : Signature) (file : File) : Type 0 where
  pub well_formed : IsWellFormed sig
  pub regular : IsRegular (allowed_in Problem) file
  pub levels : file_levels file ≤ levels_of Problem

-- over a well-formed signature the printed problem of a regular file is regular
abbrev pub KeepsRegular : Type 0
KeepsRegular =
    (sig : Signature) (file : File) → IsWellFormed sig → IsRegular (allowed_in Problem) file → IsRegular (allowed_in Classical) (problem_of sig file)

-- the printed problem needs no more levels than the classical profile has, where the file needs no more than a problem has
abbrev pub KeepsLevels : Type 0
KeepsLevels =
    (sig : Signature) (file : File) → IsWellFormed sig → file_levels file ≤ levels_of Problem → file_levels (problem_of sig file) ≤ levels_of Classical
