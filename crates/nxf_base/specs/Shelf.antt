-- What contracts see of a library.
use Rattle.std.specs.Prelude.{◌≡◌, ℕ, ◌≤◌, Option}
use Rattle.nxf_base.specs.Files.{Files}

-- the files, where it tells them, and how often it has failed, and how often it had no file
pub record Shelf : Type 0 where
  pub files : Option Files
  pub faults : ℕ
  pub misses : ℕ

-- it tells the files that it told, and neither count fell
pub record Keeps (before now : Shelf) : Type 0 where
  pub files : now.files ≡ before.files
  pub faults : before.faults ≤ now.faults
  pub misses : before.misses ≤ now.misses
