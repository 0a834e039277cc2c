-- What is proved of the signature of a file.
use Rattle.std.specs.Prelude.{◌≡◌, Ok}
use Rattle.nxf_tree.specs.declared.tree.Signature.{Signature}
use Rattle.nxf_tree.specs.declared.tree.File.{File}
use Rattle.std.specs.List.{All}
use Rattle.nxf_tree.specs.declared.tree.IndexEntry.{IndexEntry}
use Rattle.nxf_tree.specs.Sorting.{IsWellSorted}
use Rattle.nxf_tree.specs.WellFormed.{HasDifferentNames, HasSortsInRange, AreOrdered}
use Rattle.nxf_tree.specs.Profile.{Reading, reading_of}

-- what a file in the profile is read as is good: names differ, numbers of sorts are in range, schemes are in order without repeats, and the file is
-- well sorted over its signature
pub record IsGoodReading (file : File) (sig : Signature) : Type 0 where
  pub names : HasDifferentNames sig
  pub numbers : HasSortsInRange sig
  pub schemes : All (λ (entry : IndexEntry). AreOrdered entry.schemes) sig.indexes
  pub sorted : IsWellSorted sig file

abbrev pub ProfileLaw : Type 0
ProfileLaw = (file : File) (p : Reading) → reading_of file ≡ Ok p → IsGoodReading file p.signature
