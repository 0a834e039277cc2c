-- What tables of overrides ask once more overrides are noted, whatever the default is.
use Rattle.std.specs.Prelude.{◌≡◌, ℕ, List, Option, slice_get}
use Rattle.std.specs.Option.{unwrap_or}
use Rattle.nxf_tree.specs.declared.tree.IndexName.{IndexName}
use Rattle.nxf_tree.specs.declared.tree.Scheme.{Scheme}
use Rattle.nxf_tree.specs.declared.tree.SortName.{SortName}
use Rattle.nxf_tree.specs.declared.tree.SpecKey.TheVariants.{Index}
use Rattle.nxf_tree.specs.declared.tree.SpecEntry.{SpecEntry}
use Rattle.nxf_tree.specs.SpecificationWords.{schemes_of}
use Rattle.nxf_tree.specs.Specification.{override_or, sort_key}
use Rattle.logic_spec.specs.declared.overrides.Overrides.{Overrides}
use Rattle.logic_spec.specs.declared.spec.WordTable.{WordTable}
use Rattle.logic_spec.specs.declared.spec.SchemeTable.{SchemeTable}
use Rattle.logic_spec.specs.Asked.{override_of, text_of_sort, text_of_index, word_for, schemes_for}

-- the schemes that these words say
unfoldable pub schemes_said : List (List ℕ) → List Scheme
schemes_said = schemes_of

-- behind those before them, these overrides say their words of sorts, and so of names
abbrev pub NotesWords : Overrides (Option (List ℕ)) → List SpecEntry → Overrides (Option (List ℕ)) → Type 0
NotesWords before entries after = (words : List (List ℕ)) (s : SortName) →
    unwrap_or (override_of after (text_of_sort s)) (slice_get words 0) ≡ unwrap_or (override_of before (text_of_sort s)) (slice_get (override_or words entries (sort_key s)) 0)

-- behind those before them, these overrides say their schemes of indexes
abbrev pub NotesSchemes : Overrides (List Scheme) → List SpecEntry → Overrides (List Scheme) → Type 0
NotesSchemes before entries after = (words : List (List ℕ)) (i : IndexName) →
    unwrap_or (override_of after (text_of_index i)) (schemes_said words) ≡ unwrap_or (override_of before (text_of_index i)) (schemes_said (override_or words entries (Index i)))

-- the table has these words as its default, and for each sort those of its override
abbrev pub IsWordTable : List (List ℕ) → List SpecEntry → WordTable → Type 0
IsWordTable words entries table = (s : SortName) → word_for table (text_of_sort s) ≡ slice_get (override_or words entries (sort_key s)) 0

-- the table has the schemes of these words as its default, and for each index those of its override
abbrev pub IsSchemeTable : List (List ℕ) → List SpecEntry → SchemeTable → Type 0
IsSchemeTable words entries table = (i : IndexName) → schemes_for table (text_of_index i) ≡ schemes_said (override_or words entries (Index i))
