-- What a text spells alone.
use Rattle.std.specs.Prelude.{◌≡◌}
use Rattle.nxf_tree.specs.declared.profile.Profile.TheVariants.{Classical}
use Rattle.nxf_tree.specs.declared.tree.File.{File}
use Rattle.nxf_tree.specs.Text.{text_of}
use Rattle.syntax_definitions.specs.Spells.{Spells}

-- the text of the file spells no other file, read as a classical problem
abbrev pub TextIsOnly : File → Type 0
TextIsOnly file = (other : File) → Spells Classical (text_of file) other → other ≡ file

-- the text of the file spells it, read as a classical problem
abbrev pub TextSpells : File → Type 0
TextSpells file = Spells Classical (text_of file) file
