-- The text of a printed problem spells it, and no other file.
use Rattle.std.proofs.Common.{◌≡◌, ◌≤◌, refl}
use Rattle.nxf_tree.specs.declared.profile.Profile.TheVariants as profiles
use Rattle.nxf_tree.specs.declared.tree.Signature.{Signature}
use Rattle.nxf_tree.specs.declared.tree.Body.TheVariants as body
use Rattle.nxf_tree.specs.declared.tree.Statement.TheVariants as statement
use Rattle.nxf_tree.specs.declared.tree.File.{File}
use Rattle.nxf_tree.specs.WellFormed.{IsWellFormed}
use Rattle.nxf_tree.specs.Problem.{problem_of}
use Rattle.nxf_tree.specs.Text.{text_of}
use Rattle.nxf_tree.specs.Regular.{IsRegular}
use Rattle.syntax_definitions.specs.Levels.{file_levels}
use Rattle.nxf_tree.specs.Profiles.{allowed_in, levels_of}
use Rattle.syntax_definitions.specs.Spells.{Spells}
use Rattle.printed_text_laws.proofs.RoundTrip.{regular_file_spelled, no_other_spelled}
use Rattle.printed_problem_laws.proofs.PrintedStatements.{printed_regular, printed_levels}

-- the text of the printed problem spells it
pub printed_spelled : (sig : Signature) (file : File) → IsWellFormed sig → IsRegular (allowed_in profiles.Problem) file → file_levels file ≤ levels_of profiles.Problem → Spells profiles.Classical (text_of (problem_of sig file)) (problem_of sig file)
printed_spelled sig file formed regular low = regular_file_spelled profiles.Classical (problem_of sig file) refl (printed_regular sig file formed regular) (printed_levels sig file formed low)

pub printed_only : (sig : Signature) (file other : File) → IsWellFormed sig → IsRegular (allowed_in profiles.Problem) file → file_levels file ≤ levels_of profiles.Problem → Spells profiles.Classical (text_of (problem_of sig file)) other → other ≡ problem_of sig file
printed_only sig file other formed regular low spells = no_other_spelled profiles.Classical (problem_of sig file) other refl (printed_regular sig file formed regular) (printed_levels sig file formed low) spells
