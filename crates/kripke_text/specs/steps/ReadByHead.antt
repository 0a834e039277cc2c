-- What reading gives, by what the head of a text says and by its statements.
use Rattle.std.specs.Prelude.{◌≡◌, List}
use Rattle.nxf_tree.specs.declared.tree.Signature.{Signature}
use Rattle.nxf_tree.specs.Rows.{size_at}
use Rattle.fin_struct.specs.KripkeTables.{KripkeTables, blank_kripke, others_of}
use Rattle.plain_tokens.specs.PlainTokens.{Plain}
use Rattle.kripke_text_definitions.specs.declared.error.KripkeTextError.{KripkeTextError}
use Rattle.kripke_text_definitions.specs.TokenStatements.{statements}
use Rattle.kripke_text_definitions.specs.Reading.{Explains}
use Rattle.kripke_text.specs.declared.read_head.Head.{Head}
use Rattle.kripke_text.specs.Texts.{IsTextOf}
use Rattle.kripke_text.specs.steps.Reading.{IsHead}

-- the statements begin with this head, and those are left
abbrev pub ReadsHead : Signature → List (List Plain) → List (List Plain) → Head → Type 0
ReadsHead sig old new head = IsHead sig (size_at head.sizes 0) head.actual (others_of head.sizes) old new

-- the structure with this head and nothing else written
abbrev pub blank_with : Signature → Head → KripkeTables
blank_with sig head = record (blank_kripke sig (size_at head.sizes 0) (others_of head.sizes)) { actual = head.actual }

-- tokens with these statements are the text of the structure, or are refused so
abbrev pub AreTextOf : Signature → List (List Plain) → KripkeTables → Type 0
AreTextOf sig ss made = (tokens : List Plain) → statements tokens ≡ ss → IsTextOf sig made tokens

abbrev pub ExplainsAll : Signature → List (List Plain) → KripkeTextError → Type 0
ExplainsAll sig ss e = (tokens : List Plain) → statements tokens ≡ ss → Explains sig tokens e
