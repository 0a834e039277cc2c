-- Texts of Kripke structures: none begins another, each is of one structure, and a list that isn't one has one refusal.
use Rattle.std.specs.Prelude.{◌≡◌, ◌≢◌, ℕ, suc, ◌≤◌, if◌then◌else◌, List, [], ◌∷◌, ◌++◌}
use Rattle.tptp_lex.specs.declared.token.Token.{Token}
use Rattle.tptp_lex.specs.Lexing.{Lexes}
use Rattle.nxf_tree.specs.declared.tree.Signature.{Signature}
use Rattle.nxf_tree.specs.Structures.{KripkeStructure, IsOver}
use Rattle.nxf_tree.specs.WellFormed.{IsWellFormed}
use Rattle.plain_tokens.specs.PlainTokens.{Plain, plains_of}
use Rattle.kripke_text_definitions.specs.declared.error.KripkeTextError.{KripkeTextError}
use Rattle.kripke_text_definitions.specs.declared.error.KripkeTextError.TheVariants.{Form, Memory}
use Rattle.kripke_text_definitions.specs.KripkeText.{ktokens, ktext}
use Rattle.kripke_text_definitions.specs.TokenStatements.{is_stop}
use Rattle.kripke_text_definitions.specs.Reading.{AreFew, Explains, head_length}

-- over one signature no canonical token list is a proper prefix of another
abbrev pub PrefixLaw : Type 0
PrefixLaw = (sig : Signature) (K L : KripkeStructure) (more : List Plain) → IsOver sig K → IsOver sig L → ktokens sig K ++ more ≡ ktokens sig L → more ≡ []

-- over one signature, structures with equal token lists are equal
abbrev pub EqualLaw : Type 0
EqualLaw = (sig : Signature) (K L : KripkeStructure) → IsOver sig K → IsOver sig L → ktokens sig K ≡ ktokens sig L → K ≡ L

-- over a well-formed signature the text of a structure lexes to its tokens
abbrev pub LexLaw : Type 0
LexLaw = (sig : Signature) (K : KripkeStructure) → IsWellFormed sig → (tokens : List Token) × Lexes (ktext sig K) tokens × (plains_of (ktext sig K) tokens ≡ ktokens sig K)

-- of a token list at most one refusal holds, want of memory apart
abbrev pub OneRefusalLaw : Type 0
OneRefusalLaw = (sig : Signature) (tokens : List Plain) (e f : KripkeTextError) → Explains sig tokens e → Explains sig tokens f → e ≢ Memory → f ≢ Memory → e ≡ f

-- of the text of a structure within the limits no refusal holds but want of memory
abbrev pub NoRefusalLaw : Type 0
NoRefusalLaw = (sig : Signature) (K : KripkeStructure) (tokens : List Plain) (e : KripkeTextError) → IsOver sig K → tokens ≡ ktokens sig K → AreFew sig K.worlds K.sizes → Explains sig tokens e → e ≡ Memory

-- how many statements stand whole in the tokens: how many full stops there are
abbrev pub whole_count : List Plain → ℕ
whole_count [] = 0
whole_count (p ∷ ps) = if is_stop p then suc (whole_count ps) else whole_count ps

-- a canonical text that is cut is refused at the statement behind the last that is whole; where the head is whole, if that is within the limits
abbrev pub CutLaw : Type 0
CutLaw =
    (sig : Signature) (K : KripkeStructure) (front back : List Plain) → IsOver sig K → ktokens sig K ≡ front ++ back → back ≢ []
    → (head_length sig ≤ whole_count front → AreFew sig K.worlds K.sizes) → Explains sig front (Form (suc (whole_count front)))
