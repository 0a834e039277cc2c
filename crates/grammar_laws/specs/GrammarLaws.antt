-- What is proved of the grammar: the descent finds exactly what the rules have, and no tokens spell two trees.
use Rattle.std.specs.Prelude.{◌≡◌, ℕ, true, List, [], Some}
use Rattle.tptp_lex.specs.declared.token.Token.{Token}
use Rattle.nxf_terminals.specs.Input.{Input, Parser, kind}
use Rattle.nxf_terminals.specs.declared.sign.Sign.TheVariants.{Close}
use Rattle.nxf_tree.specs.declared.profile.Profile.{Profile}
use Rattle.nxf_tree.specs.declared.tree.Formula.{Formula}
use Rattle.nxf_tree.specs.declared.tree.Typing.{Typing}
use Rattle.nxf_tree.specs.declared.tree.File.{File}
use Rattle.syntax_definitions.specs.Formulas.{IsFormula}
use Rattle.syntax_definitions.specs.Typings.{IsTyping}
use Rattle.syntax_definitions.specs.Annotations.{IsAnnotation, annotation}
use Rattle.syntax_definitions.specs.Spells.{TokensSpell, IsFirstFault, Spells}
use Rattle.syntax_definitions.specs.steps.ReadTypings.{typing_of, ends_type}

-- the parser finds what the rule reads
abbrev pub Finds : {A : Type 0} → Parser A → (Input → A → Input → Type 0) → Type 0
Finds {A} parse Reads = (xs rest : Input) (a : A) → Reads xs a rest → parse xs ≡ Some (a, rest)

-- the rule reads what the parser finds
abbrev pub IsSound : {A : Type 0} → Parser A → (Input → A → Input → Type 0) → Type 0
IsSound {A} parse Reads = (xs rest : Input) (a : A) → parse xs ≡ Some (a, rest) → Reads xs a rest

-- no tokens spell two formulas
abbrev pub OneFormula : Type 0
OneFormula = (most levels : ℕ) (tokens : Input) (f g : Formula) → IsFormula most levels tokens f [] → IsFormula most levels tokens g [] → f ≡ g

-- a typing is found where what follows it ends a type
abbrev pub FindsTypings : Type 0
FindsTypings = (most left : ℕ) (xs rest : Input) (t : Typing) → IsTyping most left xs t rest → ends_type (kind rest) ≡ true → typing_of most left xs ≡ Some (t, rest)

-- an annotation is found where a closing bracket follows it
abbrev pub FindsAnnotations : Type 0
FindsAnnotations = (xs rest : Input) → IsAnnotation xs rest → kind rest ≡ Close → annotation xs ≡ Some (tt, rest)

-- no bytes spell two files in one profile
abbrev pub OneFile : Type 0
OneFile = (profile : Profile) (bytes : List ℕ) (f g : File) → Spells profile bytes f → Spells profile bytes g → f ≡ g

-- tokens that spell a file have no first fault
abbrev pub FileOrFault : Type 0
FileOrFault = (profile : Profile) (bytes : List ℕ) (tokens : List Token) (f : File) (k : ℕ) → TokensSpell profile bytes tokens f → IsFirstFault profile bytes tokens k → ⊥

-- one statement is the first that no rule reads
abbrev pub OneFault : Type 0
OneFault = (profile : Profile) (bytes : List ℕ) (tokens : List Token) (j k : ℕ) → IsFirstFault profile bytes tokens j → IsFirstFault profile bytes tokens k → j ≡ k
