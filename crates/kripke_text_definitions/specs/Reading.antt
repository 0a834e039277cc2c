-- Which token lists are texts of Kripke structures over a signature; and of each other list, why it is refused.
use Rattle.std.specs.Prelude.{◌≡◌, ℕ, suc, ◌+◌, ◌<◌, ◌≤◌, List, [], ◌∷◌, ◌++◌, map, length}
use Rattle.nxf_tree.specs.declared.tree.Signature.{Signature}
use Rattle.nxf_tree.specs.ClassicalSignature.{classical_signature_of}
use Rattle.nxf_tree.specs.Structures.{KripkeStructure, IsOver}
use Rattle.fin_struct.specs.Limits.{IsWithin, cells_of}
use Rattle.plain_tokens.specs.PlainTokens.{Plain}
use Rattle.plain_tokens.specs.Marks.{plains}
use Rattle.kripke_text_definitions.specs.declared.error.KripkeTextError.{KripkeTextError}
use Rattle.kripke_text_definitions.specs.declared.error.KripkeTextError.TheVariants.{Form, TooManyWorlds, TooBig, Memory}
use Rattle.kripke_text_definitions.specs.TokenStatements.{statements}
use Rattle.kripke_text_definitions.specs.KripkeText.{head_marks, kstatements}

-- ---- the first statement that is wrong or missing

-- some structure over the signature, of any size, has a text that begins with these statements
pub record BeginsSome (sig : Signature) (ss : List (List Plain)) : Type 0 where
  pub K : KripkeStructure
  pub over : IsOver sig K
  pub after : List (List Plain)
  pub begins : kstatements sig K ≡ ss ++ after

-- they are the text of some structure over the signature
pub record IsWhole (sig : Signature) (ss : List (List Plain)) : Type 0 where
  pub K : KripkeStructure
  pub over : IsOver sig K
  pub whole : kstatements sig K ≡ ss

-- with the next statement no text begins so; or there is no next one, and the text isn't whole
abbrev pub Faults : Signature → List (List Plain) → List (List Plain) → Type 0
Faults sig before [] = IsWhole sig before → ⊥
Faults sig before (s ∷ rest) = BeginsSome sig (before ++ s ∷ []) → ⊥

-- statement k, counted from 1, is the first with which no text begins so, or the first that is missing
pub record IsFormFault (sig : Signature) (tokens : List Plain) (k : ℕ) : Type 0 where
  pub before : List (List Plain)
  pub rest : List (List Plain)
  pub parts : statements tokens ≡ before ++ rest
  pub number : k ≡ suc (length before)
  pub begins : BeginsSome sig before
  pub fault : Faults sig before rest

-- ---- the limits, which are judged behind the head

-- how many statements the head has: the worlds, the actual world, and the elements of each sort
abbrev pub head_length : Signature → ℕ
head_length sig = 2 + length sig.sorts

-- the tokens begin with the head of a structure with so many worlds and these sizes
pub record HasHead (sig : Signature) (tokens : List Plain) (worlds : ℕ) (sizes : List ℕ) : Type 0 where
  pub K : KripkeStructure
  pub over : IsOver sig K
  pub worlds_are : K.worlds ≡ worlds
  pub sizes_are : K.sizes ≡ sizes
  pub rest : List (List Plain)
  pub begins : statements tokens ≡ map plains (head_marks sig K.worlds K.actual K.sizes) ++ rest

-- so many worlds and elements are within the limits
abbrev pub AreFew : Signature → ℕ → List ℕ → Type 0
AreFew sig worlds sizes = IsWithin worlds (cells_of (classical_signature_of sig) (worlds ∷ sizes))

-- why a token list is refused: a fault in the head comes before the limits, and one behind it after them
abbrev pub Explains : Signature → List Plain → KripkeTextError → Type 0
Explains sig tokens (Form k) = IsFormFault sig tokens k × (head_length sig < k → (worlds : ℕ) (sizes : List ℕ) → HasHead sig tokens worlds sizes → AreFew sig worlds sizes)
Explains sig tokens (TooManyWorlds n) = (sizes : List ℕ) × HasHead sig tokens n sizes × (65535 < n)
Explains sig tokens (TooBig c) = (worlds : ℕ) × (sizes : List ℕ) × HasHead sig tokens worlds sizes × (worlds ≤ 65535) × (c ≡ cells_of (classical_signature_of sig) (worlds ∷ sizes)) × (4194304 < c)
Explains sig tokens Memory = Unit {0}
