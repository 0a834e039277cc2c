-- A file of an interpretation is read in exactly one way.
use Rattle.std.proofs.Common.{◌≡◌, ℕ, List, Result, Ok, Err, refl, sym, ap, subst, ◌∙◌}
use mathlib.Core.Logic.{inl, inr}
use Rattle.nxf_base.specs.Exactly.{ExactlyOne}
use Rattle.nxf_base.specs.declared.status.Status.{Status}
use Rattle.nxf_base.specs.declared.status.Status.TheVariants as status
use Rattle.tptp_lex.specs.declared.token.Token.{Token}
use Rattle.tptp_lex.specs.Lexing.{Lexes}
use Rattle.tptp_lex.proofs.CallerLemmas.{one_lexing, no_bad_place, one_bad_place}
use Rattle.nxf_tree.specs.declared.profile.Profile.TheVariants.{Interpretation}
use Rattle.nxf_tree.specs.declared.tree.File.{File}
use Rattle.nxf_tree.specs.declared.tree.Signature.{Signature}
use Rattle.nxf_tree.specs.ClassicalSignature.{classical_signature_of}
use Rattle.nxf_tree.specs.Structures.{KripkeStructure, ClassicalStructure, Corresponds}
use Rattle.nxf_tree.specs.WellFormed.{HasSortsInRange}
use Rattle.name_laws.proofs.OneForOne.{one_kripke}
use Rattle.syntax_definitions.specs.Spells.{Spells, IsFirstFault}
use Rattle.fin_struct.specs.StructureTables.{StructureTables, classical_structure}
use Rattle.fin_struct.specs.KripkeTables.{kripke_structure}
use Rattle.fin_struct.specs.Corresponding.{lifted}
use Rattle.structure_laws.proofs.CorrespondenceLemmas.{correspondence-law}
use Rattle.structure_laws.proofs.KripkeLists.{kripke-law}
use Rattle.grammar_laws.proofs.ExactFiles.{one_file_spelled, no_file, one_fault}
use Rattle.gathering_laws.proofs.ExactlyOne.{exactly_one}
use Rattle.gathering_laws.proofs.SomeReading.{HasTokens, has_tokens, HasFile, has_file}
use Rattle.interpretation_definitions.specs.Interpretation.{interpretation_of}
use Rattle.interpretation_definitions.specs.declared.error.InterpError.{InterpError}
use Rattle.interp_reader.proofs.CallerLemmas.{structure_is}
use Rattle.answer_definitions.specs.InterpretationFile.{GivesClassical, GivesStructure, ReadsInterpretation, not_lexed, not_read, not_given, given, status_of_interpretation}
use Rattle.answer_laws.proofs.SortsInRange.{sorts_in_range}

-- ---- there is a reading

-- the structure that corresponds to the one that is given
pub some_structure : (sig : Signature) (bytes : List ℕ) (S : ClassicalStructure) → HasSortsInRange sig → GivesClassical sig bytes S → (K : KripkeStructure) × GivesStructure sig bytes K × Corresponds K S
some_structure sig bytes S in_range gives =
    let is = structure_is (classical_signature_of sig) gives.file gives.tables (sorts_in_range sig in_range) gives.given in
    let made = (correspondence-law sig).lift gives.tables is in
    let K = kripke_structure (lifted sig gives.tables) in
    let corresponds = subst (Corresponds K) (sym gives.structure_is) made.1 in
    (K, record { S = S; gives = gives; over = kripke-law sig (lifted sig gives.tables) made.0.0 made.0.1; corresponds = corresponds }, corresponds)

module _ (sig : Signature) (name bytes : List ℕ) (in_range : HasSortsInRange sig) where
  by_given : (file : File) → Spells Interpretation bytes file → (answer : Result StructureTables InterpError) → interpretation_of (classical_signature_of sig) file ≡ answer
      → (reading : Result KripkeStructure Status) × ReadsInterpretation sig name bytes reading
  by_given file spells (Err e) is = (Err (status_of_interpretation e), not_given file e spells is)
  by_given file spells (Ok tables) is =
      let k = some_structure sig bytes (classical_structure tables) in_range (record { file = file; spells = spells; tables = tables; given = is; structure_is = refl }) in
      (Ok k.0, given k.0 k.1)

  by_file : (tokens : List Token) → Lexes bytes tokens → HasFile Interpretation bytes tokens → (reading : Result KripkeStructure Status) × ReadsInterpretation sig name bytes reading
  by_file tokens lexed (inl (file, spell)) = by_given file (tokens, lexed, spell) (interpretation_of (classical_signature_of sig) file) refl
  by_file tokens lexed (inr (k, fault)) = (Err (status.Syntax name k), not_read tokens k lexed fault)

  by_tokens : HasTokens bytes → (reading : Result KripkeStructure Status) × ReadsInterpretation sig name bytes reading
  by_tokens (inl (tokens, lexed)) = by_file tokens lexed (has_file Interpretation bytes tokens)
  by_tokens (inr (at, bad)) = (Err (status.Lex name at), not_lexed at bad)

  pub some_interpretation : (reading : Result KripkeStructure Status) × ReadsInterpretation sig name bytes reading
  some_interpretation = by_tokens (has_tokens bytes)

-- ---- and no other

module _ (sig : Signature) (bytes : List ℕ) where
  -- bytes that spell a file have no first fault
  spelled_or_not : (file : File) → Spells Interpretation bytes file → (tokens : List Token) (k : ℕ) → Lexes bytes tokens → IsFirstFault Interpretation bytes tokens k → ⊥
  spelled_or_not file s tokens k lexed fault =
      no_file s.2 (subst (λ (ts : List Token). IsFirstFault Interpretation bytes ts k) (one_lexing bytes tokens s.0 lexed s.1) fault)

  same_fault : (tokens others : List Token) (j k : ℕ) → Lexes bytes tokens → Lexes bytes others → IsFirstFault Interpretation bytes tokens j → IsFirstFault Interpretation bytes others k → j ≡ k
  same_fault tokens others j k lexed also f g =
      one_fault f (subst (λ (ts : List Token). IsFirstFault Interpretation bytes ts k) (one_lexing bytes others tokens also lexed) g)

  -- bytes spell one file, which gives one structure, or is refused
  same_given : (file other : File) → Spells Interpretation bytes file → Spells Interpretation bytes other → interpretation_of (classical_signature_of sig) file ≡ interpretation_of (classical_signature_of sig) other
  same_given file other s t = ap (interpretation_of (classical_signature_of sig)) (one_file_spelled Interpretation bytes file other s t)

  given_or_not : (S : ClassicalStructure) (file : File) (e : InterpError) → GivesClassical sig bytes S → Spells Interpretation bytes file → interpretation_of (classical_signature_of sig) file ≡ Err e → ⊥
  given_or_not S file e g s is = let both = sym g.given ∙ same_given g.file file g.spells s ∙ is in cc

  same_refusal : (file other : File) (e f : InterpError) → Spells Interpretation bytes file → Spells Interpretation bytes other → interpretation_of (classical_signature_of sig) file ≡ Err e → interpretation_of (classical_signature_of sig) other ≡ Err f → e ≡ f
  same_refusal file other e f s t is so = let both = sym is ∙ same_given file other s t ∙ so in cc

  pub same_classical : (S T : ClassicalStructure) → GivesClassical sig bytes S → GivesClassical sig bytes T → S ≡ T
  same_classical S T g h =
      let both = sym g.given ∙ same_given g.file h.file g.spells h.spells ∙ h.given in
      let same : g.tables ≡ h.tables = cc in
      g.structure_is ∙ ap classical_structure same ∙ sym h.structure_is

  same_structure : (K L : KripkeStructure) → GivesStructure sig bytes K → GivesStructure sig bytes L → K ≡ L
  same_structure K L g h =
      one_kripke sig g.S K L g.over h.over g.corresponds (subst (Corresponds L) (same_classical h.S g.S h.gives g.gives) h.corresponds)

pub one_interpretation : {sig : Signature} {name bytes : List ℕ} {r s : Result KripkeStructure Status} → ReadsInterpretation sig name bytes r → ReadsInterpretation sig name bytes s → r ≡ s
one_interpretation {name = name} {bytes = bytes} (not_lexed at bad) (not_lexed other worse) = ap (λ place. Err (status.Lex name place)) (one_bad_place bytes at other bad worse)
one_interpretation {bytes = bytes} (not_lexed at bad) (not_read tokens k lexed fault) = absurd (no_bad_place bytes tokens at lexed bad)
one_interpretation {bytes = bytes} (not_lexed at bad) (not_given file e s is) = absurd (no_bad_place bytes s.0 at s.1 bad)
one_interpretation {bytes = bytes} (not_lexed at bad) (given K g) = let s = g.gives.spells in absurd (no_bad_place bytes s.0 at s.1 bad)
one_interpretation {bytes = bytes} (not_read tokens k lexed fault) (not_lexed at bad) = absurd (no_bad_place bytes tokens at lexed bad)
one_interpretation {sig = sig} {name = name} {bytes = bytes} (not_read tokens j lexed fault) (not_read others k also other) = ap (λ place. Err (status.Syntax name place)) (same_fault sig bytes tokens others j k lexed also fault other)
one_interpretation {sig = sig} {bytes = bytes} (not_read tokens k lexed fault) (not_given file e s is) = absurd (spelled_or_not sig bytes file s tokens k lexed fault)
one_interpretation {sig = sig} {bytes = bytes} (not_read tokens k lexed fault) (given K g) = absurd (spelled_or_not sig bytes g.gives.file g.gives.spells tokens k lexed fault)
one_interpretation {bytes = bytes} (not_given file e s is) (not_lexed at bad) = absurd (no_bad_place bytes s.0 at s.1 bad)
one_interpretation {sig = sig} {bytes = bytes} (not_given file e s is) (not_read tokens k lexed fault) = absurd (spelled_or_not sig bytes file s tokens k lexed fault)
one_interpretation {sig = sig} {bytes = bytes} (not_given file e s is) (not_given other f t so) = ap (λ error. Err (status_of_interpretation error)) (same_refusal sig bytes file other e f s t is so)
one_interpretation {sig = sig} {bytes = bytes} (not_given file e s is) (given K g) = absurd (given_or_not sig bytes g.S file e g.gives s is)
one_interpretation {bytes = bytes} (given K g) (not_lexed at bad) = let s = g.gives.spells in absurd (no_bad_place bytes s.0 at s.1 bad)
one_interpretation {sig = sig} {bytes = bytes} (given K g) (not_read tokens k lexed fault) = absurd (spelled_or_not sig bytes g.gives.file g.gives.spells tokens k lexed fault)
one_interpretation {sig = sig} {bytes = bytes} (given K g) (not_given file e s is) = absurd (given_or_not sig bytes g.S file e g.gives s is)
one_interpretation {sig = sig} {bytes = bytes} (given K g) (given L h) = ap Ok (same_structure sig bytes K L g h)

pub exactly_one_interpretation : (sig : Signature) (name bytes : List ℕ) → HasSortsInRange sig → ExactlyOne (ReadsInterpretation sig name bytes)
exactly_one_interpretation sig name bytes in_range = exactly_one (ReadsInterpretation sig name bytes) (some_interpretation sig name bytes in_range) (λ r s h k. one_interpretation h k)
