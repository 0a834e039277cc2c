-- A file of Kripke text is read in exactly one way.
use Rattle.std.proofs.Common.{◌≡◌, ◌≢◌, ℕ, List, Result, Ok, Err, sym, ap, subst, ◌∙◌}
use mathlib.Core.Logic.{inl, inr}
use Rattle.nxf_base.specs.Exactly.{ExactlyOne}
use Rattle.nxf_base.specs.declared.status.Status.{Status}
use Rattle.nxf_base.specs.declared.status.Status.TheVariants as status
use Rattle.tptp_lex.specs.declared.token.Token.{Token}
use Rattle.tptp_lex.specs.Lexing.{Lexes}
use Rattle.tptp_lex.proofs.CallerLemmas.{one_lexing, no_bad_place, one_bad_place}
use Rattle.nxf_tree.specs.declared.tree.Signature.{Signature}
use Rattle.nxf_tree.specs.WellFormed.{HasSortsInRange}
use Rattle.nxf_tree.specs.Structures.{KripkeStructure}
use Rattle.plain_tokens.specs.PlainTokens.{plains_of}
use Rattle.kripke_text_definitions.specs.declared.error.KripkeTextError.{KripkeTextError}
use Rattle.kripke_text_definitions.specs.declared.error.KripkeTextError.TheVariants.{Memory}
use Rattle.kripke_text_definitions.specs.Reading.{AreFew, Explains}
use Rattle.kripke_text_laws.proofs.Equal.{equal-law}
use Rattle.kripke_text_laws.proofs.Refusals.{one-refusal, no-refusal}
use Rattle.gathering_laws.proofs.ExactlyOne.{exactly_one}
use Rattle.gathering_laws.proofs.SomeReading.{HasTokens, has_tokens}
use Rattle.answer_definitions.specs.KripkeFile.{SpellsStructure, ReadsStructure, not_lexed, not_text, read, status_of_text}
use Rattle.answer_laws.proofs.SomeText.{TextOrRefusal, text_or_refusal}

-- ---- there is a reading

by_text : (sig : Signature) (name bytes : List ℕ) (tokens : List Token) → Lexes bytes tokens → TextOrRefusal sig (plains_of bytes tokens) → (reading : Result KripkeStructure Status) × ReadsStructure sig name bytes reading
by_text sig name bytes tokens lexed (inl t) = (Ok t.K, read t.K (record { tokens = tokens; lexed = lexed; over = t.over; tokens_are = t.tokens_are }) t.few)
by_text sig name bytes tokens lexed (inr refused) = (Err (status_of_text refused.0), not_text tokens refused.0 lexed refused.1 refused.2)

by_tokens : (sig : Signature) (name bytes : List ℕ) → HasSortsInRange sig → HasTokens bytes → (reading : Result KripkeStructure Status) × ReadsStructure sig name bytes reading
by_tokens sig name bytes in_range (inl lexed) = by_text sig name bytes lexed.0 lexed.1 (text_or_refusal sig (plains_of bytes lexed.0) in_range)
by_tokens sig name bytes in_range (inr bad) = (Err (status.Lex name bad.0), not_lexed bad.0 bad.1)

pub some_reading : (sig : Signature) (name bytes : List ℕ) → HasSortsInRange sig → (reading : Result KripkeStructure Status) × ReadsStructure sig name bytes reading
some_reading sig name bytes in_range = by_tokens sig name bytes in_range (has_tokens bytes)

-- ---- and no other

module _ (sig : Signature) (bytes : List ℕ) where
  -- the tokens of the text of a structure are not refused
  not_both : (K : KripkeStructure) (tokens : List Token) (e : KripkeTextError) → SpellsStructure sig bytes K → AreFew sig K.worlds K.sizes → Lexes bytes tokens → Explains sig (plains_of bytes tokens) e → e ≢ Memory → ⊥
  not_both K tokens e text few lexed refused other =
      other (no-refusal sig K (plains_of bytes tokens) e text.over (ap (plains_of bytes) (one_lexing bytes tokens text.tokens lexed text.lexed) ∙ text.tokens_are) few refused)

  same_refusal : (tokens others : List Token) (e f : KripkeTextError) → Lexes bytes tokens → Lexes bytes others → Explains sig (plains_of bytes tokens) e → Explains sig (plains_of bytes others) f → e ≢ Memory → f ≢ Memory → e ≡ f
  same_refusal tokens others e f lexed also h k a b =
      one-refusal sig (plains_of bytes tokens) e f h (subst (λ ts. Explains sig (plains_of bytes ts) f) (one_lexing bytes others tokens also lexed) k) a b

  same_structure : (K L : KripkeStructure) → SpellsStructure sig bytes K → SpellsStructure sig bytes L → K ≡ L
  same_structure K L text other =
      equal-law sig K L text.over other.over (sym text.tokens_are ∙ ap (plains_of bytes) (one_lexing bytes text.tokens other.tokens text.lexed other.lexed) ∙ other.tokens_are)

pub one_reading : {sig : Signature} {name bytes : List ℕ} {r s : Result KripkeStructure Status} → ReadsStructure sig name bytes r → ReadsStructure sig name bytes s → r ≡ s
one_reading {name = name} {bytes = bytes} (not_lexed at bad) (not_lexed other worse) = ap (λ place. Err (status.Lex name place)) (one_bad_place bytes at other bad worse)
one_reading {bytes = bytes} (not_lexed at bad) (not_text tokens e lexed h other) = absurd (no_bad_place bytes tokens at lexed bad)
one_reading {bytes = bytes} (not_lexed at bad) (read K text few) = absurd (no_bad_place bytes text.tokens at text.lexed bad)
one_reading {bytes = bytes} (not_text tokens e lexed h other) (not_lexed at bad) = absurd (no_bad_place bytes tokens at lexed bad)
one_reading {sig = sig} {bytes = bytes} (not_text tokens e lexed h other) (not_text others f also k another) = ap (λ error. Err (status_of_text error)) (same_refusal sig bytes tokens others e f lexed also h k other another)
one_reading {sig = sig} {bytes = bytes} (not_text tokens e lexed h other) (read K text few) = absurd (not_both sig bytes K tokens e text few lexed h other)
one_reading {bytes = bytes} (read K text few) (not_lexed at bad) = absurd (no_bad_place bytes text.tokens at text.lexed bad)
one_reading {sig = sig} {bytes = bytes} (read K text few) (not_text tokens e lexed h other) = absurd (not_both sig bytes K tokens e text few lexed h other)
one_reading {sig = sig} {bytes = bytes} (read K text few) (read L other also) = ap Ok (same_structure sig bytes K L text other)

pub exactly_one_reading : (sig : Signature) (name bytes : List ℕ) → HasSortsInRange sig → ExactlyOne (ReadsStructure sig name bytes)
exactly_one_reading sig name bytes in_range = exactly_one (ReadsStructure sig name bytes) (some_reading sig name bytes in_range) (λ r s h k. one_reading h k)
