-- From what is promised of tokens and of the text of a structure to what the second file is read as.
use Rattle.std.proofs.Common.{◌≡◌, ℕ, List, Ok, Err, refl, sym, subst}
use mathlib.Core.Logic.{inl, inr}
use Rattle.nxf_base.specs.declared.status.Status.{Status}
use Rattle.tptp_lex.specs.declared.token.Token.{Token}
use Rattle.tptp_lex.specs.Lexing.{Lexes}
use Rattle.nxf_tree.specs.declared.tree.Signature.{Signature}
use Rattle.fin_struct.specs.KripkeTables.{KripkeTables, kripke_structure}
use Rattle.structure_laws.proofs.KripkeLists.{kripke-law}
use Rattle.plain_tokens.specs.PlainTokens.{plains_of}
use Rattle.kripke_text_definitions.specs.declared.error.KripkeTextError.{KripkeTextError}
use Rattle.kripke_text_definitions.specs.declared.error.KripkeTextError.TheVariants.{Form, TooManyWorlds, TooBig, Memory}
use Rattle.kripke_text_definitions.specs.Reading.{Explains}
use Rattle.kripke_text_laws.proofs.Limits.{few_of}
use Rattle.kripke_text.specs.Texts.{IsTextOf}
use Rattle.answer_definitions.specs.Answer.{OrMemory}
use Rattle.answer_definitions.specs.KripkeFile.{ReadsStructure, not_lexed, not_text, read, status_of_text}
use Rattle.check_answer.specs.Lexing.{IsLexRefusal}

module _ (sig : Signature) (name bytes : List ℕ) where
  pub not_lexed_as : (s : Status) → OrMemory (IsLexRefusal name bytes) s → OrMemory (λ s. ReadsStructure sig name bytes (Err s)) s
  not_lexed_as s (inl refusal) = inl (subst (λ (t : Status). ReadsStructure sig name bytes (Err t)) (sym refusal.status_is) (not_lexed refusal.at refusal.bad))
  not_lexed_as s (inr e) = inr e

  module _ (tokens : List Token) (lexed : Lexes bytes tokens) where
    pub read_as : (view : KripkeTables) → IsTextOf sig view (plains_of bytes tokens) → ReadsStructure sig name bytes (Ok (kripke_structure view))
    read_as view text =
        read (kripke_structure view)
        (record { tokens = tokens; lexed = lexed; over = kripke-law sig view text.within text.over; tokens_are = text.tokens_are })
        (few_of sig view text.within text.over)

    refused_by : (e : KripkeTextError) → Explains sig (plains_of bytes tokens) e → OrMemory (λ s. ReadsStructure sig name bytes (Err s)) (status_of_text e)
    refused_by (Form k) h = inl (not_text tokens (Form k) lexed h (λ is. absurd cc))
    refused_by (TooManyWorlds n) h = inl (not_text tokens (TooManyWorlds n) lexed h (λ is. absurd cc))
    refused_by (TooBig n) h = inl (not_text tokens (TooBig n) lexed h (λ is. absurd cc))
    refused_by Memory h = inr refl

    pub refused_as : (e : KripkeTextError) (s : Status) → s ≡ status_of_text e → Explains sig (plains_of bytes tokens) e → OrMemory (λ s. ReadsStructure sig name bytes (Err s)) s
    refused_as e s is h = subst (OrMemory (λ s. ReadsStructure sig name bytes (Err s))) (sym is) (refused_by e h)
