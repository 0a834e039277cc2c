-- What the bytes of a file are read as, by what is promised of its tokens, of its statements and of the structure that it gives.
use Rattle.std.proofs.Common.{◌≡◌, ◌≤◌, ◌<◌, ◌^◌, ℕ, List, [], ◌∷◌, length, Ok, Err, refl, sym, subst, arith}
use mathlib.Core.Logic.{inl, inr}
use Rattle.nxf_base.specs.declared.status.Status.{Status}
use Rattle.tptp_lex.specs.declared.token.Token.{Token}
use Rattle.nxf_tree.specs.declared.profile.Profile.TheVariants.{Interpretation}
use Rattle.nxf_tree.specs.declared.tree.ClassicalSignature.{ClassicalSignature}
use Rattle.nxf_tree.specs.declared.tree.File.{File}
use Rattle.nxf_tree.specs.declared.tree.Signature.{Signature}
use Rattle.nxf_tree.specs.declared.tree.Statement.{Statement}
use Rattle.nxf_tree.specs.declared.tree.Statement.TheVariants.{Annotated, Include}
use Rattle.nxf_tree.specs.ClassicalSignature.{classical_signature_of}
use Rattle.nxf_tree.specs.Structures.{Corresponds}
use Rattle.nxf_tree.specs.Weight.{statement_list_weight, file_weight}
use Rattle.syntax_definitions.specs.Spells.{Spells}
use Rattle.fin_struct.specs.KripkeTables.{KripkeTables, IsKripke, IsKripkeFor, kripke_structure}
use Rattle.fin_struct.specs.StructureTables.{StructureTables, classical_structure}
use Rattle.structure_laws.proofs.KripkeLists.{kripke-law}
use Rattle.interpretation_definitions.specs.Interpretation.{interpretation_of}
use Rattle.interpretation_definitions.specs.declared.error.InterpError.{InterpError}
use Rattle.interpretation_definitions.specs.declared.error.InterpError.TheVariants.{Kind, TooManyWorlds, TooBig, Memory}
use Rattle.interp_reader.specs.Refusals.{Refuses}
use Rattle.answer_definitions.specs.Answer.{OrMemory}
use Rattle.answer_definitions.specs.InterpretationFile.{ReadsInterpretation, not_lexed, not_read, not_given, given, status_of_interpretation}
use Rattle.lift_answer.specs.steps.Reading.{IsUnspelled, GivesNone}

-- ---- the statements

statements_fit : (ss : List Statement) → length ss ≤ statement_list_weight ss
statements_fit [] = omega arith
statements_fit (Annotated name role body ∷ ss) = omega (arith, statements_fit ss)
statements_fit (Include file names ∷ ss) = omega (arith, statements_fit ss)

-- a file that is loaded has few
pub few_statements : (file : File) (tokens : List Token) (bytes : List ℕ) → file_weight file ≤ length tokens → length tokens ≤ length bytes → length bytes ≤ 16777216 → length file.statements < 2 ^ 31
few_statements file tokens bytes weight few short = omega (arith, statements_fit file.statements, weight, few, short)

-- ---- the structure

-- it is refused as the definition says
pub gives_none : (sig : Signature) (file : File) (csig : ClassicalSignature) (e : InterpError) (s : Status) → csig ≡ classical_signature_of sig → s ≡ status_of_interpretation e
    → Refuses (interpretation_of csig file) e → OrMemory (GivesNone sig file) s
gives_none sig file csig (Kind kind) s same is h = inl (record { error = Kind kind; refused = subst (λ (c : ClassicalSignature). interpretation_of c file ≡ Err (Kind kind)) same h; status_is = is })
gives_none sig file csig (TooManyWorlds n) s same is h = inl (record { error = TooManyWorlds n; refused = subst (λ (c : ClassicalSignature). interpretation_of c file ≡ Err (TooManyWorlds n)) same h; status_is = is })
gives_none sig file csig (TooBig n) s same is h = inl (record { error = TooBig n; refused = subst (λ (c : ClassicalSignature). interpretation_of c file ≡ Err (TooBig n)) same h; status_is = is })
gives_none sig file csig Memory s same is h = inr is

-- ---- the whole

module _ (sig : Signature) (name bytes : List ℕ) where
  refused : {s t : Status} → s ≡ t → ReadsInterpretation sig name bytes (Err t) → ReadsInterpretation sig name bytes (Err s)
  refused is h = subst (λ (t : Status). ReadsInterpretation sig name bytes (Err t)) (sym is) h

  pub unspelled : (s : Status) → OrMemory (IsUnspelled name bytes) s → OrMemory (λ t. ReadsInterpretation sig name bytes (Err t)) s
  unspelled s (inl (inl r)) = inl (refused r.status_is (not_lexed r.at r.bad))
  unspelled s (inl (inr r)) = inl (refused r.status_is (not_read r.tokens r.place r.lexed r.fault))
  unspelled s (inr e) = inr e

  module _ (file : File) (spells : Spells Interpretation bytes file) where
    pub ungiven : (s : Status) → OrMemory (GivesNone sig file) s → OrMemory (λ t. ReadsInterpretation sig name bytes (Err t)) s
    ungiven s (inl r) = inl (refused r.status_is (not_given file r.error spells r.refused))
    ungiven s (inr e) = inr e

    pub read_as : (S : StructureTables) (K : KripkeTables) → interpretation_of (classical_signature_of sig) file ≡ Ok S → IsKripke K → IsKripkeFor sig K
        → Corresponds (kripke_structure K) (classical_structure S) → ReadsInterpretation sig name bytes (Ok (kripke_structure K))
    read_as S K is within over corresponds = given (kripke_structure K) (record {
      S = classical_structure S;
      gives = record { file = file; spells = spells; tables = S; given = is; structure_is = refl };
      over = kripke-law sig K within over;
      corresponds = corresponds;
    })
