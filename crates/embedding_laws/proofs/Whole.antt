-- The theorem of the whole problem.
use Rattle.std.proofs.Common.{◌≡◌, Bool, true, false, refl, sym, ap, subst, ◌∙◌}
use Rattle.std.specs.Prelude.{◌&&◌}
use Rattle.nxf_tree.specs.declared.tree.Signature.{Signature}
use Rattle.nxf_tree.specs.declared.tree.File.{File}
use Rattle.std.specs.List.{list_all}
use Rattle.nxf_tree.specs.Structures.{KripkeStructure, ClassicalStructure, IsOver, Corresponds, kripke_model, classical_model}
use Rattle.nxf_tree.specs.Rows.{size_at}
use Rattle.nxf_tree.specs.ClassicalSignature.{classical_signature_of}
use Rattle.nxf_tree.specs.Conditions.{meets_frames, meets_domains, meets_terms}
use Rattle.nxf_tree.specs.Problem.{problem_of}
use Rattle.nxf_tree.specs.Countermodels.{IsKripkeCountermodel, IsClassicalCountermodel, meets_statement, meets_classical_statement}
use Rattle.name_laws.specs.Agreement.{Agrees}
use Rattle.embedding_laws.specs.Laws.{TransferTheorem, FormulaTheorem, AxiomsTheorem, EmbeddingTheorem, EqualWorlds, AgreementLaw}
use Rattle.name_laws.proofs.Tables.{structure_of, structures_agree, corresponding}
use Rattle.embedding_laws.proofs.ProblemLaw.{scope-law, problem-law}
use Rattle.embedding_laws.proofs.Free.{transfer_free}
use Rattle.embedding_laws.proofs.FrameLaw.{frame-law, frames-law}
use Rattle.embedding_laws.proofs.DomainLaw.{domains-law}
use Rattle.embedding_laws.proofs.TermLaw.{terms-law}
use Rattle.name_laws.proofs.OneForOne.{over_classical, Lifted, lifted, own_structure}

left : (a b : Bool) → a && b ≡ true → a ≡ true
left true b e = refl
left false b e = e

right : (a b : Bool) → a && b ≡ true → b ≡ true
right true b e = e
right false b e = absurd cc

both : (a b : Bool) → a ≡ true → b ≡ true → a && b ≡ true
both a b p q = λ i. p i && q i

module _ (sig : Signature) (file : File) (K : KripkeStructure) (over : IsOver sig K) where
  asked : list_all (meets_classical_statement (classical_model (classical_signature_of sig) (structure_of K))) (problem_of sig file).statements ≡ meets_frames sig (kripke_model sig K) && (meets_domains sig (kripke_model sig K) && (meets_terms sig (kripke_model sig K) && list_all (meets_statement (kripke_model sig K)) file.statements))
  asked = problem-law sig (kripke_model sig K) (classical_model (classical_signature_of sig) (structure_of K)) (structures_agree sig K over) file

  module _ (S : ClassicalStructure) (c : Corresponds K S) where
    asked-of : list_all (meets_classical_statement (classical_model (classical_signature_of sig) S)) (problem_of sig file).statements ≡ meets_frames sig (kripke_model sig K) && (meets_domains sig (kripke_model sig K) && (meets_terms sig (kripke_model sig K) && list_all (meets_statement (kripke_model sig K)) file.statements))
    asked-of = ap (λ T. list_all (meets_classical_statement (classical_model (classical_signature_of sig) T)) (problem_of sig file).statements) (corresponding K S c) ∙ asked

    to_kripke : IsClassicalCountermodel (classical_signature_of sig) (problem_of sig file) S → IsKripkeCountermodel sig file K
    to_kripke m =
        let all = sym asked-of ∙ m.statements in
        let rest = right _ _ all in
        let last = right _ _ rest in
        record {
          over = over;
          frames = left _ _ all;
          domains = left _ _ rest;
          terms = left _ _ last;
          statements = right _ _ last;
        }

    to_classical : IsKripkeCountermodel sig file K → IsClassicalCountermodel (classical_signature_of sig) (problem_of sig file) S
    to_classical m = record {
      over = over_classical sig K S over c;
      statements = asked-of ∙ both _ _ m.frames (both _ _ m.domains (both _ _ m.terms m.statements));
    }

-- facts on a structure's own correspondent are facts on each that corresponds
module _ (sig : Signature) (K : KripkeStructure) (over : IsOver sig K) (S : ClassicalStructure) (c : Corresponds K S) where
  pub agree : Agrees sig (kripke_model sig K) (classical_model (classical_signature_of sig) S)
  agree = subst (λ T. Agrees sig (kripke_model sig K) (classical_model (classical_signature_of sig) T)) (sym (corresponding K S c)) (structures_agree sig K over)

pub transfer_theorem : TransferTheorem
transfer_theorem sig K S over c f w d t e e2 s =
    transfer_free sig (kripke_model sig K) (classical_model (classical_signature_of sig) S) (agree sig K over S c) f w d t e e2 s

pub formula_theorem : FormulaTheorem
formula_theorem sig K S over c scope f =
    scope-law sig (kripke_model sig K) (classical_model (classical_signature_of sig) S) (agree sig K over S c) scope f

pub axioms_theorem : AxiomsTheorem
axioms_theorem sig K S over c = record {
  frame = frame-law sig (kripke_model sig K) (classical_model (classical_signature_of sig) S) (agree sig K over S c);
  frames = frames-law sig (kripke_model sig K) (classical_model (classical_signature_of sig) S) (agree sig K over S c);
  domains = domains-law sig (kripke_model sig K) (classical_model (classical_signature_of sig) S) (agree sig K over S c);
  terms = terms-law sig (kripke_model sig K) (classical_model (classical_signature_of sig) S) (agree sig K over S c);
}

pub embedding_theorem : EmbeddingTheorem
embedding_theorem sig file K S over c = (to_kripke sig file K over S c, to_classical sig file K over S c)

pub equal_worlds : EqualWorlds
equal_worlds sig file n = (
  λ h. (structure_of h.0, (embedding_theorem sig file h.0 (structure_of h.0) h.1.over (own_structure h.0)).1 h.1, h.2),
  λ h. let l : Lifted sig h.0 = lifted sig h.0 h.1.over in
      (l.kripke, (embedding_theorem sig file l.kripke h.0 l.over l.corresponds).0 h.1, sym (ap (λ sizes. size_at sizes 0) l.corresponds.sizes) ∙ h.2),
)

pub agreement : AgreementLaw
agreement sig K S over c = agree sig K over S c
