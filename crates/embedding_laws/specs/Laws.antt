-- What is proved of the meaning of problems: the embedding keeps countermodels, for every file in the profile, and what stands behind it.
use Rattle.std.specs.Prelude.{◌≡◌, ℕ, true, [], Ok}
use Rattle.nxf_tree.specs.declared.tree.Signature.{Signature}
use Rattle.nxf_tree.specs.declared.tree.File.{File}
use Rattle.nxf_tree.specs.declared.tree.IndexName.{IndexName}
use Rattle.nxf_tree.specs.declared.tree.Scope.{Scope}
use Rattle.nxf_tree.specs.declared.tree.Scheme.{Scheme}
use Rattle.nxf_tree.specs.declared.tree.Term.{Term}
use Rattle.nxf_tree.specs.declared.tree.Formula.{Formula}
use Rattle.std.specs.List.{list_all}
use Rattle.nxf_tree.specs.Kripke.{KripkeModel, Env, sat}
use Rattle.nxf_tree.specs.Classical.{ClassicalModel, csat}
use Rattle.nxf_tree.specs.Embedding.{st, embedded}
use Rattle.nxf_tree.specs.Conditions.{meets_scheme, meets_frames, meets_domains, meets_terms}
use Rattle.nxf_tree.specs.Axioms.{frame_axiom, frame_axioms, domain_axioms, term_axioms}
use Rattle.nxf_tree.specs.Rows.{under}
use Rattle.nxf_tree.specs.Structures.{KripkeStructure, ClassicalStructure, IsOver, Corresponds, kripke_model, classical_model}
use Rattle.nxf_tree.specs.ClassicalSignature.{classical_signature_of}
use Rattle.nxf_tree.specs.Problem.{problem_of}
use Rattle.nxf_tree.specs.Countermodels.{KeepsWorlds, KeepsCountermodels, holds_in}
use Rattle.nxf_tree.specs.Sorting.{IsWellSorted, FileIsOver}
use Rattle.nxf_tree.specs.WellFormed.{HasDifferentNames, HasSortsInRange}
use Rattle.embedding_laws.specs.Free.{StandsFor}
use Rattle.nxf_tree.specs.Profile.{Reading, reading_of}
use Rattle.name_laws.specs.Agreement.{Agrees}

-- transfer: a formula holds at a world exactly when its translation is true, where its free variables have the same values under their printed names
-- and the term stands for the world
abbrev pub TransferTheorem : Type 0
TransferTheorem =
    (sig : Signature) (K : KripkeStructure) (S : ClassicalStructure) → IsOver sig K → Corresponds K S
    → (f : Formula) (w d : ℕ) (t : Term) (e e2 : Env) → StandsFor f (classical_model (classical_signature_of sig) S) e e2 t w d
    → csat (classical_model (classical_signature_of sig) S) e2 (st sig t d f) ≡ sat (kripke_model sig K) w e f

-- a formula of a file holds where it counts exactly when its translation is true
abbrev pub FormulaTheorem : Type 0
FormulaTheorem =
    (sig : Signature) (K : KripkeStructure) (S : ClassicalStructure) → IsOver sig K → Corresponds K S
    → (scope : Scope) (f : Formula) → csat (classical_model (classical_signature_of sig) S) [] (embedded sig scope f) ≡ holds_in (kripke_model sig K) scope f

-- the axioms are true exactly where the conditions hold: each of a scheme, all of the frames, of the domains, and of the terms
pub record AxiomsMatch (sig : Signature) (K : KripkeModel) (S : ClassicalModel) : Type 0 where
  pub frame : (i : IndexName) (scheme : Scheme) → csat S [] (frame_axiom i scheme) ≡ meets_scheme scheme K.worlds (K.related i)
  pub frames : list_all (csat S []) (frame_axioms sig.indexes) ≡ meets_frames sig K
  pub domains : list_all (csat S []) (domain_axioms sig) ≡ meets_domains sig K
  pub terms : list_all (csat S []) (term_axioms sig) ≡ meets_terms sig K

abbrev pub AxiomsTheorem : Type 0
AxiomsTheorem =
    (sig : Signature) (K : KripkeStructure) (S : ClassicalStructure) → IsOver sig K → Corresponds K S
    → AxiomsMatch sig (kripke_model sig K) (classical_model (classical_signature_of sig) S)

-- the countermodels of the printed problem are those of the file, for every signature
abbrev pub EmbeddingTheorem : Type 0
EmbeddingTheorem = (sig : Signature) (file : File) → KeepsCountermodels sig file (problem_of sig file)

-- the file has a countermodel with n worlds exactly when the printed problem has one with n elements of `mk_world`
abbrev pub EqualWorlds : Type 0
EqualWorlds = (sig : Signature) (file : File) → KeepsWorlds sig file (problem_of sig file)

-- the printed problem of a well-sorted file declares the classical signature, and its formulas are closed and well sorted over it
abbrev pub FileLaw : Type 0
FileLaw = (sig : Signature) (file : File) → HasDifferentNames sig → HasSortsInRange sig → IsWellSorted sig file → FileIsOver (classical_signature_of sig) (problem_of sig file)

-- under its printed name, each relation, existence and symbol of the one structure is what it is in the other
abbrev pub AgreementLaw : Type 0
AgreementLaw =
    (sig : Signature) (K : KripkeStructure) (S : ClassicalStructure) → IsOver sig K → Corresponds K S
    → Agrees sig (kripke_model sig K) (classical_model (classical_signature_of sig) S)

-- the printed problem of a file is over its classical signature, and its countermodels are those of the file
pub record HasSameCountermodels (file : File) (sig : Signature) : Type 0 where
  pub over : FileIsOver (classical_signature_of sig) (problem_of sig file)
  pub same : KeepsCountermodels sig file (problem_of sig file)

-- the embedding theorem at the signature of the file, for every file in the profile
abbrev pub FileTheorem : Type 0
FileTheorem = (file : File) (p : Reading) → reading_of file ≡ Ok p → HasSameCountermodels file p.signature
