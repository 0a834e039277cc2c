-- Structures of both kinds correspond one for one.
use Rattle.nxf_tree.specs.declared.tree.Signature.{Signature}
use Rattle.nxf_tree.specs.ClassicalSignature.{classical_signature_of}
use Rattle.name_laws.proofs.OneForOne.{one_classical, one_kripke}
use Rattle.fin_struct.specs.StructureTables.{StructureTables, classical_structure}
use Rattle.fin_struct.specs.KripkeTables.{KripkeTables, kripke_structure}
use Rattle.fin_struct.specs.Corresponding.{Agree, lowered, lifted}
use Rattle.fin_struct.proofs.CallerLemmas.{lowered-is, lowered-agrees, lowered-for, lifts}
use Rattle.structure_laws.specs.Correspondence.{IsKripkeOver, IsStructureOver, CorrespondenceLaw}
use Rattle.structure_laws.proofs.EqualStructures.{structures-determine}
use Rattle.structure_laws.proofs.KripkeLists.{kripke-law, kripkes-determine}

lower-law : (sig : Signature) (kripke : KripkeTables) → IsKripkeOver sig kripke → IsStructureOver sig (lowered kripke) × Agree kripke (lowered kripke)
lower-law sig kripke over = ((lowered-is kripke over.0, lowered-for sig kripke over.0 over.1), lowered-agrees kripke over.0)

lift-law : (sig : Signature) (structure : StructureTables) → IsStructureOver sig structure → IsKripkeOver sig (lifted sig structure) × Agree (lifted sig structure) structure
lift-law sig structure over = let made = lifts sig structure over.0 over.1 in ((made.is, made.for), made.agrees)

pub correspondence-law : CorrespondenceLaw
correspondence-law sig = record {
  lower = λ kripke over. lower-law sig kripke over;
  lift = λ structure over. lift-law sig structure over;
  one_structure = λ kripke s t so to c d. structures-determine (classical_signature_of sig) s t so.0 to.0 so.1 to.1 (one_classical (kripke_structure kripke) (classical_structure s) (classical_structure t) c d);
  one_kripke = λ structure k l ko lo c d.
      kripkes-determine sig k l ko.0 lo.0 ko.1 lo.1 (one_kripke sig (classical_structure structure) (kripke_structure k) (kripke_structure l) (kripke-law sig k ko.0 ko.1) (kripke-law sig l lo.0 lo.1) c d);
}
