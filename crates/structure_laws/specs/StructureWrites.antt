-- A structure for a signature stays one where it is written.
use Rattle.std.specs.Prelude.{ℕ, List}
use Rattle.nxf_tree.specs.declared.tree.Signature.{Signature}
use Rattle.nxf_tree.specs.declared.tree.ClassicalSignature.{ClassicalSignature}
use Rattle.fin_struct.specs.Cells.{with_row}
use Rattle.fin_struct.specs.StructureTables.{StructureTables, IsFor}
use Rattle.fin_struct.specs.KripkeTables.{KripkeTables, IsKripkeFor, with_written}

-- where a cell is written, and where the actual world is
pub record StaysFor (csig : ClassicalSignature) (view : StructureTables) : Type 0 where
  pub written : (t : ℕ) (row : List ℕ) (value : ℕ) → IsFor csig (record view { tables = with_row view.tables t row value })
  pub moved : (world : ℕ) → IsFor csig (record view { actual = world })

pub record StaysKripkeFor (sig : Signature) (view : KripkeTables) : Type 0 where
  pub written : (t : ℕ) (row : List ℕ) (value : ℕ) → IsKripkeFor sig (with_written view t row value)
  pub moved : (world : ℕ) → IsKripkeFor sig (record view { actual = world })

abbrev pub StaysForLaw : Type 0
StaysForLaw = (csig : ClassicalSignature) (view : StructureTables) → IsFor csig view → StaysFor csig view

abbrev pub StaysKripkeForLaw : Type 0
StaysKripkeForLaw = (sig : Signature) (view : KripkeTables) → IsKripkeFor sig view → StaysKripkeFor sig view
