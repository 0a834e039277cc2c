-- Want of memory is no refusal of an interpretation.
use Rattle.std.proofs.Common.{◌≡◌, ℕ, Bool, true, false, List, Option, None, Some, Result, Err}
use Rattle.std.specs.Prelude.{nat_lt, if◌then◌else◌}
use Rattle.nxf_tree.specs.declared.tree.ClassicalSignature.{ClassicalSignature}
use Rattle.nxf_tree.specs.declared.tree.File.{File}
use Rattle.nxf_tree.specs.declared.tree.TableEntry.{TableEntry}
use Rattle.nxf_tree.specs.Rows.{size_at}
use Rattle.fin_struct.specs.Limits.{cells_of}
use Rattle.fin_struct.specs.StructureTables.{StructureTables}
use Rattle.interpretation_definitions.specs.declared.error.InterpError.{InterpError}
use Rattle.interpretation_definitions.specs.declared.error.InterpError.TheVariants as error
use Rattle.interpretation_definitions.specs.declared.fault.PartFault.{PartFault}
use Rattle.interpretation_definitions.specs.Context.{symbols_of}
use Rattle.interpretation_definitions.specs.Given.{given_by}
use Rattle.interpretation_definitions.specs.Interpretation.{GivenRows, completed, context_of_file, incomplete_from, interpretation_of, rows_given, sizes_of, unless_fault, within_limits}
use Rattle.interpretation_definitions.specs.Judging.{fault_in}
use Rattle.interpretation_definitions.specs.Parts.{all_parts}

abbrev IsNoMemory : Result StructureTables InterpError → Type 0
IsNoMemory answer = answer ≡ Err error.Memory → ⊥

of_complete : (sizes : List ℕ) (given : GivenRows) (tables : List TableEntry) (found : Option (List ℕ)) → IsNoMemory (completed sizes given tables found)
of_complete sizes given tables None h = cc
of_complete sizes given tables (Some name) h = cc

of_limits : (sizes : List ℕ) (given : GivenRows) (csig : ClassicalSignature) → IsNoMemory (within_limits sizes given csig)
of_limits sizes given csig = by (nat_lt 65535 (size_at sizes 0)) (nat_lt 4194304 (cells_of csig sizes))
  where
    last : Result StructureTables InterpError
    last = completed sizes given csig.tables (incomplete_from 0 sizes given (symbols_of csig))

    by : (a b : Bool) → IsNoMemory (if a then Err (error.TooManyWorlds (size_at sizes 0)) else (if b then Err (error.TooBig (cells_of csig sizes)) else last))
    by true b h = cc
    by false true h = cc
    by false false h = of_complete sizes given csig.tables (incomplete_from 0 sizes given (symbols_of csig)) h

of_fault : (fault : Option (ℕ × PartFault)) (more : Result StructureTables InterpError) → IsNoMemory more → IsNoMemory (unless_fault fault more)
of_fault None more none h = none h
of_fault (Some f) more none h = cc

pub no_memory : (csig : ClassicalSignature) (file : File) → interpretation_of csig file ≡ Err error.Memory → ⊥
no_memory csig file h =
    let context = context_of_file csig file.statements in
    let given = rows_given (given_by context (all_parts file.statements)) in
    of_fault (fault_in context file.statements) (within_limits (sizes_of context) given csig) (of_limits (sizes_of context) given csig) h
