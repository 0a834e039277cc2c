use Rattle.std.proofs.Common.{◌≡◌, ◌+◌, [], drop, take}
use Rattle.std.specs.Prelude.{Some}
use Rattle.nxf_tree.specs.Faults.{first_fault}
use Rattle.nxf_tree.specs.Sorting.{modal_language}
use Rattle.nxf_tree.specs.SortFaults.{formula_statement_fault}
use Rattle.numbered_definitions.specs.NamedForm.{all_named, formulas_from}
use Rattle.formula_cells.specs.Stored.{formulas_in}
use Rattle.nxf_sorts.specs.steps.Statements.{KnowsFile}
use Rattle.nxf_sorts.proofs.statements.number_statements.Given as goal

abbrev pub invariant-loop-statement : goal.invariant-loop-statement
invariant-loop-statement l = record {
  faults :
      first_fault (λ before s. formula_statement_fault (modal_language l.names.signature) l.names.declared s) 1 [] l.statements
      ≡ first_fault (λ before s. formula_statement_fault (modal_language l.names.signature) l.names.declared s) (l.place + 1) (take l.statement-index l.statements) (drop l.statement-index l.statements);
  named : KnowsFile l.names.signature l.statements → all_named l.names.signature (formulas_in l.cells) ≡ Some (formulas_from 1 (take l.statement-index l.statements));
  place : l.place ≡ l.statement-index;
}
