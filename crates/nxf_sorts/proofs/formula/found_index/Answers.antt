use Rattle.std.proofs.Common.{ap, sym, ◌∙◌}
use Rattle.std.specs.Prelude.{is_some}
use Rattle.nxf_tree.specs.Signature.{same_index, index_names}
use Rattle.name_laws.proofs.Spelling.{true-false}
use Rattle.name_laws.proofs.SameNames.{same_index-sym}
use Rattle.nxf_sorts.proofs.FormulaLemmas.{place_some, index_found}
use Rattle.nxf_sorts.proofs.formula.found_index.Goals as goal

pub returns-in-Some : goal.returns-in-Some
returns-in-Some c = λ known. index_found c.args.names.now.signature.indexes c.args.index.now c.in-Some.number (sym c.in-Some.ensures)

pub returns-in-None : goal.returns-in-None
returns-in-None c = λ known. absurd (true-false (sym (ap is_some c.in-None.ensures ∙ place_some same_index same_index-sym c.args.index.now (index_names c.args.names.now.signature.indexes) known)))
