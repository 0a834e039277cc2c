use Rattle.std.proofs.Common.{◌≡◌, List, [], Some, ap, ◌∙◌, sym, subst}
use Rattle.std.specs.Option.{option_map, option_or}
use Rattle.logic_spec.specs.Asked.{asked_by}
use Rattle.nxf_tree.specs.declared.tree.File.{File}
use Rattle.nxf_tree.specs.declared.tree.Statement.{Statement}
use Rattle.nxf_tree.specs.Specification.{Specification}
use Rattle.nxf_tree.specs.Faults.{first_fault}
use Rattle.nxf_tree.specs.Sorting.{modal_language}
use Rattle.nxf_tree.specs.Occurrences.{declared}
use Rattle.nxf_tree.specs.SignatureOf.{firsts, same_symbol, signature_of}
use Rattle.nxf_tree.specs.SortFaults.{SortFault, type_statement_fault, formula_statement_fault, overrides_fault}
use Rattle.numbered_definitions.specs.NamedForm.{formulas_from}
use Rattle.nxf_signatures.specs.Naming.{Naming}
use Rattle.nxf_signatures.proofs.CallerLemmas.{type_first}
use Rattle.nxf_sorts.specs.steps.Numbering.{IsGoodSignature}
use Rattle.nxf_sorts.specs.steps.Statements.{KnowsFile}
use Rattle.signature_laws.proofs.SameFaults.{statements_same}
use Rattle.signature_laws.proofs.TypedSignature.{sorts_differ, indexes-known, typed_in_range}
use Rattle.nxf_sorts.proofs.CheckLemmas.{file_first, file_then, file_is, refused_by}
use Rattle.nxf_sorts.proofs.sort_check.number_file.Goals as goal

-- the names are those of the file, and the statements are its own: so their faults are
module _ (spec : Specification) (file : File) (names : Naming) (ss : List Statement) (is : names.signature ≡ signature_of spec file) (ss_is : ss ≡ file.statements) where
  typed_is : first_fault (type_statement_fault (modal_language names.signature)) 1 [] ss ≡ first_fault (type_statement_fault (modal_language (signature_of spec file))) 1 [] file.statements
  typed_is = λ i. first_fault (type_statement_fault (modal_language (is i))) 1 [] (ss_is i)

  numbered_is :
      names.declared ≡ firsts same_symbol (declared file.statements)
      → first_fault (λ (before : List Statement) (s : Statement). formula_statement_fault (modal_language names.signature) names.declared s) 1 [] ss
      ≡ first_fault (λ (before : List Statement) (s : Statement). formula_statement_fault (modal_language (signature_of spec file)) (declared file.statements) s) 1 [] file.statements
  numbered_is declared_is =
      (λ i. first_fault (λ (before : List Statement) (s : Statement). formula_statement_fault (modal_language (is i)) (declared_is i) s) 1 [] (ss_is i))
      ∙ statements_same (modal_language (signature_of spec file)) _ (declared file.statements) (type_first (declared file.statements)) 1 [] file.statements

pub number_statements-requires-clause-good : goal.number_statements-requires-clause-good
number_statements-requires-clause-good c =
    let spec = asked_by c.args.spec.now in
    let file = c.args.file.now in
    let typed = sym (typed_is spec file c.args.names.now _ c.requires.signature c.as_slice-statements.ensures) ∙ c.in_ok-judge_typings.ensures in
    subst IsGoodSignature (sym c.requires.signature) (record { different = sorts_differ spec file; in_range = typed_in_range spec file typed })

pub returns-in_err-judge_typings-clause-judged : goal.returns-in_err-judge_typings-clause-judged
returns-in_err-judge_typings-clause-judged c =
    let typed = typed_is (asked_by c.args.spec.now) c.args.file.now c.args.names.now _ c.requires.signature c.as_slice-statements.ensures in
    refused_by _ _ _ c.from_residual.ensures.1 (file_first _ _ _ (file_is _ _ _ (sym typed) c.in_err-judge_typings.ensures))

pub returns-in_err-cells-clause-judged : goal.returns-in_err-cells-clause-judged
returns-in_err-cells-clause-judged c =
    let spec = asked_by c.args.spec.now in
    let typed = sym (typed_is spec c.args.file.now c.args.names.now _ c.requires.signature c.as_slice-statements.ensures) ∙ c.in_ok-judge_typings.ensures in
    let numbered = numbered_is spec c.args.file.now c.args.names.now _ c.requires.signature c.as_slice-statements.ensures c.requires.declared in
    refused_by _ _ _ c.from_residual-in_err-cells.ensures.1 (file_then _ _ _ typed (file_first _ _ _ (file_is _ _ _ (sym numbered) c.in_err-cells.ensures)))

pub returns-in_err-judge_overrides-clause-judged : goal.returns-in_err-judge_overrides-clause-judged
returns-in_err-judge_overrides-clause-judged c =
    let spec = asked_by c.args.spec.now in
    let typed = sym (typed_is spec c.args.file.now c.args.names.now _ c.requires.signature c.as_slice-statements.ensures) ∙ c.in_ok-judge_typings.ensures in
    let numbered = sym (numbered_is spec c.args.file.now c.args.names.now _ c.requires.signature c.as_slice-statements.ensures c.requires.declared) ∙ c.in_ok-cells.ensures.no_fault in
    let asks : option_map (λ (f : SortFault). (c.place.result, f)) (overrides_fault (modal_language c.args.names.now.signature) c.overrides.result.now) ≡ option_map (λ (f : SortFault). (spec.place, f)) (overrides_fault (modal_language (signature_of spec c.args.file.now)) spec.overrides) =
    λ i. option_map (λ (f : SortFault). (c.place.ensures i, f)) (overrides_fault (modal_language (c.requires.signature i)) (c.overrides.ensures i)) in
    refused_by _ _ _ c.from_residual-in_err-judge_overrides.ensures.1 (file_then _ _ _ typed (file_then _ _ _ numbered (file_is _ _ _ (sym asks) c.in_err-judge_overrides.ensures)))

pub returns-clause-judged : goal.returns-clause-judged
returns-clause-judged c =
    let spec = asked_by c.args.spec.now in
    let typed = sym (typed_is spec c.args.file.now c.args.names.now _ c.requires.signature c.as_slice-statements.ensures) ∙ c.in_ok-judge_typings.ensures in
    let numbered = sym (numbered_is spec c.args.file.now c.args.names.now _ c.requires.signature c.as_slice-statements.ensures c.requires.declared) ∙ c.in_ok-cells.ensures.no_fault in
    let asks : option_map (λ (f : SortFault). (c.place.result, f)) (overrides_fault (modal_language c.args.names.now.signature) c.overrides.result.now) ≡ option_map (λ (f : SortFault). (spec.place, f)) (overrides_fault (modal_language (signature_of spec c.args.file.now)) spec.overrides) =
    λ i. option_map (λ (f : SortFault). (c.place.ensures i, f)) (overrides_fault (modal_language (c.requires.signature i)) (c.overrides.ensures i)) in
    λ i. option_or (typed i) (option_or (numbered i) ((sym asks ∙ c.in_ok-judge_overrides.ensures) i))

pub returns-clause-formulas : goal.returns-clause-formulas
returns-clause-formulas c =
    let known : KnowsFile c.args.names.now.signature c.as_slice-statements.result.now = rw (c.requires.signature, c.as_slice-statements.ensures) (indexes-known (asked_by c.args.spec.now) c.args.file.now) in
    c.in_ok-cells.ensures.named known ∙ ap (λ l. Some (formulas_from 1 l)) c.as_slice-statements.ensures
