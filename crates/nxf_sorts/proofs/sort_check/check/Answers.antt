use Rattle.std.proofs.Common.{◌≡◌, ◌+◌, ◌^◌, ◌≤◌, length, Some, refl, ap, ◌∙◌, sym, subst, arith}
use Rattle.logic_spec.specs.Asked.{asked_by}
use Rattle.nxf_tree.specs.declared.profile.Profile.TheVariants as profiles
use Rattle.nxf_tree.specs.Profiles.{allowed_in, most_arguments}
use Rattle.nxf_tree.specs.declared.tree.Signature.{Signature}
use Rattle.nxf_tree.specs.FileDepth.{statement_list_depth}
use Rattle.nxf_tree.specs.SignatureOf.{signature_of}
use Rattle.nxf_tree.specs.WellFormed.{IsWellFormed}
use Rattle.signature_laws.proofs.ProfileLaw.{well-sorted}
use Rattle.numbered_definitions.specs.NamedForm.{all_named, formulas_of}
use Rattle.formula_cells.specs.Checked.{CheckedFile, IsChecked}
use Rattle.formula_cells.specs.Stored.{formulas_in}
use Rattle.nxf_sorts.proofs.CheckLemmas.{all_sorted, depth_is, few_statements, refused_by}
use Rattle.nxf_sorts.proofs.DepthLaw.{statements_shallow}
use Rattle.nxf_sorts.proofs.WellFormedLaw.{well_formed}
use Rattle.nxf_sorts.proofs.sort_check.check.Goals as goal

most : (allowed_in profiles.Problem).arguments ≡ 1000
unfolding most_arguments
most = refl

pub number_file-requires-clause-few : goal.number_file-requires-clause-few
number_file-requires-clause-few c = omega (arith, few_statements c.args.file.now.statements, c.requires.weight)

pub new-requires : goal.new-requires
new-requires c =
    let spec = asked_by c.args.spec.now in
    let file = c.args.file.now in
    let sig = signature_of spec file in
    let is : c.into_signature.result ≡ sig = c.into_signature.ensures.value ∙ c.in_ok-names.ensures.signature in
    let stored = formulas_in c.in_ok-cells.cells in
    let named = subst (λ s. all_named s stored ≡ Some (formulas_of file)) c.in_ok-names.ensures.signature c.in_ok-cells.ensures.formulas in
    let small = subst (λ (s : Signature). length s.sorts + length s.symbols + length s.indexes ≤ 2 ^ 31) is c.into_signature.ensures.small in
    let deep : c.greatest_depth-depth.result ≡ statement_list_depth file.statements = omega (arith, c.greatest_depth-depth.ensures, ap statement_list_depth c.as_slice.ensures, statements_shallow file.statements, c.requires.weight) in
    subst (λ s. IsChecked s stored c.greatest_depth-depth.result) (sym is) (record {
      well_formed = well_formed (allowed_in profiles.Problem) most spec file c.requires.spec c.requires.regular c.in_ok-cells.ensures.judged small;
      sorted = all_sorted sig 1 file.statements stored (well-sorted spec file c.in_ok-cells.ensures.judged) named;
      deepest = depth_is sig file.statements stored c.greatest_depth-depth.result deep named;
    })

pub returns-clause-well_formed : goal.returns-clause-well_formed
returns-clause-well_formed c =
    let is = c.into_signature.ensures.value ∙ c.in_ok-names.ensures.signature in
    let made = ap (λ (checked : CheckedFile). checked.signature) c.new.ensures in
    let small = subst (λ (s : Signature). length s.sorts + length s.symbols + length s.indexes ≤ 2 ^ 31) is c.into_signature.ensures.small in
    subst IsWellFormed (sym (made ∙ is)) (well_formed (allowed_in profiles.Problem) most (asked_by c.args.spec.now) c.args.file.now c.requires.spec c.requires.regular c.in_ok-cells.ensures.judged small)

pub returns-in_err-cells-clause-judged : goal.returns-in_err-cells-clause-judged
returns-in_err-cells-clause-judged c = refused_by _ _ _ c.from_residual-in_err-cells.ensures.1 c.in_err-cells.ensures.judged
