use Rattle.logic_spec.specs.declared.spec.Spec.{Spec}
use Rattle.logic_spec.proofs.Tables.{tables_ask}
use Rattle.logic_spec.proofs.read.tables.Goals as goal

pub returns : goal.returns
returns c =
    let spec : Spec = record {
      place = c.args.place;
      domains = c.in_ok-domains.domains;
      designation = c.in_ok-designation.designation;
      terms = c.in_ok-terms.terms;
      modalities = c.in_ok-modalities.modalities;
      overrides = c.in_ok-overrides.overrides;
    } in
    tables_ask c.args.entries.now spec c.in_ok-domains.ensures c.in_ok-designation.ensures c.in_ok-terms.ensures c.in_ok-modalities.ensures c.in_ok-overrides.ensures
