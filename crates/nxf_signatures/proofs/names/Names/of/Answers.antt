use Rattle.std.proofs.Common.{refl, ap, ◌∙◌, arith}
use Rattle.nxf_tree.specs.Signature.{sort_names, symbol_names, index_names}
use Rattle.logic_spec.specs.Asked.{asked_by}
use Rattle.nxf_signatures.specs.Places.{sort_list, index_list}
use Rattle.nxf_signatures.proofs.FewNames.{fewer_names}
use Rattle.name_laws.proofs.Entries.{sorts_named, indexes_named}
use Rattle.nxf_signatures.proofs.TablesLaw.{symbols_named}
use Rattle.nxf_signatures.proofs.names.Names.of.Goals as goal

pub signature-requires : goal.signature-requires
signature-requires c = omega (arith, fewer_names c.args.file.now (asked_by c.args.spec.now) c.in_ok-tables.tables c.requires.spec c.in_ok-tables.ensures, c.requires.weight)

pub invariant_of-result : goal.invariant_of-result
invariant_of-result c = record {
  sorts = ap sort_names c.in_ok-signature.ensures.sorts ∙ sorts_named _ (λ s. refl) (sort_list c.in_ok-tables.tables.individual c.in_ok-tables.tables.declarations.sorts.keys);
  symbols = ap symbol_names c.in_ok-signature.ensures.symbols ∙ symbols_named (sort_list c.in_ok-tables.tables.individual c.in_ok-tables.tables.declarations.sorts.keys) (asked_by c.args.spec.now) c.in_ok-tables.tables.occurring.symbols.entries;
  indexes = ap index_names c.in_ok-signature.ensures.indexes ∙ indexes_named _ (λ i. refl) (index_list c.in_ok-tables.tables.occurring.plain c.in_ok-tables.tables.occurring.indexes.keys);
  small = omega (arith, fewer_names c.args.file.now (asked_by c.args.spec.now) c.in_ok-tables.tables c.requires.spec c.in_ok-tables.ensures, c.requires.weight);
}
