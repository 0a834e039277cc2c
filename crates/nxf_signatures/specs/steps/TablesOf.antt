-- What the tables of a file's names hold, by the definitions.
use Rattle.std.specs.Prelude.{◌≡◌, List, map, filter}
use Rattle.nxf_tree.specs.declared.tree.Statement.{Statement}
use Rattle.nxf_tree.specs.declared.tree.IndexName.TheVariants.{Named}
use Rattle.nxf_tree.specs.declared.tree.SortName.TheVariants.{User}
use Rattle.nxf_tree.specs.Occurrences.{indexes, declared, declared_sorts, occurrences_in}
use Rattle.nxf_tree.specs.Signature.{same_sort, same_index}
use Rattle.nxf_tree.specs.SignatureOf.{firsts, same_symbol, is_named, symbols_of, sorts_of_file, indexes_of_file}
use Rattle.nxf_signatures.specs.declared.tables.Tables.{Tables}
use Rattle.nxf_signatures.specs.steps.Tables.{uses_in}
use Rattle.nxf_signatures.specs.Places.{sort_list, index_list}

pub record AreTablesOf (ss : List Statement) (t : Tables) : Type 0 where
  pub declared : uses_in t.declarations.symbols.entries ≡ firsts same_symbol (declared ss)
  pub sorts : sort_list t.individual t.declarations.sorts.keys ≡ sorts_of_file ss
  pub symbols : uses_in t.occurring.symbols.entries ≡ symbols_of ss
  pub users : map User t.declarations.sorts.keys ≡ firsts same_sort (declared_sorts ss)
  pub named : map Named t.occurring.indexes.keys ≡ firsts same_index (filter is_named (indexes (occurrences_in ss)))
  pub indexes : index_list t.occurring.plain t.occurring.indexes.keys ≡ indexes_of_file ss
