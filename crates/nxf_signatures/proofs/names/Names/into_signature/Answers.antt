use Rattle.nxf_signatures.proofs.Small.{small_enough}
use Rattle.nxf_signatures.proofs.names.Names.into_signature.Goals as goal

pub returns-clause-small : goal.returns-clause-small
returns-clause-small c =
    small_enough c.self.inside.signature c.self.inside.tables.individual c.self.inside.tables.declarations.sorts.keys c.self.inside.tables.occurring.symbols.entries c.self.inside.tables.occurring.plain c.self.inside.tables.occurring.indexes.keys c.self.invariant
