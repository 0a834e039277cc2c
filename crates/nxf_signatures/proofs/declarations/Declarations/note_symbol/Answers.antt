use Rattle.std.proofs.Common.{sym}
use Rattle.nxf_tree.specs.Occurrences.{Use}
use Rattle.nxf_signatures.specs.steps.Tables.{uses_in}
use Rattle.nxf_signatures.proofs.Lookups.{put_there, put_new}
use Rattle.nxf_signatures.proofs.declarations.Declarations.note_symbol.Goals as goal

pub returns-in-Some-clause-symbols : goal.returns-in-Some-clause-symbols
returns-in-Some-clause-symbols c =
    let u : Use = record { name = c.args.name.now; type = record { args = c.args.args.now; gives = c.args.gives.now } } in
    sym (put_there (uses_in c.args.self.now.symbols.entries) u _ (sym c.in-Some.ensures))

pub returns-in_ok-kind-in-None-clause-symbols : goal.returns-in_ok-kind-in-None-clause-symbols
returns-in_ok-kind-in-None-clause-symbols c =
    let u : Use = record { name = c.args.name.now; type = record { args = c.args.args.now; gives = c.args.gives.now } } in
    rw (put_new (uses_in c.args.self.now.symbols.entries) u (sym c.in-None.ensures), ← c.in_ok-kind-in-None.ensures) c.push_symbol.ensures
