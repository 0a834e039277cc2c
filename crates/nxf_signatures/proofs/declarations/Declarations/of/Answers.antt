use Rattle.std.proofs.lemmas.Grind.{take_at_read}
use Rattle.std.proofs.lemmas.List.Sums.{fold-append}
use Rattle.name_laws.proofs.Appended.{declared-append}
use Rattle.nxf_signatures.proofs.Lookups.{sort_texts-append}
use Rattle.nxf_signatures.proofs.declarations.Declarations.of.Goals as goal

pub loop-statement-preserved : goal.loop-statement-preserved
loop-statement-preserved c =
    let more = (take_at_read c.args.statements.now c.loop-statement.statement-index c.statement-item.result c.loop-statement-test.true).1 in
    record {
      sorts = rw (more, ← c.statement-item.is, sort_texts-append, fold-append, ← c.loop-statement.invariant.sorts) c.in_ok-note.ensures.sorts;
      symbols = rw (more, ← c.statement-item.is, declared-append, fold-append, ← c.loop-statement.invariant.symbols) c.in_ok-note.ensures.symbols;
    }
