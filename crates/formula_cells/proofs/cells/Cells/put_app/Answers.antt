use Rattle.std.proofs.Common.{length, map, ap}
use Rattle.numbered_definitions.specs.declared.node.NTerm as term
use Rattle.formula_cells.specs.Stored.{term_at}
use Rattle.formula_cells.proofs.PuttingLemmas.{span_behind, arguments_behind, term_is}
use Rattle.formula_cells.proofs.cells.Cells.put_app.Goals as goal

pub put_term-requires-clause-good : goal.put_term-requires-clause-good
put_term-requires-clause-good c = arguments_behind c.args.self.now.kids c.args.args.now c.next_span-span.result c.next_span-span.ensures c.args.self.now.cells (length c.args.self.now.cells) c.requires

pub returns-clause-put : goal.returns-clause-put
returns-clause-put c =
    term_is _ _ _ _ (ap (λ l. term.App c.args.symbol (map (term_at c.args.self.now) l)) (span_behind c.args.self.now.kids c.args.args.now c.next_span-span.result c.next_span-span.ensures)) c.put_term.result c.put_term.ensures.put
