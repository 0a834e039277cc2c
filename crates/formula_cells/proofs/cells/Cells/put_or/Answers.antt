use Rattle.std.proofs.Common.{length, map, ap}
use Rattle.numbered_definitions.specs.declared.node.Node as node
use Rattle.formula_cells.specs.Stored.{node_at}
use Rattle.formula_cells.proofs.PuttingLemmas.{span_behind, parts_behind, node_is}
use Rattle.formula_cells.proofs.cells.Cells.put_or.Goals as goal

pub put_node-requires-clause-good : goal.put_node-requires-clause-good
put_node-requires-clause-good c = parts_behind c.args.self.now.kids c.args.parts.now c.next_span-span.result c.next_span-span.ensures c.args.self.now.cells (length c.args.self.now.cells) c.requires

pub returns-clause-put : goal.returns-clause-put
returns-clause-put c =
    node_is _ _ _ _ (ap (λ l. node.Or (map (node_at c.args.self.now) l)) (span_behind c.args.self.now.kids c.args.parts.now c.next_span-span.result c.next_span-span.ensures)) c.put_node.result c.put_node.ensures.put
