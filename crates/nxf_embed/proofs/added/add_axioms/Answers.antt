use Rattle.std.proofs.Common.{◌++◌, ◌∙◌}
use Rattle.nxf_tree.specs.Problem.{axiom_statements}
use Rattle.nxf_embed.proofs.Numbering.{three-lists}
use Rattle.nxf_embed.proofs.added.add_axioms.Goals as goal

pub returns : goal.returns
returns c =
    three-lists c.in_ok-of_frames.of_frames c.in_ok-of_domains.of_domains c.in_ok-of_terms.of_terms
    c.args.statements.now c.add_numbered.new.statements c.add_numbered-2.new.statements c.add_numbered-3.new.statements c.in_ok-next.next c.in_ok-next-2.next
    c.in_ok-next.ensures.added c.in_ok-next.ensures.next c.in_ok-next-2.ensures.added c.in_ok-next-2.ensures.next c.in_ok-add_numbered.ensures.added
    ∙ (λ i. c.args.statements.now ++ axiom_statements 1 (c.in_ok-of_frames.ensures.written i ++ (c.in_ok-of_domains.ensures.written i ++ c.in_ok-of_terms.ensures.written i)))
