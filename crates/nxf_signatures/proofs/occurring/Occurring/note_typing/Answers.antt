use Rattle.std.proofs.Common.{ap, ◌∙◌, sym}
use Rattle.nxf_signatures.specs.steps.Tables.{uses_in, seen_in, and_occurrences, typing_occurrences}
use Rattle.nxf_signatures.proofs.occurring.Occurring.note_typing.Goals as goal

pub returns-in-Individual : goal.returns-in-Individual
returns-in-Individual c =
    let us = uses_in c.args.declarations.now.symbols.entries in
    c.note_sort.ensures us ∙ sym (ap (λ t. and_occurrences us (seen_in c.args.self.now) (typing_occurrences t)) c.in-Individual.is)
