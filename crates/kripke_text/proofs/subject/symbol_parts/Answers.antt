use Rattle.std.proofs.Common.{sym, ap, ◌∙◌, cond, ◌∷◌}
use Rattle.nxf_tree.specs.Signature.{takes_world}
use Rattle.kripke_text.proofs.SubjectReads.{symbol_there, world_room, row_there, predicate_row}
use Rattle.kripke_text.proofs.subject.symbol_parts.Goals as goal

pub split_row-requires : goal.split_row-requires
split_row-requires c = λ b.
    let there = symbol_there c.args.over.now c.args.kripke.now c.args.symbol c.requires.within c.requires.over c.requires.symbol_in in
    world_room c.args.over.now c.args.kripke.now c.args.symbol c.args.row.now there (sym (c.takes_world.ensures ∙ ap takes_world c.symbol_entry.ensures) ∙ b) c.requires.row_in

pub returns-clause-row : goal.returns-clause-row
returns-clause-row c =
    row_there c.args.over.now c.args.kripke.now c.args.symbol c.split_row.result.0 c.args.row.now c.split_row.result.1.now (symbol_there c.args.over.now c.args.kripke.now c.args.symbol c.requires.within c.requires.over c.requires.symbol_in)
    (c.split_row.ensures ∙ ap (λ b. cond b (c.split_row.result.0 ∷ c.split_row.result.1.now) c.split_row.result.1.now) (c.takes_world.ensures ∙ ap takes_world c.symbol_entry.ensures))

pub returns-clause-predicate : goal.returns-clause-predicate
returns-clause-predicate c =
    predicate_row c.args.over.now c.args.symbol c.split_row.result.0 c.args.row.now c.split_row.result.1.now
    (c.split_row.ensures ∙ ap (λ b. cond b (c.split_row.result.0 ∷ c.split_row.result.1.now) c.split_row.result.1.now) (c.takes_world.ensures ∙ ap takes_world c.symbol_entry.ensures))
