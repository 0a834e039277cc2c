use Rattle.kripke_text.proofs.SubjectReads.{existence_pair, existence_entry}
use Rattle.kripke_text.proofs.Writes.{existence_written}
use Rattle.kripke_text.proofs.read_table.write_line.Goals as goal

pub pair-world-requires : goal.pair-world-requires
pair-world-requires c = (existence_pair c.args.over.now c.args.kripke.now c.args.subject c.in-Existence.sort c.args.row.now c.requires.within c.requires.over c.in-Existence.is c.requires.subject_in c.requires.row_in).long

pub set_exists-requires : goal.set_exists-requires
set_exists-requires c =
    let entry = existence_entry c.args.over.now c.args.kripke.now c.args.subject c.in-Existence.sort c.pair-world.result.0 c.pair-world.result.1 c.args.row.now c.requires.within c.requires.over c.in-Existence.is c.requires.subject_in c.requires.row_in c.pair-world.ensures in
    record { sort_in = entry.sort_in; varying = entry.varying; world_in = entry.world_in; element_in = entry.element_in }

pub returns-in-Existence : goal.returns-in-Existence
returns-in-Existence c =
    existence_written c.args.over.now c.args.kripke.now c.set_exists.new.self c.args.subject c.in-Existence.sort c.args.number c.pair-world.result.0 c.pair-world.result.1 c.args.row.now c.requires.within c.requires.over c.in-Existence.is c.requires.subject_in c.requires.row_in c.pair-world.ensures c.set_exists.ensures.written
