use Rattle.std.proofs.Common.{◌∷◌, [], ap, sym, ◌∙◌}
use Rattle.fin_struct.specs.Cells.{cell}
use Rattle.kripke_text.specs.declared.subject.Subject.TheVariants.{Existence}
use Rattle.kripke_text.specs.steps.Lines.{shown}
use Rattle.kripke_text.specs.steps.Subjects.{table_of}
use Rattle.kripke_text.proofs.SubjectReads.{existence_has, existence_pair, existence_entry, exists_said, truth_said}
use Rattle.kripke_text.proofs.subject.line.Goals as goal

pub pair-world-requires : goal.pair-world-requires
pair-world-requires c = (existence_pair c.args.over.now c.args.kripke.now c.args.subject c.in-Existence.sort c.args.row.now c.requires.within c.requires.over c.in-Existence.is c.requires.subject_in c.requires.row_in).long

pub exists-requires : goal.exists-requires
exists-requires c =
    let entry = existence_entry c.args.over.now c.args.kripke.now c.args.subject c.in-Existence.sort c.pair-world.result.0 c.pair-world.result.1 c.args.row.now c.requires.within c.requires.over c.in-Existence.is c.requires.subject_in c.requires.row_in c.pair-world.ensures in
    record { sort_in = entry.sort_in; world_in = entry.world_in; element_in = entry.element_in }

pub returns-in-Existence : goal.returns-in-Existence
returns-in-Existence c =
    let view = c.args.kripke.now in
    let s = c.in-Existence.sort in
    let w = c.pair-world.result.0 in
    let a = c.pair-world.result.1 in
    let has = existence_has c.args.over.now c.args.kripke.now c.args.subject c.in-Existence.sort c.requires.within c.requires.over c.in-Existence.is c.requires.subject_in in
    let values = (existence_pair c.args.over.now c.args.kripke.now c.args.subject c.in-Existence.sort c.args.row.now c.requires.within c.requires.over c.in-Existence.is c.requires.subject_in c.requires.row_in).values in
    truth_said (table_of view (Existence s)) c.exists.result c.chosen-in-Existence.result (w ∷ a ∷ []) c.args.row.now values c.pair-world.ensures (exists_said view s w a c.exists.result has c.exists.ensures.cell) c.chosen-in-Existence.ensures
    ∙ ap (λ x. shown (table_of view x).values (cell (table_of view x) c.args.row.now)) (sym c.in-Existence.is)
