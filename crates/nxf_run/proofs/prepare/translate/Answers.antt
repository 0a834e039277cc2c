use Rattle.std.proofs.Common.{◌∙◌, ap}
use mathlib.Core.Logic.{inr}
use Rattle.std.proofs.lemmas.Result.{MatchResult-weaker}
use Rattle.nxf_tree.specs.Text.{text_of}
use Rattle.embedding_laws.proofs.FileTheorem.{file-theorem}
use Rattle.nxf_run.proofs.Reading.{translation, read_as}
use Rattle.nxf_run.proofs.prepare.translate.Goals as goal

pub returns-in-Ok-embed : goal.returns-in-Ok-embed
returns-in-Ok-embed c =
    let read = c.in-Ok.ensures in
    let is_read = read_as c.args.file c.in-Ok.reading.0 c.in-Ok.reading.1 read in
    MatchResult-weaker c.print.result c.print.ensures
    (λ text h. translation c.args.file file-theorem c.requires c.in-Ok.reading.0 c.in-Ok.reading.1 text.items read (h ∙ ap text_of (c.in-Ok-embed.ensures.written c.args.file is_read)))
    (λ s h. inr h)

pub print-requires : goal.print-requires
print-requires c = record { printable = c.in-Ok-embed.ensures.printable c.args.file (read_as c.args.file c.in-Ok.reading.0 c.in-Ok.reading.1 c.in-Ok.ensures) }
