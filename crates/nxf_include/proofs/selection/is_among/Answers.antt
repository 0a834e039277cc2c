use Rattle.std.proofs.Common.{◌∙◌, sym, ap}
use Rattle.syntax_definitions.specs.Gathered.{is_listed}
use Rattle.nxf_include.proofs.selection.is_among.Goals as goal

pub returns-in-Annotated : goal.returns-in-Annotated
returns-in-Annotated c = λ names h. c.contains.ensures ∙ h c.in-Annotated.name ∙ ap (is_listed names) (sym c.in-Annotated.is)
