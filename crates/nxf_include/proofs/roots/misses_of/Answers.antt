use Rattle.std.proofs.Common.{ap, sym, ◌∙◌, Some}
use Rattle.std.proofs.lemmas.Option.{slice_get-map, slice_get-get_or}
use Rattle.nxf_include.proofs.roots.misses_of.Goals as goal

pub returns : goal.returns
returns g c =
    rw (slice_get-map, slice_get-map, slice_get-get_or c.args.libraries.now c.args.at c.index-libraries-at.result c.requires)
    (ap (λ b. Some (g.L.Library.shelf b).misses) (sym c.index-libraries-at.is) ∙ ap Some (sym c.misses.ensures))
