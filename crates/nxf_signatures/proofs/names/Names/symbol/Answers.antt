use Rattle.std.proofs.Common.{ap, ◌∙◌, sym}
use Rattle.nxf_tree.specs.Names.{same_text}
use Rattle.indexmap.specs.IndexMap.{keys}
use Rattle.nxf_signatures.specs.Naming.{Naming}
use Rattle.nxf_signatures.specs.Places.{place, numbered_entry}
use Rattle.nxf_signatures.proofs.PlaceLemmas.{place_is, entry_there, entry_absent}
use Rattle.nxf_signatures.proofs.names.Names.symbol.Goals as goal

pub returns-in-Some : goal.returns-in-Some
returns-in-Some c =
    let f = c.args.name.now in
    let at = ap (place (same_text f)) c.self.invariant.symbols ∙ sym (place_is (same_text f) (keys c.self.inside.tables.occurring.symbols)) ∙ sym c.in-Some.ensures.index in
    sym (ap (λ (n : Naming). numbered_entry n.signature.symbols f) (sym c.self.view_is) ∙ entry_there c.self.inside.signature.symbols f c.in-Some.number c.get.result.now at c.get.ensures)

pub returns-in-None : goal.returns-in-None
returns-in-None c =
    let f = c.args.name.now in
    let at = ap (place (same_text f)) c.self.invariant.symbols ∙ sym (place_is (same_text f) (keys c.self.inside.tables.occurring.symbols)) ∙ sym c.in-None.ensures.index in
    sym (ap (λ (n : Naming). numbered_entry n.signature.symbols f) (sym c.self.view_is) ∙ entry_absent c.self.inside.signature.symbols f at)
