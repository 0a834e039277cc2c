use Rattle.std.proofs.Common.{ap, ◌∙◌}
use Rattle.std.specs.Option.{unwrap_or}
use Rattle.indexmap.proofs.MapLemmas.{OnOk-map}
use Rattle.nxf_tree.specs.declared.tree.SpecValue.{out-SpecValue}
use Rattle.nxf_tree.specs.Signature.{same_index}
use Rattle.logic_spec.specs.steps.Noting.{schemes_said}
use Rattle.nxf_tree.specs.Specification.{words_in}
use Rattle.logic_spec.specs.Asked.{override_of, text_of_index}
use Rattle.logic_spec.proofs.Tables.{noted}
use Rattle.logic_spec.proofs.read.note_scheme.Goals as goal

pub returns-in_ok-schemes-in-Index : goal.returns-in_ok-schemes-in-Index
returns-in_ok-schemes-in-Index c =
    let own = words_in (out-SpecValue c.args.entry.now.value) in
    rw c.in-Index.is (OnOk-map c.note_index.result _ _ (λ told words i.
    let before = override_of c.args.overrides.now (text_of_index i) in
    ap (λ o. unwrap_or o (schemes_said words)) (told i) ∙ rw c.in_ok-schemes-in-Index.ensures (noted schemes_said before (same_index c.in-Index.index i) own words)) c.note_index.ensures)
