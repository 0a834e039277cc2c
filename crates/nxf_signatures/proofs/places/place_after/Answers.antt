use Rattle.std.proofs.Common.{true, false, ap, ◌∙◌}
use Rattle.std.specs.Option.{option_map}
use Rattle.nxf_tree.specs.Names.{same_text}
use Rattle.nxf_signatures.specs.Places.{shifted}
use Rattle.nxf_signatures.proofs.PlaceLemmas.{place_is}
use Rattle.nxf_signatures.proofs.places.place_after.Goals as goal

pub returns-then-first-clause-value : goal.returns-then-first-clause-value
returns-then-first-clause-value c =
    rw c.if-first.true (ap (option_map (shifted true)) (c.in-Some.ensures.index ∙ place_is (same_text c.args.text.now) c.args.texts.now.keys))

pub returns-else-first-clause-value : goal.returns-else-first-clause-value
returns-else-first-clause-value c =
    rw c.if-first.false (ap (option_map (shifted false)) (c.in-Some.ensures.index ∙ place_is (same_text c.args.text.now) c.args.texts.now.keys))

pub returns-in-None-clause-value : goal.returns-in-None-clause-value
returns-in-None-clause-value c =
    ap (option_map (shifted c.args.first)) (c.in-None.ensures.index ∙ place_is (same_text c.args.text.now) c.args.texts.now.keys)
