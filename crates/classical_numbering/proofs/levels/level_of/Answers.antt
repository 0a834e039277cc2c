use Rattle.std.proofs.Common.{◌≡◌, ◌+◌, ◌-◌, ◌<◌, [], length, drop, get_or, sym, ap, ◌∙◌, arith}
use Rattle.std.proofs.lemmas.List.{get_or_default}
use Rattle.nxf_tree.specs.Counting.{has}
use Rattle.nxf_tree.specs.Names.{same_text}
use Rattle.name_laws.proofs.Spelling.{same_text-true}
use Rattle.classical_numbering.proofs.LevelLemmas.{variable_at}
use Rattle.classical_numbering.proofs.levels.level_of.Goals as goal

pub returns-then-eq : goal.returns-then-eq
returns-then-eq c =
    let binders = c.args.binders.now in
    let name = c.args.name.now in
    let k = c.loop-level.level - 1 in
    let next : k + 1 ≡ c.loop-level.level = omega (arith, c.loop-level-test.true) in
    let within : k < length binders = omega (arith, c.loop-level-test.true, c.loop-level.auto.level) in
    let same : c.index-binders-level.result ≡ name = sym c.bytes.ensures ∙ same_text-true c.bytes.result.now c.bytes-in-loop-level.result.now (sym c.eq.ensures ∙ c.if-eq.true) ∙ c.bytes-in-loop-level.ensures in
    let at : get_or binders k [] ≡ name = sym (get_or_default binders k c.index-binders-level.result [] within) ∙ sym c.index-binders-level.is ∙ same in
    variable_at binders k name within at (ap (λ n. has same_text name (drop n binders)) next ∙ c.loop-level.invariant)
