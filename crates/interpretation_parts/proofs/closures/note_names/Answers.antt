use Rattle.std.proofs.Common.{◌≡◌, Bor, List, ℕ, take, subst, sym}
use Rattle.std.specs.Prelude.{◌||◌}
use Rattle.indexmap.specs.IndexSet.{insert_all}
use Rattle.nxf_tree.specs.Names.{same_text}
use Rattle.interpretation_parts.specs.steps.Readings.{texts}
use Rattle.interpretation_parts.specs.steps.Tables.{repeated}
use Rattle.interpretation_parts.proofs.SeenLemmas.{mapped_more, seen_next, repeat_next}
use Rattle.interpretation_parts.proofs.closures.note_names.Goals as goal

pub loop-name-preserved : goal.loop-name-preserved
loop-name-preserved c =
    let initial = c.args.listed.now.keys in
    let i = c.loop-name.name-index in
    let done = texts (take i c.args.names.now) in
    let more = mapped_more (λ (name : Bor (List ℕ)). name.now) c.args.names.now i c.name-item.result c.name-item.result c.loop-name-test.true c.name-item.is in
    record {
      listed = subst (λ l. c.note_name.new.listed.keys ≡ insert_all same_text initial l) (sym more)
          (seen_next initial c.loop-name.listed.keys c.note_name.new.listed.keys done c.name-item.result.now c.in_ok-copy.copy c.loop-name.invariant.listed c.in_ok-copy.ensures c.in_ok-known.ensures.keys);
      repeat = subst (λ l. c.loop-name.repeat || c.in_ok-known.known ≡ repeated initial l) (sym more)
          (repeat_next initial c.loop-name.listed.keys done c.name-item.result.now c.in_ok-copy.copy c.loop-name.repeat c.in_ok-known.known c.loop-name.invariant.listed c.in_ok-copy.ensures c.loop-name.invariant.repeat c.in_ok-known.ensures.known);
    }
