use Rattle.std.proofs.Common.{ap, sym, ◌∙◌, true≢false}
use Rattle.std.specs.Ordering.{nat_cmp}
use Rattle.std.specs.Cmp.Lexicographic.{slice_cmp, nat_list_cmp_total}
use Rattle.std.specs.FinMap as map
use Rattle.nxf_base.proofs.Scan.{found_first, found_later}
use Rattle.nxf_base.proofs.memory_library.find.Goals as goal

pub loop-key-init : goal.loop-key-init
loop-key-init c =
    map.get-from_entries nat_list_cmp_total _ _
    ∙ ap (map.find (slice_cmp nat_cmp) c.args.name.now) (sym c.into_iter-key-iterator.ensures.into_iter_gives.0)

pub returns-then-same : goal.returns-then-same
returns-then-same c =
    c.loop-key.invariant
    ∙ ap (map.find (slice_cmp nat_cmp) c.args.name.now) c.in-Some.ensures.steps
    ∙ found_first c.args.name.now c.in-Some.field-0.now _ (c.same.ensures.0 c.if-same.true)

pub loop-key-preserved : goal.loop-key-preserved
loop-key-preserved c =
    c.loop-key.invariant
    ∙ ap (map.find (slice_cmp nat_cmp) c.args.name.now) c.in-Some.ensures.steps
    ∙ found_later c.args.name.now c.in-Some.field-0.now _ (λ e. true≢false (sym (c.same.ensures.1 e) ∙ c.if-same.false))
