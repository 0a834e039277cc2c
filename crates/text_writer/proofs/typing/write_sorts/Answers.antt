use Rattle.text_writer.proofs.Starts.{starts_after, after_error}
use Rattle.text_writer.proofs.typing.write_sorts.Goals as goal

pub returns-in_err-write_sort-clause-kept : goal.returns-in_err-write_sort-clause-kept
returns-in_err-write_sort-clause-kept c =
    let held = starts_after c.loop-at.out.items c.put_between.new.out.items c.write_sort.new.out.items _ c.in_ok-put_between.ensures.text c.in_err-write_sort.ensures.kept in
    after_error c.from_residual-in_err-write_sort.result (starts_after c.args.out.now.items c.loop-at.out.items c.write_sort.new.out.items _ c.loop-at.invariant held)
