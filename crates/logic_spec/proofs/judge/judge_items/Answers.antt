use Rattle.std.proofs.Common.{true, refl}
use Rattle.logic_spec.proofs.ListFaults.{from_start}
use Rattle.logic_spec.proofs.judge.judge_items.Goals as goal

pub loop-items-init : goal.loop-items-init
loop-items-init c = from_start c.args.setting (record { no_word = true; all_join = true; keys = c.new.result }) refl refl c.new.ensures c.args.items.now
