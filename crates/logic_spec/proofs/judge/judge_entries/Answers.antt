use Rattle.std.proofs.Common.{[], arith}
use Rattle.std.proofs.lemmas.Grind.{common_steps}
use Rattle.nxf_tree.specs.Specification.{entry_fault}
use Rattle.logic_spec.proofs.FirstFaults.{walked_is}
use Rattle.logic_spec.proofs.judge.judge_entries.Goals as goal

pub returns-in_err-judge_entry : goal.returns-in_err-judge_entry
returns-in_err-judge_entry c = rw (walked_is entry_fault 0 [] c.args.entries.now) (grind (arith, common_steps))

pub returns : goal.returns
returns c = rw (walked_is entry_fault 0 [] c.args.entries.now) (grind (arith, common_steps))
