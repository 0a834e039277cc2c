use Rattle.interp_reader.proofs.fill.blank.Goals as goal

pub returns-in-Err-clause-refused : goal.returns-in-Err-clause-refused
returns-in-Err-clause-refused c = c.refusal.ensures c.args.over.now c.args.sizes.now c.in-Err.ensures.refused
