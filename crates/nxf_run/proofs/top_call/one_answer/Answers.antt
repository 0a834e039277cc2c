use Rattle.nxf_run.proofs.Answering.{exactly_one_answer}
use Rattle.nxf_run.proofs.top_call.one_answer.Goals as goal

pub returns : goal.returns
returns c = exactly_one_answer
