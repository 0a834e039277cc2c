use Rattle.nxf_include.proofs.CallerLemmas.{Keeps-same}
use Rattle.nxf_run.proofs.prepare.prepare.Goals as goal

pub returns-in-Later-clause-keeps : goal.returns-in-Later-clause-keeps
returns-in-Later-clause-keeps g c = Keeps-same _

pub returns-in-Unknown-clause-keeps : goal.returns-in-Unknown-clause-keeps
returns-in-Unknown-clause-keeps g c = Keeps-same _
