use Rattle.fin_struct.proofs.CallerLemmas.{lists-tell, lists-fit, lists-determine}
use Rattle.structure_laws.proofs.row_lists_law.Goals as goal

pub returns : goal.returns
returns c = record {
  tell = lists-tell;
  fit = lists-fit;
  determine = lists-determine;
}
