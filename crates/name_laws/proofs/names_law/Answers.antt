use Rattle.name_laws.proofs.Apart.{names_apart, variables_apart}
use Rattle.name_laws.proofs.NamesDiffer.{names-differ}
use Rattle.name_laws.proofs.Found.{found-law}
use Rattle.name_laws.proofs.names_law.Goals as goal

pub returns-clause-names : goal.returns-clause-names
returns-clause-names c = names_apart

pub returns-clause-variables : goal.returns-clause-variables
returns-clause-variables c = variables_apart

pub returns-clause-signatures : goal.returns-clause-signatures
returns-clause-signatures c = names-differ

pub returns-clause-found : goal.returns-clause-found
returns-clause-found c = found-law
