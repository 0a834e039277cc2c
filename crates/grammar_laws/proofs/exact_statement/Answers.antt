use Rattle.grammar_laws.proofs.ExactStatements.{statement_found, statement_sound}
use Rattle.grammar_laws.proofs.exact_statement.Goals as goal

pub returns-clause-found : goal.returns-clause-found
returns-clause-found c = λ w most levels xs rest s d. statement_found d

pub returns-clause-sound : goal.returns-clause-sound
returns-clause-sound c = λ w most levels xs rest s h. statement_sound w most levels xs s rest h
