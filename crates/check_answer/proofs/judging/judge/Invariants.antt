use Rattle.check_answer.proofs.judging.judge.Given as goal

-- the ledger that the counter of steps is made of
abbrev pub ghosts-fault_of : goal.ghosts-fault_of
ghosts-fault_of a = record { name = a.blank.name; parts = a.blank.parts }
