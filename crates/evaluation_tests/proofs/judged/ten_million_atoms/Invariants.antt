use Rattle.evaluation_tests.proofs.judged.ten_million_atoms.Given as goal

-- the ledger that the counter is made of
abbrev pub ghosts-fault_in : goal.ghosts-fault_in
ghosts-fault_in g a = record { name = a.blank.name; parts = a.blank.parts }
