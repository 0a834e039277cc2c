use Rattle.evaluation_tests.proofs.judged.conjunction_of_a_hundred_thousand_atoms.Given as goal

-- the ledger that the counter is made of
abbrev pub ghosts-fault_in : goal.ghosts-fault_in
ghosts-fault_in g a = record { name = a.blank.name; parts = a.blank.parts }
