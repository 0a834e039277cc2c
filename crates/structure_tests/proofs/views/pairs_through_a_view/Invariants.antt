use Rattle.structure_tests.proofs.views.pairs_through_a_view.Given as goal

-- the ledgers that the counters are made of
abbrev pub ghosts-is_serial : goal.ghosts-is_serial
ghosts-is_serial g a = record { name = a.blank.name; parts = a.blank.parts }
