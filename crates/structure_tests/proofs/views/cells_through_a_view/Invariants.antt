use Rattle.structure_tests.proofs.views.cells_through_a_view.Given as goal

-- the ledgers that the counters are made of
abbrev pub ghosts-read : goal.ghosts-read
ghosts-read g a = record { name = a.blank.name; parts = a.blank.parts }
