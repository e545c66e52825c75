use Rattle.test_thread_runs.proofs.in_turn.passes_in_turn.Given as goal

-- the name of the book that was just made
abbrev pub ghosts-closed_in_turn : goal.ghosts-closed_in_turn
ghosts-closed_in_turn g a = record { table = a.blank.table; run = a.blank.run }
