use Rattle.step_book.proofs.seats.add_hold.Given as goal

-- the entries that are given
abbrev pub ghosts-add_hold_as : goal.ghosts-add_hold_as
ghosts-add_hold_as a = record { entries = a.entries.now }
