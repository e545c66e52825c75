use Rattle.thread_run.proofs.threads.run_threads.Given as goal

abbrev pub ghosts-run_team : goal.ghosts-run_team
ghosts-run_team g a = record { table = a.blank.table; run = a.blank.run }
