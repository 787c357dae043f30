use Rattle.job_table.proofs.uncounted.find.Given as goal

abbrev pub ghosts-find_from : goal.ghosts-find_from
ghosts-find_from a = record { name = a.blank.name; parts = a.blank.parts }
