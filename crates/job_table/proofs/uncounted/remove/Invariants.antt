use Rattle.job_table.proofs.uncounted.remove.Given as goal

abbrev pub ghosts-remove_from : goal.ghosts-remove_from
ghosts-remove_from a = record { name = a.blank.name; parts = a.blank.parts }
