use Rattle.meet_lock.proofs.shared.Shared.recall.Given as goal

abbrev pub ghosts-look_back : goal.ghosts-look_back
ghosts-look_back g a = record { past = g.M.Machine.history a.self.now.table.shared.key.machine.value }
