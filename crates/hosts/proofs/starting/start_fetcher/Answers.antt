use Rattle.hosts.proofs.starting.start_fetcher.Goals as goal

pub spawn_with-started-requires-clause-keeps : goal.spawn_with-started-requires-clause-keeps
spawn_with-started-requires-clause-keeps g c κs lives = rw (c.of.ensures, c.of-2.ensures) (λ r goes. goes)
