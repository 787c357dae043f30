use Rattle.race_hosts.proofs.host_threads.start_host.Goals as goal

pub spawn_with-started-requires-clause-keeps : goal.spawn_with-started-requires-clause-keeps
spawn_with-started-requires-clause-keeps g c κs lives =
    rw (c.of.ensures, c.of-2.ensures, c.of-3.ensures) (λ r returned. returned)
