use Rattle.std.proofs.Common.{IsSome, None, arith, sym, ℕ}
use Rattle.driver_cas.proofs.Places.{place_known, place_there}
use Rattle.driver_cas.proofs.cid_table.CidTable.next_free.Goals as goal

pub returns-in_err-start-clause-none : goal.returns-in_err-start-clause-none
returns-in_err-start-clause-none c =
    rw c.from_residual.ensures (λ known.
    let there : IsSome {T = ℕ} None =
    rw (← c.in_err-start.ensures.value) at (place_there _ c.args.queue 0 known (omega arith)) in
    absurd (cc))

pub returns-in-Free-clause-known : goal.returns-in-Free-clause-known
returns-in-Free-clause-known c =
    place_known c.args.self.now.queues c.args.queue 0 c.in_ok-start.start (sym c.in_ok-start.ensures.value)
