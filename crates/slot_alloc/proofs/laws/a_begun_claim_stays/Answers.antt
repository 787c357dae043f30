use Rattle.slot_alloc.proofs.Staying.{claiming_on, unreleased_on}
use Rattle.slot_alloc.proofs.laws.a_begun_claim_stays.Goals as goal

pub returns-clause-claiming : goal.returns-clause-claiming
returns-clause-claiming g c =
    λ released x kept of. claiming_on g.P.Port g.met.P.Port.goes_on c.args.old.now.value c.args.new.now
    c.args.claiming.now released x kept of

pub returns-clause-unreleased : goal.returns-clause-unreleased
returns-clause-unreleased g c =
    λ released x other of h.
    unreleased_on g.P.Port c.args.old.now.value c.args.new.now c.args.claiming.now released x other of h
