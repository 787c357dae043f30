use Rattle.std.proofs.Common.{None, refl}
use Rattle.race_hosts.proofs.Going.{goes_called, goes_far, goes_same}
use Rattle.race_hosts.proofs.claiming.polls.Goals as goal

pub returns-in-Pending-clause-goes : goal.returns-in-Pending-clause-goes
returns-in-Pending-clause-goes g c =
    goes_far _ _ (record c.args.host.now { driver = c.poll_claim.new.driver }) _
    (goes_called _ _ _ _ None (goes_same _ _ c.requires.own) refl refl refl c.poll_claim.ensures.slot_rules
    c.poll_claim.ensures.goes_on)
    c.busy_turn.ensures.goes

pub returns-else-eq-clause-goes : goal.returns-else-eq-clause-goes
returns-else-eq-clause-goes g c =
    goes_far _ _ (record c.args.host.now { driver = c.poll_claim.new.driver }) _
    (goes_called _ _ _ _ None (goes_same _ _ c.requires.own) refl refl refl c.poll_claim.ensures.slot_rules
    c.poll_claim.ensures.goes_on)
    c.busy_turn-in-Later.ensures.goes

pub busy_turn-requires-clause-stage : goal.busy_turn-requires-clause-stage
busy_turn-requires-clause-stage g c = (
  c.in-Pending.ensures.of,
  c.in-Pending.ensures.unreleased c.requires.own.slot_rules c.requires.of.1,
  (c.in-Pending.ensures.claims 0 c.requires.past).1,
)

pub busy_turn-requires-in-Later-clause-stage : goal.busy_turn-requires-in-Later-clause-stage
busy_turn-requires-in-Later-clause-stage g c = (
  c.in-Later.ensures.of,
  c.in-Later.ensures.unreleased c.requires.own.slot_rules c.requires.of.1,
  (c.in-Later.ensures.claims 0 c.requires.past).1,
)
