use Rattle.std.proofs.Common.{rules, subst, sym, ℕ, ◌+◌, ◌≡◌}
use Rattle.many_host_laws.specs.Closing.{HasRounds, KeepsSlots}
use Rattle.nvme_model.specs.declared.array.Range.{Range}
use Rattle.nvme_model.specs.declared.config.ConfigNumbers.{ConfigNumbers}
use Rattle.race_numbers.specs.Races.{race_config}
use Rattle.shared_system.specs.declared.system.HostPasses.{HostPasses}
use Rattle.shared_system.specs.declared.system.WorkerPasses.{WorkerPasses}
use Rattle.race.specs.Ended.{EndDown}
use Rattle.race.specs.Slots.{slots_of}
use Rattle.race.proofs.seeded_racing.raced.Goals as goal

pub closed-requires-clause-workers : goal.closed-requires-clause-workers
closed-requires-clause-workers g c =
    let callers = c.in_ok-callers.callers in
    let play = c.play_of-play.result in
    subst (λ (n : ℕ). EndDown (λ (w : WorkerPasses). w.caller.pass) c.in_ok-system.system.engine play (n + 1) n
    callers.workers.items) (sym c.in_ok-callers.ensures.counts.0) c.in_ok-callers.ensures.workers_end

pub closed-requires-clause-hosts : goal.closed-requires-clause-hosts
closed-requires-clause-hosts g c =
    let callers = c.in_ok-callers.callers in
    let play = c.play_of-play.result in
    subst (λ (n : ℕ). EndDown (λ (h : HostPasses). h.pass) c.in_ok-system.system.engine play (n + 1)
    (n + 1 + play.config.cqs) callers.hosts.items) (sym c.in_ok-callers.ensures.counts.0) c.in_ok-callers.ensures.hosts

pub returns-clause-config : goal.returns-clause-config
returns-clause-config g c =
    let e = c.play_of-play.ensures in
    let is : c.closed.result.config ≡ race_config c.args.race.now =
    subst (λ (d : ConfigNumbers). c.closed.result.config ≡ d) e.config c.closed.ensures.config in
    search rules

pub returns-clause-slots : goal.returns-clause-slots
returns-clause-slots g c =
    let e = c.play_of-play.ensures in
    let race = c.args.race.now in
    let is : KeepsSlots (race_config race) (slots_of race) c.closed.result.past =
    subst (λ (z : ConfigNumbers × Range). KeepsSlots z.0 z.1 c.closed.result.past)
    (λ i. (e.config i, e.slots i)) c.closed.ensures.slots in
    search rules

pub returns-clause-rounds : goal.returns-clause-rounds
returns-clause-rounds g c =
    let e = c.play_of-play.ensures in
    let race = c.args.race.now in
    let is : HasRounds (race_config race) (slots_of race) race.rounds c.closed.result.past =
    subst (λ (z : ConfigNumbers × Range × ℕ). HasRounds z.0 z.1 z.2 c.closed.result.past)
    (λ i. (e.config i, e.slots i, e.rounds i)) c.closed.ensures.rounds in
    search rules
