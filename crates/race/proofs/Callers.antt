-- The callers of a race go on by their turns.
use Rattle.std.proofs.Common.{List, Option, [], arith, length, subst, sym, ℕ, ◌+◌, ◌++◌, ◌-◌}
use Rattle.std.proofs.Common.{◌∙◌, ◌∷◌, ◌≡◌, ◌≤◌}
use Rattle.std.specs.Option.{option_to_list}
use Rattle.meet_lock.specs.Passes.{number}
use Rattle.shared_system.specs.Callers.{AreLastHosts, Continues, IsCallerOf, IsHostOf, IsLastPass, IsOneOf}
use Rattle.shared_system.specs.declared.system.CallerPasses.{CallerPasses}
use Rattle.shared_system.specs.declared.system.HostPasses.{HostPasses}
use Rattle.shared_system.specs.declared.system.System.{System}
use Rattle.shared_system.proofs.Going.{goes_same}
use Rattle.driver_cas.specs.Drivers.{made}
use Rattle.slot_log_laws.specs.Counts.{log_claims}
use Rattle.many_host_laws.specs.Closing.{HasClaimed, HasDone}
use Rattle.work_queue.specs.Engines.{EnginePass}
use Rattle.nvme_model.specs.declared.config.ConfigNumbers.{ConfigNumbers}
use Rattle.race_hosts.specs.Hosts.{rounds_begun}
use Rattle.race_hosts.specs.declared.host_threads.Play.{Play}
use Rattle.race_hosts.proofs.Playing.{first_claims}
use Rattle.race.specs.Ended.{HasEnded}
use Rattle.race.proofs.Ended.{served}
use Rattle.race.specs.declared.racers.Racer.{Racer}
use Rattle.race.specs.Racers.{IsRacer, racer_pass}
use Rattle.race.proofs.Each.{each_last, each_rest}

-- ---- servers

module _ {G : Type 0} (system : System G) (play : Play) where
  -- one that has seen nothing
  pub fresh_ended : (n : ℕ) (h : CallerPasses) → IsCallerOf system h
      → IsOneOf system play.config (n + 1 + play.config.cqs) h.pass → number h.pass ≤ n + 1
      → HasEnded system.engine play (n + 1) h.pass
  fresh_ended n h of one low = served system play n h h (goes_same system h of) one low

  -- one that goes on
  pub served_on : (servers : ℕ) (h k : CallerPasses) → Continues system h k → number h.pass ≤ servers
      → HasEnded system.engine play servers h.pass → HasEnded system.engine play servers k.pass
  served_on servers h k goes low x =
      let same = goes.same.1 in
      record {
        of = goes.of.0;
        config = goes.same.3 ∙ x.config;
        closing = record {
          all = goes.same.2 ∙ x.closing.all;
          served = λ _. goes.serves (x.closing.served low);
          hosted = λ high. absurd (omega (arith, high, same, low));
        };
        claimed = λ high. absurd (omega (arith, high, same, low));
      }

-- ---- hosts

module _ {G : Type 0} (system : System G) (play : Play) (servers : ℕ) where
  -- the pass of one whose rounds are over
  pub racer_ended : (r : Racer) (p : EnginePass) → IsRacer system play servers r → r.rounds.left ≡ 0
      → p ≡ racer_pass r → HasDone play.config play.slots r.host.queue r.host.queue (racer_pass r)
      → HasClaimed play.config play.slots r.host.queue (log_claims (made r.host.driver) play.slots.slba) (racer_pass r)
      → HasEnded system.engine play servers p
  racer_ended r p x over gave done claimed =
      let place = x.place in
      let some = x.hosting.queue.0 in
      let sum = x.sum in
      let q : r.host.queue ≡ number (racer_pass r) - servers = omega (arith, place) in
      let all : rounds_begun r.host ≡ play.rounds = omega (arith, sum, over) in
      subst (HasEnded system.engine play servers) (sym gave)
      (record {
        of = x.hosting.of;
        config = x.config;
        closing = record {
          all = x.all;
          served = λ below. absurd (omega (arith, below, place, some));
          hosted = λ above. subst (λ (i : ℕ). HasDone play.config play.slots i i (racer_pass r)) q done;
        };
        claimed = λ above. subst (λ (i : ℕ). HasClaimed play.config play.slots i play.rounds (racer_pass r)) q
            (claimed ∙ (first_claims r.host play.slots x.is.area ∙ all));
      })

-- ---- the last of the hosts' passes

module _ {G : Type 0} (system : System G) (c : ConfigNumbers) (all : ℕ) where
  pub last_host : (old new : List HostPasses) (h : HostPasses) → old ≡ new ++ h ∷ [] → AreLastHosts system c all old
      → IsHostOf system c h × (h.queue + length new ≡ c.cqs) × IsLastPass c all h
  last_host old new h items are =
      each_last (λ (k : ℕ) (x : HostPasses). IsHostOf system c x × (x.queue + k ≡ c.cqs) × IsLastPass c all x) old new h
      items are

  -- and those before it
  pub front_hosts : (old new : List HostPasses) (o : Option HostPasses) → old ≡ new ++ option_to_list o
      → AreLastHosts system c all old → AreLastHosts system c all new
  front_hosts old new o items are =
      each_rest (λ (k : ℕ) (x : HostPasses). IsHostOf system c x × (x.queue + k ≡ c.cqs) × IsLastPass c all x) old new o
      items are
