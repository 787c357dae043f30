use Rattle.std.proofs.Common.{arith, subst, sym, ℕ, ◌+◌, ◌≡◌}
use Rattle.plain_lemmas.proofs.Lists.{snoc_each}
use Rattle.meet_lock.specs.Passes.{number}
use Rattle.shared_system.specs.declared.system.HostPasses.{HostPasses}
use Rattle.race.specs.Ended.{EndDown, HasEnded}
use Rattle.race.proofs.racers.put_caller.Goals as goal

pub returns-clause-hosts : goal.returns-clause-hosts
returns-clause-hosts c =
    let e = c.args._system.now.engine in
    let play = c.args._play.now in
    let servers = c.args._servers in
    let top = c.args._top in
    let is = c.requires.number in
    let long = c.args.hosts.now.ok.0 in
    subst (EndDown (λ (h : HostPasses). h.pass) e play servers top) (sym c.push_reserved.ensures.items)
    (snoc_each (λ (k : ℕ) (h : HostPasses). (number h.pass + k ≡ top) × HasEnded e play servers h.pass)
    c.args.hosts.now.items c.args.caller c.requires.hosts (omega (arith, is, long), c.requires.caller))
