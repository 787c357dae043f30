use Rattle.std.proofs.Common.{arith, length, subst, sym, vec_len, ℕ, ◌+◌, ◌≡◌}
use Rattle.shared_system.specs.declared.system.HostPasses.{HostPasses}
use Rattle.shared_system.specs.declared.system.WorkerPasses.{WorkerPasses}
use Rattle.race.specs.Ended.{EndDown}
use Rattle.race.proofs.Returned.{closed_config, closed_rounds, closed_slots}
use Rattle.race.proofs.closing.closed.Goals as goal

pub put_workers-requires-clause-workers : goal.put_workers-requires-clause-workers
put_workers-requires-clause-workers c =
    let p = c.args.play.now in
    let ws = c.args.callers.workers in
    subst (λ (n : ℕ). EndDown (λ (w : WorkerPasses). w.caller.pass) c.args.system.engine p (n + 1)
    (vec_len ws)
    ws.items) (sym c.len-servers.ensures) c.requires.workers

pub put_hosts-requires-clause-hosts : goal.put_hosts-requires-clause-hosts
put_hosts-requires-clause-hosts c =
    let p = c.args.play.now in
    let hs = c.args.callers.hosts.items in
    let n = c.len-servers.result in
    let all = subst (λ (n : ℕ). EndDown (λ (h : HostPasses). h.pass) c.args.system.engine p (n + 1)
    (n + 1 + p.config.cqs) hs) (sym c.len-servers.ensures) c.requires.hosts in
    subst (λ (m : ℕ). EndDown (λ (h : HostPasses). h.pass) c.args.system.engine p (n + 1) (n + 1 + m) hs)
    (sym c.requires.count) all

pub close_all-requires : goal.close_all-requires
close_all-requires c = record {
  all = λ k p at.
      let x = c.put_hosts.ensures.passes k p at in
      let all = x.1.closing.all in
      let len = c.put_hosts.ensures.len in
      let count = c.requires.count in
      (x.1.of, x.0, omega (arith, all, len, count));
}

pub returns : goal.returns
returns c =
    let system = c.args.system in
    let play = c.args.play.now in
    let len = c.put_hosts.ensures.len in
    let count = c.requires.count in
    let ps = c.put_hosts.new.passes.items in
    let long = sym c.put_hosts.new.passes.ok.0 in
    let all : length ps ≡ c.len-servers.result + 1 + play.config.cqs = omega (arith, len, count, long) in
    let core = c.unwrap.result in
    let some = c.unwrap.ensures in
    let config = rw some at c.close_all.ensures.config in
    let legal = rw some at c.close_all.ensures.legal in
    let whole = rw some at c.close_all.ensures.whole in
    record {
      config = closed_config system.engine play _ ps c.put_hosts.ensures.passes all (omega arith) core config;
      slots = closed_slots system.engine play _ ps c.put_hosts.ensures.passes all (omega arith) core config legal whole;
      rounds = closed_rounds system.engine play _ ps c.put_hosts.ensures.passes all (omega arith) core config legal
          whole;
    }
