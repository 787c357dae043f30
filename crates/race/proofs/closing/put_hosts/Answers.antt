use Rattle.std.proofs.Common.{ap, arith, refl, ℕ, ◌+◌}
use Rattle.shared_system.specs.declared.system.HostPasses.{HostPasses}
use Rattle.race.proofs.Ended.{down_from}
use Rattle.race.proofs.closing.put_hosts.Goals as goal

pub loop-init : goal.loop-init
loop-init c =
    let e = c.args.system.now.engine in
    let p = c.args.play.now in
    let s = c.args.servers in
    let same = c.len-count.ensures in
    let have = c.requires.servers in
    let room = c.requires.room in (
      down_from e p s (λ (h : HostPasses). h.pass) _ _ c.args.hosts.items (ap (λ (n : ℕ). s + n) same)
          c.requires.hosts,
      c.requires.passes,
      omega (arith, same),
      omega (arith, have),
      refl,
      omega (arith, same, room),
      refl,
    )
