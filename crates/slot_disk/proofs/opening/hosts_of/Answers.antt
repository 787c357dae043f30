use Rattle.std.specs.Arc.{arc_value}
use Rattle.std.proofs.Common.{List, add-one, ap, arith, replicate, subst, sym, vec_len, ℕ, ◌+◌, ◌-◌, ◌∙◌, ◌∷◌, ◌≡◌}
use Rattle.slot_disk.specs.Hosts.{AreHostsAbove}
use Rattle.slot_disk.specs.Views.{HostView, idle_host}
use Rattle.slot_disk.proofs.opening.hosts_of.Goals as goal

pub loop-k-preserved : goal.loop-k-preserved
loop-k-preserved c =
    let inv = c.loop-k.invariant in
    let e = c.in_ok-add_host.ensures in
    let count = c.numbers-count.result.cqs in
    let rest = e.rest in
    let below = c.loop-k-test.true in
    let next : count - c.loop-k.k - 1 ≡ count - (c.loop-k.k + 1) = omega arith in
    let idle = idle_host c.args.setting.now.slots.blocks in (
      e.passes,
      omega (arith, rest, below),
      subst (λ (n : ℕ). AreHostsAbove (arc_value c.args.setting.now.engine) c.args.setting.now.config
          c.args.setting.now.slots n c.add_host.new.hosts.items) next e.hosts,
      e.views ∙ (ap (λ (vs : List HostView). idle ∷ vs) inv.3
          ∙ ap (λ (n : ℕ). replicate n idle) (sym (add-one c.loop-k.k))),
    )
