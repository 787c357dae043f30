use Rattle.std.proofs.Common.{Bool, List, ap, false, ◌∙◌, ◌≡◌}
use Rattle.std.specs.Prelude.{map, replicate}
use Rattle.nvme_model.specs.declared.array.Range.{Range}
use Rattle.slot_host.specs.Begins.{is_hold, is_under_way}
use Rattle.slot_host.specs.SlotHosts.{slot_state}
use Rattle.slot_disk.proofs.Passes.{nothing_had}
use Rattle.slot_disk.proofs.opening.host_of.Goals as goal

pub returns-in-Ok-clause-view : goal.returns-in-Ok-clause-view
returns-in-Ok-clause-view c =
    let o = c.in-Ok.ensures.over in
    let count = o.nothing.0 ∙ ap (λ (s : Range). s.blocks) c.in_ok-driver.ensures.host.area in
    let none : map is_hold (slot_state c.in-Ok.host).holds ≡ replicate c.args.setting.now.slots.blocks false =
    nothing_had (slot_state c.in-Ok.host).holds o.nothing.1 ∙ ap (λ n. replicate n false) count in
    λ m. record { calls = is_under_way (o.no_call m); has = none m }
