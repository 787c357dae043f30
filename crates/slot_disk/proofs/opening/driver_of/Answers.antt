use Rattle.std.proofs.Common.{[], ap, arith, rules, subst, sym, ◌∙◌, ◌∷◌, ◌≡◌, None}
use Rattle.nvme_model.specs.Config.{config_fault}
use Rattle.nvme_model.specs.declared.config.ConfigNumbers.{ConfigNumbers}
use Rattle.driver_cas.specs.Ports.{view_of}
use Rattle.slot_disk.proofs.OwnQueues.{owns_low}
use Rattle.slot_disk.proofs.opening.driver_of.Goals as goal

pub new-requires-clause-own : goal.new-requires-clause-own
new-requires-clause-own c =
    let v = view_of c.own-port.result in
    let same : v.config ≡ c.args.setting.now.config = c.own-port.ensures.pass.0.3 ∙ c.requires.pass.config in
    let queue = c.own-port.ensures.queue in
    let there = c.requires.there in
    let cqs = ap (λ (n : ConfigNumbers). n.cqs) same in
    let fault : config_fault v.config ≡ None =
    ap config_fault (same ∙ sym c.numbers-acwu.ensures.value) ∙ c.numbers-acwu.ensures.accepted in
    let is : c.in_ok-queues.queues.items ≡ v.queue ∷ [] = search rules in
    owns_low v c.in_ok-queues.queues.items (omega (arith, there, queue)) (omega (arith, there, queue, cqs)) fault is
