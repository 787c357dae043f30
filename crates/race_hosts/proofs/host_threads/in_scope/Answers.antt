use Rattle.std.proofs.Common.{OnOk, map, subst, sym, ◌≡◌, []}
use Rattle.std.specs.List.{AllZip}
use Rattle.race_hosts.specs.Playing.{HasPlayed, HostPassesContinue}
use Rattle.race_hosts.proofs.Playing.{all_played, all_returned, through}
use Rattle.race_hosts.proofs.host_threads.in_scope.Goals as goal

pub returns-clause-back : goal.returns-clause-back
returns-clause-back g c =
    let w = c.all_ended-ends.ensures.back in
    subst (AllZip (HostPassesContinue c.args.system.now) c.args.callers.items) (sym w.1)
    (all_returned c.args.system.now c.args.play.now c.all_ended-ends.result c.args.callers.items
    c.start_hosts-begun.new.callers.items w.0 (map (λ h. h.promise) c.start_hosts-begun.new.started.items)
    c.start_hosts-begun.ensures.parted w.2)

pub returns-clause-played : goal.returns-clause-played
returns-clause-played g c =
    let w = c.all_ended-ends.ensures.back in
    subst (λ l. OnOk c.all_ended-ends.result
    (AllZip (HasPlayed c.args.system.now c.args.play.now) c.args.callers.items l))
    (sym w.1)
    (all_played c.args.system.now c.args.play.now c.all_ended-ends.result c.args.callers.items
    c.start_hosts-begun.new.callers.items w.0 (map (λ h. h.promise) c.start_hosts-begun.new.started.items)
    c.start_hosts-begun.ensures.parted
    (through (c.start_hosts-begun.new.callers.items ≡ []) c.all_ended-ends.result c.start_hosts-begun.result
    c.all_ended-ends.ensures.begun c.start_hosts-begun.ensures.all)
    w.2)
