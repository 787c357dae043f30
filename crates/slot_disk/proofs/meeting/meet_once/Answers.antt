use Rattle.std.specs.Arc.{arc_value}
use Rattle.std.proofs.Common.{arith, ◌∙◌}
use Rattle.meet_lock.specs.Passes.{seen}
use Rattle.slot_disk.specs.Hosts.{host_pass}
use Rattle.std.proofs.lemmas.Option.{slice_get_read}
use Rattle.driver_calls.proofs.Views.{begins_on}
use Rattle.slot_disk.proofs.Rounds.{hosts_with, one_more, views_stay}
use Rattle.slot_disk.proofs.meeting.meet_once.Goals as goal

pub returns-in_err-meets-clause-hosts : goal.returns-in_err-meets-clause-hosts
returns-in_err-meets-clause-hosts c =
    let s = c.args.setting.now in
    hosts_with (arc_value s.engine) s.config s.slots c.loop-k.hosts.items c.loop-k.k c.meets.new.host
    c.loop-k.invariant.0 c.meets.ensures.host

pub returns-in_err-meets-clause-views : goal.returns-in_err-meets-clause-views
returns-in_err-meets-clause-views c =
    let below = c.loop-k-test.true in
    let end = c.len-k-end.ensures in
    let count = c.loop-k.invariant.3.count in
    let now = c.loop-k.hosts.ok.0 in
    let first = c.args.hosts.now.ok.0 in
    let here = slice_get_read c.loop-k.hosts.items c.loop-k.hosts.len c.loop-k.k c.index_mut.result.now
    now (omega (arith, below, end, count, now, first)) c.index_mut.ensures.value in
    views_stay c.loop-k.hosts.items c.loop-k.k c.index_mut.result.now c.meets.new.host here c.meets.ensures.view
    ∙ c.loop-k.invariant.2

pub loop-k-preserved : goal.loop-k-preserved
loop-k-preserved c =
    let s = c.args.setting.now in
    let inv = c.loop-k.invariant in
    let met = c.in_ok-meets.ensures.met in
    let below = c.loop-k-test.true in
    let end = c.len-k-end.ensures in
    let count = c.loop-k.invariant.3.count in
    let now = c.loop-k.hosts.ok.0 in
    let first = c.args.hosts.now.ok.0 in
    let here = slice_get_read c.loop-k.hosts.items c.loop-k.hosts.len c.loop-k.k c.index_mut.result.now
    now (omega (arith, below, end, count, now, first)) c.index_mut.ensures.value in (
      hosts_with (arc_value s.engine) s.config s.slots c.loop-k.hosts.items c.loop-k.k c.meets.new.host inv.0
          c.meets.ensures.host,
      c.meets.ensures.server,
      views_stay c.loop-k.hosts.items c.loop-k.k c.index_mut.result.now c.meets.new.host here c.meets.ensures.view
          ∙ inv.2,
      one_more c.loop-k.k c.args.hosts.now.items c.loop-k.hosts.items c.index_mut.result.now c.meets.new.host
          c.args.server.now c.loop-k.server c.meets.new.server inv.3 here met
          (begins_on (seen c.loop-k.server) (seen (host_pass c.meets.new.host)) (seen c.meets.new.server)
          met.since met.within),
    )
