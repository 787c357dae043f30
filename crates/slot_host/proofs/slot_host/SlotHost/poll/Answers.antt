use Rattle.std.proofs.Common.{Some, subst}
use Rattle.slot_host.specs.HostPolls.{CallPolls}
use Rattle.slot_host.specs.SlotHosts.{slot_state}
use Rattle.slot_host.specs.declared.under_way.UnderWay.{UnderWay}
use Rattle.slot_host.proofs.slot_host.SlotHost.poll.Goals as goal

pub returns-in-Claim-clause-polls : goal.returns-in-Claim-clause-polls
returns-in-Claim-clause-polls g c =
    let x = c.poll_claim.ensures.polls in
    subst (λ (u : UnderWay _ _).
    CallPolls (slot_state c.args.self.now) (slot_state c.poll_claim.new.self) u (Some c.poll_claim.result))
    c.in-Claim.ensures.value (record {
      progress = x.progress;
      is = x.is;
      goes_on = x.goes_on;
      left = x.left;
      same = x.same;
    })

pub returns-in-Release-clause-polls : goal.returns-in-Release-clause-polls
returns-in-Release-clause-polls g c =
    let x = c.poll_release.ensures.polls in
    subst (λ (u : UnderWay _ _).
    CallPolls (slot_state c.args.self.now) (slot_state c.poll_release.new.self) u (Some c.poll_release.result))
    c.in-Release.ensures.value (record {
      released = x.released;
      is = x.is;
      quiet = x.quiet;
      goes_on = x.goes_on;
      asks = x.asks;
      left = x.left;
      same = x.same;
    })

pub returns-in-Takeover-clause-polls : goal.returns-in-Takeover-clause-polls
returns-in-Takeover-clause-polls g c =
    let x = c.poll_takeover.ensures.polls in
    subst (λ (u : UnderWay _ _).
    CallPolls (slot_state c.args.self.now) (slot_state c.poll_takeover.new.self) u (Some c.poll_takeover.result))
    c.in-Takeover.ensures.value (record {
      progress = x.progress;
      is = x.is;
      quiet = x.quiet;
      later = x.later;
      asks = x.asks;
      left = x.left;
      same = x.same;
    })

pub returns-in-Holder-clause-polls : goal.returns-in-Holder-clause-polls
returns-in-Holder-clause-polls g c =
    let x = c.poll_holder.ensures.polls in
    subst (λ (u : UnderWay _ _).
    CallPolls (slot_state c.args.self.now) (slot_state c.poll_holder.new.self) u (Some c.poll_holder.result))
    c.in-Holder.ensures.value (record {
      polled = x.polled;
      is = x.is;
      quiet = x.quiet;
      later = x.later;
      left = x.left;
      same = x.same;
    })
