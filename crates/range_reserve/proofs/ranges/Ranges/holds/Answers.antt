use Rattle.std.proofs.Common.{ap, is_some, rules, subst, sym, ◌∙◌, ◌≡◌}
use Rattle.range_reserve.specs.Reserved.{AreApart, AreHoldersRising, Reserved, held_by}
use Rattle.range_reserve.specs.Sorted.{IsRisingBy}
use Rattle.range_reserve.specs.declared.held.HeldRange.{HeldRange}
use Rattle.range_reserve.proofs.BothOrders.{tickets_apart, tickets_rising}
use Rattle.range_reserve.proofs.Kept.{is_some-held_by}
use Rattle.range_reserve.proofs.ranges.Ranges.holds.Goals as goal

pub held_by-requires : goal.held_by-requires
held_by-requires c = record {
  rising = subst (IsRisingBy (λ (h : HeldRange). h.ticket)) (sym c.as_slice.ensures.value) c.self.invariant.0.2;
}

pub returns-clause-any : goal.returns-clause-any
returns-clause-any c =
    let holds : c.map.result ≡ held_by c.args.self.now.held c.args.ticket = search rules in
    ap is_some holds ∙ is_some-held_by c.args.self.now.held c.args.ticket

pub returns-clause-law : goal.returns-clause-law
returns-clause-law c = subst (λ (v : Reserved). AreApart v.held) c.self.view_is
    (tickets_apart c.self.inside.longest c.self.inside.starts.items c.self.inside.tickets.items c.self.invariant.0)

pub returns-clause-rising : goal.returns-clause-rising
returns-clause-rising c =
    subst (λ (v : Reserved). AreHoldersRising v.held) c.self.view_is
    (tickets_rising c.self.inside.longest c.self.inside.starts.items c.self.inside.tickets.items c.self.invariant.0)
