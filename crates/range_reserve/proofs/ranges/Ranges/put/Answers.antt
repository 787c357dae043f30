use Rattle.std.proofs.Common.{ap, arith, min, rules, subst, sym, vec_capacity, ◌-◌, ◌/◌, ◌∙◌, ◌≡◌, ◌≤◌, false}
use Rattle.range_reserve.specs.Reserved.{Reserved, has_conflict, holds_range}
use Rattle.range_reserve.specs.Sorted.{AreBoth, living}
use Rattle.range_reserve.proofs.BothOrders.{as_many, both_put, fits_more, new_fits, one_more, start_free, tickets_apart}
use Rattle.range_reserve.proofs.ranges.Ranges.put.Goals as goal

pub put_by_start-requires-clause-free : goal.put_by_start-requires-clause-free
put_by_start-requires-clause-free c =
    start_free c.self.inside.longest c.self.inside.starts.items c.self.inside.tickets.items c.self.invariant.0
    c.args.held (ap (λ (v : Reserved). holds_range v.held c.args.held.ticket) c.self.view_is ∙ c.requires.free)
    (search rules)

pub put_by_start-requires-clause-room : goal.put_by_start-requires-clause-room
put_by_start-requires-clause-room c =
    let room : 1 ≤ min (vec_capacity c.self.inside.tickets / 2) (vec_capacity c.self.inside.starts / 2)
    - c.self.inside.live = subst (λ (v : Reserved). 1 ≤ v.room) (sym c.self.view_is) c.requires.room in
    omega (
      arith,
      room,
      c.self.invariant.1,
      as_many c.self.inside.longest c.self.inside.starts.items c.self.inside.tickets.items c.self.invariant.0,
    )

free : (c : goal.After-self-2-1) → holds_range (living c.self.inside.tickets.items) c.args.held.ticket ≡ false
free c = ap (λ (v : Reserved). holds_range v.held c.args.held.ticket) c.self.view_is ∙ c.requires.free

kept : (c : goal.After-self-2-1)
    → AreBoth c.max-self-inside.result c.put_by_start.new.list.items c.put_by_ticket.new.list.items
kept c =
    let longest = c.self.inside.longest in
    let starts = c.self.inside.starts.items in
    let tickets = c.self.inside.tickets.items in
    let more = c.max-self-inside.result in
    let above : longest ≤ more = omega (arith, c.max-self-inside.ensures) in
    let within : c.args.held.range.blocks ≤ more = omega (arith, c.max-self-inside.ensures) in
    both_put longest starts tickets c.self.invariant.0 c.args.held (free c) (search rules) more above within
    c.put_by_start.new.list.items c.put_by_ticket.new.list.items c.requires.range
    (ap (λ (v : Reserved). has_conflict v.held c.args.held.range c.args.held.mode) c.self.view_is ∙ c.requires.apart)
    c.put_by_start.ensures.put
    (c.put_by_start.ensures.each _
    (fits_more longest starts tickets c.self.invariant.0 c.args.held (free c) (search rules) more above within)
    (new_fits longest starts tickets c.self.invariant.0 c.args.held (free c) (search rules) more above within))
    c.put_by_ticket.ensures.living c.put_by_ticket.ensures.rising

pub invariant_of-self : goal.invariant_of-self
invariant_of-self c = (
  kept c,
  let more = one_more c.self.inside.longest c.self.inside.starts.items c.self.inside.tickets.items c.self.invariant.0
      c.args.held (free c) (search rules) c.put_by_ticket.new.list.items c.put_by_ticket.ensures.living in
      omega (arith, more, c.self.invariant.1),
)

pub returns-clause-law : goal.returns-clause-law
returns-clause-law c =
    tickets_apart c.max-self-inside.result c.put_by_start.new.list.items c.put_by_ticket.new.list.items (kept c)
