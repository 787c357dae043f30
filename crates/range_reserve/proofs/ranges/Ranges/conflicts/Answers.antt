use Rattle.std.proofs.Common.{ap, arith, drop, length, rules, subst, ◌-◌, ◌∙◌, ◌≡◌}
use Rattle.std.proofs.lemmas.List.{length-drop, take_all}
use Rattle.range_reserve.specs.Reserved.{AreApart, Reserved, has_conflict}
use Rattle.range_reserve.specs.Sorted.{has_conflict_before_end, held_key, place_by, start_key}
use Rattle.range_reserve.proofs.BothOrders.{in_window, tickets_apart}
use Rattle.range_reserve.proofs.ranges.Ranges.conflicts.Goals as goal

pub returns-clause-conflicts : goal.returns-clause-conflicts
returns-clause-conflicts c =
    let starts = c.self.inside.starts.items in
    let from : c.saturating_sub-from.result ≡ c.args.range.slba - c.self.inside.longest = search rules in
    let first = c.start_place-first.ensures.place
    ∙ ap (λ xs. place_by held_key (start_key c.saturating_sub-from.result 0) xs) c.as_slice.ensures.value
    ∙ ap (λ k. place_by held_key (start_key k 0) starts) from in
    let all = c.as_slice-2.result.now in
    let part = take_all (length all - c.start_place-first.result) (drop c.start_place-first.result all)
    (omega (arith, length-drop c.start_place-first.result all)) in
    c.has_conflict_before_end.ensures.value
    ∙ ap (λ xs. has_conflict_before_end xs c.args.range c.args.mode)
    (part ∙ ap (drop c.start_place-first.result) c.as_slice-2.ensures.value)
    ∙ ap (λ n. has_conflict_before_end (drop n starts) c.args.range c.args.mode) first
    ∙ in_window c.self.inside.longest starts c.self.inside.tickets.items c.self.invariant.0 c.args.range c.args.mode
    ∙ ap (λ (v : Reserved). has_conflict v.held c.args.range c.args.mode) c.self.view_is

pub returns-clause-law : goal.returns-clause-law
returns-clause-law c = subst (λ (v : Reserved). AreApart v.held) c.self.view_is
    (tickets_apart c.self.inside.longest c.self.inside.starts.items c.self.inside.tickets.items c.self.invariant.0)
