use Rattle.std.proofs.Common.{Option, ap, length, not, subst, sym, ℕ, ◌+◌, ◌∙◌, ◌≡◌}
use Rattle.std.specs.Option.{option_copied}
use Rattle.trace.specs.declared.seen.Seen.{Seen}
use Rattle.witness_check.specs.Compared.{SaysNext}
use Rattle.witness_check.specs.Delays.{DelaysRun, IsDelayedTo, is_turned, lanes_of, thing_there, turned_or}
use Rattle.witness_check.specs.Lanes.{IsSought}
use Rattle.witness_check.proofs.Comparing.{none_of}
use Rattle.witness_check.proofs.Onward.{alike_on, or_place, some_lanes, unlike_on}
use Rattle.witness_check.proofs.delayed.DelayedComparison.take.Goals as goal

pub returns-then-is_none : goal.returns-then-is_none
returns-then-is_none c = record {
  ok = λ o n past h.
      let trace = c.args.trace.now in
      let e = c.args.entry.now in
      let x : DelaysRun = record {
        compared = c.self.inside.comparison;
        aside = c.self.inside.aside;
        lanes = c.self.inside.lanes;
        reach = c.self.inside.reach;
        number = c.self.inside.number;
        unlike = c.self.inside.unlike;
      } in
      let k = subst (λ (y : DelaysRun). IsDelayedTo o n trace past y) (sym c.self.view_is) h in
      let place = c.in_ok-place.place in
      let thing : option_copied c.thing_at-thing.result ≡ thing_there trace place (is_turned e place x.reach) =
      c.thing_at-thing.ensures.value ∙ ap (thing_there trace place) c.is_turned-turned.ensures.value in
      let r = alike_on o n trace past e x c.next.new.self c.take_beside.new.self k place
      (none_of c.self.inside.unlike (c.is_none.ensures ∙ ap not c.if-is_none.true))
      (λ came lanes. subst (λ (l : Option ℕ). IsSought (lanes_of n) trace came l place c.next.new.self)
      c.lane_sought-lane.ensures.value (c.in_ok-place.ensures.ok (lanes_of n) came (some_lanes n) lanes))
      (λ lines g says. c.in_ok-take_beside.ensures.ok o n past lines g
      (subst (λ (t : Option Seen). SaysNext lines x.compared t) (sym thing) says)) in
      let number : c.in-Some-checked_add.number ≡ _ =
      c.in-Some-checked_add.ensures.1 ∙ ap (λ m. m + 1) (c.unwrap_or.ensures ∙ or_place place (length trace)) in
      let unlike : c.turned_or-self-inside.result ≡ _ =
      c.turned_or-self-inside.ensures.value ∙ ap (λ b. turned_or b c.difference.result) c.is_turned-turned.ensures.value
      ∙ ap (turned_or (is_turned e place x.reach)) c.difference.ensures.value in
      rw (c.in-Some.ensures.value, number, unlike) r;
}

pub returns-else-is_none : goal.returns-else-is_none
returns-else-is_none c = record {
  ok = λ o n past h.
      let x : DelaysRun = record {
        compared = c.self.inside.comparison;
        aside = c.self.inside.aside;
        lanes = c.self.inside.lanes;
        reach = c.self.inside.reach;
        number = c.self.inside.number;
        unlike = c.self.inside.unlike;
      } in
      let k = subst (λ (y : DelaysRun). IsDelayedTo o n c.args.trace.now past y) (sym c.self.view_is) h in
      unlike_on o n c.args.trace.now past c.args.entry.now x c.next.new.self c.take_beside.new.self k
      c.in_ok-place.place c.is_turned-turned.result
      (c.is_none.ensures ∙ ap not c.if-is_none.false)
      (λ lines g says. c.in_ok-take_beside.ensures.ok o n past lines g
      (subst (λ (t : Option Seen). SaysNext lines x.compared t) (sym c.thing_at-thing.ensures.value) says));
}
