use Rattle.std.proofs.Common.{◌≡◌, List, ap, arith, false, subst, sym, true, ◌∙◌}
use Rattle.std.specs.Option.{option_copied_mut}
use Rattle.range_reserve.specs.Reserved.{has_conflict, holds_range, insert_held}
use Rattle.range_reserve.specs.declared.held.HeldRange.{HeldRange}
use Rattle.step_core.specs.Found.{IsNextStep}
use Rattle.step_core.specs.declared.controller.next.ReadyStep.{ReadyStep}
use Rattle.controller_interface.specs.State.{ControllerState}
use Rattle.step_core.proofs.Granted.{apart, first, free, has_job, kept, range_is}
use Rattle.range_reserve.proofs.Granted.{held_ok}
use Rattle.step_core.proofs.controller.Core.make_grant.Goals as goal

pub grant-requires-clause-free : goal.grant-requires-clause-free
grant-requires-clause-free c =
    let g = subst (λ (x : ControllerState). IsNextStep x.config x.past (ReadyStep.Grant c.args.line))
    (sym c.self.view_is)
    c.requires.line in
    ap (λ (hs : List HeldRange). holds_range hs c.args.line.ticket) c.take_both.ensures.ranges
    ∙ free _ _ _ c.self.invariant.0 c.args.line g

pub grant-requires-clause-range : goal.grant-requires-clause-range
grant-requires-clause-range c =
    let g = subst (λ (x : ControllerState). IsNextStep x.config x.past (ReadyStep.Grant c.args.line))
    (sym c.self.view_is)
    c.requires.line in
    rw c.get-range.ensures.value (range_is _ _ _ c.self.invariant.0 c.args.line g)

pub unwrap-requires : goal.unwrap-requires
unwrap-requires c =
    let g = subst (λ (x : ControllerState). IsNextStep x.config x.past (ReadyStep.Grant c.args.line))
    (sym c.self.view_is)
    c.requires.line in
    let no = apart _ _ _ c.self.invariant.0 c.args.line g in
    let same = ap (λ (hs : List HeldRange).
    has_conflict hs c.args.line.range c.args.line.mode) c.take_both.ensures.ranges in
    held_ok c.grant.result c.grant.ensures.errors
    (λ e. absurd (let both : true ≡ false = sym ((rw c.get-range.ensures.value at c.grant.ensures.conflict).0 e) ∙ same
    ∙ no in cc))
    (λ e. omega (arith, c.grant.ensures.memory e, c.in_ok-take_both.ensures.both))

pub unwrap-requires-2 : goal.unwrap-requires-2
unwrap-requires-2 c =
    let g = subst (λ (x : ControllerState). IsNextStep x.config x.past (ReadyStep.Grant c.args.line))
    (sym c.self.view_is)
    c.requires.line in
    c.get_mut.ensures.any ∙ has_job _ _ _ c.self.invariant.0 c.args.line g

pub open-requires : goal.open-requires
open-requires c =
    let g = subst (λ (x : ControllerState). IsNextStep x.config x.past (ReadyStep.Grant c.args.line))
    (sym c.self.view_is)
    c.requires.line in
    let job = sym (ap option_copied_mut c.unwrap-2.ensures) ∙ c.get_mut.ensures.value in
    record {
      first = rw c.get-range.ensures.value
          (first _ _ _ c.self.invariant.0 c.args.line g c.unwrap-2.result.now job);
    }

pub invariant_of-self-2 : goal.invariant_of-self-2
invariant_of-self-2 c =
    let g = subst (λ (x : ControllerState). IsNextStep x.config x.past (ReadyStep.Grant c.args.line))
    (sym c.self.view_is)
    c.requires.line in
    let job = sym (ap option_copied_mut c.unwrap-2.ensures) ∙ c.get_mut.ensures.value in
    let opened = rw c.get-range.ensures.value at c.open.ensures.opened in
    let ok = rw c.unwrap.ensures at c.grant.ensures.ok in
    let held = rw c.get-range.ensures.value at ok in
    let room = rw c.unwrap.ensures at c.grant.ensures.room in
    let h : HeldRange = record { ticket = c.args.line.ticket; range = c.args.line.range; mode = c.args.line.mode } in (
      kept _ _ _ c.self.invariant.0 c.args.line g c.unwrap-2.result.now job
          c.take_both.new.history.past c.push_reserved.new.self.past c.open.new.self c.grant.new.self.held
          c.take_both.ensures.past c.push_reserved.ensures.past opened
          (held ∙ ap (insert_held h) c.take_both.ensures.ranges),
      omega (arith, c.push_reserved.ensures.room, c.in_ok-take_both.ensures.ok.1),
      omega (arith, room, c.in_ok-take_both.ensures.both),
      omega (arith, c.self.invariant.3, c.in_ok-take_both.ensures.ok.0),
    )
