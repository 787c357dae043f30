use Rattle.std.proofs.Common.{refl, subst, sym, ◌∙◌}
use Rattle.vandrexu_c.proofs.SlotsFollowed.{behind_wrong, goes_on, unmoved}
use Rattle.vandrexu_c.specs.SlotCheckers.{FollowsSlots, SlotCheckerRun}
use Rattle.vandrexu_c.proofs.owned_slot_checker.OwnedSlotChecker.take.Goals as goal

pub returns-then-is_some-clause-taken : goal.returns-then-is_some-clause-taken
returns-then-is_some-clause-taken c k slots past h =
    let s = c.self.inside in
    let old : SlotCheckerRun = record { area = s.area; count = s.count; wrong = s.wrong } in
    let new : SlotCheckerRun = record { area = s.area; count = c.in-Some.count; wrong = s.wrong } in
    behind_wrong k slots past c.args.entry.now old new (subst (FollowsSlots k slots past) (sym c.self.view_is) h)
    c.in-Some.ensures.1 (sym c.is_some.ensures ∙ c.if-is_some.true) refl

pub returns-in_default-take-clause-err : goal.returns-in_default-take-clause-err
returns-in_default-take-clause-err c k slots past h =
    let s = c.self.inside in
    let old : SlotCheckerRun = record { area = s.area; count = s.count; wrong = s.wrong } in
    let new : SlotCheckerRun = record { area = c.take.new.self; count = s.count; wrong = s.wrong } in
    unmoved k slots past old new (subst (FollowsSlots k slots past) (sym c.self.view_is) h) refl refl
    (c.in_default-take.ensures.err k slots past)

pub returns-clause-taken : goal.returns-clause-taken
returns-clause-taken c k slots past h =
    let s = c.self.inside in
    let old : SlotCheckerRun = record { area = s.area; count = s.count; wrong = s.wrong } in
    let new : SlotCheckerRun = record {
      area = c.take.new.self;
      count = c.in-Some.count;
      wrong = c.wrong_step-self-inside.result;
    } in
    goes_on k slots past c.args.entry.now old new (subst (FollowsSlots k slots past) (sym c.self.view_is) h)
    c.in-Some.ensures.1 (sym c.is_some.ensures ∙ c.if-is_some.false) c.in-Ok.broken c.wrong_step-self-inside.ensures
    (c.in-Ok.ensures.broken k slots past) (c.in-Ok.ensures.watches k slots past)
