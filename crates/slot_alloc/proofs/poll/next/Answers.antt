use Rattle.std.proofs.Common.{inl, inr, refl, rules, ◌+◌, ◌≡◌, ◌≢◌}
use Rattle.slot_alloc.specs.declared.claiming.Reach.{Reach}
use Rattle.slot_alloc.proofs.poll.next.Goals as goal
use Rattle.slot_alloc.proofs.NextSlots.{all_taken, any_reach, next_claiming, next_of}

pub returns-then-slot-slots-clause-is : goal.returns-then-slot-slots-clause-is
returns-then-slot-slots-clause-is g c =
    let k = c.args.claiming in
    let many : k.reach ≢ Reach.One = search rules in
    let last : k.slot + 1 ≡ k.slots.count = search rules in
    inr (inl (
      refl,
      refl,
      all_taken g.P.Port c.args.driver.now k c.args.call.value c.args.serial c.requires.lost
          (any_reach k.reach many) last,
    ))

pub ask-requires-clause-of : goal.ask-requires-clause-of
ask-requires-clause-of g c =
    let k = c.args.claiming in
    let many : k.reach ≢ Reach.One = search rules in
    let more : k.slot + 1 ≢ k.slots.count = search rules in
    next_claiming g.P.Port c.args.driver.now k c.args.call.value c.args.serial c.with-lower.result c.requires.lost
    (any_reach k.reach many) more c.with-lower.ensures

pub returns-clause-is : goal.returns-clause-is
returns-clause-is g c =
    let k = c.args.claiming in
    let many : k.reach ≢ Reach.One = search rules in
    let more : k.slot + 1 ≢ k.slots.count = search rules in
    inr (inr (
      _,
      next_of g.P.Port c.args.driver.now k c.args.call.value c.args.serial c.with-lower.result
          c.requires.lost (any_reach k.reach many) more c.with-lower.ensures,
      c.ask.ensures.is,
    ))
