use Rattle.std.proofs.Common.{arith, refl, subst, suc, ℕ, ◌+◌, ◌≡◌}
use Rattle.c_handles.specs.Disks.{TaskTells, Works}
use Rattle.c_handles.proofs.disk.Disk.finish.Goals as goal

pub loop-init : goal.loop-init
loop-init c = refl

pub loop-preserved : goal.loop-preserved
loop-preserved c =
    let next : suc c.loop.counter ≡ c.loop.counter + 1 = omega arith in
    subst (λ (n : ℕ). Works n c.args.self.now c.task-told.new.self) next (
      c.loop.self,
      c.loop.invariant,
      subst (λ (n : ℕ). TaskTells c.loop.self c.task-told.new.self n) c.if-told-ne0.false c.task-told.ensures,
    )

pub returns-then-told-ne0 : goal.returns-then-told-ne0
returns-then-told-ne0 c = record {
  count = c.loop.counter;
  before = c.loop.self;
  works = c.loop.invariant;
  last = c.task-told.result;
  asked = c.task-told.ensures;
  most = λ none. absurd (c.if-told-ne0.true none);
  told = c.ended.ensures;
}

pub returns : goal.returns
returns c = record {
  count = 18446744073709551615;
  before = c.loop.self;
  works =
      let low = c.loop-test.false in
      let high = c.loop.auto.counter-end in
      let most : c.loop.counter ≡ 18446744073709551615 = omega (arith, low, high) in
      subst (λ (n : ℕ). Works n c.args.self.now c.loop.self) most c.loop.invariant;
  last = c.task-told-2.result;
  asked = c.task-told-2.ensures;
  most = λ none. refl;
  told = c.ended-2.ensures;
}
