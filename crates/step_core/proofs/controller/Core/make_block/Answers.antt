use Rattle.std.proofs.Common.{ap, arith, subst, sym, ◌∙◌}
use Rattle.std.specs.Option.{option_copied_mut}
use Rattle.step_core.specs.Found.{IsNextStep}
use Rattle.step_core.specs.declared.controller.next.ReadyStep.{ReadyStep}
use Rattle.controller_interface.specs.State.{ControllerState}
use Rattle.step_core.proofs.BlockMade.{block_does, has_job, kept, opened, ready}
use Rattle.step_core.proofs.controller.Core.make_block.Goals as goal

pub unwrap-job-requires : goal.unwrap-job-requires
unwrap-job-requires c =
    let b = subst (λ (x : ControllerState). IsNextStep x.config x.past (ReadyStep.Block c.args.ticket c.args.unit))
    (sym c.self.view_is)
    c.requires.block in
    c.get_mut.ensures.any ∙ has_job _ _ _ c.self.invariant.0 c.args.ticket b.0

pub make_block-done-requires : goal.make_block-done-requires
make_block-done-requires c =
    let b = subst (λ (x : ControllerState). IsNextStep x.config x.past (ReadyStep.Block c.args.ticket c.args.unit))
    (sym c.self.view_is)
    c.requires.block in
    let job = sym (ap option_copied_mut c.unwrap-job.ensures) ∙ c.get_mut.ensures.value in
    record {
      «open» = opened _ _ _ c.self.invariant.0 c.args.ticket b.0 c.unwrap-job.result.now job;
      ready = ready _ _ _ c.self.invariant.0 c.args.ticket b.0 c.unwrap-job.result.now job;
    }

pub invariant_of-self-2 : goal.invariant_of-self-2
invariant_of-self-2 c =
    let b = subst (λ (x : ControllerState). IsNextStep x.config x.past (ReadyStep.Block c.args.ticket c.args.unit))
    (sym c.self.view_is)
    c.requires.block in
    let job = sym (ap option_copied_mut c.unwrap-job.ensures) ∙ c.get_mut.ensures.value in
    let made = c.make_block-done.ensures in (
      kept _ _ _ c.self.invariant.0 c.args.ticket b.0 c.unwrap-job.result.now job c.args.unit b.1
          c.make_block-done.result c.make_block-done.new.volume c.make_block-done.new.self
          (record { done = made.done; volume = made.volume; job = made.job })
          c.take_room.new.history.past c.push_reserved.new.self.past c.release_ended.new.ranges.held
          c.take_room.ensures.past c.push_reserved.ensures.past c.release_ended.ensures.held,
      omega (arith, c.push_reserved.ensures.room, c.in_ok-take_room.ensures.ok.1),
      omega (arith, c.self.invariant.2, c.release_ended.ensures.room, c.in_ok-take_room.ensures.ok.0),
      omega (arith, c.self.invariant.3, c.in_ok-take_room.ensures.ok.0),
    )

pub returns : goal.returns
returns c =
    let b = subst (λ (x : ControllerState). IsNextStep x.config x.past (ReadyStep.Block c.args.ticket c.args.unit))
    (sym c.self.view_is)
    c.requires.block in
    let job = sym (ap option_copied_mut c.unwrap-job.ensures) ∙ c.get_mut.ensures.value in
    let made = c.make_block-done.ensures in
    record {
      does = block_does _ _ _ c.self.invariant.0 c.args.ticket b.0 c.unwrap-job.result.now job c.args.unit b.1
          c.make_block-done.result c.make_block-done.new.volume c.make_block-done.new.self
          (record { done = made.done; volume = made.volume; job = made.job })
          c.args.self.now c.self.inside.promised c.take_room.new.promised _ _ _ _
          c.take_room.new.history.past c.push_reserved.new.self.past c.self.view_is
          (c.push_reserved.ensures.forgotten ∙ c.take_room.ensures.forgotten)
          c.take_room.ensures.past c.push_reserved.ensures.past c.in_ok-take_room.ensures.ok.0
          (record {
            entries = omega (arith, c.take_room.ensures.kept, c.push_reserved.ensures.room);
            ranges = omega (arith, c.release_ended.ensures.room);
          });
    }
