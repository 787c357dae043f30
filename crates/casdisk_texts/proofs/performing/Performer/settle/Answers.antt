use Rattle.std.proofs.Common.{ap, option_map, refl, sym, ◌∙◌, arith}
use Rattle.line_text.proofs.Known.{on_err}
use Rattle.controller_interface.specs.State.{ControllerState}
use Rattle.casdisk_texts.proofs.Settling.{settled_none, settled_ready, settled_all, settled_next, settled_stopped}
use Rattle.casdisk_texts.proofs.Stepping.{config_served}
use Rattle.casdisk_texts.proofs.performing.Performer.settle.Goals as goal

pub loop-turn-init : goal.loop-turn-init
loop-turn-init g c = record { config = refl; kinds = refl; settled = settled_none _ _ _ _; seen = λ k stands. stands }

pub returns-in_default-clause-same : goal.returns-in_default-clause-same
returns-in_default-clause-same g c = (
  ap (λ (x : ControllerState). x.config) c.in_default.ensures.serves ∙ c.loop-turn.invariant.config,
  c.loop-turn.invariant.kinds,
)

pub returns-in_default-clause-done : goal.returns-in_default-clause-done
returns-in_default-clause-done g c =
    let inv = c.loop-turn.invariant in
    let none = rw inv.config at (sym c.step_ready.ensures.step ∙ ap (option_map (λ r. r.0)) c.in_default.is) in
    rw c.in_default.ensures.serves (settled_ready _ _ _ _ _ _ _ inv.settled c.loop-turn-test.true none)

pub returns-in_err-tell_answer-clause-same : goal.returns-in_err-tell_answer-clause-same
returns-in_err-tell_answer-clause-same g c =
    let inv = c.loop-turn.invariant in
    let same = c.tell_answer.ensures.same in (
      ap (λ (x : ControllerState). x.config) same.0
          ∙ config_served c.loop-turn.self.core c.step_ready.new.self c.in-Some._step c.in-Some.answer
          c.in-Some.ensures.serves ∙ inv.config,
      same.1 ∙ inv.kinds,
    )

pub returns-in_err-tell_answer-clause-stopped : goal.returns-in_err-tell_answer-clause-stopped
returns-in_err-tell_answer-clause-stopped g c =
    let inv = c.loop-turn.invariant in
    let some = rw inv.config at (sym c.step_ready.ensures.step ∙ ap (option_map (λ r. r.0)) c.in-Some.is) in
    let front = rw (inv.config, inv.kinds) at
    (c.in_err-tell_answer.ensures.stopped c.loop-turn.self.core c.in-Some._step c.in-Some.ensures.serves
    c.history.ensures.few) in
    on_err _ (settled_stopped _ _ _ _ _ _ _ c.in-Some._step some inv.settled c.loop-turn-test.true _ front)

pub loop-turn-preserved : goal.loop-turn-preserved
loop-turn-preserved g c =
    let inv = c.loop-turn.invariant in
    let same = c.tell_answer.ensures.same in
    let some = rw inv.config at (sym c.step_ready.ensures.step ∙ ap (option_map (λ r. r.0)) c.in-Some.is) in
    let done = rw (inv.config, inv.kinds) at
    (c.in_ok-tell_answer.ensures.done c.loop-turn.self.core c.in-Some._step c.in-Some.ensures.serves
    c.history.ensures.few) in
    record {
      config = ap (λ (x : ControllerState). x.config) c.forget.ensures.state
          ∙ ap (λ (x : ControllerState). x.config) same.0
          ∙ config_served c.loop-turn.self.core c.step_ready.new.self c.in-Some._step c.in-Some.answer
          c.in-Some.ensures.serves ∙ inv.config;
      kinds = same.1 ∙ inv.kinds;
      settled = rw (ap (λ (x : ControllerState). x.past) c.forget.ensures.state)
          (settled_next _ _ _ _ _ _ _ c.in-Some._step some inv.settled c.loop-turn-test.true _ _ done);
      seen = λ k stands. rw (ap (λ (x : ControllerState). x.past) c.forget.ensures.state)
          (c.in_ok-tell_answer.ensures.seen c.loop-turn.self.core c.in-Some._step c.in-Some.ensures.serves
          c.history.ensures.few k (inv.seen k stands));
    }

pub returns-clause-same : goal.returns-clause-same
returns-clause-same g c = (c.loop-turn.invariant.config, c.loop-turn.invariant.kinds)

pub returns-clause-done : goal.returns-clause-done
returns-clause-done g c =
    let inv = c.loop-turn.invariant in
    settled_all _ _ _ _ _ _ _ inv.settled (omega (arith, c.loop-turn-test.false, c.loop-turn.auto._turn-end))

pub returns-in_default-clause-seen : goal.returns-in_default-clause-seen
returns-in_default-clause-seen g c k stands = rw c.in_default.ensures.serves (c.loop-turn.invariant.seen k stands)

pub returns-clause-seen : goal.returns-clause-seen
returns-clause-seen g c k stands = c.loop-turn.invariant.seen k stands
