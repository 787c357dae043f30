use Rattle.std.proofs.Common.{List, ℕ, get_or, rules, ◌<◌, ◌≡◌, ◌∙◌, ap, length, refl, subst, sym}
use Rattle.std.specs.List.Sorted.{IsStrictlyIncreasing}
use Rattle.std.specs.Prelude.{Contains}
use Rattle.driver_cas.specs.Cids.{QueueCids, queues_of}
use Rattle.driver_cas.specs.Turns.{IsTurn}
use Rattle.driver_cas.proofs.Starting.{begun, untouched_on, untouched_self}
use Rattle.driver_cas.proofs.Passing.{contained, no_room, stopped, too_few, turn_now}
use Rattle.driver_cas.proofs.driver.Driver.start.Goals as goal

pub loop-k-init : goal.loop-k-init
loop-k-init g c = record {
  untouched = untouched_self g.P.Port g.met.P.Port.stays c.args.self.now;
  contents = refl;
  empty = c.requires.room.0;
  capacity = c.requires.room.1;
  passed = refl;
}

pub loop-k-preserved-in_default : goal.loop-k-preserved-in_default
loop-k-preserved-in_default g c =
    let i = c.loop-k.invariant in
    let d = c.args.self.now in
    let e = c.loop-k.self in
    let k = c.loop-k.k in
    let within : k < length c.queues.result.now = search rules in
    record {
      untouched = i.untouched;
      contents = i.contents;
      empty = i.empty;
      capacity = i.capacity;
      passed = too_few g.P.Port d e c.args.request c.args.contents k (get_or c.queues.result.now k 0) i.untouched
          (ap (λ (xs : List ℕ). get_or xs k 0) (c.queues.ensures.value ∙ ap queues_of i.untouched.as_before.1)) i.passed
          (c.in_default.ensures.none
          (subst (λ (xs : List ℕ). Contains xs (get_or c.queues.result.now k 0)) c.queues.ensures.value
          (contained c.queues.result.now k within)));
    }

pub returns-in-Started-clause-later : goal.returns-in-Started-clause-later
returns-in-Started-clause-later g c =
    g.met.P.Port.goes_on _ _ _ c.loop-k.invariant.untouched.later c.publish_to.ensures.later

pub returns-in-Started-clause-is : goal.returns-in-Started-clause-is
returns-in-Started-clause-is g c =
    let i = c.loop-k.invariant in
    let t = c.in-Started.ensures.tried in
    let d = c.args.self.now in
    let e = c.loop-k.self in
    let k = c.in-Started.call in
    let r = c.args.request in
    begun g.P.Port g.met.P.Port.goes_on d e c.publish_to.new.self k r c.args.contents c.loop-k.contents t.2.0
    i.untouched t.1 i.contents
    (subst (λ (q : ℕ). IsTurn d e.port r c.args.contents q) (sym t.0)
    (turn_now g.P.Port d e.port r c.args.contents c.loop-k.k (get_or c.queues.result.now c.loop-k.k 0)
    (subst (λ (x : QueueCids). IsStrictlyIncreasing (queues_of x)) i.untouched.as_before.1 c.queues.ensures.law)
    (subst (λ (xs : List ℕ). c.loop-k.k < length xs) c.queues-k-end.ensures.value c.loop-k-test.true)
    (ap (λ (xs : List ℕ). get_or xs c.loop-k.k 0) (c.queues.ensures.value ∙ ap queues_of i.untouched.as_before.1))
    i.passed))
    t.2.1

pub returns-in-Stopped-clause-is : goal.returns-in-Stopped-clause-is
returns-in-Stopped-clause-is g c =
    let i = c.loop-k.invariant in
    let d = c.args.self.now in
    let e = c.loop-k.self in
    let r = c.args.request in
    let within : c.loop-k.k < length c.queues.result.now = search rules in
    let same : c.queues.result.now ≡ queues_of d.cids = c.queues.ensures.value ∙ ap queues_of i.untouched.as_before.1 in
    stopped g.P.Port d e c.publish_to.new.self r c.args.contents c.loop-k.contents
    (get_or c.queues.result.now c.loop-k.k 0) c.in-Stopped.fault
    (subst (λ (xs : List ℕ). Contains xs (get_or c.queues.result.now c.loop-k.k 0)) same
    (contained c.queues.result.now c.loop-k.k within))
    (turn_now g.P.Port d e.port r c.args.contents c.loop-k.k (get_or c.queues.result.now c.loop-k.k 0)
    (subst (λ (x : QueueCids). IsStrictlyIncreasing (queues_of x)) i.untouched.as_before.1 c.queues.ensures.law)
    (subst (λ (xs : List ℕ). c.loop-k.k < length xs) c.queues-k-end.ensures.value c.loop-k-test.true)
    (ap (λ (xs : List ℕ). get_or xs c.loop-k.k 0) same) i.passed)
    i.untouched i.contents c.publish_to.ensures.later c.in-Stopped.ensures.tried

pub loop-k-preserved : goal.loop-k-preserved
loop-k-preserved g c =
    let i = c.loop-k.invariant in
    let t = c.in-Full.ensures.tried in
    let d = c.args.self.now in
    let e = c.loop-k.self in
    let f = c.publish_to.new.self in
    let k = c.loop-k.k in
    record {
      untouched = untouched_on g.P.Port g.met.P.Port.goes_on d e f i.untouched c.publish_to.ensures.same
          c.publish_to.ensures.later t.0;
      contents = t.1 ∙ i.contents;
      empty = t.2;
      capacity = t.3;
      passed = no_room g.P.Port d e f.port c.args.request c.args.contents c.loop-k.contents k
          (get_or c.queues.result.now k 0) i.untouched i.contents c.publish_to.ensures.later
          (ap (λ (xs : List ℕ). get_or xs k 0) (c.queues.ensures.value ∙ ap queues_of i.untouched.as_before.1)) i.passed
          t.4;
    }
