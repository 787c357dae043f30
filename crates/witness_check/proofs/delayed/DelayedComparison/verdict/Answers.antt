use Rattle.std.proofs.Common.{arith, refl, subst, sym, ◌+◌, ◌∙◌}
use Rattle.std.proofs.lemmas.Option.{slice_get_within}
use Rattle.witness_check.specs.Delays.{DelaysRun, IsDelayedTo, lanes_of}
use Rattle.witness_check.proofs.Onward.{some_lanes}
use Rattle.witness_check.proofs.Settling.{delayed_bad, delayed_explained, delayed_left, delayed_unlike, in_step}
use Rattle.witness_check.proofs.delayed.DelayedComparison.verdict.Goals as goal

pub returns-in-Some : goal.returns-in-Some
returns-in-Some c = record {
  value = λ o n past h.
      let x : DelaysRun = record {
        compared = c.self.inside.comparison;
        aside = c.self.inside.aside;
        lanes = c.self.inside.lanes;
        reach = c.self.inside.reach;
        number = c.self.inside.number;
        unlike = c.self.inside.unlike;
      } in
      let k = subst (λ (y : DelaysRun). IsDelayedTo o n c.args.trace.now past y) (sym c.self.view_is) h in
      delayed_bad o n c.args.trace.now past x k c.in-Some.place (sym c.first_bad.ensures.value ∙ c.in-Some.is);
}

pub returns-in-Some-unlike : goal.returns-in-Some-unlike
returns-in-Some-unlike c = record {
  value = λ o n past h.
      let x : DelaysRun = record {
        compared = c.self.inside.comparison;
        aside = c.self.inside.aside;
        lanes = c.self.inside.lanes;
        reach = c.self.inside.reach;
        number = c.self.inside.number;
        unlike = c.self.inside.unlike;
      } in
      let k = subst (λ (y : DelaysRun). IsDelayedTo o n c.args.trace.now past y) (sym c.self.view_is) h in
      delayed_unlike o n c.args.trace.now past x k c.in-Some-unlike.difference
      (sym c.first_bad.ensures.value ∙ c.in_default.is) c.in-Some-unlike.is;
}

pub returns-in_default-first_left : goal.returns-in_default-first_left
returns-in_default-first_left c = record {
  value = λ o n past h.
      let x : DelaysRun = record {
        compared = c.self.inside.comparison;
        aside = c.self.inside.aside;
        lanes = c.self.inside.lanes;
        reach = c.self.inside.reach;
        number = c.self.inside.number;
        unlike = c.self.inside.unlike;
      } in
      let k = subst (λ (y : DelaysRun). IsDelayedTo o n c.args.trace.now past y) (sym c.self.view_is) h in
      let good = sym c.first_bad.ensures.value ∙ c.in_default.is in
      let step = in_step o n c.args.trace.now past x k good c.in_default-unlike.is in
      delayed_explained o n c.args.trace.now past x k good c.in_default-unlike.is
      (c.in_default-first_left.ensures.value (lanes_of n) k.came (some_lanes n) step.places);
}

pub returns-then-place-count : goal.returns-then-place-count
returns-then-place-count c = record {
  value = λ o n past h.
      let x : DelaysRun = record {
        compared = c.self.inside.comparison;
        aside = c.self.inside.aside;
        lanes = c.self.inside.lanes;
        reach = c.self.inside.reach;
        number = c.self.inside.number;
        unlike = c.self.inside.unlike;
      } in
      let k = subst (λ (y : DelaysRun). IsDelayedTo o n c.args.trace.now past y) (sym c.self.view_is) h in
      let good = sym c.first_bad.ensures.value ∙ c.in_default.is in
      let step = in_step o n c.args.trace.now past x k good c.in_default-unlike.is in
      let left = c.in-Some-first_left.ensures.value (lanes_of n) k.came (some_lanes n) step.places in
      delayed_left o n c.args.trace.now past x k good c.in_default-unlike.is c.in-Some-first_left.place
      (c.in-Some-first_left.place + 1) refl left;
}

pub returns-else-place-count : goal.returns-else-place-count
returns-else-place-count c = record {
  value = λ o n past h.
      let x : DelaysRun = record {
        compared = c.self.inside.comparison;
        aside = c.self.inside.aside;
        lanes = c.self.inside.lanes;
        reach = c.self.inside.reach;
        number = c.self.inside.number;
        unlike = c.self.inside.unlike;
      } in
      let k = subst (λ (y : DelaysRun). IsDelayedTo o n c.args.trace.now past y) (sym c.self.view_is) h in
      let good = sym c.first_bad.ensures.value ∙ c.in_default.is in
      let step = in_step o n c.args.trace.now past x k good c.in_default-unlike.is in
      let left = c.in-Some-first_left.ensures.value (lanes_of n) k.came (some_lanes n) step.places in
      let low = slice_get_within c.args.trace.now c.in-Some-first_left.place left.0.0 left.0.1 in
      absurd (omega (arith, low, c.if-place-count.false));
}
