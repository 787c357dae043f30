use Rattle.std.proofs.Common.{List, ap, length, refl, subst, sym, true, ℕ, ◌∙◌, ◌≡◌, ◌≤◌}
use Rattle.driver_calls.specs.Log.{is_tidy, state_of}
use Rattle.driver_calls.specs.Views.{since}
use Rattle.driver_calls.specs.declared.event.PortEvent.{PortEvent}
use Rattle.driver_cas.specs.Cids.{held}
use Rattle.driver_cas.specs.Dropped.{drop_count}
use Rattle.driver_cas.specs.Tables.{use_fits}
use Rattle.driver_cas.proofs.Following.{sole_later}
use Rattle.driver_cas.proofs.Listening.{idle_calls}
use Rattle.driver_cas.proofs.driver.Driver.attend.Goals as goal

pub invariant_of-self : goal.invariant_of-self
invariant_of-self g c =
    let d = c.args.self.now in
    let later = c.attend.ensures.later in
    let same = sym c.attend.ensures.log in
    record {
      sole = sole_later (g.P.Port.steps d.began.value) (g.P.Port.steps d.port) (g.P.Port.steps c.attend.new.port)
          (length (g.P.Port.log d.began.value)) (length (g.P.Port.log d.port))
          (length (g.P.Port.log c.attend.new.port)) d.sole (g.met.P.Port.sole d.port c.attend.new.port later);
      grows = subst (λ (l : List PortEvent). length (g.P.Port.log d.began.value) ≤ length l) same d.grows;
      tidy = subst (λ (l : List PortEvent). is_tidy (since (g.P.Port.log d.began.value) l) ≡ true) same d.tidy;
      own = λ q k. g.met.P.Port.keeps_own d.port c.attend.new.port q later ∙ d.own q k;
      matches = subst (λ (l : List PortEvent). (q cid : ℕ) →
          use_fits (held d.cids q cid) (state_of (since (g.P.Port.log d.began.value) l) q cid) ≡ true) same d.matches;
      drops = d.drops ∙ ap (λ (l : List PortEvent). drop_count (since (g.P.Port.log d.began.value) l)) same;
      named = d.named;
      within = d.within;
    }

pub returns-clause-untouched : goal.returns-clause-untouched
returns-clause-untouched g c =
    record {
      same = record { began = refl; host = refl; acwu = refl; slots = refl; serial = refl; queues = refl };
      later = c.attend.ensures.later;
      as_before = (
        ap (λ (l : List PortEvent). since (g.P.Port.log c.args.self.now.began.value) l) c.attend.ensures.log,
        refl,
      );
    }

pub returns-clause-calls : goal.returns-clause-calls
returns-clause-calls g c = λ k of.
    idle_calls g.P.Port g.met.P.Port.goes_on c.args.self.now _
    (record { began = refl; host = refl; acwu = refl; slots = refl; serial = refl; queues = refl }) refl
    c.attend.ensures.later c.attend.ensures.log k of
