use Rattle.std.proofs.Common.{ap, refl, subst, sym, ◌∙◌, ◌≡◌}
use Rattle.nvme_model.specs.Passes.{SharedPast, entries}
use Rattle.nvme_model.specs.declared.config.ConfigNumbers.{ConfigNumbers}
use Rattle.meet_lock.specs.Lock.{ExtendsByPasses, hearing, longer}
use Rattle.meet_lock.specs.SeatSteps.{SawAll}
use Rattle.meet_lock.specs.declared.view.View.{View}
use Rattle.meet_lock.proofs.Beginnings.{longer_end}
use Rattle.meet_lock.proofs.Views.{Seated}
use Rattle.meet_lock.proofs.shared.Shared.meet.Goals as goal

pub returns-clause-met : goal.returns-clause-met
returns-clause-met g c =
    let o = c.in-Some.ensures.taken in
    let v : View = c.args.first.now.seat.me.0 in
    let w : View = c.args.second.now.seat.me.0 in
    let first = c.tell_held-from_first.ensures.same.1
    ∙ (c.hear.ensures.1 ∙ ap
    (λ (z : Seated g.row.M.Denot). (hearing z.0 c.tell-from_second.result.me.0, z.1)) o.is) in
    let saw = (subst (λ (z : Seated g.row.M.Denot). SawAll z.0) first c.give_same.ensures.told) refl in
    let begins : ExtendsByPasses v.passes w.seen o.log =
    subst (λ (z : Seated g.row.M.Denot). ExtendsByPasses v.passes z.0.seen o.log)
    c.tell-from_second.ensures.message.1 saw.0 in
    let seen1 : c.give_same.new.seat.me.0.seen ≡ o.log =
    ap (λ (z : Seated g.row.M.Denot). z.0.seen) c.give_same.ensures.shown
    ∙ ap (λ (z : Seated g.row.M.Denot). z.0.held) first in
    let config1 : c.give_same.new.seat.me.0.config ≡ v.config =
    ap (λ (z : Seated g.row.M.Denot). z.0.config) c.give_same.ensures.shown
    ∙ ap (λ (z : Seated g.row.M.Denot). z.0.config) first in
    let heard : c.hear-2.new.seat.me.0 ≡ hearing w c.tell_held-from_first.result.me.0 =
    ap (λ (z : Seated g.row.M.Denot). z.0) c.hear-2.ensures.1
    ∙ ap (λ (z : Seated g.row.M.Denot). hearing z.0 c.tell_held-from_first.result.me.0)
    c.tell-from_second.ensures.same.1 in
    let told : c.tell_held-from_first.result.me.0.seen ≡ o.log =
    ap (λ (z : Seated g.row.M.Denot). z.0.seen) c.tell_held-from_first.ensures.message.1
    ∙ ap (λ (z : Seated g.row.M.Denot). z.0.held) (sym c.tell_held-from_first.ensures.same.1 ∙ first) in
    let seen2 : c.look.new.seat.me.0.seen ≡ o.log =
    ap (λ (z : Seated g.row.M.Denot). z.0.seen) c.look.ensures.informed.0
    ∙ (ap (λ (z : View). longer z.seen z.told) heard
    ∙ (ap (longer w.seen) told ∙ longer_end v.passes w.seen o.log begins)) in
    record {
      same = seen1 ∙ sym seen2;
      right = subst (λ (z : ConfigNumbers × SharedPast). g.M.Machine.legal z.0 (entries z.1))
          (λ i. (sym config1 i, sym seen1 i)) o.right;
      both = c.look.ensures.told.2;
      first = subst (λ (l : SharedPast). ExtendsByPasses v.passes v.seen l) (sym seen1) o.begins;
      second = subst (λ (z : View).
          ExtendsByPasses z.passes z.seen c.look.new.seat.me.0.seen) heard c.look.ensures.told.0;
    }
