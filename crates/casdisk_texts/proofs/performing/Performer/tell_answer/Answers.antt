use Rattle.std.proofs.Common.{None, ap, subst, ◌∙◌}
use Rattle.controller_interface.specs.State.{Serves}
use Rattle.casdisk_texts.specs.Doing.{why_of}
use Rattle.casdisk_texts.proofs.Stepping.{made_done, made_seen, made_stopped, refused_done}
use Rattle.casdisk_texts.proofs.Stepping.{refused_seen, refused_stopped, why_refused}
use Rattle.casdisk_texts.proofs.performing.Performer.tell_answer.Goals as goal

pub returns-in-Ok-clause-done : goal.returns-in-Ok-clause-done
returns-in-Ok-clause-done g c before step served few =
    let s = subst (λ r. Serves before step r c.args.self.now.core) c.in-Ok.is served in
    let told = c.tell_entry.ensures in
    rw told.same.0 (made_done c.args.self.now.kinds.0 before c.args.self.now.core step _ _ c.tell_entry.result s.0.0 s.1
    few told.told)

pub returns-in-Ok-clause-stopped : goal.returns-in-Ok-clause-stopped
returns-in-Ok-clause-stopped g c before step served few =
    let s = subst (λ r. Serves before step r c.args.self.now.core) c.in-Ok.is served in
    made_stopped c.args.self.now.kinds.0 before c.args.self.now.core step _ _ c.tell_entry.result s.0.0 s.1
    few c.tell_entry.ensures.stopped

pub returns-clause-done : goal.returns-clause-done
returns-clause-done g c before step served few =
    let s = subst (λ r. Serves before step r c.args.self.now.core) c.in-Err.is served in
    let is = c.why_of.ensures ∙ ap why_of s.0 ∙ why_refused step _ in
    let told = c.tell_refusal.ensures in
    rw told.same.0 (refused_done c.args.self.now.kinds.0 before c.args.self.now.core step _ _ c.why_of.result is
    c.tell_refusal.result s.1 told.told told.other)

pub returns-clause-stopped : goal.returns-clause-stopped
returns-clause-stopped g c before step served few =
    let s = subst (λ r. Serves before step r c.args.self.now.core) c.in-Err.is served in
    let is = c.why_of.ensures ∙ ap why_of s.0 ∙ why_refused step _ in
    let told = c.tell_refusal.ensures in
    refused_stopped c.args.self.now.kinds.0 before c.args.self.now.core step _ _ c.why_of.result is
    c.tell_refusal.result told.stopped told.silent

pub returns-in-Ok-clause-seen : goal.returns-in-Ok-clause-seen
returns-in-Ok-clause-seen g c before step served few k stands =
    let s = subst (λ r. Serves before step r c.args.self.now.core) c.in-Ok.is served in
    let told = c.tell_entry.ensures in
    rw told.same.0 (made_seen c.args.self.now.kinds.0 before c.args.self.now.core step None None c.tell_entry.result
    s.0.0 s.1 few (g.J.Watch.stands c.args.self.now.watch k) (g.J.Watch.stands c.tell_entry.new.self.watch k)
    (λ e past is kept at. told.seen e past is kept k at) stands)

pub returns-clause-seen : goal.returns-clause-seen
returns-clause-seen g c before step served few k stands =
    let s = subst (λ r. Serves before step r c.args.self.now.core) c.in-Err.is served in
    let told = c.tell_refusal.ensures in
    rw (told.same.0, told.unseen)
    (refused_seen before c.args.self.now.core (g.J.Watch.stands c.args.self.now.watch k) c.tell_refusal.result s.1
    stands)
