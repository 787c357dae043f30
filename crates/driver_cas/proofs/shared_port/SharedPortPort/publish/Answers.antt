use Rattle.std.proofs.Common.{ap, ap₂, refl, rules, subst, ◌∙◌, ◌∷◌, ◌++◌, ◌≡◌, ◌⊎◌, List, None, Some, ℕ, sym}
use Rattle.std.specs.Prelude.{unwrap_or}
use Rattle.nvme_model.specs.declared.refusal.Why.{Why}
use Rattle.nvme_model.specs.Passes.{entries}
use Rattle.nvme_model.specs.Refusals.{refusal}
use Rattle.nvme_model.specs.declared.config.ConfigNumbers.{ConfigNumbers}
use Rattle.nvme_model.specs.declared.entry.Entry.{Entry}
use Rattle.nvme_model.specs.declared.step.Step.{Step}
use Rattle.meet_lock.specs.Passes.{config_of, mine, number, passes_of, seen}
use Rattle.driver_calls.specs.declared.event.PortEvent.{PortEvent}
use Rattle.driver_cas.specs.Passes.{log_at}
use Rattle.driver_cas.specs.Ports.{view_of}
use Rattle.driver_cas.proofs.Following.{port_idle, port_stepped}
use Rattle.driver_cas.proofs.Listening.{saw_more, saw_nothing}
use Rattle.driver_cas.proofs.Ports.{fault_tells, owned_publish, before_accepted, log_accepted, log_declined}
use Rattle.driver_cas.proofs.Ports.{publish_event, same_batch, refused_publish, same_why}
use Rattle.driver_cas.proofs.shared_port.SharedPortPort.publish.Goals as goal

pub returns-in-Ok-clause-sent : goal.returns-in-Ok-clause-sent
returns-in-Ok-clause-sent c =
    let k = c.in-Ok.ensures in
    let a = k.accepted in
    log_accepted c.args.self.now.queue c.args.self.now.pass c.publish.new.pass a.entry a.before k.same a.ends
    a.adds k.knows.1
    ∙ ap (λ (xs : List PortEvent). xs ++ log_at c.args.self.now.queue c.args.self.now.pass)
    (publish_event (view_of c.args.self.now) (entries a.before) a.entry c.args.queue c.args.batch a.says.1
    c.requires.own)

pub returns-in-Ok-clause-accepted : goal.returns-in-Ok-clause-accepted
returns-in-Ok-clause-accepted c =
    let k = c.in-Ok.ensures in
    let a = k.accepted in
    record {
      publishes = record {
        before = a.before;
        begins = before_accepted c.args.self.now.pass c.publish.new.pass a.entry a.before k.same a.ends a.adds
            k.knows.1;
        ends = a.ends ∙ ap₂ (λ (n : ℕ) (e : Entry). (n, e) ∷ a.before) (sym k.same.1) a.says.1;
      };
      counted = refl;
    }

pub returns-in-Err-Refused-clause-back : goal.returns-in-Err-Refused-clause-back
returns-in-Err-Refused-clause-back c =
    let e = c.in-Err-Refused in
    let d = e.ensures in
    let r = refused_publish c.args.self.now.pass c.publish.new.pass c.args.queue c.args.batch e.field-0 e.why
    e.batch e.field-0-is d.declined in (
      same_batch _ _ _ _ r.1,
      log_declined c.args.self.now.queue c.args.self.now.pass c.publish.new.pass d.same r.0 d.knows.1,
    )

pub returns-in-Err-Refused-clause-refused : goal.returns-in-Err-Refused-clause-refused
returns-in-Err-Refused-clause-refused c =
    let e = c.in-Err-Refused in
    let d = e.ensures in
    let a = c.args.self.now in
    let q = c.publish.new.pass in
    let r = refused_publish a.pass q c.args.queue c.args.batch e.field-0 e.why
    e.batch e.field-0-is d.declined in
    let past = entries (seen q) in
    let step = Step.Publish c.args.queue c.args.batch in (
      fault_tells (passes_of a.pass) (view_of a)
          (record { config = config_of q; queue = a.queue; pass = number q; seen = seen q }) c.args.queue c.args.batch
          c.publish_fault.result
          (c.publish_fault.ensures ∙ same_why _ _ _ _ r.1
          ∙ ap (λ (g : ConfigNumbers). unwrap_or (refusal g past step) Why.NoMemory) (sym d.same.3))
          (subst (λ (g : ConfigNumbers). (refusal g past step ≡ Some Why.NoRoom) ⊎ (refusal g past step ≡ None))
          (sym d.same.3) (owned_publish (view_of a) past c.args.queue c.args.batch c.requires.own c.requires.some)),
      refl,
    )

pub returns-in-Ok-clause-later : goal.returns-in-Ok-clause-later
returns-in-Ok-clause-later c =
    let k = c.in-Ok.ensures in
    port_stepped c.args.self.now _ refl (λ h. h) k.same (k.knows.1, k.knows.2)
    (PortEvent.Sent c.args.queue c.args.batch) k.accepted.adds (returns-in-Ok-clause-sent c)

pub returns-in-Err-Refused-clause-later : goal.returns-in-Err-Refused-clause-later
returns-in-Err-Refused-clause-later c =
    let e = c.in-Err-Refused in
    let d = e.ensures in
    let r = refused_publish c.args.self.now.pass c.publish.new.pass c.args.queue c.args.batch e.field-0 e.why
    e.batch e.field-0-is d.declined in
    port_idle c.args.self.now _ refl (λ h. h) d.same (d.knows.1, d.knows.2) r.0 (returns-in-Err-Refused-clause-back c).1

pub returns-in-Err-Busy-clause-later : goal.returns-in-Err-Busy-clause-later
returns-in-Err-Busy-clause-later c =
    let d = c.in-Err-Busy.ensures in
    let saw : seen c.publish.new.pass ≡ seen c.args.self.now.pass = search rules in
    let stays : mine c.publish.new.pass ≡ mine c.args.self.now.pass = search rules in
    (saw_more c.args.self.now _ refl (λ h. h)
    (saw_nothing c.args.self.now.pass c.publish.new.pass d.same stays saw)).follows
