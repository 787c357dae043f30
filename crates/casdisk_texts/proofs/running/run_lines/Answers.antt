use Rattle.std.proofs.Common.{◌≡◌, Err, inl, inr, [], length, vec_len, refl, sym, ap, ◌∙◌}
use Rattle.std.proofs.lemmas.Bool.{eqb-true, eqb-false}
use Rattle.std.proofs.lemmas.List.{nil_from_length}
use Rattle.casdisk_texts.specs.Running.{lines_from}
use Rattle.casdisk_texts.specs.Script.{cut, done}
use Rattle.casdisk_texts.proofs.Reaching.{all_read, begins, goes_on, ends_bad, front_stopped, front_lost, front_here}
use Rattle.casdisk_texts.proofs.Reaching.{ends_last, makes_last, print_none, print_rest, runs_stopped, runs_unread}
use Rattle.casdisk_texts.proofs.running.run_lines.Goals as goal

pub loop-number-init : goal.loop-number-init
loop-number-init g c =
    record {
      fixed = refl;
      done = λ k past h. (refl, record { past = past; stands = h; reached = begins _ _ _ _ _ _ });
    }

pub returns-in-Err-clause-runs : goal.returns-in-Err-clause-runs
returns-in-Err-clause-runs g c k past h =
    let outcome = lines_from (g.M.LineMeaning.meaning c.args.actor.now) past 2 c.args.lines.now in
    let reached = (c.loop-number.invariant.done k past h).1.reached in
    rw c.read_fault.ensures.cause (runs_unread outcome c.in-Err.fault _ _ _ _
    (λ e. all_read _ _ _ _ _ _ _ _ _ _ reached _ _ c.in-Err.ensures.err (c.in-Err.ensures.input (ap Err e)))
    (front_lost _ _ _ _ _ _ _ _ _ _ reached _ _ c.in-Err.ensures.err))

pub returns-then-is_empty-clause-runs : goal.returns-then-is_empty-clause-runs
returns-then-is_empty-clause-runs g c k past h =
    let line = c.next_line.new.line in
    let x = rw c.in-Ok-Rest.field-0-is at c.in-Ok-Rest.ensures.line in
    let none : line.items ≡ [] =
    nil_from_length line.items
    (sym line.ok.0 ∙ eqb-true (vec_len line) 0 (sym c.is_empty.ensures ∙ c.if-is_empty.true)) in (
      ends_last _ _ _ _ _ _ _ _ _ _ (c.loop-number.invariant.done k past h).1.reached _ line.items done x.0 x.1 x.2 x.3
          (print_none _ _ _ line.items none),
      x.3,
    )

pub returns-then-is_empty-clause-makes : goal.returns-then-is_empty-clause-makes
returns-then-is_empty-clause-makes g c k past h =
    let line = c.next_line.new.line in
    let x = rw c.in-Ok-Rest.field-0-is at c.in-Ok-Rest.ensures.line in
    let none : line.items ≡ [] =
    nil_from_length line.items
    (sym line.ok.0 ∙ eqb-true (vec_len line) 0 (sym c.is_empty.ensures ∙ c.if-is_empty.true)) in
    let at = (c.loop-number.invariant.done k past h).1 in
    makes_last _ _ _ _ _ _ _ _ _ _ at.reached _ line.items done (g.M.LineMeaning.stands c.loop-number.actor k) at.stands
    x.0 x.1 x.2 x.3 (print_none _ _ _ line.items none)

pub returns-in-Ok-Rest-clause-runs : goal.returns-in-Ok-Rest-clause-runs
returns-in-Ok-Rest-clause-runs g c k past h =
    let line = c.next_line.new.line in
    let x = rw c.in-Ok-Rest.field-0-is at c.in-Ok-Rest.ensures.line in
    let some : line.items ≡ [] → ⊥ =
    λ (e : line.items ≡ []).
    eqb-false (vec_len line) 0 (sym c.is_empty.ensures ∙ c.if-is_empty.false) (line.ok.0 ∙ ap length e) in
    inr (ends_last _ _ _ _ _ _ _ _ _ _ (c.loop-number.invariant.done k past h).1.reached _ line.items
    (cut c.loop-number.number) x.0 x.1 x.2 x.3 (print_rest _ _ _ line.items some))

pub returns-in-Err-take_line-clause-runs : goal.returns-in-Err-take_line-clause-runs
returns-in-Err-take_line-clause-runs g c k past h =
    let x = rw c.in-Ok-Whole.field-0-is at c.in-Ok-Whole.ensures.line in
    let inv = c.loop-number.invariant.done k past h in
    let t = rw (c.deref.ensures.value, inv.0) at (c.in-Err-take_line.ensures.stopped k inv.1.past inv.1.stands) in
    let outcome = lines_from (g.M.LineMeaning.meaning c.args.actor.now) past 2 c.args.lines.now in
    rw c.write_fault.ensures.cause (runs_stopped outcome c.in-Err-take_line.fault _ _ _ _
    (front_stopped _ _ _ _ _ _ _ _ _ _ inv.1.reached _ c.next_line.new.line.items _ x.0 x.1 t))

pub returns-in-Ok-Bad-clause-runs : goal.returns-in-Ok-Bad-clause-runs
returns-in-Ok-Bad-clause-runs g c k past h =
    let x = rw c.in-Ok-Whole.field-0-is at c.in-Ok-Whole.ensures.line in
    let inv = c.loop-number.invariant.done k past h in
    let t = rw (c.in-Ok-Bad.field-0-is, c.deref.ensures.value, inv.0) at
    (c.in-Ok-Bad.ensures.taken k inv.1.past inv.1.stands) in
    inl (ends_bad _ _ _ _ _ _ _ _ _ _ inv.1.reached _ c.next_line.new.line.items _ x.0 x.1 t.0 t.1)

pub loop-number-preserved : goal.loop-number-preserved
loop-number-preserved g c =
    record {
      fixed = c.in-Ok-Done.ensures.fixed ∙ c.loop-number.invariant.fixed;
      done = λ k past h.
          let x = rw c.in-Ok-Whole.field-0-is at c.in-Ok-Whole.ensures.line in
          let inv = c.loop-number.invariant.done k past h in
          let t = rw (c.in-Ok-Done.field-0-is, c.deref.ensures.value, inv.0) at
          (c.in-Ok-Done.ensures.taken k inv.1.past inv.1.stands) in (
            t.3,
            record {
              past = t.0.0;
              stands = t.2;
              reached = goes_on _ _ _ _ _ _ _ _ _ _ inv.1.reached _ c.next_line.new.line.items _ t.0 x.0 x.1 t.1 t.4;
            },
          );
    }

pub returns-clause-runs : goal.returns-clause-runs
returns-clause-runs g c k past h =
    front_here _ _ _ _ _ _ (g.R.Read.remaining c.loop-number.reader) _ _ _
    (c.loop-number.invariant.done k past h).1.reached
