use Rattle.std.proofs.Common.{None, Option, ap, arith, get_or, length, slice_get, subst, sym, [], ℕ, ◌∙◌, ◌≡◌}
use Rattle.witness_check.specs.Lanes.{AreLanes, IsSought, LanesRun, slot}
use Rattle.witness_check.proofs.Placing.{sought}
use Rattle.witness_check.proofs.lanes.Lanes.next.Goals as goal

pub returns : goal.returns
returns c = record {
  ok = λ size came some h.
      let n : c.len.result ≡ size =
      omega (arith, c.len.ensures, h.waits.size, ap (λ (x : LanesRun). length x.waiting) c.self.view_is) in
      let y : LanesRun = record { waiting = c.self-2.inside.waiting.items; read = c.self-2.inside.read } in
      let r = subst (λ (x : LanesRun). AreLanes size c.args.trace.now came x
      × (slice_get (get_or x.waiting c.slot-at.result []) 0 ≡ None → x.read ≡ length c.args.trace.now))
      (sym c.self-2.view_is) (c.in_ok-seek.ensures.ok size came some h) in
      subst (λ (l : Option ℕ). IsSought size c.args.trace.now came l c.pop_at.result (record {
        waiting = c.pop_at.new.table.items;
        read = c.self-2.inside.read;
      })) (sym c.in-Some.is)
      (sought size c.args.trace.now came y some r.0 c.in-Some.lane c.slot-at.result c.pop_at.result
      c.pop_at.new.table.items (c.slot-at.ensures.value ∙ ap (λ m. slot m c.in-Some.lane) n) r.1
      c.pop_at.ensures.first c.pop_at.ensures.rest);
}
