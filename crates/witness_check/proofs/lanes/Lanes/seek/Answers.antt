use Rattle.std.proofs.Common.{ap, arith, false, is_some, sym, true, ◌≡◌, ◌∙◌}
use Rattle.witness_check.proofs.lanes.Lanes.seek.Goals as goal

pub returns-then-is_some : goal.returns-then-is_some
returns-then-is_some c = record {
  ok = λ size came some h. (
    (c.loop.invariant size came some h).0,
    λ none.
        absurd (let w : false ≡ true = sym (ap is_some (c.first_at.ensures.value ∙ none)) ∙ sym c.is_some.ensures
        ∙ c.if-is_some.true in cc),
  );
}

pub loop-preserved : goal.loop-preserved
loop-preserved c = λ size came some h.
    let w = c.loop.invariant size came some h in
    let r = c.in_ok-read_on.ensures.ok size came some w.0 (omega (arith, w.1, c.loop-test.true)) in
    (r.0, omega (arith, r.1, w.1))

pub returns : goal.returns
returns c = record {
  ok = λ size came some h.
      let w = c.loop.invariant size came some h in
      (w.0, λ none. omega (arith, w.0.within, w.1, c.loop-test.false));
}
