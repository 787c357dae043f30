use Rattle.std.proofs.Common.{ap₂, arith, bytes_eq, ◌∙◌}
use Rattle.history_check.proofs.Reaping.{reap_no, reap_yes}
use Rattle.history_check.proofs.reap.take_reap.Goals as goal

pub returns-in_default-reap : goal.returns-in_default-reap
returns-in_default-reap c = record {
  took = λ n past k.
      reap_no n past _ k c.args.line.now c.in-Some.place
      (record {
        next = c.in-Some.ensures.value.0;
        within = omega (arith, c.in-Some.ensures.value.1, c.len.ensures, k.shows.cq_rings.size);
      })
      c.index_mut.result.now c.index_mut.ensures.value _ c.in_default-reap.ensures.err.1;
}

pub returns : goal.returns
returns c = record {
  took = λ n past k.
      reap_yes n past _ k c.args.line.now c.in-Some.place
      (record {
        next = c.in-Some.ensures.value.0;
        within = omega (arith, c.in-Some.ensures.value.1, c.len.ensures, k.shows.cq_rings.size);
      })
      c.index_mut.result.now c.index_mut.ensures.value c.in-Ok.completion _ _ c.in-Ok.ensures.ok
      (c.eq.ensures ∙ ap₂ bytes_eq c.as_slice.ensures c.as_slice-2.ensures) c.in-Ok.ensures.rest;
}
