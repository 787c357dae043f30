use Rattle.std.proofs.Common.{arith, ap, sym, ◌∙◌}
use Rattle.std.specs.Option.{option_copied}
use Rattle.history_check.proofs.Rings.{IsPlace}
use Rattle.history_check.proofs.Telling.{tell_no_completion, tell_reap}
use Rattle.history_check.proofs.why.why_reap.Goals as goal

pub returns-in-None : goal.returns-in-None
returns-in-None c = record {
  value = λ n past k.
      let place : IsPlace n.cqs c.args.line.now.queue c.in-Some.place =
      record {
        next = c.in-Some.ensures.value.0;
        within = omega (arith, c.in-Some.ensures.value.1, c.len.ensures, k.shows.cq_rings.size);
      } in
      c.reap_broken.ensures.value
      ∙ tell_no_completion n past _ k c.args.line.now c.in-Some.place place c.index.result.now c.index.ensures
      (sym c.front.ensures.value ∙ ap option_copied c.in-None.is);
}

pub returns-in-Some-front : goal.returns-in-Some-front
returns-in-Some-front c = record {
  value = λ n past k.
      let place : IsPlace n.cqs c.args.line.now.queue c.in-Some.place =
      record {
        next = c.in-Some.ensures.value.0;
        within = omega (arith, c.in-Some.ensures.value.1, c.len.ensures, k.shows.cq_rings.size);
      } in
      c.reap_broken-in-Some-front.ensures.value
      ∙ tell_reap n past _ k c.args.line.now c.in-Some.place place c.index.result.now c.index.ensures
      c.in-Some-front.oldest.now (sym c.front.ensures.value ∙ ap option_copied c.in-Some-front.is);
}
