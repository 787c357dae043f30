use Rattle.std.proofs.Common.{arith, ap, length, sym, ◌∙◌, ◌≤◌, ◌<◌}
use Rattle.std.specs.Option.{option_copied}
use Rattle.broken_rules.specs.Rows.{fetch_broken}
use Rattle.nvme_model.specs.declared.config.ConfigNumbers.{ConfigNumbers}
use Rattle.history_check.proofs.Rings.{IsPlace}
use Rattle.history_check.proofs.Telling.{tell_empty, tell_fetch, tell_full}
use Rattle.history_check.proofs.why.why_fetch.Goals as goal

pub returns-in_default-peek : goal.returns-in_default-peek
returns-in_default-peek c = record {
  value = λ past k.
      let place : IsPlace c.args.config.now.pairs c.args.line.now.queue c.in-Some.place =
      record {
        next = c.in-Some.ensures.value.0;
        within = omega (arith, c.in-Some.ensures.value.1, c.len.ensures, k.shows.sq_rings.size);
      } in
      tell_empty _ past _ k c.args.line.now c.in-Some.place place c.index-ring.result.now c.index-ring.ensures
      (sym c.peek.ensures.value ∙ ap option_copied c.in_default-peek.is);
}

pub returns-then-len-from : goal.returns-then-len-from
returns-then-len-from c = record {
  value = λ past k.
      let place : IsPlace c.args.config.now.pairs c.args.line.now.queue c.in-Some.place =
      record {
        next = c.in-Some.ensures.value.0;
        within = omega (arith, c.in-Some.ensures.value.1, c.len.ensures, k.shows.sq_rings.size);
      } in
      let waits = sym c.peek.ensures.value ∙ ap option_copied c.in-Some-peek.is in
      let full : c.args.config.now.jobs ≤ length c.args.fields.now.flights.items =
      omega (
        arith,
        c.if-len-from.true,
        c.len-2.ensures,
        c.from.ensures,
        ap (λ (n : ConfigNumbers). n.jobs) c.numbers.ensures.value,
      ) in
      tell_full _ past _ k c.args.line.now c.in-Some.place place c.index-ring.result.now c.index-ring.ensures
      c.in-Some-peek.first.now waits full;
}

pub index-requires : goal.index-requires
index-requires c =
    let k = c.requires.keeps.1 in
    omega (arith, c.in-Some.ensures.value.1, c.len.ensures, k.shows.sq_rings.size, k.shows.in_use.size)

pub returns : goal.returns
returns c = record {
  value = λ past k.
      let place : IsPlace c.args.config.now.pairs c.args.line.now.queue c.in-Some.place =
      record {
        next = c.in-Some.ensures.value.0;
        within = omega (arith, c.in-Some.ensures.value.1, c.len.ensures, k.shows.sq_rings.size);
      } in
      let waits = sym c.peek.ensures.value ∙ ap option_copied c.in-Some-peek.is in
      let behind = c.as_ref.ensures.value ∙ c.next_item-next.ensures.value in
      let room : length c.args.fields.now.flights.items < c.args.config.now.jobs =
      omega (
        arith,
        c.if-len-from.false,
        c.len-2.ensures,
        c.from.ensures,
        ap (λ (n : ConfigNumbers). n.jobs) c.numbers.ensures.value,
      ) in
      c.fetch_broken.ensures.value
      ∙ ap (fetch_broken c.args.line.now c.args.fields.now.tickets) c.verdict.ensures.value
      ∙ tell_fetch _ past _ k c.args.line.now c.in-Some.place place c.index-ring.result.now c.index-ring.ensures
      c.in-Some-peek.first.now waits (option_copied c.as_ref.result) behind room c.judge_front-judged.result
      c.index.result.now c.index.ensures c.as_slice-in_use.result.now c.as_slice-in_use.ensures.value
      c.judge_front-judged.ensures.verdict c.judge_front-judged.ensures.operation
      c.judge_front-judged.ensures.range;
}
