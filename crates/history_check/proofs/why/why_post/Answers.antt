use Rattle.std.proofs.Common.{ap, arith, get_or, length, slice_get, sym, ◌%◌, ◌-◌, ◌∙◌}
use Rattle.history_check.specs.Explained.{post_wrong_at}
use Rattle.history_check.specs.Judged.{checked_owed}
use Rattle.nvme_model.specs.Bits.{bit}
use Rattle.nvme_model.specs.Tickets.{Ticket}
use Rattle.nvme_model.specs.declared.config.ConfigNumbers.{ConfigNumbers}
use Rattle.history_check.proofs.Flights.{found_by, missing_by, rises_by}
use Rattle.history_check.proofs.Posting.{post_count, post_cq_place, post_low, post_sq_place}
use Rattle.history_check.proofs.Telling.{tell_cq_full, tell_no_post, tell_nothing, tell_post}
use Rattle.history_check.proofs.why.why_post.Goals as goal

pub ticket_place-requires : goal.ticket_place-requires
ticket_place-requires c =
    record { rising = rises_by _ _ _ c.requires.keeps.1 c.args.line.now.ticket _ c.as_slice.ensures.value }

pub returns-in_default : goal.returns-in_default
returns-in_default c = record {
  value = λ past k. tell_no_post _ past _ k c.args.line.now
      (missing_by _ past _ k c.args.line.now.ticket _ _ c.as_slice.ensures.value c.ticket_place.ensures.value
      c.in_default.is);
}

pub returns-then-owes_nothing : goal.returns-then-owes_nothing
returns-then-owes_nothing c = record {
  value = λ past k.
      let there = found_by _ past _ k c.args.line.now.ticket c.in-Some.place c.index-one.result.now _ _
      c.as_slice.ensures.value c.ticket_place.ensures.value c.in-Some.is c.index-one.ensures in
      tell_nothing _ past _ k c.args.line.now c.in-Some.place c.index-one.result.now there
      (sym (c.owes_nothing.ensures.value c.args.config.now
      (post_count _ past _ k c.args.line.now c.in-Some.place c.index-one.result.now there _
      (ap length c.as_slice-2.ensures))) ∙ c.if-owes_nothing.true);
}

pub overflow_sub-queue : goal.overflow_sub-queue
overflow_sub-queue c =
    let k = c.requires.keeps.1 in
    let there = found_by _ _ _ k c.args.line.now.ticket c.in-Some.place c.index-one.result.now _ _
    c.as_slice.ensures.value c.ticket_place.ensures.value c.in-Some.is c.index-one.ensures in
    omega (
      arith,
      post_low _ _ _ k c.args.line.now c.in-Some.place c.index-one.result.now there,
      c.queue-queue.ensures.value,
      ap (λ (t : Ticket). t.queue) c.ticket.ensures.value,
    )

pub index-ring-requires : goal.index-ring-requires
index-ring-requires c =
    let k = c.requires.keeps.1 in
    let there = found_by _ _ _ k c.args.line.now.ticket c.in-Some.place c.index-one.result.now _ _
    c.as_slice.ensures.value c.ticket_place.ensures.value c.in-Some.is c.index-one.ensures in
    let at = c.from-at.ensures
    ∙ (λ i. ((c.queue-queue.ensures.value ∙ ap (λ (t : Ticket). t.queue) c.ticket.ensures.value) i - 1) %
    (ap (λ (n : ConfigNumbers). n.cqs) c.numbers.ensures.value) i) in
    omega (
      arith,
      (post_cq_place _ _ _ k c.args.line.now c.in-Some.place c.index-one.result.now there).within,
      k.shows.cq_rings.size,
      at,
    )

pub overflow_sub-from : goal.overflow_sub-from
overflow_sub-from c =
    let k = c.requires.keeps.1 in
    let there = found_by _ _ _ k c.args.line.now.ticket c.in-Some.place c.index-one.result.now _ _
    c.as_slice.ensures.value c.ticket_place.ensures.value c.in-Some.is c.index-one.ensures in
    omega (
      arith,
      post_low _ _ _ k c.args.line.now c.in-Some.place c.index-one.result.now there,
      c.from.ensures,
      c.queue-queue.ensures.value,
      ap (λ (t : Ticket). t.queue) c.ticket.ensures.value,
    )

pub index-requires : goal.index-requires
index-requires c =
    let k = c.requires.keeps.1 in
    let there = found_by _ _ _ k c.args.line.now.ticket c.in-Some.place c.index-one.result.now _ _
    c.as_slice.ensures.value c.ticket_place.ensures.value c.in-Some.is c.index-one.ensures in
    omega (
      arith,
      (post_sq_place _ _ _ k c.args.line.now c.in-Some.place c.index-one.result.now there).within,
      k.shows.sq_rings.size,
      c.from.ensures,
      c.queue-queue.ensures.value,
      ap (λ (t : Ticket). t.queue) c.ticket.ensures.value,
    )

pub returns-then-is_full : goal.returns-then-is_full
returns-then-is_full c = record {
  value = λ past k.
      let there = found_by _ past _ k c.args.line.now.ticket c.in-Some.place c.index-one.result.now _ _
      c.as_slice.ensures.value c.ticket_place.ensures.value c.in-Some.is c.index-one.ensures in
      let queue = c.queue-queue.ensures.value ∙ ap (λ (t : Ticket). t.queue) c.ticket.ensures.value in
      let at = c.from-at.ensures
      ∙ (λ i. (queue i - 1) % (ap (λ (n : ConfigNumbers). n.cqs) c.numbers.ensures.value) i) in
      let sq = c.index.ensures
      ∙ (λ i. get_or c.args.fields.now.submission.items ((c.from.ensures ∙ queue) i - 1) c.index.result.now) in
      let cq = c.index-ring.ensures ∙ (λ i. get_or c.args.fields.now.completion.items (at i) c.index-ring.result.now) in
      let count = post_count _ past _ k c.args.line.now c.in-Some.place c.index-one.result.now there _
      (ap length c.as_slice-2.ensures) in
      let owes = sym (c.owes_nothing.ensures.value c.args.config.now count) ∙ c.if-owes_nothing.false in
      tell_cq_full _ past _ k c.args.line.now c.in-Some.place c.index-one.result.now there owes c.index-ring.result.now
      cq c.index.result.now sq (sym c.is_full.ensures.value ∙ c.if-is_full.true);
}

pub returns : goal.returns
returns c = record {
  value = λ past k.
      let there = found_by _ past _ k c.args.line.now.ticket c.in-Some.place c.index-one.result.now _ _
      c.as_slice.ensures.value c.ticket_place.ensures.value c.in-Some.is c.index-one.ensures in
      let queue = c.queue-queue.ensures.value ∙ ap (λ (t : Ticket). t.queue) c.ticket.ensures.value in
      let at = c.from-at.ensures
      ∙ (λ i. (queue i - 1) % (ap (λ (n : ConfigNumbers). n.cqs) c.numbers.ensures.value) i) in
      let sq = c.index.ensures
      ∙ (λ i. get_or c.args.fields.now.submission.items ((c.from.ensures ∙ queue) i - 1) c.index.result.now) in
      let cq = c.index-ring.ensures ∙ (λ i. get_or c.args.fields.now.completion.items (at i) c.index-ring.result.now) in
      let count = post_count _ past _ k c.args.line.now c.in-Some.place c.index-one.result.now there _
      (ap length c.as_slice-2.ensures) in
      let owes = sym (c.owes_nothing.ensures.value c.args.config.now count) ∙ c.if-owes_nothing.false in
      c.post_wrong.ensures.value c.args.config.now count
      ∙ (λ i. post_wrong_at (c.head-head.ensures.value i) (bit (c.phase.ensures.value i))
      c.index-one.result.now.flight c.args.line.now
      (slice_get (checked_owed c.args.config.now c.index-one.result.now.flight) c.index-one.result.now.flight.posts))
      ∙ tell_post _ past _ k c.args.line.now c.in-Some.place c.index-one.result.now there owes c.index-ring.result.now
      cq c.index.result.now sq (sym c.is_full.ensures.value ∙ c.if-is_full.false);
}
