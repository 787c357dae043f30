use Rattle.std.proofs.Common.{List, ap, arith, get_or, length, set, slice_get, subst, sym, true, ℕ, ◌%◌, ◌-◌, ◌∙◌}
use Rattle.history_check.specs.Tables.{CheckedTicket}
use Rattle.history_check.specs.Taken.{posted_flight}
use Rattle.nvme_model.specs.Tickets.{Ticket}
use Rattle.nvme_model.specs.declared.entry.Entry.{Entry}
use Rattle.rings.specs.Completions.{CompletionRing, posted_ring}
use Rattle.history_check.specs.Kept.{checker_state_in}
use Rattle.history_check.specs.Steps.{Took}
use Rattle.history_check.specs.declared.fields.CheckedInFlight.{CheckedInFlight}
use Rattle.nvme_model.specs.declared.config.ConfigNumbers.{ConfigNumbers}
use Rattle.history_check.proofs.Flights.{found_by, missing_by, placed_by, rises_by}
use Rattle.history_check.proofs.Posting.{post_count, post_cq_place, post_few, post_full, post_low, post_missing}
use Rattle.history_check.proofs.Posting.{post_nothing, post_off, post_on, post_same, post_sq_place, post_unfit}
use Rattle.history_check.specs.Contents.{post_fits_at}
use Rattle.history_check.specs.Judged.{checked_owed}
use Rattle.nvme_model.specs.Bits.{bit}
use Rattle.history_check.proofs.post.take_post.Goals as goal

pub ticket_place-requires : goal.ticket_place-requires
ticket_place-requires c =
    record { rising = rises_by _ _ _ c.requires.keeps.1 c.args.line.now.ticket _ c.as_slice.ensures.value }

pub returns-in_default : goal.returns-in_default
returns-in_default c = record {
  took = λ past k. post_missing _ past _ k c.args.line.now _
      (missing_by _ past _ k c.args.line.now.ticket _ _ c.as_slice.ensures.value c.ticket_place.ensures.value
      c.in_default.is);
}

pub returns-then-owes_nothing : goal.returns-then-owes_nothing
returns-then-owes_nothing c = record {
  took = λ past k.
      let there = found_by _ past _ k c.args.line.now.ticket c.in-Some.place c.index-one.result.now _ _
      c.as_slice.ensures.value c.ticket_place.ensures.value c.in-Some.is c.index-one.ensures in
      post_nothing _ past _ k c.args.line.now c.in-Some.place c.index-one.result.now there _
      (sym (c.owes_nothing.ensures.value c.args.config.now
      (post_count _ past _ k c.args.line.now c.in-Some.place c.index-one.result.now there _
      (ap length c.as_slice-2.ensures))) ∙ c.if-owes_nothing.true);
}

pub overflow_sub-queue : goal.overflow_sub-queue
overflow_sub-queue c =
    let k = c.requires.keeps.1 in
    let there = found_by _ _ _ k c.args.line.now.ticket c.in-Some.place c.index-one.result.now _ _
    c.as_slice.ensures.value c.ticket_place.ensures.value c.in-Some.is c.index-one.ensures in
    omega (
      arith,
      post_low _ _ _ k c.args.line.now c.in-Some.place c.index-one.result.now there,
      c.queue-queue.ensures.value,
      ap (λ (t : Ticket). t.queue) c.ticket.ensures.value,
    )

pub overflow_sub-from : goal.overflow_sub-from
overflow_sub-from c =
    let k = c.requires.keeps.1 in
    let there = found_by _ _ _ k c.args.line.now.ticket c.in-Some.place c.index-one.result.now _ _
    c.as_slice.ensures.value c.ticket_place.ensures.value c.in-Some.is c.index-one.ensures in
    omega (
      arith,
      post_low _ _ _ k c.args.line.now c.in-Some.place c.index-one.result.now there,
      c.from.ensures,
      c.queue-queue.ensures.value,
      ap (λ (t : Ticket). t.queue) c.ticket.ensures.value,
    )

pub index-requires : goal.index-requires
index-requires c =
    let k = c.requires.keeps.1 in
    let there = found_by _ _ _ k c.args.line.now.ticket c.in-Some.place c.index-one.result.now _ _
    c.as_slice.ensures.value c.ticket_place.ensures.value c.in-Some.is c.index-one.ensures in
    omega (
      arith,
      (post_sq_place _ _ _ k c.args.line.now c.in-Some.place c.index-one.result.now there).within,
      k.shows.sq_rings.size,
      c.from.ensures,
      c.queue-queue.ensures.value,
      ap (λ (t : Ticket). t.queue) c.ticket.ensures.value,
    )

pub index-requires-2 : goal.index-requires-2
index-requires-2 c =
    let k = c.requires.keeps.1 in
    let there = found_by _ _ _ k c.args.line.now.ticket c.in-Some.place c.index-one.result.now _ _
    c.as_slice.ensures.value c.ticket_place.ensures.value c.in-Some.is c.index-one.ensures in
    let at = c.from-at.ensures
    ∙ (λ i. ((c.queue-queue.ensures.value ∙ ap (λ (t : Ticket). t.queue) c.ticket.ensures.value) i - 1) %
    (ap (λ (n : ConfigNumbers). n.cqs) c.numbers.ensures.value) i) in
    omega (
      arith,
      (post_cq_place _ _ _ k c.args.line.now c.in-Some.place c.index-one.result.now there).within,
      k.shows.cq_rings.size,
      at,
    )

pub overflow_sub-from-2 : goal.overflow_sub-from-2
overflow_sub-from-2 c =
    let k = c.requires.keeps.1 in
    let there = found_by _ _ _ k c.args.line.now.ticket c.in-Some.place c.index-one.result.now _ _
    c.as_slice.ensures.value c.ticket_place.ensures.value c.in-Some.is c.index-one.ensures in
    omega (
      arith,
      post_low _ _ _ k c.args.line.now c.in-Some.place c.index-one.result.now there,
      c.from-2.ensures,
      c.queue-queue.ensures.value,
      ap (λ (t : Ticket). t.queue) c.ticket.ensures.value,
    )

pub index_mut-requires-2 : goal.index_mut-requires-2
index_mut-requires-2 c =
    let k = c.requires.keeps.1 in
    let there = found_by _ _ _ k c.args.line.now.ticket c.in-Some.place c.index-one.result.now _ _
    c.as_slice.ensures.value c.ticket_place.ensures.value c.in-Some.is c.index-one.ensures in
    omega (
      arith,
      (post_sq_place _ _ _ k c.args.line.now c.in-Some.place c.index-one.result.now there).within,
      k.shows.in_use.size,
      c.from-2.ensures,
      c.queue-queue.ensures.value,
      ap (λ (t : Ticket). t.queue) c.ticket.ensures.value,
      c.args.fields.now.in_use.ok.0,
    )

pub returns-then-not-post_fits : goal.returns-then-not-post_fits
returns-then-not-post_fits c = record {
  took = λ past k.
      let there = found_by _ past _ k c.args.line.now.ticket c.in-Some.place c.index-one.result.now _ _
      c.as_slice.ensures.value c.ticket_place.ensures.value c.in-Some.is c.index-one.ensures in
      let queue = c.queue-queue.ensures.value ∙ ap (λ (t : Ticket). t.queue) c.ticket.ensures.value in
      let at = c.from-at.ensures
      ∙ (λ i. (queue i - 1) % (ap (λ (n : ConfigNumbers). n.cqs) c.numbers.ensures.value) i) in
      post_unfit _ past _ k c.args.line.now c.in-Some.place c.index-one.result.now there c.index.result.now
      c.index-2.result.now
      (c.index.ensures ∙ (λ i.
      get_or c.args.fields.now.submission.items ((c.from.ensures ∙ queue) i - 1) c.index.result.now))
      (c.index-2.ensures ∙ (λ i. get_or c.args.fields.now.completion.items (at i) c.index-2.result.now)) _
      ((λ i. post_fits_at (sym c.head-head.ensures.value i) (bit (sym c.phase-phase.ensures.value i))
      c.index-one.result.now.flight c.args.line.now
      (slice_get (checked_owed c.args.config.now c.index-one.result.now.flight) c.index-one.result.now.flight.posts))
      ∙ sym (c.post_fits.ensures.value c.args.config.now
      (post_count _ past _ k c.args.line.now c.in-Some.place c.index-one.result.now there _
      (ap length c.as_slice-2.ensures))) ∙ c.if-not-post_fits.true);
}

pub returns-in_default-post : goal.returns-in_default-post
returns-in_default-post c = record {
  took = λ past k.
      let there = found_by _ past _ k c.args.line.now.ticket c.in-Some.place c.index-one.result.now _ _
      c.as_slice.ensures.value c.ticket_place.ensures.value c.in-Some.is c.index-one.ensures in
      let queue = c.queue-queue.ensures.value ∙ ap (λ (t : Ticket). t.queue) c.ticket.ensures.value in
      let at = c.from-at.ensures
      ∙ (λ i. (queue i - 1) % (ap (λ (n : ConfigNumbers). n.cqs) c.numbers.ensures.value) i) in
      post_full _ past _ k c.args.line.now c.in-Some.place c.index-one.result.now there c.index.result.now
      c.index_mut.result.now
      (c.index.ensures ∙ (λ i.
      get_or c.args.fields.now.submission.items ((c.from.ensures ∙ queue) i - 1) c.index.result.now))
      (c.index_mut.ensures.value ∙ (λ i. get_or c.args.fields.now.completion.items (at i) c.index_mut.result.now)) _
      c.in_default-post.ensures.full;
}

pub post-requires-then-flies_on : goal.post-requires-then-flies_on
post-requires-then-flies_on c =
    let k = c.requires.keeps.1 in
    let here = found_by _ _ _ k c.args.line.now.ticket c.in-Some.place c.index_mut-then-flies_on.result.now _ _
    c.as_slice.ensures.value c.ticket_place.ensures.value c.in-Some.is c.index_mut-then-flies_on.ensures.value in
    record { few = post_few _ _ _ k c.args.line.now c.in-Some.place c.index_mut-then-flies_on.result.now here }

pub returns-then-flies_on : goal.returns-then-flies_on
returns-then-flies_on c = record {
  took = λ past k.
      let there = found_by _ past _ k c.args.line.now.ticket c.in-Some.place c.index-one.result.now _ _
      c.as_slice.ensures.value c.ticket_place.ensures.value c.in-Some.is c.index-one.ensures in
      let queue = c.queue-queue.ensures.value ∙ ap (λ (t : Ticket). t.queue) c.ticket.ensures.value in
      let at = c.from-at.ensures
      ∙ (λ i. (queue i - 1) % (ap (λ (n : ConfigNumbers). n.cqs) c.numbers.ensures.value) i) in
      let sq = c.index.ensures
      ∙ (λ i. get_or c.args.fields.now.submission.items ((c.from.ensures ∙ queue) i - 1) c.index.result.now) in
      let cq = c.index-2.ensures ∙ (λ i. get_or c.args.fields.now.completion.items (at i) c.index-2.result.now) in
      let own = c.index_mut.ensures.value
      ∙ (λ i. get_or c.args.fields.now.completion.items (at i) c.index_mut.result.now) in
      let same = post_same _ past _ k c.args.line.now c.in-Some.place c.index-one.result.now there
      c.index_mut.result.now c.index-2.result.now own cq in
      let count = post_count _ past _ k c.args.line.now c.in-Some.place c.index-one.result.now there _
      (ap length c.as_slice-2.ensures) in
      let owes = sym (c.owes_nothing.ensures.value c.args.config.now count) ∙ c.if-owes_nothing.false in
      let fits = (λ i. post_fits_at (sym c.head-head.ensures.value i)
      (bit ((ap (λ (r : CompletionRing). r.phase) same ∙ sym c.phase-phase.ensures.value) i))
      c.index-one.result.now.flight c.args.line.now
      (slice_get (checked_owed c.args.config.now c.index-one.result.now.flight) c.index-one.result.now.flight.posts))
      ∙ sym (c.post_fits.ensures.value c.args.config.now count) ∙ c.if-not-post_fits.false in
      let more = c.in-Ok.ensures.ok
      ∙ ap (λ (xs : List ℕ). posted_ring c.index_mut.result.now
      (record { cqe = c.args.line.now.cqe; payload = xs })) (c.new-nothing.ensures ∙ c.new.ensures.items) in
      let here = found_by _ past _ k c.args.line.now.ticket c.in-Some.place c.index_mut-then-flies_on.result.now _ _
      c.as_slice.ensures.value c.ticket_place.ensures.value c.in-Some.is c.index_mut-then-flies_on.ensures.value in
      let fs = set c.args.fields.now.flights.items c.in-Some.place
      (record {
        ticket = c.index_mut-then-flies_on.result.now.ticket;
        flight = c.post-then-flies_on.new.self;
        units = c.index_mut-then-flies_on.result.now.units;
      }) in
      let from = c.from-2.ensures ∙ queue in
      let used = c.index_mut-2.ensures.value
      ∙ (λ i. get_or c.args.fields.now.in_use.items (from i - 1) c.index_mut-2.result.now) in
      subst (λ (n : ℕ). Took c.args.config.now past (Entry.Post c.args.line.now) true
      (record (checker_state_in c.args.fields.now) {
        in_use = set c.args.fields.now.in_use.items (c.from-2.result - 1) c.remove.new.self;
        completion = set c.args.fields.now.completion.items n c.post.new.self;
        flights = fs;
      })) (sym at)
      (subst (λ (n : ℕ). Took c.args.config.now past (Entry.Post c.args.line.now) true
      (record (checker_state_in c.args.fields.now) {
        in_use = set c.args.fields.now.in_use.items (n - 1) c.remove.new.self;
        completion = set c.args.fields.now.completion.items
            ((c.index-one.result.now.flight.ticket.queue - 1) % c.args.config.now.cqs) c.post.new.self;
        flights = fs;
      }))
      (sym from)
      (post_on _ past _ k c.args.line.now c.in-Some.place c.index-one.result.now there c.index.result.now
      c.index_mut.result.now sq own owes fits c.in-Ok.ensures.room c.post.new.self more c.next_cid-cid.result
      c.next_cid-cid.ensures.value c.index_mut-2.result.now c.remove.new.self used c.remove.ensures.one
      c.remove.ensures.room _
      (sym c.flies_on-flies_on.ensures.value ∙ c.if-flies_on.true)
      (ap (λ (f : CheckedTicket). record c.index_mut-then-flies_on.result.now { flight = f })
      c.post-then-flies_on.ensures.value
      ∙ ap (λ (x : CheckedInFlight). record x { flight = posted_flight x.flight }) (here.is ∙ sym there.is))));
}

pub remove-requires : goal.remove-requires
remove-requires c = omega (
  arith,
  placed_by _ _ _ c.requires.keeps.1 c.args.line.now.ticket c.in-Some.place _ _ c.as_slice.ensures.value
      c.ticket_place.ensures.value c.in-Some.is,
)

pub returns : goal.returns
returns c = record {
  took = λ past k.
      let there = found_by _ past _ k c.args.line.now.ticket c.in-Some.place c.index-one.result.now _ _
      c.as_slice.ensures.value c.ticket_place.ensures.value c.in-Some.is c.index-one.ensures in
      let queue = c.queue-queue.ensures.value ∙ ap (λ (t : Ticket). t.queue) c.ticket.ensures.value in
      let at = c.from-at.ensures
      ∙ (λ i. (queue i - 1) % (ap (λ (n : ConfigNumbers). n.cqs) c.numbers.ensures.value) i) in
      let sq = c.index.ensures
      ∙ (λ i. get_or c.args.fields.now.submission.items ((c.from.ensures ∙ queue) i - 1) c.index.result.now) in
      let cq = c.index-2.ensures ∙ (λ i. get_or c.args.fields.now.completion.items (at i) c.index-2.result.now) in
      let own = c.index_mut.ensures.value
      ∙ (λ i. get_or c.args.fields.now.completion.items (at i) c.index_mut.result.now) in
      let same = post_same _ past _ k c.args.line.now c.in-Some.place c.index-one.result.now there
      c.index_mut.result.now c.index-2.result.now own cq in
      let count = post_count _ past _ k c.args.line.now c.in-Some.place c.index-one.result.now there _
      (ap length c.as_slice-2.ensures) in
      let owes = sym (c.owes_nothing.ensures.value c.args.config.now count) ∙ c.if-owes_nothing.false in
      let fits = (λ i. post_fits_at (sym c.head-head.ensures.value i)
      (bit ((ap (λ (r : CompletionRing). r.phase) same ∙ sym c.phase-phase.ensures.value) i))
      c.index-one.result.now.flight c.args.line.now
      (slice_get (checked_owed c.args.config.now c.index-one.result.now.flight) c.index-one.result.now.flight.posts))
      ∙ sym (c.post_fits.ensures.value c.args.config.now count) ∙ c.if-not-post_fits.false in
      let more = c.in-Ok.ensures.ok
      ∙ ap (λ (xs : List ℕ). posted_ring c.index_mut.result.now
      (record { cqe = c.args.line.now.cqe; payload = xs })) (c.new-nothing.ensures ∙ c.new.ensures.items) in
      let from = c.from-2.ensures ∙ queue in
      let used = c.index_mut-2.ensures.value
      ∙ (λ i. get_or c.args.fields.now.in_use.items (from i - 1) c.index_mut-2.result.now) in
      subst (λ (n : ℕ). Took c.args.config.now past (Entry.Post c.args.line.now) true
      (record (checker_state_in c.args.fields.now) {
        in_use = set c.args.fields.now.in_use.items (c.from-2.result - 1) c.remove.new.self;
        completion = set c.args.fields.now.completion.items n c.post.new.self;
        flights = c.remove-2.new.self.items;
      }))
      (sym at)
      (subst (λ (n : ℕ). Took c.args.config.now past (Entry.Post c.args.line.now) true
      (record (checker_state_in c.args.fields.now) {
        in_use = set c.args.fields.now.in_use.items (n - 1) c.remove.new.self;
        completion = set c.args.fields.now.completion.items
            ((c.index-one.result.now.flight.ticket.queue - 1) % c.args.config.now.cqs) c.post.new.self;
        flights = c.remove-2.new.self.items;
      })) (sym from)
      (post_off _ past _ k c.args.line.now c.in-Some.place c.index-one.result.now there c.index.result.now
      c.index_mut.result.now sq own owes fits c.in-Ok.ensures.room c.post.new.self more c.next_cid-cid.result
      c.next_cid-cid.ensures.value c.index_mut-2.result.now c.remove.new.self used c.remove.ensures.one
      c.remove.ensures.room _
      (sym c.flies_on-flies_on.ensures.value ∙ c.if-flies_on.false) c.remove-2.ensures.items));
}
