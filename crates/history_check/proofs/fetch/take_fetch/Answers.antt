use Rattle.std.proofs.Common.{List, ap, arith, length, sym, take, ◌++◌, ◌<◌, ◌∙◌, ◌∷◌, []}
use Rattle.std.specs.Option.{option_copied}
use Rattle.history_check.specs.Tables.{just_fetched, tables}
use Rattle.nvme_model.specs.Tickets.{Ticket, cids}
use Rattle.nvme_model.specs.declared.config.ConfigNumbers.{ConfigNumbers}
use Rattle.rings.specs.Submissions.{SubmissionRing, advanced}
use Rattle.history_check.specs.Rings.{checked_submission_ring}
use Rattle.history_check.specs.declared.fields.CheckedInFlight.{CheckedInFlight}
use Rattle.history_check.proofs.Fetching.{fetch_none, fetch_room, fetch_some, fetch_unfit, fetch_sound, fetch_yes}
use Rattle.history_check.proofs.Rings.{IsPlace, one_ring}
use Rattle.history_check.proofs.fetch.take_fetch.Goals as goal

pub returns-in_default-peek-clause-took : goal.returns-in_default-peek-clause-took
returns-in_default-peek-clause-took c = λ past k.
    let place : IsPlace c.args.config.now.pairs c.args.line.now.queue c.in-Some.place =
    record {
      next = c.in-Some.ensures.value.0;
      within = omega (arith, c.in-Some.ensures.value.1, c.len.ensures, k.shows.sq_rings.size);
    } in
    fetch_none _ past _ k c.args.line.now c.in-Some.place place c.index-ring.result.now c.index-ring.ensures _
    (sym c.peek.ensures.value ∙ ap option_copied c.in_default-peek.is)

pub returns-then-not-fetch_fits-clause-took : goal.returns-then-not-fetch_fits-clause-took
returns-then-not-fetch_fits-clause-took c = λ past k.
    let place : IsPlace c.args.config.now.pairs c.args.line.now.queue c.in-Some.place =
    record {
      next = c.in-Some.ensures.value.0;
      within = omega (arith, c.in-Some.ensures.value.1, c.len.ensures, k.shows.sq_rings.size);
    } in
    let waits = sym c.peek.ensures.value ∙ ap option_copied c.in-Some-peek.is in
    let behind = c.as_ref.ensures.value ∙ c.next_item-next.ensures.value in
    let room : length c.args.fields.now.flights.items < c.args.config.now.jobs =
    omega (
      arith,
      c.if-len-from.false,
      c.len-2.ensures,
      c.from.ensures,
      ap (λ (n : ConfigNumbers). n.jobs) c.numbers.ensures.value,
    ) in
    fetch_unfit _ past _ k c.args.line.now c.in-Some.place place c.index-ring.result.now c.index-ring.ensures
    c.in-Some-peek.first.now waits (option_copied c.as_ref.result) behind room c.judge_front-judged.result
    c.index.result.now c.index.ensures c.as_slice-in_use.result.now c.as_slice-in_use.ensures.value
    c.judge_front-judged.ensures.verdict c.judge_front-judged.ensures.operation c.judge_front-judged.ensures.range _
    (sym c.fetch_fits.ensures.value ∙ c.if-not-fetch_fits.true)

pub units_of-requires : goal.units_of-requires
units_of-requires c =
    let k = c.requires.keeps.1 in
    let place : IsPlace c.args.config.now.pairs c.args.line.now.queue c.in-Some.place =
    record {
      next = c.in-Some.ensures.value.0;
      within = omega (arith, c.in-Some.ensures.value.1, c.len.ensures, k.shows.sq_rings.size);
    } in
    let waits = sym c.peek.ensures.value ∙ ap option_copied c.in-Some-peek.is in
    let behind = c.as_ref.ensures.value ∙ c.next_item-next.ensures.value in
    let room : length c.args.fields.now.flights.items < c.args.config.now.jobs =
    omega (
      arith,
      c.if-len-from.false,
      c.len-2.ensures,
      c.from.ensures,
      ap (λ (n : ConfigNumbers). n.jobs) c.numbers.ensures.value,
    ) in
    record {
      sound = fetch_sound _ _ _ k c.args.line.now c.in-Some.place place c.index-ring.result.now
          c.index-ring.ensures c.in-Some-peek.first.now waits (option_copied c.as_ref.result) behind room
          c.judge_front-judged.result c.index.result.now c.index.ensures c.as_slice-in_use.result.now
          c.as_slice-in_use.ensures.value c.judge_front-judged.ensures.verdict c.judge_front-judged.ensures.operation
          c.judge_front-judged.ensures.range (sym c.fetch_fits.ensures.value ∙ c.if-not-fetch_fits.false);
    }

pub take_commands-first-requires-clause-within : goal.take_commands-first-requires-clause-within
take_commands-first-requires-clause-within c =
    let k = c.requires.keeps.1 in
    let place : IsPlace c.args.config.now.pairs c.args.line.now.queue c.in-Some.place =
    record {
      next = c.in-Some.ensures.value.0;
      within = omega (arith, c.in-Some.ensures.value.1, c.len.ensures, k.shows.sq_rings.size);
    } in
    let waits = sym c.peek.ensures.value ∙ ap option_copied c.in-Some-peek.is in
    let behind = c.as_ref.ensures.value ∙ c.next_item-next.ensures.value in
    let room : length c.args.fields.now.flights.items < c.args.config.now.jobs =
    omega (
      arith,
      c.if-len-from.false,
      c.len-2.ensures,
      c.from.ensures,
      ap (λ (n : ConfigNumbers). n.jobs) c.numbers.ensures.value,
    ) in
    let same = one_ring (checked_submission_ring c.args.config.now (tables c.args.config.now c.requires.keeps.0))
    c.args.config.now.pairs c.args.line.now.queue c.in-Some.place c.args.fields.now.submission.items
    c.index-ring.result.now c.index_mut.result.now k.shows.sq_rings place c.index-ring.ensures
    c.index_mut.ensures.value in
    omega (
      arith,
      (fetch_some _ _ _ k c.args.line.now c.in-Some.place place c.index-ring.result.now c.index-ring.ensures
          c.in-Some-peek.first.now waits (option_copied c.as_ref.result) behind room c.judge_front-judged.result
          c.index.result.now c.index.ensures c.as_slice-in_use.result.now c.as_slice-in_use.ensures.value
          c.judge_front-judged.ensures.verdict c.judge_front-judged.ensures.operation c.judge_front-judged.ensures.range
          c.taken.result c.taken.ensures.value).2,
      ap (λ (r : SubmissionRing). length r.waiting) same,
    )

pub index-requires : goal.index-requires
index-requires c =
    let k = c.requires.keeps.1 in
    omega (arith, c.in-Some.ensures.value.1, c.len.ensures, k.shows.sq_rings.size, k.shows.in_use.size)

pub index_mut-requires-2 : goal.index_mut-requires-2
index_mut-requires-2 c =
    let k = c.requires.keeps.1 in
    omega (arith, c.in-Some.ensures.value.1, c.len.ensures, k.shows.sq_rings.size, k.shows.in_use.size)

pub put_in_use-requires : goal.put_in_use-requires
put_in_use-requires c =
    let k = c.requires.keeps.1 in
    let place : IsPlace c.args.config.now.pairs c.args.line.now.queue c.in-Some.place =
    record {
      next = c.in-Some.ensures.value.0;
      within = omega (arith, c.in-Some.ensures.value.1, c.len.ensures, k.shows.sq_rings.size);
    } in
    let waits = sym c.peek.ensures.value ∙ ap option_copied c.in-Some-peek.is in
    let behind = c.as_ref.ensures.value ∙ c.next_item-next.ensures.value in
    let room : length c.args.fields.now.flights.items < c.args.config.now.jobs =
    omega (
      arith,
      c.if-len-from.false,
      c.len-2.ensures,
      c.from.ensures,
      ap (λ (n : ConfigNumbers). n.jobs) c.numbers.ensures.value,
    ) in
    let same = one_ring (checked_submission_ring c.args.config.now (tables c.args.config.now c.requires.keeps.0))
    c.args.config.now.pairs c.args.line.now.queue c.in-Some.place c.args.fields.now.submission.items
    c.index_mut.result.now c.index-ring.result.now k.shows.sq_rings place c.index_mut.ensures.value
    c.index-ring.ensures in
    record {
      room = fetch_room _ _ _ k c.args.line.now c.in-Some.place place c.index-ring.result.now c.index-ring.ensures
          c.in-Some-peek.first.now waits (option_copied c.as_ref.result) behind room c.judge_front-judged.result
          c.index.result.now c.index.ensures c.as_slice-in_use.result.now c.as_slice-in_use.ensures.value
          c.judge_front-judged.ensures.verdict c.judge_front-judged.ensures.operation c.judge_front-judged.ensures.range
          c.taken.result c.taken.ensures.value
          _ (c.take_commands-first.ensures.taken ∙ ap (λ (r : SubmissionRing). take c.taken.result r.waiting) same)
          c.new-commands.result (ap (λ (t : Ticket). t.commands) c.new-commands.ensures.value)
          c.index_mut-2.result.now c.index_mut-2.ensures.value;
    }

pub returns-clause-took : goal.returns-clause-took
returns-clause-took c = λ past k.
    let place : IsPlace c.args.config.now.pairs c.args.line.now.queue c.in-Some.place =
    record {
      next = c.in-Some.ensures.value.0;
      within = omega (arith, c.in-Some.ensures.value.1, c.len.ensures, k.shows.sq_rings.size);
    } in
    let waits = sym c.peek.ensures.value ∙ ap option_copied c.in-Some-peek.is in
    let behind = c.as_ref.ensures.value ∙ c.next_item-next.ensures.value in
    let room : length c.args.fields.now.flights.items < c.args.config.now.jobs =
    omega (
      arith,
      c.if-len-from.false,
      c.len-2.ensures,
      c.from.ensures,
      ap (λ (n : ConfigNumbers). n.jobs) c.numbers.ensures.value,
    ) in
    let same = one_ring (checked_submission_ring c.args.config.now
    (tables c.args.config.now past)) c.args.config.now.pairs
    c.args.line.now.queue c.in-Some.place c.args.fields.now.submission.items c.index_mut.result.now
    c.index-ring.result.now k.shows.sq_rings place c.index_mut.ensures.value c.index-ring.ensures in
    fetch_yes _ past _ k c.args.line.now c.in-Some.place place c.index-ring.result.now c.index-ring.ensures
    c.in-Some-peek.first.now waits (option_copied c.as_ref.result) behind room c.judge_front-judged.result
    c.index.result.now c.index.ensures c.as_slice-in_use.result.now c.as_slice-in_use.ensures.value
    c.judge_front-judged.ensures.verdict c.judge_front-judged.ensures.operation c.judge_front-judged.ensures.range
    (sym c.fetch_fits.ensures.value ∙ c.if-not-fetch_fits.false)
    c.taken.result c.taken.ensures.value c.take_commands-first.new.self
    (c.take_commands-first.ensures.rest ∙ ap (λ (r : SubmissionRing). advanced r c.taken.result) same)
    _ (c.take_commands-first.ensures.taken ∙ ap (λ (r : SubmissionRing). take c.taken.result r.waiting) same)
    (record { ticket = c.args.line.now.ticket; flight = c.new.result; units = c.new-units.result })
    (λ i. record {
      ticket = c.args.line.now.ticket;
      flight = (c.new.ensures.value ∙ ap just_fetched c.new-commands.ensures.value) i;
      units = (c.new-units.ensures ∙ c.in_ok-units_of.ensures.value) i;
    })
    c.push_reserved.new.self.items
    (c.push_reserved.ensures.items
    ∙ ap (λ (xs : List CheckedInFlight). xs ++ record {
      ticket = c.args.line.now.ticket;
      flight = c.new.result;
      units = c.new-units.result;
    } ∷ []) c.reserve.ensures.items)
    c.index_mut-2.result.now c.put_in_use.new.used c.index_mut-2.ensures.value
    (c.put_in_use.ensures.more
    ∙ ap (λ (t : Ticket). record c.index_mut-2.result.now { cids = c.index_mut-2.result.now.cids ++ cids t })
    c.new-commands.ensures.value)
