-- What a call has learnt stays known, and its effects stand after what was seen when it was started.
use Rattle.nvme_model.specs.Tickets
use Rattle.std.proofs.Common.{◌≡◌, ℕ, suc, ◌≤◌, true, List, ◌++◌, length, sym, ap, ◌∙◌, subst, None, inl, inr, arith}
use Rattle.std.specs.List.{list_any}
use Rattle.std.proofs.lemmas.Option.{slice_get_within}
use Rattle.std.proofs.lemmas.Bool.{cases_lt}
use Rattle.ticket_laws.proofs.Later.{ticket_later}
use Rattle.nvme_model.specs.declared.config.ConfigNumbers.{ConfigNumbers}
use Rattle.nvme_model.specs.Verdict.{taken_entries, passed}
use Rattle.nvme_model.specs.History.{Past}
use Rattle.nvme_model.specs.Tickets.{Ticket, tickets, command}
use Rattle.nvme_model.specs.Queues.{published_entries}
use Rattle.nvme_model.specs.Operations.{op}
use Rattle.nvme_model.specs.Placed.{effect}
use Rattle.host_laws.specs.Calls.{IsSingle, IsFused, IsProperPair, takes, IsDone, CompareDiffers, PairSwaps}
use Rattle.host_laws.specs.Calls.{PairDiffers, FailsChecks}
use Rattle.nvme_model.specs.Answered.{says_no}
use Rattle.nvme_model.specs.Owed.{units_of, read_data_by}
use Rattle.nvme_model.specs.Slots.{fetched_before}
use Rattle.nvme_model.specs.Legal.{IsLegal}
use Rattle.nvme_model.specs.declared.array.Range.{Range}
use Rattle.nvme_model.proofs.Pairs.{no_blocks_yet}
use Rattle.nvme_model.proofs.Effects.{no_effect}
use Rattle.nvme_model.proofs.Beginnings.{earlier}
use Rattle.host_laws.proofs.Taken.{ticket_taken}
use Rattle.host_laws.proofs.Later.{published_later, fetched_before_later, yes_later, no_later}
use Rattle.host_laws.proofs.Calls.{command_later, takes_parts, takes_later}
use Rattle.host_laws.proofs.Units.{units_later, effects_later, none_no_later, reads_by, any_more}
use Rattle.host_laws.proofs.FailedCalls.{failed_idle}
use Rattle.nvme_model.specs.declared.operation.Op.{Op}
use Rattle.nvme_model.proofs.TakenEntries.{taken_two}

pub not_before : (c : ConfigNumbers) (later start : Past) (t q j u : ℕ) → IsLegal c (later ++ start)
    → takes (later ++ start) t q j ≡ true → length (published_entries start q) ≤ j → effect start t u ≡ None
not_before c later start t q j u h k l =
    let x = takes_parts (later ++ start) t q j k in
    let before = earlier c later start h in
    elim (cases_lt (tickets start) t) [
      | inl m ↦ no_effect start t u (no_blocks_yet c start t u before m)
      | inr m ↦
          let same = ticket_later c later start t h m in
          let number = fetched_before_later c later start t h m in
          let f = ticket_taken c start t before x.some m in
          let queue : (Tickets.ticket start t).queue ≡ q = sym (ap (λ (z : Ticket). z.queue) same) ∙ x.queue in
          let v : taken_entries (Tickets.ticket (later ++ start) t).verdict
          ≡ taken_entries (Tickets.ticket start t).verdict =
          ap (λ (z : Ticket). taken_entries z.verdict) same in
          let first = slice_get_within (published_entries start (Tickets.ticket start t).queue) (fetched_before start t)
          (command (Tickets.ticket start t) 0) f.first in
          let count : length (published_entries start (Tickets.ticket start t).queue)
          ≡ length (published_entries start q) = ap (λ (z : ℕ). length (published_entries start z)) queue in
          elim (cases_lt 1 (taken_entries (Tickets.ticket start t).verdict)) [
            | inl two ↦
                let second = slice_get_within (published_entries start (Tickets.ticket start t).queue)
                (suc (fetched_before start t)) (command (Tickets.ticket start t) 1)
                (f.second (omega (arith, two, taken_two (Tickets.ticket start t).verdict))) in
                absurd (omega (arith, second, count, l, number, x.high, v, taken_two (Tickets.ticket start t).verdict))
            | inr one ↦ absurd (omega (arith, first, count, l, number, x.high, v, one))
          ]
    ]

-- ---- what was learnt stays known

pub pair_swaps_later : (c : ConfigNumbers) (later past : Past) (q j : ℕ) → IsLegal c (later ++ past)
    → PairSwaps past q j → PairSwaps (later ++ past) q j
pair_swaps_later c later past q j h x =
    let k = takes_parts past x.ticket q j x.takes in
    record {
      ticket = x.ticket;
      takes = takes_later c later past x.ticket q j h x.takes;
      first = command_later c later past x.ticket q j 0 h k.known x.first;
      second = command_later c later past x.ticket q (suc j) 1 h k.known x.second;
      pair = ap op (ticket_later c later past x.ticket h k.known) ∙ x.pair;
      yes = yes_later c later past x.ticket 0 h (earlier c later past h) x.yes;
    }

pub pair_differs_later : (c : ConfigNumbers) (later past : Past) (q j : ℕ) → IsLegal c (later ++ past)
    → PairDiffers past q j → PairDiffers (later ++ past) q j
pair_differs_later c later past q j h x =
    let k = takes_parts past x.ticket q j x.takes in
    record {
      ticket = x.ticket;
      takes = takes_later c later past x.ticket q j h x.takes;
      first = command_later c later past x.ticket q j 0 h k.known x.first;
      second = command_later c later past x.ticket q (suc j) 1 h k.known x.second;
      pair = ap op (ticket_later c later past x.ticket h k.known) ∙ x.pair;
      no = no_later c later past x.ticket 0 h (earlier c later past h) x.no;
    }

pub done_later : (c : ConfigNumbers) (later past : Past) (q j : ℕ) (o : Op) (bytes : List ℕ) → IsLegal c (later ++ past)
    → IsDone c past q j o bytes → IsDone c (later ++ past) q j o bytes
done_later c later past q j o bytes h x =
    let k = takes_parts past x.ticket q j x.takes in
    let same = ticket_later c later past x.ticket h k.known in
    record {
      ticket = x.ticket;
      takes = takes_later c later past x.ticket q j h x.takes;
      first = command_later c later past x.ticket q j 0 h k.known x.first;
      does = ap op same ∙ x.does;
      effects = effects_later c later past x.ticket h same x.effects;
      none_no = none_no_later c later past x.ticket h (earlier c later past h) same x.effects ∙ x.none_no;
      reads = x.reads ∙ sym (ap (λ (z : Ticket). read_data_by c (later ++ past) x.ticket (op z)) same
          ∙ reads_by c later past x.ticket (op (Tickets.ticket past x.ticket)) h same x.effects);
    }

pub compare_differs_later : (c : ConfigNumbers) (later past : Past) (q j : ℕ) → IsLegal c (later ++ past)
    → CompareDiffers c past q j → CompareDiffers c (later ++ past) q j
compare_differs_later c later past q j h x =
    let k = takes_parts past x.ticket q j x.takes in
    let same = ticket_later c later past x.ticket h k.known in
    record {
      ticket = x.ticket;
      takes = takes_later c later past x.ticket q j h x.takes;
      first = command_later c later past x.ticket q j 0 h k.known x.first;
      compares = ap op same ∙ x.compares;
      no = subst (λ (us : List (ℕ × Range)). list_any (λ u. says_no (later ++ past) x.ticket u.0) us ≡ true)
          (sym (units_later c past (later ++ past) x.ticket same))
          (any_more (λ u. says_no past x.ticket u.0) (λ u. says_no (later ++ past) x.ticket u.0)
          (units_of c past x.ticket) (λ u n. no_later c later past x.ticket u.0 h (earlier c later past h) n) x.no);
    }

pub failed_later : (c : ConfigNumbers) (later past : Past) (q j : ℕ) → IsLegal c (later ++ past) → FailsChecks past q j
    → FailsChecks (later ++ past) q j
failed_later c later past q j h x =
    let k = takes_parts past x.ticket q j x.takes in
    let failed = ap (λ (z : Ticket). passed z.verdict) (ticket_later c later past x.ticket h k.known) ∙ x.failed in
    record {
      ticket = x.ticket;
      takes = takes_later c later past x.ticket q j h x.takes;
      first = command_later c later past x.ticket q j 0 h k.known x.first;
      failed = failed;
      idle = failed_idle c (later ++ past) x.ticket h failed;
    }

-- ---- and what was published

pub single_later : (later past : Past) (q j : ℕ) (o : Op) → IsSingle past q j o → IsSingle (later ++ past) q j o
single_later later past q j o x =
    record {
      entry = x.entry;
      published = published_later later past q j x.entry x.published;
      not_first = x.not_first;
      not_second = x.not_second;
      does = x.does;
    }

pub fused_later : (later past : Past) (q j : ℕ) → IsFused past q j → IsFused (later ++ past) q j
fused_later later past q j x =
    record {
      first = x.first;
      second = x.second;
      first_published = published_later later past q j x.first x.first_published;
      second_published = published_later later past q (suc j) x.second x.second_published;
      first_fuse = x.first_fuse;
      second_fuse = x.second_fuse;
    }

pub proper_later : (later past : Past) (q j : ℕ) → IsProperPair past q j → IsProperPair (later ++ past) q j
proper_later later past q j x =
    record {
      first = x.first;
      second = x.second;
      first_published = published_later later past q j x.first x.first_published;
      second_published = published_later later past q (suc j) x.second x.second_published;
      first_proper = x.first_proper;
      second_proper = x.second_proper;
    }
