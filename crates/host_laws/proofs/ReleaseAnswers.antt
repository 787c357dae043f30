-- Both completions of a release say success.
use Rattle.std.proofs.Common.{◌≡◌, ℕ, suc, ◌+◌, ◌≤◌, ◌<◌, Bool, true, false, cond, [], ◌∷◌, length, refl, sym, ap, ◌∙◌}
use Rattle.std.proofs.Common.{subst, subst₂, Some, inl, inr, ◌⊎◌, arith, eq-eqb, eqb, eqb-true, slice_get}
use Rattle.std.proofs.lemmas.Bool.{cases_Bool, cases_lt, cond-true}
use Rattle.nvme_model.specs.History.{Past}
use Rattle.nvme_model.specs.Legal.{IsLegal}
use Rattle.nvme_model.specs.Operations.{op_by}
use Rattle.nvme_model.specs.Owed.{owed}
use Rattle.nvme_model.specs.Answered.{says_no}
use Rattle.nvme_model.specs.Queues.{fetched_count, published_entries}
use Rattle.nvme_model.specs.Slots.{Swap, disciplined, fetched_before, swaps}
use Rattle.nvme_model.specs.Statuses.{compare_failure, failed_fused, is_success, same_status}
use Rattle.nvme_model.specs.Tickets
use Rattle.nvme_model.specs.Tickets.{Ticket, fetched_ticket, first_fields, tickets}
use Rattle.nvme_model.specs.Verdict.{passed, taken_entries}
use Rattle.nvme_model.specs.declared.array.Range.{Range}
use Rattle.nvme_model.specs.declared.config.ConfigNumbers.{ConfigNumbers}
use Rattle.nvme_model.specs.declared.entry.Entry.{Entry}
use Rattle.nvme_model.specs.declared.entry.PostLine.{PostLine}
use Rattle.nvme_model.specs.declared.status.Verdict.{Verdict}
use Rattle.nvme_model.specs.declared.submission.Submission.{Submission}
use Rattle.nvme_model.proofs.Rules.{fetch_number, follows}
use Rattle.nvme_model.proofs.Cut.{clash}
use Rattle.host_laws.specs.Book.{IsAlwaysApart}
use Rattle.host_laws.specs.Calls.{is_proper, reaped_post, cqe_status, takes}
use Rattle.host_laws.proofs.Calls.{post_of, published_at, seen, takes_from, takes_later, takes_parts, which}
use Rattle.host_laws.proofs.Discipline.{InArea}
use Rattle.host_laws.proofs.Elements.{In, each_in, same_some}
use Rattle.host_laws.proofs.FailedCalls.{failed_checks}
use Rattle.host_laws.proofs.Later.{no_later}
use Rattle.host_laws.proofs.Names.{name_length}
use Rattle.host_laws.proofs.Outcomes.{pair_says_no}
use Rattle.host_laws.proofs.PairCalls.{pair_differs}
use Rattle.host_laws.proofs.Releases.{release_never_differs}
use Rattle.host_laws.proofs.Seconds.{first_number, second_owed}
use Rattle.host_laws.proofs.Succeeding.{release_inside, taken_as_pair}
use Rattle.host_laws.proofs.SwapEntries.{SwapOf, swaps_are}
use Rattle.host_laws.proofs.SwapTickets.{OnOne, on_one}
use Rattle.host_laws.proofs.TicketsApart.{not_inside, within_fetched}
use Rattle.host_laws.proofs.Verdicts.{fuse, one_not_two, status_eq}

-- ---- each entry that was fetched was taken by a ticket

pub taken_by_some : (c : ConfigNumbers) (past : Past) (q j : ℕ) → IsLegal c past → j < fetched_count past q
    → (t : ℕ) × (takes past t q j ≡ true)
taken_by_some c [] q j h l = absurd (omega (arith, l))
taken_by_some c (Entry.Fetch f ∷ past) q j h l =
    elim (cases_lt j (fetched_count past q)) [
      | inl k ↦ let x = taken_by_some c past q j (follows c past (Entry.Fetch f) h).before k in
          (x.0, takes_later c (Entry.Fetch f ∷ []) past x.0 q j h x.1)
      | inr k ↦ (f.ticket, new (eqb f.queue q) refl k l)
    ]
  where
    new : (b : Bool) → eqb f.queue q ≡ b → fetched_count past q ≤ j
        → j < fetched_count past q + cond b (taken_entries f.verdict) 0
        → takes (Entry.Fetch f ∷ past) f.ticket q j ≡ true
    new false e k m = absurd (omega (arith, k, m))
    new true e k m =
        let n = fetch_number c past f h in
        let same = cond-true (eqb f.ticket f.ticket) (fetched_ticket past f.queue f.verdict)
        (Tickets.ticket past f.ticket) (eq-eqb f.ticket f.ticket refl) in
        let on = eqb-true f.queue q e in
        let at : fetched_before (Entry.Fetch f ∷ past) f.ticket ≡ fetched_count past q =
        cond-true (eqb f.ticket f.ticket) (fetched_count past f.queue) (fetched_before past f.ticket)
        (eq-eqb f.ticket f.ticket refl) ∙ ap (fetched_count past) on in
        takes_from (Entry.Fetch f ∷ past) f.ticket q j (taken_entries f.verdict) (omega (arith, n)) (omega (arith, n))
        (ap (λ (k : Ticket). k.queue) same
        ∙ on) (ap (λ (k : Ticket). taken_entries k.verdict) same) (omega (arith, at, k))
        (omega (arith, at, m))
taken_by_some c (Entry.Publish p ∷ past) q j h l = let x =
    taken_by_some c past q j (follows c past (Entry.Publish p) h).before l in
    (x.0, takes_later c (Entry.Publish p ∷ []) past x.0 q j h x.1)
taken_by_some c (Entry.Grant p ∷ past) q j h l = let x =
    taken_by_some c past q j (follows c past (Entry.Grant p) h).before l in
    (x.0, takes_later c (Entry.Grant p ∷ []) past x.0 q j h x.1)
taken_by_some c (Entry.Block p ∷ past) q j h l = let x =
    taken_by_some c past q j (follows c past (Entry.Block p) h).before l in
    (x.0, takes_later c (Entry.Block p ∷ []) past x.0 q j h x.1)
taken_by_some c (Entry.Post p ∷ past) q j h l = let x =
    taken_by_some c past q j (follows c past (Entry.Post p) h).before l in
    (x.0, takes_later c (Entry.Post p ∷ []) past x.0 q j h x.1)
taken_by_some c (Entry.Reap p ∷ past) q j h l = let x =
    taken_by_some c past q j (follows c past (Entry.Reap p) h).before l in
    (x.0, takes_later c (Entry.Reap p ∷ []) past x.0 q j h x.1)

-- ---- what a release has

record Released (c : ConfigNumbers) (slots : Range) (past : Past) (r : Swap) (a b : Submission) : Type 0 where
  legal : IsLegal c past
  kept : disciplined c slots past ≡ true
  there : In r (swaps past)
  releases : r.claims ≡ false
  area : InArea slots r.lba
  apart : IsAlwaysApart c past r.queue
  first : slice_get (published_entries past r.queue) r.number ≡ Some a
  second : slice_get (published_entries past r.queue) (suc r.number) ≡ Some b
  first_proper : is_proper a ≡ true
  second_proper : is_proper b ≡ true

record Entries (a b : Submission) : Type 0 where
  pair : OnOne a b
  old : length a.payload ≡ 512
  new : length b.payload ≡ 512

entries_of : (c : ConfigNumbers) (slots : Range) (past : Past) (r : Swap) (a b : Submission)
    → Released c slots past r a b → Entries a b
entries_of c slots past r a b x =
    let g = each_in (SwapOf past) (swaps past) r (swaps_are past) x.there in
    let old = same_some g.old a (slice_get (published_entries past r.queue) r.number) g.first x.first in
    let new = same_some g.new b (slice_get (published_entries past r.queue) (suc r.number)) g.second x.second in
    let d = g.bytes.release x.releases in
    subst₂ (λ (y z : Submission). Entries y z) old new
    (record { pair = on_one g.old g.new g.pair; old = name_length g.old.payload r.name d.0; new = ap length d.1 })

-- the ticket of its first entry is a pair
its_verdict : (c : ConfigNumbers) (slots : Range) (past : Past) (r : Swap) (a b : Submission) (t : ℕ)
    → Released c slots past r a b → takes past t r.queue r.number ≡ true
    → (Tickets.ticket past t).verdict ≡ Verdict.Pair
its_verdict c slots past r a b t x k =
    let e = entries_of c slots past r a b x in
    let y = takes_parts past t r.queue r.number k in
    taken_as_pair c past r t a b x.legal x.apart x.there
    (release_inside c slots past r x.legal x.kept x.there x.releases x.area) x.first x.second x.first_proper
    x.second_proper e.old e.new y.some y.known y.queue
    (first_number c past t r.queue r.number a x.legal k x.first e.pair.first)

first_succeeds : (c : ConfigNumbers) (slots : Range) (past : Past) (r : Swap) (a b : Submission) (p : PostLine)
    → Released c slots past r a b → reaped_post c past r.queue r.number ≡ Some p → is_success (cqe_status p.cqe) ≡ true
first_succeeds c slots past r a b p x e =
    let one = (entries_of c slots past r a b x).pair.first in
    elim (cases_Bool (is_success (cqe_status p.cqe))) [
      | inl y ↦ y
      | inr y ↦ elim (cases_Bool (same_status (cqe_status p.cqe) compare_failure)) [
        | inl z ↦ absurd (release_never_differs c slots past r x.legal x.kept x.there x.releases x.area
            (pair_differs c past r.queue r.number p a x.legal x.first one e
            (status_eq (cqe_status p.cqe) compare_failure z)))
        | inr z ↦
            let f = failed_checks c past r.queue r.number p a x.legal x.first (one_not_two (fuse a) one) e y z in
            clash (passed (Tickets.ticket past f.ticket).verdict)
            (ap passed (its_verdict c slots past r a b f.ticket x f.takes)) f.failed
      ]
    ]

-- ---- the second

-- no ticket begins with the second entry
begins_no_ticket : (c : ConfigNumbers) (slots : Range) (past : Past) (r : Swap) (a b : Submission) (t : ℕ)
    → Released c slots past r a b → 1 ≤ t → t ≤ tickets past → (Tickets.ticket past t).queue ≡ r.queue
    → fetched_before past t ≡ suc r.number → ⊥
begins_no_ticket c slots past r a b t x some known queue number =
    let w = subst (λ (q : ℕ).
    fetched_before past t + taken_entries (Tickets.ticket past t).verdict ≤ fetched_count past q)
    queue (within_fetched c past t x.legal some known) in
    let u = taken_by_some c past r.queue r.number x.legal (omega (arith, w, number)) in
    let k = takes_parts past u.0 r.queue r.number u.1 in
    let pair = its_verdict c slots past r a b u.0 x u.1 in
    let two : taken_entries (Tickets.ticket past u.0).verdict ≡ 2 = ap taken_entries pair in
    let at = first_number c past u.0 r.queue r.number a x.legal u.1 x.first
    (entries_of c slots past r a b x).pair.first in
    not_inside c past t u.0 x.legal some known k.some k.known (queue ∙ sym k.queue) (omega (arith, at, number))
    (omega (arith, at, number, two))

second_succeeds : (c : ConfigNumbers) (slots : Range) (past : Past) (r : Swap) (a b : Submission) (p : PostLine)
    → Released c slots past r a b → reaped_post c past r.queue (suc r.number) ≡ Some p
    → is_success (cqe_status p.cqe) ≡ true
second_succeeds c slots past r a b p x e =
    let f = post_of c past r.queue (suc r.number) p x.legal e in
    let there = seen c past r.queue (suc r.number) p f x.legal in
    elim (which c past r.queue (suc r.number) p b f x.second) [
      | inl y ↦ absurd (begins_no_ticket c slots past r a b p.ticket x f.is.some there.known there.queue
          (there.number ∙ y.number))
      | inr y ↦
          let at : fetched_before past p.ticket ≡ r.number = omega (arith, there.number, y.number) in
          let two = ap (λ (z : Ticket). taken_entries z.verdict) there.ticket ∙ y.two in
          let takes = takes_from past p.ticket r.queue r.number 2 f.is.some there.known there.queue two
          (omega (arith, at)) (omega (arith, at)) in
          let verdict = its_verdict c slots past r a b p.ticket x takes in
          let before : (Tickets.ticket f.at.before p.ticket).verdict ≡ Verdict.Pair =
          sym (ap (λ (z : Ticket). z.verdict) there.ticket) ∙ verdict in
          let owes = subst (λ (i : ℕ). slice_get (owed c f.at.before p.ticket) i ≡ Some (cqe_status p.cqe)) y.posts
          f.is.owed in
          elim (second_owed c f.at.before p.ticket (cqe_status p.cqe) before owes) [
            | inl z ↦ ap is_success z
            | inr z ↦
                let no = pair_says_no c f.at.before p.ticket 1 failed_fused before (inr refl) (owes ∙ ap Some z) in
                let all = no_later c f.at.later (Entry.Post p ∷ f.at.before) p.ticket 0
                (subst (λ (w : Past). IsLegal c w) f.at.is x.legal) f.legal no in
                let stands = published_at c past p.ticket r.queue r.number x.legal f.is.some there.known there.queue
                at in
                absurd (release_never_differs c slots past r x.legal x.kept x.there x.releases x.area (record {
                  ticket = p.ticket;
                  takes = takes;
                  first = stands.first;
                  second = stands.second two;
                  pair = ap (λ (v : Verdict). op_by v (first_fields (Tickets.ticket past p.ticket))) verdict;
                  no = subst (λ (w : Past). says_no w p.ticket 0 ≡ true) (sym f.at.is) all;
                }))
          ]
    ]

pub release_succeeds : (c : ConfigNumbers) (slots : Range) (past : Past) (r : Swap) (a b : Submission) (p : PostLine)
    → IsLegal c past → disciplined c slots past ≡ true → In r (swaps past) → r.claims ≡ false → InArea slots r.lba
    → IsAlwaysApart c past r.queue → slice_get (published_entries past r.queue) r.number ≡ Some a
    → slice_get (published_entries past r.queue) (suc r.number) ≡ Some b → is_proper a ≡ true → is_proper b ≡ true
    → (reaped_post c past r.queue r.number ≡ Some p) ⊎ (reaped_post c past r.queue (suc r.number) ≡ Some p)
    → is_success (cqe_status p.cqe) ≡ true
release_succeeds c slots past r a b p h d i e v ap1 ea eb pa pb o = go o
  where
    all : Released c slots past r a b
    all = record {
      legal = h;
      kept = d;
      there = i;
      releases = e;
      area = v;
      apart = ap1;
      first = ea;
      second = eb;
      first_proper = pa;
      second_proper = pb;
    }

    go : (reaped_post c past r.queue r.number ≡ Some p) ⊎ (reaped_post c past r.queue (suc r.number) ≡ Some p)
        → is_success (cqe_status p.cqe) ≡ true
    go (inl x) = first_succeeds c slots past r a b p all x
    go (inr x) = second_succeeds c slots past r a b p all x
