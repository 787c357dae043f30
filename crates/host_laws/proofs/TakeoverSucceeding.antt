-- A release of a name of which no takeover took effect passes its checks, and both its completions say success.
use Rattle.nvme_model.specs.Tickets
use Rattle.std.proofs.Common.{◌≡◌, ℕ, suc, ◌+◌, ◌≤◌, ◌<◌, true, false, [], ◌∷◌, length, refl, sym, ap, ◌∙◌, subst}
use Rattle.std.proofs.Common.{subst₂, Some, is_some, inl, inr, ◌⊎◌, arith, slice_get}
use Rattle.std.proofs.lemmas.Bool.{and_parts, cases_Bool}
use Rattle.nvme_model.specs.Answered.{says_no}
use Rattle.nvme_model.specs.EntryBytes.{block_count, slba, sqe_fields}
use Rattle.nvme_model.specs.History.{Past}
use Rattle.nvme_model.specs.Legal.{IsLegal}
use Rattle.nvme_model.specs.Operations.{op_by}
use Rattle.nvme_model.specs.Owed.{owed}
use Rattle.nvme_model.specs.Queues.{fetched_count, published_entries}
use Rattle.nvme_model.specs.Slots.{Swap, fetched_before, reaped_success, swaps, swaps_in}
use Rattle.nvme_model.specs.Statuses.{compare_failure, failed_fused, is_success, same_status}
use Rattle.nvme_model.specs.Tickets.{Ticket, command, first_fields, tickets}
use Rattle.nvme_model.specs.Verdict.{passed, taken_entries}
use Rattle.nvme_model.specs.declared.array.Range.{Range}
use Rattle.nvme_model.specs.declared.config.ConfigNumbers.{ConfigNumbers}
use Rattle.nvme_model.specs.declared.entry.Entry.{Entry}
use Rattle.nvme_model.specs.declared.entry.PostLine.{PostLine}
use Rattle.nvme_model.specs.declared.status.Verdict.{Verdict}
use Rattle.nvme_model.specs.declared.submission.Submission.{Submission}
use Rattle.nvme_model.proofs.Checked.{ticket_checked}
use Rattle.nvme_model.proofs.Rules.{follows}
use Rattle.nvme_model.proofs.Cut.{clash}
use Rattle.host_laws.specs.Book.{IsAlwaysApart}
use Rattle.host_laws.specs.Calls.{cqe_status, is_proper, reaped_post, takes}
use Rattle.host_laws.proofs.Calls.{post_of, published_at, seen, takes_from, takes_parts, which}
use Rattle.host_laws.proofs.Discipline.{InArea}
use Rattle.host_laws.proofs.Elements.{In, each_in, in_cases, same_some}
use Rattle.host_laws.proofs.FailedCalls.{failed_checks}
use Rattle.host_laws.proofs.Later.{no_later}
use Rattle.host_laws.proofs.Names.{name_length}
use Rattle.host_laws.proofs.Outcomes.{pair_says_no}
use Rattle.host_laws.proofs.PairCalls.{pair_differs, pair_swaps}
use Rattle.host_laws.proofs.ReleaseAnswers.{taken_by_some}
use Rattle.host_laws.proofs.Seconds.{first_number, second_owed}
use Rattle.host_laws.proofs.Succeeding.{taken_as_pair}
use Rattle.host_laws.proofs.Successes.{success_reaped}
use Rattle.host_laws.proofs.SwapEntries.{SwapOf, swaps_are}
use Rattle.host_laws.proofs.SwapTickets.{OnOne, on_one}
use Rattle.host_laws.proofs.TicketsApart.{not_inside, within_fetched}
use Rattle.host_laws.proofs.Verdicts.{fuse, one_not_two, status_eq}
use Rattle.host_laws.specs.Rules.{takeover_disciplined}
use Rattle.host_laws.specs.Takeovers.{is_taken, moves, takeovers}
use Rattle.host_laws.proofs.TakeoverBeliefs.{kept_parts}
use Rattle.host_laws.proofs.TakeoverDiscipline.{Keeps, kept, own_moves}
use Rattle.host_laws.proofs.Entries.{EntryPair, TakeoverOf, move_cases, takeovers_are}
use Rattle.host_laws.proofs.Movers.{swap_entries}
use Rattle.host_laws.proofs.TakeoverReleases.{in_own, release_right, untaken_never_differs}

-- ---- a release's block lies in the volume

-- that of a pair whose success was reaped does
inside : (c : ConfigNumbers) (past : Past) (q j l : ℕ) → IsLegal c past → (g : EntryPair (published_entries past q) j l)
    → reaped_success c past q (suc j) ≡ true → l < c.blocks
inside c past q j l h g s =
    let x = success_reaped c past q (suc j) h s in
    let w = pair_swaps c past q j x.post g.new h g.second (on_one g.old g.new g.pair).second x.reaped x.says in
    let f = (ticket_checked c past w.ticket h (ap is_some w.pair)).first.inside in
    let same = same_some g.old (command (Tickets.ticket past w.ticket) 0) (slice_get (published_entries past q) j)
    g.first w.first in
    let at : slba (first_fields (Tickets.ticket past w.ticket)) ≡ l =
    sym (ap (λ (z : Submission). slba (sqe_fields z.entry)) same) ∙ sym g.lba in
    let one : block_count (first_fields (Tickets.ticket past w.ticket)) ≡ 1 =
    sym (ap (λ (z : Submission). block_count (sqe_fields z.entry)) same) ∙ (on_one g.old g.new g.pair).one in
    omega (arith, f, at, one)

move_inside : (c : ConfigNumbers) (past : Past) (k : Swap) → IsLegal c past → In k (moves past)
    → reaped_success c past k.queue (suc k.number) ≡ true → k.lba < c.blocks
move_inside c past k h i s = elim (move_cases past k i) [
  | inl x ↦ inside c past k.queue k.number k.lba h (swap_entries past k x) s
  | inr x ↦
      let w = x.0 in
      let g = (each_in (TakeoverOf past) (takeovers past) w (takeovers_are past) x.1).entries in
      subst (λ (l : ℕ). l < c.blocks) (ap (λ (m : Swap). m.lba) (sym x.2))
      (inside c past w.queue w.number w.lba h g
      (subst (λ (m : Swap). reaped_success c past m.queue (suc m.number) ≡ true) x.2 s))
]

pub release_inside : (c : ConfigNumbers) (slots : Range) (past : Past) (r : Swap) → IsLegal c past
    → takeover_disciplined c slots past ≡ true → In r (swaps past) → r.claims ≡ false → InArea slots r.lba
    → r.lba < c.blocks
release_inside c slots [] r h d i e a = absurd i
release_inside c slots (Entry.Publish p ∷ past) r h d i e a =
    let before = (follows c past (Entry.Publish p) h).before in
    let x = kept c slots past p d in
    let of = swaps_in p.queue (length (published_entries past p.queue)) p.batch in
    go before x (in_cases r of (swaps past) i) (λ j. release_inside c slots past r before x.before j e a)
  where
    go : IsLegal c past → Keeps c slots past p
        → In r (swaps_in p.queue (length (published_entries past p.queue)) p.batch) ⊎ In r (swaps past)
        → (In r (swaps past) → r.lba < c.blocks) → r.lba < c.blocks
    go before x (inr j) ih = ih j
    go before x (inl j) ih =
        let y = release_right c past [] (own_moves slots past p) r x.right (in_own slots past p r a j) e in
        let k = kept_parts c past r.lba r.name (and_parts _ _ y.believed).0 in
        subst (λ (l : ℕ). l < c.blocks) k.lba (move_inside c past k.move before k.there k.reaped)
release_inside c slots (Entry.Fetch p ∷ past) r h d i e a =
    release_inside c slots past r (follows c past (Entry.Fetch p) h).before d i e a
release_inside c slots (Entry.Grant p ∷ past) r h d i e a =
    release_inside c slots past r (follows c past (Entry.Grant p) h).before d i e a
release_inside c slots (Entry.Block p ∷ past) r h d i e a =
    release_inside c slots past r (follows c past (Entry.Block p) h).before d i e a
release_inside c slots (Entry.Post p ∷ past) r h d i e a =
    release_inside c slots past r (follows c past (Entry.Post p) h).before d i e a
release_inside c slots (Entry.Reap p ∷ past) r h d i e a =
    release_inside c slots past r (follows c past (Entry.Reap p) h).before d i e a

-- ---- what a release has

pub record Released (c : ConfigNumbers) (slots : Range) (past : Past) (r : Swap) (a b : Submission) : Type 0 where
  pub legal : IsLegal c past
  pub kept : takeover_disciplined c slots past ≡ true
  pub there : In r (swaps past)
  pub releases : r.claims ≡ false
  pub area : InArea slots r.lba
  pub untaken : is_taken past r.lba r.name ≡ false
  pub apart : IsAlwaysApart c past r.queue
  pub first : slice_get (published_entries past r.queue) r.number ≡ Some a
  pub second : slice_get (published_entries past r.queue) (suc r.number) ≡ Some b
  pub first_proper : is_proper a ≡ true
  pub second_proper : is_proper b ≡ true

record Entries (a b : Submission) : Type 0 where
  pair : OnOne a b
  old : length a.payload ≡ 512
  new : length b.payload ≡ 512

entries_of : (c : ConfigNumbers) (slots : Range) (past : Past) (r : Swap) (a b : Submission)
    → Released c slots past r a b → Entries a b
entries_of c slots past r a b x =
    let g = each_in (SwapOf past) (swaps past) r (swaps_are past) x.there in
    let old = same_some g.old a (slice_get (published_entries past r.queue) r.number) g.first x.first in
    let new = same_some g.new b (slice_get (published_entries past r.queue) (suc r.number)) g.second x.second in
    let d = g.bytes.release x.releases in
    subst₂ (λ (y z : Submission). Entries y z) old new
    (record { pair = on_one g.old g.new g.pair; old = name_length g.old.payload r.name d.0; new = ap length d.1 })

-- the ticket of its first entry is a pair
its_verdict : (c : ConfigNumbers) (slots : Range) (past : Past) (r : Swap) (a b : Submission) (t : ℕ)
    → Released c slots past r a b → takes past t r.queue r.number ≡ true
    → (Tickets.ticket past t).verdict ≡ Verdict.Pair
its_verdict c slots past r a b t x k =
    let e = entries_of c slots past r a b x in
    let y = takes_parts past t r.queue r.number k in
    taken_as_pair c past r t a b x.legal x.apart x.there
    (release_inside c slots past r x.legal x.kept x.there x.releases x.area) x.first x.second x.first_proper
    x.second_proper e.old e.new y.some y.known y.queue
    (first_number c past t r.queue r.number a x.legal k x.first e.pair.first)

pub first_succeeds : (c : ConfigNumbers) (slots : Range) (past : Past) (r : Swap) (a b : Submission) (p : PostLine)
    → Released c slots past r a b → reaped_post c past r.queue r.number ≡ Some p → is_success (cqe_status p.cqe) ≡ true
first_succeeds c slots past r a b p x e =
    let one = (entries_of c slots past r a b x).pair.first in
    elim (cases_Bool (is_success (cqe_status p.cqe))) [
      | inl y ↦ y
      | inr y ↦ elim (cases_Bool (same_status (cqe_status p.cqe) compare_failure)) [
        | inl z ↦ absurd (untaken_never_differs c slots past r x.legal x.kept x.there x.releases x.area x.untaken
            (pair_differs c past r.queue r.number p a x.legal x.first one e
            (status_eq (cqe_status p.cqe) compare_failure z)))
        | inr z ↦
            let f = failed_checks c past r.queue r.number p a x.legal x.first (one_not_two (fuse a) one) e y z in
            clash (passed (Tickets.ticket past f.ticket).verdict)
            (ap passed (its_verdict c slots past r a b f.ticket x f.takes)) f.failed
      ]
    ]

-- ---- the second

-- no ticket begins with the second entry
begins_no_ticket : (c : ConfigNumbers) (slots : Range) (past : Past) (r : Swap) (a b : Submission) (t : ℕ)
    → Released c slots past r a b → 1 ≤ t → t ≤ tickets past → (Tickets.ticket past t).queue ≡ r.queue
    → fetched_before past t ≡ suc r.number → ⊥
begins_no_ticket c slots past r a b t x some known queue number =
    let w = subst (λ (q : ℕ).
    fetched_before past t + taken_entries (Tickets.ticket past t).verdict ≤ fetched_count past q)
    queue (within_fetched c past t x.legal some known) in
    let u = taken_by_some c past r.queue r.number x.legal (omega (arith, w, number)) in
    let k = takes_parts past u.0 r.queue r.number u.1 in
    let pair = its_verdict c slots past r a b u.0 x u.1 in
    let two : taken_entries (Tickets.ticket past u.0).verdict ≡ 2 = ap taken_entries pair in
    let at = first_number c past u.0 r.queue r.number a x.legal u.1 x.first
    (entries_of c slots past r a b x).pair.first in
    not_inside c past t u.0 x.legal some known k.some k.known (queue ∙ sym k.queue) (omega (arith, at, number))
    (omega (arith, at, number, two))

pub second_succeeds : (c : ConfigNumbers) (slots : Range) (past : Past) (r : Swap) (a b : Submission) (p : PostLine)
    → Released c slots past r a b → reaped_post c past r.queue (suc r.number) ≡ Some p
    → is_success (cqe_status p.cqe) ≡ true
second_succeeds c slots past r a b p x e =
    let f = post_of c past r.queue (suc r.number) p x.legal e in
    let there = seen c past r.queue (suc r.number) p f x.legal in
    elim (which c past r.queue (suc r.number) p b f x.second) [
      | inl y ↦ absurd (begins_no_ticket c slots past r a b p.ticket x f.is.some there.known there.queue
          (there.number ∙ y.number))
      | inr y ↦
          let at : fetched_before past p.ticket ≡ r.number = omega (arith, there.number, y.number) in
          let two = ap (λ (z : Ticket). taken_entries z.verdict) there.ticket ∙ y.two in
          let takes = takes_from past p.ticket r.queue r.number 2 f.is.some there.known there.queue two
          (omega (arith, at)) (omega (arith, at)) in
          let verdict = its_verdict c slots past r a b p.ticket x takes in
          let before : (Tickets.ticket f.at.before p.ticket).verdict ≡ Verdict.Pair =
          sym (ap (λ (z : Ticket). z.verdict) there.ticket) ∙ verdict in
          let owes = subst (λ (i : ℕ). slice_get (owed c f.at.before p.ticket) i ≡ Some (cqe_status p.cqe)) y.posts
          f.is.owed in
          elim (second_owed c f.at.before p.ticket (cqe_status p.cqe) before owes) [
            | inl z ↦ ap is_success z
            | inr z ↦
                let no = pair_says_no c f.at.before p.ticket 1 failed_fused before (inr refl) (owes ∙ ap Some z) in
                let all = no_later c f.at.later (Entry.Post p ∷ f.at.before) p.ticket 0
                (subst (λ (w : Past). IsLegal c w) f.at.is x.legal) f.legal no in
                let stands = published_at c past p.ticket r.queue r.number x.legal f.is.some there.known there.queue
                at in
                absurd (untaken_never_differs c slots past r x.legal x.kept x.there x.releases x.area x.untaken
                (record {
                  ticket = p.ticket;
                  takes = takes;
                  first = stands.first;
                  second = stands.second two;
                  pair = ap (λ (v : Verdict). op_by v (first_fields (Tickets.ticket past p.ticket))) verdict;
                  no = subst (λ (w : Past). says_no w p.ticket 0 ≡ true) (sym f.at.is) all;
                }))
          ]
    ]
