-- A release passes its checks and says yes, so it is answered by success.
use Rattle.std.proofs.Common.{◌≡◌, ℕ, suc, ◌≤◌, ◌<◌, true, false, List, [], ◌∷◌, ◌++◌, length, map, drop, refl, sym, ap}
use Rattle.std.proofs.Common.{◌∙◌, subst, subst₂, Some, is_some, inl, inr, ◌⊎◌, arith, slice_get, append_assoc}
use Rattle.std.proofs.lemmas.Bool.{eqb-false, cases_lt}
use Rattle.ticket_laws.proofs.Counts.{fetched_within}
use Rattle.nvme_model.specs.Array.{has_block}
use Rattle.nvme_model.specs.EntryBytes.{block_count, slba, sqe_fields}
use Rattle.nvme_model.specs.History.{Past}
use Rattle.nvme_model.specs.Legal.{IsLegal}
use Rattle.nvme_model.specs.Queues.{fetched_count, published_entries, waiting}
use Rattle.nvme_model.specs.Slots.{is_pair_on_one, reaped_success, Swap, disciplined, fetched_before, in_area, swaps}
use Rattle.nvme_model.specs.Slots.{swaps_in}
use Rattle.nvme_model.specs.Tickets
use Rattle.nvme_model.specs.Tickets.{Ticket, cids_in_use, command, first_fields, tickets}
use Rattle.nvme_model.specs.Verdict.{item_of, verdict_of}
use Rattle.nvme_model.specs.declared.array.Range.{Range}
use Rattle.nvme_model.specs.declared.config.ConfigNumbers.{ConfigNumbers}
use Rattle.nvme_model.specs.declared.entry.Entry.{Entry}
use Rattle.nvme_model.specs.declared.entry.FetchLine.{FetchLine}
use Rattle.nvme_model.specs.declared.status.Verdict.{Verdict}
use Rattle.nvme_model.specs.declared.submission.Submission.{Submission}
use Rattle.nvme_model.proofs.Beginnings.{earlier}
use Rattle.nvme_model.proofs.Checked.{ticket_checked}
use Rattle.nvme_model.proofs.Rules.{follows}
use Rattle.host_laws.specs.Book.{IsAlwaysApart, HasDistinctCids, cid_of}
use Rattle.host_laws.specs.Calls.{IsEntryWaiting, is_proper}
use Rattle.host_laws.proofs.Apart.{no_conflict, unfetched_unreaped}
use Rattle.host_laws.proofs.Beliefs.{claimed}
use Rattle.host_laws.proofs.Discipline.{InArea, Keeps, has_area, kept}
use Rattle.host_laws.proofs.Elements.{In, each_in, in_cases, in_filter, same_some}
use Rattle.host_laws.proofs.Fetches.{drop_two, fetched_at, swap_before}
use Rattle.host_laws.proofs.Later.{published_later}
use Rattle.host_laws.proofs.PairCalls.{pair_swaps}
use Rattle.host_laws.proofs.Passing.{ProperPair, fetched_as_pair}
use Rattle.host_laws.proofs.Successes.{success_reaped}
use Rattle.host_laws.proofs.SwapEntries.{SwapOf, swaps_are}
use Rattle.host_laws.proofs.SwapTickets.{on_one}
use Rattle.host_laws.proofs.UniqueNames.{release_right}
use Rattle.host_laws.proofs.Verdicts.{fetch_verdict}

-- ---- a release's block lies in the volume

-- a claim whose success was reaped does
won_inside : (c : ConfigNumbers) (past : Past) (k : Swap) → IsLegal c past → In k (swaps past)
    → reaped_success c past k.queue (suc k.number) ≡ true → k.lba < c.blocks
won_inside c past k h i s =
    let x = success_reaped c past k.queue (suc k.number) h s in
    let g = each_in (SwapOf past) (swaps past) k (swaps_are past) i in
    let w = pair_swaps c past k.queue k.number x.post g.new h g.second (on_one g.old g.new g.pair).second x.reaped
    x.says in
    let f = (ticket_checked c past w.ticket h (ap is_some w.pair)).first.inside in
    let same = same_some g.old (command (Tickets.ticket past w.ticket) 0)
    (slice_get (published_entries past k.queue) k.number) g.first w.first in
    let at : slba (first_fields (Tickets.ticket past w.ticket)) ≡ k.lba =
    sym (ap (λ (z : Submission). slba (sqe_fields z.entry)) same) ∙ sym g.lba in
    let one : block_count (first_fields (Tickets.ticket past w.ticket)) ≡ 1 =
    sym (ap (λ (z : Submission). block_count (sqe_fields z.entry)) same) ∙ (on_one g.old g.new g.pair).one in
    omega (arith, f, at, one)

pub release_inside : (c : ConfigNumbers) (slots : Range) (past : Past) (r : Swap) → IsLegal c past
    → disciplined c slots past ≡ true → In r (swaps past) → r.claims ≡ false → InArea slots r.lba → r.lba < c.blocks
release_inside c slots [] r h d i e a = absurd i
release_inside c slots (Entry.Publish p ∷ past) r h d i e a =
    let before = (follows c past (Entry.Publish p) h).before in
    let x = kept c slots past p d in
    let of = swaps_in p.queue (length (published_entries past p.queue)) p.batch in
    go before x (in_cases r of (swaps past) i) (λ j. release_inside c slots past r before x.before j e a)
  where
    go : IsLegal c past → Keeps c slots past p
        → In r (swaps_in p.queue (length (published_entries past p.queue)) p.batch) ⊎ In r (swaps past)
        → (In r (swaps past) → r.lba < c.blocks) → r.lba < c.blocks
    go before x (inr j) ih = ih j
    go before x (inl j) ih =
        let of = swaps_in p.queue (length (published_entries past p.queue)) p.batch in
        let y = release_right c past [] (in_area slots of) r x.right
        (in_filter (λ s. has_block slots s.lba) of r j (has_area slots r.lba a)) e in
        let k = claimed c past r.lba r.name y.believed in
        subst (λ (l : ℕ). l < c.blocks) k.lba (won_inside c past k.swap before k.there k.reaped)
release_inside c slots (Entry.Fetch p ∷ past) r h d i e a =
    release_inside c slots past r (follows c past (Entry.Fetch p) h).before d i e a
release_inside c slots (Entry.Grant p ∷ past) r h d i e a =
    release_inside c slots past r (follows c past (Entry.Grant p) h).before d i e a
release_inside c slots (Entry.Block p ∷ past) r h d i e a =
    release_inside c slots past r (follows c past (Entry.Block p) h).before d i e a
release_inside c slots (Entry.Post p ∷ past) r h d i e a =
    release_inside c slots past r (follows c past (Entry.Post p) h).before d i e a
release_inside c slots (Entry.Reap p ∷ past) r h d i e a =
    release_inside c slots past r (follows c past (Entry.Reap p) h).before d i e a

-- ---- the verdict of a proper pair

-- a claim or a release whose entries are proper, on a block of the volume, is fetched as a pair
pub taken_as_pair : (c : ConfigNumbers) (past : Past) (s : Swap) (t : ℕ) (a b : Submission) → IsLegal c past
    → IsAlwaysApart c past s.queue → In s (swaps past) → s.lba < c.blocks
    → slice_get (published_entries past s.queue) s.number ≡ Some a
    → slice_get (published_entries past s.queue) (suc s.number) ≡ Some b → is_proper a ≡ true → is_proper b ≡ true
    → length a.payload ≡ 512 → length b.payload ≡ 512
    → 1 ≤ t → t ≤ tickets past → (Tickets.ticket past t).queue ≡ s.queue → fetched_before past t ≡ s.number
    → (Tickets.ticket past t).verdict ≡ Verdict.Pair
taken_as_pair c past s t a b h apart i l ea eb pa pb na nb some known queue number =
    let f = fetched_at c past t h some known in
    let q = f.fetch.queue in
    let legal = earlier c f.later (Entry.Fetch f.fetch ∷ f.before) (subst (λ (x : Past). IsLegal c x) f.is h) in
    let before = (follows c f.before (Entry.Fetch f.fetch) legal).before in
    let on : q ≡ s.queue = sym (ap (λ (k : Ticket). k.queue) f.ticket) ∙ queue in
    let at : fetched_count f.before s.queue ≡ s.number = ap (fetched_count f.before) (sym on)
    ∙ (sym f.number ∙ number) in
    let there : s.number < length (published_entries f.before s.queue) =
    still_waits c f.before f.fetch legal s.queue s.number on at in
    let i2 : In s (swaps f.before) =
    swap_before (f.later ++ (Entry.Fetch f.fetch ∷ [])) f.before s
    (subst (λ (x : Past). In s (swaps x)) (f.is ∙ sym (append_assoc f.later (Entry.Fetch f.fetch ∷ []) f.before)) i)
    there in
    let g = each_in (SwapOf f.before) (swaps f.before) s (swaps_are f.before) i2 in
    let later_is : past ≡ (f.later ++ (Entry.Fetch f.fetch ∷ [])) ++ f.before = f.is
    ∙ sym (append_assoc f.later (Entry.Fetch f.fetch ∷ []) f.before) in
    let grown = λ (j : ℕ) (x : Submission) (e : slice_get (published_entries f.before s.queue) j ≡ Some x).
    subst (λ (z : Past). slice_get (published_entries z s.queue) j ≡ Some x) (sym later_is)
    (published_later (f.later ++ (Entry.Fetch f.fetch ∷ [])) f.before s.queue j x e) in
    let old = same_some g.old a (slice_get (published_entries past s.queue) s.number) (grown s.number g.old g.first)
    ea in
    let next = same_some g.new b (slice_get (published_entries past s.queue) (suc s.number))
    (grown (suc s.number) g.new g.second) eb in
    let first = g.first ∙ ap Some old in
    let second = g.second ∙ ap Some next in
    let apart2 : HasDistinctCids c f.before s.queue =
    apart (f.later ++ (Entry.Fetch f.fetch ∷ [])) f.before (sym later_is) in
    let waits : waiting f.before s.queue ≡ a ∷ b ∷ drop (suc (suc s.number)) (published_entries f.before s.queue) =
    ap (λ (n : ℕ). drop n (published_entries f.before s.queue)) at
    ∙ drop_two (published_entries f.before s.queue) s.number a b first second in
    let pair = on_one a b (subst₂ (λ (x y : Submission). is_pair_on_one x y ≡ true) old next g.pair) in
    let proper : ProperPair c.blocks (cids_in_use f.before s.queue) a b =
    record {
      pair = pair;
      first = pa;
      second = pb;
      first_free = no_conflict c f.before s.queue s.number a before apart2 (omega (arith, at)) first;
      second_free = no_conflict c f.before s.queue (suc s.number) b before apart2 (omega (arith, at)) second;
      apart = λ e.
          let x : IsEntryWaiting c f.before s.queue (cid_of b) s.number =
          record {
            entry = a;
            published = first;
            says = e;
            unreaped = unfetched_unreaped c f.before s.queue s.number before (omega (arith, at));
          } in
          let y : IsEntryWaiting c f.before s.queue (cid_of b) (suc s.number) =
          record {
            entry = b;
            published = second;
            says = refl;
            unreaped = unfetched_unreaped c f.before s.queue (suc s.number) before (omega (arith, at));
          } in
          let z = apart2 (cid_of b) s.number (suc s.number) x y in
          omega (arith, z);
      inside = omega (arith, l, g.lba, ap (λ (z : Submission). slba (sqe_fields z.entry)) old);
      old = na;
      new = nb;
    } in
    ap (λ (k : Ticket). k.verdict) f.ticket
    ∙ (fetch_verdict c f.before f.fetch legal
    ∙ (ap (λ (n : ℕ). verdict_of c.atomic c.blocks (cids_in_use f.before n) (map item_of (waiting f.before n))) on
    ∙ (ap (λ (w : List Submission). verdict_of c.atomic c.blocks (cids_in_use f.before s.queue) (map item_of w)) waits
    ∙ fetched_as_pair c.atomic c.blocks (cids_in_use f.before s.queue) a b
    (drop (suc (suc s.number)) (published_entries f.before s.queue)) proper)))
  where
    still_waits : (c : ConfigNumbers) (before : Past) (f : FetchLine) → IsLegal c (Entry.Fetch f ∷ before) → (q j : ℕ)
        → f.queue ≡ q → fetched_count before q ≡ j → j < length (published_entries before q)
    still_waits c before f h q j e n =
        let l = fetched_within c before f.queue (follows c before (Entry.Fetch f) h).before in
        let d = eqb-false _ _ (follows c before (Entry.Fetch f) h).allowed.1.0 in
        let m : fetched_count before f.queue < length (published_entries before f.queue) =
        elim (cases_lt (fetched_count before f.queue) (length (published_entries before f.queue))) [
          | inl k ↦ k
          | inr k ↦ absurd (d (omega (arith, k, l)))
        ] in
        subst (λ (x : ℕ). x < length (published_entries before q)) n
        (subst (λ (x : ℕ). fetched_count before x < length (published_entries before x)) e m)
