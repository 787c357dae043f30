-- What a Fetch requires and what it leaves.
use Rattle.std.proofs.Common.{◌≡◌, ◌≢◌, ℕ, zero, suc, ◌*◌, ◌+◌, ◌-◌, ◌%◌, ◌≤◌, ◌<◌, ◌^◌, ◌==◌, ◌||◌, true, false, cond}
use Rattle.std.proofs.Common.{List, [], ◌∷◌, ◌++◌, drop, get_or, length, map, set, take, None, Some, Ok, Bool}
use Rattle.std.proofs.Common.{slice_get, nat_le, is_none, is_some, refl, sym, ap, ap₂, ◌∙◌, subst, arith, inl}
use Rattle.std.proofs.Common.{inr, add-zero, eqb, eqb-true, eq-eqb, ne_eqb, nat_lt, ltb-false}
use Rattle.std.specs.List.{count_by, list_all, list_any}
use Rattle.std.proofs.Math.Nat.{mod-add-mod}
use Rattle.std.proofs.lemmas.Bool.{cases_Bool, cond-true, or_parts}
use Rattle.std.proofs.lemmas.Bool.Decides.{nat_tests}
use Rattle.std.proofs.lemmas.List.{length-drop, length-map, length-take}
use Rattle.nvme_model.specs.EntryBytes.{sqe_fields}
use Rattle.nvme_model.specs.History.{Past}
use Rattle.nvme_model.specs.Legal.{IsLegal}
use Rattle.nvme_model.specs.Medium.{medium}
use Rattle.nvme_model.specs.Operations.{op}
use Rattle.nvme_model.specs.Queues.{fetched_count, published_entries, waiting}
use Rattle.nvme_model.specs.Refusals.{conditions, refusal}
use Rattle.ticket_laws.specs.Standing.{flying}
use Rattle.nvme_model.specs.Steps.{next_entry}
use Rattle.nvme_model.specs.Tickets
use Rattle.nvme_model.specs.Tickets.{Ticket, cids, cids_in_use, fetched_ticket, in_flight, next_verdict, numbers_down}
use Rattle.nvme_model.specs.Verdict.{item_of, taken_entries}
use Rattle.nvme_model.specs.declared.config.AtomicParameters.{AtomicParameters}
use Rattle.nvme_model.specs.declared.config.ConfigNumbers.{ConfigNumbers}
use Rattle.nvme_model.specs.declared.entry.Entry.{Entry}
use Rattle.nvme_model.specs.declared.entry.FetchLine.{FetchLine}
use Rattle.nvme_model.specs.declared.entry.GrantLine.{GrantLine}
use Rattle.nvme_model.specs.declared.status.Verdict.{Verdict}
use Rattle.nvme_model.specs.declared.step.Step.{Step}
use Rattle.nvme_model.specs.declared.submission.Submission.{Submission}
use Rattle.nvme_model.proofs.Checked.{TicketChecked, ticket_checked}
use Rattle.ticket_laws.proofs.Counts.{fetched_within, taken_some, taken_within}
use Rattle.nvme_model.specs.Kept.{ControllerInvariant}
use Rattle.nvme_model.proofs.Holding.{open_kept}
use Rattle.nvme_model.proofs.Lists.{Each}
use Rattle.nvme_model.proofs.Rules.{none_holds}
use Rattle.ticket_laws.proofs.Unfetched.{fetch_flying, fetch_here, fetch_other, flying_known}
use Rattle.ticket_laws.proofs.Waiting.{fetch_waits}
use Rattle.fused_match.specs.Judged.{IsSound, IsSoundFor, verdict_by}
use Rattle.fused_match.proofs.Sound.{sound_for, sound_of}
use Rattle.job_table.specs.Jobs.{JobTable, all_jobs_below, jobs_by}
use Rattle.job_table.specs.Keeping.{Keeping}
use Rattle.job_table.specs.declared.jobs.InFlight.{InFlight}
use Rattle.job_table.proofs.Tables.{all_jobs_below-jobs_by, push-jobs_by}
use Rattle.range_reserve.specs.Reserved.{by_ticket, held_of}
use Rattle.range_reserve.specs.declared.held.HeldRange.{HeldRange}
use Rattle.rings.specs.Completions.{CompletionRing}
use Rattle.rings.specs.Submissions.{SubmissionRing, advanced}
use Rattle.job_table.specs.Beginning.{HasBlocks, read_first, write_first}
use Rattle.step_core.specs.Found.{IsFront, IsSqRing, first_job}
use Rattle.step_core.specs.declared.controller.fetch.Front.{Front}
use Rattle.rings.specs.Queues.{completion_ring, submission_ring}
use Rattle.job_table.specs.Tickets.{job_at, job_by, job_table, write_blocks}
use Rattle.step_core.specs.Kept.{AreAllQueueCids, AreQueueCids, CoreFields, IsCoreOf}
use Rattle.rings.specs.Used.{UsedCids}
use Rattle.controller_interface.specs.State.{Room, ControllerState, Serves, TakesRoom, work_of}
use Rattle.controller_interface.specs.Works.{TicketWork}
use Rattle.controller_interface.specs.declared.answer.Answer.{Answer}
use Rattle.step_core.proofs.FetchedJob.{Names, fresh_job, judged_is, ticket_by}
use Rattle.step_core.proofs.FetchedData.{blocks_are, has_blocks}
use Rattle.step_core.proofs.Fetching.{blocks_most, front_command, full_is}
use Rattle.rings.proofs.CidCounts.{count_append, same_length, used_at, used_set}
use Rattle.step_core.proofs.InUse.{count_fetched, two_each}
use Rattle.step_core.proofs.Moves.{legal_after, stepped}
use Rattle.rings.proofs.Tables.{IsTable-same}
use Rattle.rings.proofs.Tables.{IsTable-set}

-- no refusal, and what is found of the entries
abbrev pub IsFetched : ConfigNumbers → Past → ℕ → Front → Type 0
IsFetched c past t x = (refusal c past (Step.Fetch t) ≡ None) × IsFront c past t x

-- the Fetch of this
abbrev pub fetch_line : Past → ℕ → Front → FetchLine
fetch_line past t x = record { queue = t; ticket = Tickets.tickets past + 1; verdict = verdict_by x.judged }

-- ---- submission rings

-- the ring that it takes from
ring_here : (c : ConfigNumbers) (past : Past) (f : FetchLine)
    → advanced (submission_ring c past f.queue) (taken_entries f.verdict)
    ≡ submission_ring c (Entry.Fetch f ∷ past) f.queue
unfolding submission_ring
ring_here c past f =
    let on : true ≡ eqb f.queue f.queue = sym (eq-eqb f.queue f.queue refl) in
    let m = taken_entries f.verdict in
    let head = mod-add-mod (fetched_count past f.queue) c.sq_size m
    ∙ ap (λ b. (fetched_count past f.queue + cond b m 0) % c.sq_size) on in
    let waits = ap (λ b. drop (cond b m 0) (waiting past f.queue)) on ∙ sym (fetch_waits past f f.queue) in
    (λ i. record { size = c.sq_size; head = head i; waiting = waits i })

-- and each other one
ring_other : (c : ConfigNumbers) (past : Past) (f : FetchLine) (q : ℕ) → f.queue ≢ q
    → submission_ring c (Entry.Fetch f ∷ past) q ≡ submission_ring c past q
unfolding submission_ring
ring_other c past f q apart =
    let off = ne_eqb f.queue q apart in
    let count : fetched_count past q + cond (eqb f.queue q) (taken_entries f.verdict) 0 ≡ fetched_count past q =
    ap (λ b. fetched_count past q + cond b (taken_entries f.verdict) 0) off ∙ add-zero (fetched_count past q) in
    (λ i. record { size = c.sq_size; head = count i % c.sq_size; waiting = drop (count i) (published_entries past q) })

-- completion queues stay
completion_kept : (c : ConfigNumbers) (past : Past) (f : FetchLine) (q : ℕ)
    → completion_ring c (Entry.Fetch f ∷ past) q ≡ completion_ring c past q
unfolding completion_ring
completion_kept c past f q = refl

-- ---- tickets

-- there are no more tickets than entries
tickets_within : (past : Past) → Tickets.tickets past ≤ length past
tickets_within [] = omega arith
tickets_within (Entry.Fetch f ∷ past) = omega (arith, tickets_within past)
tickets_within (Entry.Publish p ∷ past) = omega (arith, tickets_within past)
tickets_within (Entry.Grant g ∷ past) = omega (arith, tickets_within past)
tickets_within (Entry.Block b ∷ past) = omega (arith, tickets_within past)
tickets_within (Entry.Post p ∷ past) = omega (arith, tickets_within past)
tickets_within (Entry.Reap r ∷ past) = omega (arith, tickets_within past)

-- numbers of at most n are below n + 1
each_below : (ts : List ℕ) (n : ℕ) → Each (λ t. t ≤ n) ts → list_all (λ t. nat_lt t (n + 1)) ts ≡ true
each_below [] n h = refl
each_below (t ∷ ts) n h = grind (arith, nat_tests, h.0, each_below ts n h.1)

-- one of these numbers is at most n
among : (ts : List ℕ) (n u : ℕ) → Each (λ t. t ≤ n) ts → list_any (λ t. t == u) ts ≡ true → u ≤ n
among [] n u h e = absurd cc
among (t ∷ ts) n u h e = elim (cases_Bool (t == u)) [
  | inl same ↦ omega (arith, eqb-true t u same, h.0)
  | inr apart ↦ among ts n u h.1 (sym (ap (λ b. b || list_any (λ v. v == u) ts) apart) ∙ e)
]

module _ (c : ConfigNumbers) (past : Past) (fields : CoreFields) (k : IsCoreOf c past fields) (t : ℕ) (x : Front)
    (a : IsFetched c past t x) where
  abbrev v : List (List ℕ)
  v = fields.volume

  abbrev s : List SubmissionRing
  s = fields.submission

  abbrev q : List CompletionRing
  q = fields.completion

  abbrev j : JobTable
  j = fields.jobs

  abbrev r : List HeldRange
  r = fields.held

  abbrev n : ℕ
  n = fields.tickets

  -- ---- what it requires

  -- its number fits
  pub ticket_fits : (now : Past) → now ≡ past → length now + 1 < 2 ^ 64 → n + 1 < 2 ^ 64
  ticket_fits now same few = omega (arith, k.count, tickets_within past, few, ap length same)

  -- the entry that it adds
  entry_is : Entry.Fetch (fetch_line past t x) ≡ next_entry c past (Step.Fetch t)
  entry_is = ap (λ (w : Verdict). Entry.Fetch (record { queue = t; ticket = Tickets.tickets past + 1; verdict = w }))
      a.1.verdict

  -- which may follow
  legal : IsLegal c (Entry.Fetch (fetch_line past t x) ∷ past)
  legal = legal_after c past (Step.Fetch t) (Entry.Fetch (fetch_line past t x)) k.run a.0 entry_is

  -- its command waits, and so do both of a pair
  taken_waits : taken_entries (verdict_by x.judged) ≤ length (waiting past t)
  taken_waits =
      let rows = none_holds (conditions c past (Step.Fetch t)) (ap is_none a.0) in
      let some = more _ _ (fetched_within c past t k.run.legal) rows.1.0 in
      let items = length-map (waiting past t) item_of in
      let most = taken_within c.atomic c.blocks (cids_in_use past t) (map item_of (waiting past t))
      (omega (arith, some, items, length-drop (fetched_count past t) (published_entries past t))) in
      omega (arith, most, items, ap taken_entries a.1.verdict)
    where
      more : (m f : ℕ) → f ≤ m → (m == f) ≡ false → f < m
      more m f l e = grind (arith, nat_tests)

  -- its queue is one of the pairs
  queue_place : (suc (t - 1) ≡ t) × (t - 1 < c.pairs)
  queue_place =
      let rows = none_holds (conditions c past (Step.Fetch t)) (ap is_none a.0) in
      let parts = or_parts (t == 0) (nat_lt c.pairs t) rows.0 in
      let low = above t parts.0 in
      let high = ltb-false c.pairs t parts.1 in
      (omega (arith, low), omega (arith, low, high))
    where
      above : (m : ℕ) → (m == 0) ≡ false → 1 ≤ m
      above zero e = absurd cc
      above (suc m) e = omega arith

  -- the ring that it takes from
  ring_is : (ring : SubmissionRing) → ring ≡ get_or s (t - 1) ring → ring ≡ submission_ring c past t
  ring_is ring there = there ∙ k.submission.at (t - 1) ring queue_place.1 ∙ ap (submission_ring c past) queue_place.0

  -- its commands are on the ring
  pub can_take : (ring : SubmissionRing) (m : ℕ) → ring ≡ get_or s (t - 1) ring
      → m ≡ taken_entries (verdict_by x.judged)
      → m ≤ length ring.waiting
  unfolding submission_ring
  can_take ring m there is =
      omega (arith, taken_waits, ap (λ (y : SubmissionRing). length y.waiting) (ring_is ring there), is)

  -- what is judged is of the ticket
  names : Names x.judged (ticket_by t x.judged (take (taken_entries (verdict_by x.judged)) (waiting past t)))
  names = record { operation = a.1.operation; range = a.1.range }

  -- each of them has a CID
  pub cids_are : length x.cids ≡ taken_entries (verdict_by x.judged)
  cids_are =
      omega (
        arith,
        ap (λ (ids : List ℕ). length ids) a.1.cids,
        length-map (take (taken_entries (verdict_by x.judged)) (waiting past t)) (λ s. (sqe_fields s.entry).cid),
        length-take (taken_entries (verdict_by x.judged)) (waiting past t),
        taken_waits,
      )

  -- its number is above all that fly
  pub is_above : all_jobs_below (n + 1) j.jobs ≡ true
  is_above =
      ap₂ (λ (m : ℕ) (y : JobTable). all_jobs_below (m + 1) y.jobs) k.count k.jobs
      ∙ all_jobs_below-jobs_by (job_at c past) (flying past) (Tickets.tickets past + 1)
      ∙ each_below (flying past) (Tickets.tickets past) (flying_known past)

  -- there is room for its job
  pub not_full : length j.jobs ≡ j.limit → ⊥
  not_full full =
      let rows = none_holds (conditions c past (Step.Fetch t)) (ap is_none a.0) in
      let says : (length j.jobs == j.limit) ≡ false = full_is c past fields k (omega (arith, full)) ∙ rows.1.1.0 in
      absurd (let yes_full : (length j.jobs == j.limit) ≡ true = eq-eqb _ _ full in cc)

  -- the new ticket
  ticket_here : Tickets.ticket (Entry.Fetch (fetch_line past t x) ∷ past) (Tickets.tickets past + 1)
      ≡ fetched_ticket past t (verdict_by x.judged)
  ticket_here = cond-true (eqb (Tickets.tickets past + 1) (Tickets.tickets past + 1)) _ _
      (eq-eqb (Tickets.tickets past + 1) (Tickets.tickets past + 1) refl)

  -- it has passed its checks
  checked : is_some (op (fetched_ticket past t (verdict_by x.judged))) ≡ true
      → TicketChecked c (fetched_ticket past t (verdict_by x.judged))
  checked = subst (λ (y : Ticket). is_some (op y) ≡ true → TicketChecked c y) ticket_here
      (ticket_checked c (Entry.Fetch (fetch_line past t x) ∷ past) (Tickets.tickets past + 1) legal)

  -- the data beside its entries has the blocks that it writes
  pub data_has : (ring : SubmissionRing) → IsSqRing c past t ring → HasBlocks x.judged ring.waiting
  unfolding submission_ring
  data_has ring is = subst (λ (y : SubmissionRing). HasBlocks x.judged y.waiting) (sym is.is)
      (has_blocks c t x.judged (waiting past t) names taken_waits checked)

  -- and these are they
  pub data_is : (ring : SubmissionRing) → IsSqRing c past t ring
      → write_first x.judged ring.waiting ≡ write_blocks (fetched_ticket past t (verdict_by x.judged))
  unfolding submission_ring
  data_is ring is = ap (λ (y : SubmissionRing). write_first x.judged y.waiting) is.is
      ∙ blocks_are t x.judged (waiting past t) names

  -- what was judged is sound
  pub work_fits : (u : AtomicParameters) → u ≡ c.atomic → IsSoundFor u x.judged
  work_fits u e = subst (λ (y : AtomicParameters). IsSoundFor y x.judged) (sym e)
      (sound_for c x.judged (fetched_ticket past t (verdict_by x.judged)) refl a.1.operation a.1.range checked
      (blocks_most c k.accepted))

  pub sound_is : IsSound x.judged
  sound_is = sound_of c.atomic x.judged (work_fits c.atomic refl)

  -- ---- what it leaves

  -- it has a command
  some_taken : 0 < length (take (taken_entries (verdict_by x.judged)) (waiting past t))
  some_taken = omega (
    arith,
    taken_waits,
    taken_some (verdict_by x.judged),
    length-take (taken_entries (verdict_by x.judged)) (waiting past t),
  )

  -- its job
  job_is : (first : Submission) (write : List (List ℕ)) (read : List ℕ) (job : Keeping)
      → slice_get (waiting past t) 0 ≡ Some first
      → write ≡ write_blocks (fetched_ticket past t (verdict_by x.judged)) → read ≡ read_first x.judged
      → job ≡ first_job t x first write read
      → job ≡ job_at c (Entry.Fetch (fetch_line past t x) ∷ past) (Tickets.tickets past + 1)
  job_is first write read job front wrote room made =
      made
      ∙ fresh_job c t x (take (taken_entries (verdict_by x.judged)) (waiting past t)) first write read names a.1.cids
      a.1.slba
      (front_command (waiting past t) t (verdict_by x.judged) first front) wrote room
      ∙ ap (job_by c) (sym (fetch_here c past (fetch_line past t x) legal))

  -- the table with its job
  table_is : (job : Keeping) (later : JobTable)
      → job ≡ job_at c (Entry.Fetch (fetch_line past t x) ∷ past) (Tickets.tickets past + 1)
      → later ≡ record j { jobs = j.jobs ++ record { ticket = n + 1; job = job } ∷ [] }
      → later ≡ job_table c (Entry.Fetch (fetch_line past t x) ∷ past)
  table_is job later is put =
      let e : Past = Entry.Fetch (fetch_line past t x) ∷ past in
      put ∙ (λ i. record {
        limit = (k.jobs i).limit;
        jobs = (k.jobs i).jobs ++ record { ticket = k.count i + 1; job = is i } ∷ [];
      })
      ∙ ap (λ (es : List InFlight). record { limit = c.jobs; jobs = es }) (
      push-jobs_by (job_at c past) (job_at c e) (flying past) (Tickets.tickets past + 1)
      (record {
        at = λ u known.
            ap (job_by c) (sym (fetch_other c past (fetch_line past t x) u legal
            (among (flying past) (Tickets.tickets past) u (flying_known past) known)));
      })
      ∙ ap (jobs_by (job_at c e)) (sym (fetch_flying c past (fetch_line past t x) legal some_taken))
      )

  -- the ring that is left
  ring_after : (ring later : SubmissionRing) (m : ℕ) → ring ≡ get_or s (t - 1) ring
      → m ≡ taken_entries (verdict_by x.judged)
      → later ≡ advanced ring m → later ≡ submission_ring c (Entry.Fetch (fetch_line past t x) ∷ past) t
  ring_after ring later m there is moved = moved ∙ ap₂ advanced (ring_is ring there) is
      ∙ ring_here c past (fetch_line past t x)

  -- the CIDs in use on its queue, without it
  own_used : (u : UsedCids) → u ≡ get_or fields.in_use (t - 1) u → AreQueueCids c past t u
  own_used u there = used_at c.pairs (2 * c.jobs) (cids_in_use past) fields.in_use (t - 1) t u k.in_use
      (omega (arith, queue_place.0)) queue_place.1 there

  -- there is room for its own
  pub used_room : (u : UsedCids) → u ≡ get_or fields.in_use (t - 1) u → length u.cids + length x.cids ≤ u.room
  used_room u there =
      let own = own_used u there in
      let rows = none_holds (conditions c past (Step.Fetch t)) (ap is_none a.0) in
      omega (
        arith,
        same_length u.cids (cids_in_use past t) own.cids,
        two_each past t,
        less c.jobs (count_by (in_flight past) (numbers_down (Tickets.tickets past))) rows.1.1.0,
        own.room,
        cids_are,
        two (verdict_by x.judged),
      )
    where
      less : (m f : ℕ) → nat_le m f ≡ false → f < m
      less m f e = grind (arith, nat_tests)

      two : (w : Verdict) → taken_entries w ≤ 2
      two Verdict.Single = omega arith
      two (Verdict.SingleFailed s) = omega arith
      two Verdict.Pair = omega arith
      two (Verdict.PairFailed s r) = omega arith

  -- they are in use with it
  used_after : (u y : UsedCids) → u ≡ get_or fields.in_use (t - 1) u → y ≡ record u { cids = u.cids ++ x.cids }
      → AreAllQueueCids c (Entry.Fetch (fetch_line past t x) ∷ past) (set fields.in_use (t - 1) y)
  used_after u y there more =
      used_set c.pairs (2 * c.jobs) (cids_in_use past) (cids_in_use (Entry.Fetch (fetch_line past t x) ∷ past))
      fields.in_use (t - 1) y k.in_use queue_place.1 here others
    where
      own : AreQueueCids c past t u
      own = own_used u there

      here : AreQueueCids c (Entry.Fetch (fetch_line past t x) ∷ past) (suc (t - 1)) y
      here = subst (λ (m : ℕ). AreQueueCids c (Entry.Fetch (fetch_line past t x) ∷ past) m y) (sym queue_place.0)
          (subst (AreQueueCids c (Entry.Fetch (fetch_line past t x) ∷ past) t) (sym more) (record {
            cids = λ p.
                let mine = count_fetched c past (fetch_line past t x) legal t p in
                let on = ap (λ b. count_by p (cond b (cids (fetched_ticket past t (verdict_by x.judged))) []))
                (eq-eqb t t refl) in
                omega (arith, count_append p u.cids x.cids, own.cids p, ap (count_by p) a.1.cids, mine, on);
            room = own.room;
          }))

      others : (i : ℕ) → i ≢ t - 1 → (p : ℕ → Bool)
          → count_by p (cids_in_use (Entry.Fetch (fetch_line past t x) ∷ past) (suc i))
          ≡ count_by p (cids_in_use past (suc i))
      others i apart p =
          let off = ap (λ b. count_by p (cond b (cids (fetched_ticket past t (verdict_by x.judged))) []))
          (ne_eqb t (suc i) (λ (on : t ≡ suc i). apart (omega (arith, on)))) in
          omega (arith, count_fetched c past (fetch_line past t x) legal (suc i) p, off)

  -- the first that waits
  waits : (ring : SubmissionRing) (first : Submission) → ring ≡ get_or s (t - 1) ring
      → slice_get ring.waiting 0 ≡ Some first → slice_get (waiting past t) 0 ≡ Some first
  unfolding submission_ring
  waits ring first there front = ap (λ (y : SubmissionRing). slice_get y.waiting 0) (sym (ring_is ring there)) ∙ front

  -- each field is what the history says
  pub fetch_kept : (first : Submission) (write : List (List ℕ)) (read : List ℕ) (job : Keeping)
      (ring later : SubmissionRing) (u y : UsedCids) (m : ℕ) (table : JobTable) (w : Verdict) (now then : Past)
      → ring ≡ get_or s (t - 1) ring → m ≡ taken_entries (verdict_by x.judged) → slice_get ring.waiting 0 ≡ Some first
      → later ≡ advanced ring m
      → u ≡ get_or fields.in_use (t - 1) u → y ≡ record u { cids = u.cids ++ x.cids }
      → write ≡ write_blocks (fetched_ticket past t (verdict_by x.judged)) → read ≡ read_first x.judged
      → job ≡ first_job t x first write read
      → table ≡ record j { jobs = j.jobs ++ record { ticket = n + 1; job = job } ∷ [] } → w ≡ verdict_by x.judged
      → now ≡ past → then ≡ Entry.Fetch (record { queue = t; ticket = n + 1; verdict = w }) ∷ now
      → IsCoreOf c then (record fields {
        submission = set s (t - 1) later;
        in_use = set fields.in_use (t - 1) y;
        jobs = table;
        tickets = n + 1;
      })
  fetch_kept first write read job ring later u y m table w now then there is front moved used more wrote room made put
      says same pushed =
      let line = fetch_line past t x in
      let e : Past = Entry.Fetch line ∷ past in
      let h : then ≡ e = pushed
      ∙ (λ i. Entry.Fetch (record { queue = t; ticket = k.count i + 1; verdict = says i }) ∷ same i) in
      let place = queue_place in
      let all : CoreFields = record fields {
        submission = set s (t - 1) later;
        in_use = set fields.in_use (t - 1) y;
        jobs = table;
        tickets = n + 1;
      } in
      let kept : IsCoreOf c e all = record {
        accepted = k.accepted;
        volume = IsTable-same (medium past) (medium e) c.blocks v k.volume (λ l. refl);
        submission = IsTable-set (λ i. submission_ring c past (suc i)) (λ i. submission_ring c e (suc i)) c.pairs
            (t - 1) s later k.submission place.1
            (ring_after ring later m there is moved ∙ ap (submission_ring c e) (sym place.0))
            (λ i apart. ring_other c past line (suc i) (λ (on : t ≡ suc i). apart (omega (arith, on))));
        in_use = used_after u y used more;
        completion = IsTable-same (λ i. completion_ring c past (suc i)) (λ i. completion_ring c e (suc i)) c.cqs q
            k.completion (λ i. completion_kept c past line (suc i));
        jobs = table_is job table (job_is first write read job (waits ring first there front) wrote room made) put;
        held = k.held ∙ ap (λ (gs : List GrantLine). by_ticket (map held_of gs)) (sym (open_kept c past line legal));
        count = ap (λ i. i + 1) k.count;
        run = subst (λ (y : Entry). ControllerInvariant c (y ∷ past)) (sym entry_is)
            (stepped c past (Step.Fetch t) k.run a.0);
      } in
      subst (λ (y : Past). IsCoreOf c y all) (sym h) kept

  -- the step is done, and the answer is the new ticket and its work
  pub fetch_done : (y : ControllerState) (p f f' : ℕ) (room left : Room) (w : Verdict) (now then : Past)
      (work : TicketWork) (u : AtomicParameters)
      → record { config = c; past = past; forgotten = f; promised = p; room = room } ≡ y → f' ≡ f
      → w ≡ verdict_by x.judged → now ≡ past
      → then ≡ Entry.Fetch (record { queue = t; ticket = n + 1; verdict = w }) ∷ now → u ≡ c.atomic
      → work ≡ record { ticket = n + 1; atomic = u; judged = x.judged }
      → TakesRoom (Step.Fetch t) room left
      → Serves y (Step.Fetch t) (Ok (Answer.Fetched work))
      (record { config = c; past = then; forgotten = f'; promised = p; room = left })
  fetch_done y p f f' room left w now then work u view lost says same pushed units made takes =
      let work_is : work ≡ work_of c (Tickets.tickets past + 1) (fetched_ticket past t (next_verdict c past t)) =
      made ∙ (λ i. record {
        ticket = k.count i + 1;
        atomic = units i;
        judged = judged_is t x.judged (take (taken_entries (verdict_by x.judged)) (waiting past t)) names i;
      })
      ∙ ap (λ (v : Verdict). work_of c (Tickets.tickets past + 1) (fetched_ticket past t v)) a.1.verdict in
      let past_is : then ≡ next_entry c past (Step.Fetch t) ∷ past =
      pushed ∙ (λ i. Entry.Fetch (record { queue = t; ticket = k.count i + 1; verdict = says i }) ∷ same i)
      ∙ ap (λ (e : Entry). e ∷ past) entry_is in
      subst (λ (z : ControllerState). Serves z (Step.Fetch t) (Ok (Answer.Fetched work))
      (record { config = c; past = then; forgotten = f'; promised = p; room = left })) view (
        (a.0, refl, ap (λ (v : TicketWork). Answer.Fetched v) work_is),
        (λ i. record { config = c; past = past_is i; forgotten = lost i; promised = p; room = left }),
        takes,
      )
