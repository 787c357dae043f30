-- What a Post leaves.
use Rattle.std.proofs.Common.{◌≡◌, ◌≢◌, ℕ, zero, suc, drop, ◌*◌, ◌+◌, ◌-◌, ◌%◌, ◌≤◌, ◌<◌, Bool, true, false, cond, List}
use Rattle.std.proofs.Common.{[], ◌∷◌, length, get_or, set, slice_get, Option, Some, None, refl, sym, ap, ◌∙◌, subst}
use Rattle.std.proofs.Common.{arith, inl, inr, eqb, eq-eqb, ltb-true, ne_eqb, is_none}
use Rattle.std.proofs.lemmas.Bool.{cases_eq, not-false}
use Rattle.std.proofs.lemmas.List.{length-drop, length-map}
use Rattle.std.proofs.Math.Nat.{mod-lt}
use Rattle.nvme_model.specs.declared.config.ConfigNumbers.{ConfigNumbers}
use Rattle.nvme_model.specs.declared.entry.Entry.{Entry}
use Rattle.nvme_model.specs.declared.entry.PostLine.{PostLine}
use Rattle.nvme_model.specs.declared.operation.Op.{Op}
use Rattle.nvme_model.specs.declared.status.Status.{Status}
use Rattle.nvme_model.specs.declared.status.Verdict.{Verdict}
use Rattle.nvme_model.specs.declared.step.Step.{Step}
use Rattle.nvme_model.specs.Config.{completion_queue}
use Rattle.nvme_model.specs.EntryBytes.{sqe_fields}
use Rattle.nvme_model.specs.History.{Past}
use Rattle.nvme_model.specs.Tickets
use Rattle.nvme_model.specs.Tickets.{Ticket, cids, cids_in_use, first_fields, in_flight, posts_of}
use Rattle.nvme_model.specs.Operations.{op, op_by}
use Rattle.nvme_model.specs.Completions.{posted_completions, reaped_count}
use Rattle.nvme_model.specs.Refusals.{conditions}
use Rattle.nvme_model.specs.Verdict.{taken_entries}
use Rattle.nvme_model.proofs.Accepted.{accepted}
use Rattle.nvme_model.proofs.Rules.{none_holds}
use Rattle.nvme_model.specs.Steps.{next_entry, post_entry}
use Rattle.ticket_laws.specs.Standing.{standing}
use Rattle.nvme_model.specs.Kept.{ControllerInvariant}
use Rattle.nvme_model.proofs.NextPost.{commands_few}
use Rattle.ticket_laws.proofs.Owing.{next_owed}
use Rattle.range_reserve.specs.declared.held.HeldRange.{HeldRange}
use Rattle.rings.specs.Completions.{CompletionRing, is_full, posted_ring}
use Rattle.rings.specs.Submissions.{SubmissionRing}
use Rattle.job_table.specs.Jobs.{JobTable, has_job_of, job_of, jobs_beside, replaced}
use Rattle.job_table.specs.Keeping.{Keeping, posted_job}
use Rattle.job_table.specs.Shown.{standing_stage}
use Rattle.job_table.specs.Stages.{owed_in}
use Rattle.job_table.proofs.Owes.{owes as stage_owes}
use Rattle.job_table.proofs.Tables.{has_job_of-jobs_by}
use Rattle.rings.specs.Queues.{completion_ring, submission_ring}
use Rattle.job_table.specs.Tickets.{job_at, job_by, read_bytes_by}
use Rattle.step_core.specs.Kept.{AreAllQueueCids, AreQueueCids, CoreFields, IsCoreOf}
use Rattle.step_core.specs.Found.{IsNextStep}
use Rattle.step_core.specs.declared.controller.next.ReadyStep.{ReadyStep}
use Rattle.step_core.specs.declared.controller.post.Due.{Due}
use Rattle.step_core.proofs.Moves.{job_found, stepped}
use Rattle.rings.proofs.Tables.{IsTable-same}
use Rattle.rings.proofs.Tables.{IsTable-set}
use Rattle.step_core.proofs.Posting.{due_full, flies_some}
use Rattle.nvme_model.proofs.TicketQueues.{ticket_queue}
use Rattle.nvme_model.proofs.TicketQueues.{queue_there}
use Rattle.rings.proofs.CidCounts.{count_cons, is_among, one_less, used_at, used_set}
use Rattle.step_core.proofs.InUse.{count_posted, ticket_zero}
use Rattle.nvme_model.proofs.Apart.{fetched_if}
use Rattle.rings.specs.Used.{UsedCids, is_used}
use Rattle.std.specs.List.{count_by}
use Rattle.std.specs.List.Sorted.{IsPermutation}
use Rattle.step_core.proofs.PostedRing.{post_ring, post_ring_other}
use Rattle.step_core.proofs.PostedJob.{posted_table, posted_table_is}
use Rattle.step_core.proofs.PostedData.{data_is}
use Rattle.ticket_laws.proofs.Flying.{has_flying}
use Rattle.ticket_laws.specs.Standing.{flying}

-- ---- a pair's first completion carries nothing

-- where more than one completion is owed, nothing is read
pub nothing_yet : (c : ConfigNumbers) (past : Past) (t : ℕ) → 1 < length (job_at c past t).progress.cids
    → (job_at c past t).read ≡ []
unfolding job_by
nothing_yet c past t l = by_verdict (Tickets.ticket past t).verdict refl (commands_few past t)
  where
    k : Ticket
    k = Tickets.ticket past t

    two : 1 < length k.commands
    two = omega (
      arith,
      l,
      length-drop (posts_of past t) (cids k),
      length-map k.commands (λ s. (sqe_fields s.entry).cid),
    )

    nothing : (o : Option Op) → op k ≡ o → (o ≡ Some Op.Read → ⊥) → read_bytes_by (op k) k (standing past t).read ≡ []
    nothing o e n = ap (λ x. read_bytes_by x k (standing past t).read) e ∙ go o n
      where
        go : (o : Option Op) → (o ≡ Some Op.Read → ⊥) → read_bytes_by o k (standing past t).read ≡ []
        go None n = refl
        go (Some Op.Compare) n = refl
        go (Some Op.Write) n = refl
        go (Some Op.WriteZeroes) n = refl
        go (Some Op.Pair) n = refl
        go (Some Op.Read) n = absurd (n refl)

    by_verdict : (v : Verdict) → k.verdict ≡ v → length k.commands ≤ taken_entries v
        → read_bytes_by (op k) k (standing past t).read ≡ []
    by_verdict Verdict.Single e m = absurd (omega (arith, two, m))
    by_verdict (Verdict.SingleFailed s) e m = absurd (omega (arith, two, m))
    by_verdict Verdict.Pair e m =
        nothing (Some Op.Pair) (ap (λ (v : Verdict). op_by v (first_fields k)) e) (λ q. absurd cc)
    by_verdict (Verdict.PairFailed s r) e m =
        nothing None (ap (λ (v : Verdict). op_by v (first_fields k)) e) (λ q. absurd cc)

-- a Post leaves the submission rings
post_sq_ring : (c : ConfigNumbers) (past : Past) (p : PostLine) (i : ℕ)
    → submission_ring c (Entry.Post p ∷ past) i ≡ submission_ring c past i
unfolding submission_ring
post_sq_ring c past p i = refl

-- only a Read has bytes that it has read
reads_by : (o : Option Op) (k : Ticket) (read : List ℕ) → read_bytes_by o k read ≢ [] → o ≡ Some Op.Read
reads_by None k read some = absurd (some refl)
reads_by (Some Op.Read) k read some = refl
reads_by (Some Op.Write) k read some = absurd (some refl)
reads_by (Some Op.Compare) k read some = absurd (some refl)
reads_by (Some Op.WriteZeroes) k read some = absurd (some refl)
reads_by (Some Op.Pair) k read some = absurd (some refl)

pub only_reads : (c : ConfigNumbers) (past : Past) (t : ℕ) → (job_at c past t).read ≢ []
    → op (Tickets.ticket past t) ≡ Some Op.Read
unfolding job_by
only_reads c past t some = reads_by (op (Tickets.ticket past t)) (Tickets.ticket past t) _ some

module _ (c : ConfigNumbers) (past : Past) (fields : CoreFields) (k : IsCoreOf c past fields)
    (d : Due) (post : IsNextStep c past (ReadyStep.Post d)) where
  abbrev v : List (List ℕ)
  v = fields.volume

  abbrev s : List SubmissionRing
  s = fields.submission

  abbrev q : List CompletionRing
  q = fields.completion

  abbrev j : JobTable
  j = fields.jobs

  abbrev r : List HeldRange
  r = fields.held

  abbrev n : ℕ
  n = fields.tickets

  flies : in_flight past d.ticket ≡ true
  flies = not-false _ (none_holds (conditions c past (Step.Post d.ticket)) (ap is_none post.0)).0

  -- the ticket is in the table
  pub there : has_job_of j.jobs d.ticket ≡ true
  there = ap (λ (x : JobTable). has_job_of x.jobs d.ticket) k.jobs
      ∙ has_job_of-jobs_by (job_at c past) (flying past) d.ticket ∙ has_flying c past d.ticket k.run.legal ∙ flies

  -- with this job
  pub found : (x : Keeping) → job_of j.jobs d.ticket ≡ Some x → x ≡ job_at c past d.ticket
  found x e = some_inj (sym e ∙ ap (λ (y : JobTable). job_of y.jobs d.ticket) k.jobs
      ∙ job_found c past d.ticket k.run.legal ∙ ap (λ b. cond b (Some (job_at c past d.ticket)) None) flies)
    where
      some_inj : {x y : Keeping} → Some x ≡ Some y → x ≡ y
      some_inj h = cc

  pub is_there : job_of j.jobs d.ticket ≡ Some (job_at c past d.ticket)
  is_there = ap (λ (y : JobTable). job_of y.jobs d.ticket) k.jobs ∙ job_found c past d.ticket k.run.legal
      ∙ ap (λ b. cond b (Some (job_at c past d.ticket)) None) flies

  some_cids : 0 < length (job_at c past d.ticket).progress.cids
  unfolding job_by
  some_cids = omega (
    arith,
    ltb-true _ _ flies,
    length-drop (posts_of past d.ticket) (cids (Tickets.ticket past d.ticket)),
    length-map (Tickets.ticket past d.ticket).commands (λ s. (sqe_fields s.entry).cid),
  )

  some_owed : 0 < length (owed_in (job_at c past d.ticket).progress.stage)
  unfolding job_by
  some_owed = first (owed_in (standing_stage c (standing past d.ticket)))
      (ap (λ xs. slice_get xs 0) (stage_owes c past d.ticket k.run.legal)
      ∙ next_owed c past d.ticket k.run.legal k.run.marks ∙ post.1.owed)
    where
      first : (xs : List Status) → slice_get xs 0 ≡ Some post.1.status → 0 < length xs
      first [] e = absurd cc
      first (x ∷ xs) e = omega arith

  -- it owes a completion
  pub owes : (x : Keeping) → job_of j.jobs d.ticket ≡ Some x → 0 < length (owed_in x.progress.stage)
  owes x e = subst (λ (y : Keeping). 0 < length (owed_in y.progress.stage)) (sym (found x e)) some_owed

  -- ---- the ring it goes to

  cq_some : 0 < c.cq_size
  cq_some = omega (arith, (accepted c k.accepted).least_cq_slots)

  queue_is : d.queue ≡ (((Tickets.ticket past d.ticket).queue - 1) % c.cqs) + 1
  queue_is = post.1.queue

  place_is : d.queue - 1 ≡ ((Tickets.ticket past d.ticket).queue - 1) % c.cqs
  place_is = omega (arith, queue_is)

  pub queue_some : 1 ≤ d.queue
  queue_some = omega (arith, queue_is)

  within : d.queue - 1 < c.cqs
  within = omega (arith, place_is, mod-lt ((Tickets.ticket past d.ticket).queue - 1) (accepted c k.accepted).some_cqs)

  pub place_there : d.queue - 1 < length q
  place_there = omega (arith, within, k.completion.size)

  ring_is : (x : CompletionRing) → x ≡ get_or q (d.queue - 1) x → x ≡ completion_ring c past d.queue
  ring_is x e = e ∙ k.completion.at (d.queue - 1) x within ∙ ap (completion_ring c past) suc_is
    where
      suc_is : suc (d.queue - 1) ≡ d.queue
      suc_is = omega (arith, queue_some)

  -- it isn't full
  pub not_full : (x : CompletionRing) → x ≡ get_or q (d.queue - 1) x → is_full x ≡ false
  not_full x e =
      due_full c past d.queue x k.run.legal (ring_is x e)
      ∙ ap (λ i. eqb (length (posted_completions c past i) - reaped_count past i) (c.cq_size - 1)) post.1.queue
      ∙ (none_holds (conditions c past (Step.Post d.ticket)) (ap is_none post.0)).1.1.0

  -- ---- the entry

  abbrev post_line : List ℕ → PostLine
  post_line copy = record { ticket = d.ticket; cqe = d.cqe; payload = copy }

  pub post_entry_is : (copy : List ℕ) → copy ≡ (job_at c past d.ticket).read
      → Entry.Post (record { ticket = d.ticket; cqe = d.cqe; payload = copy }) ≡ next_entry c past (Step.Post d.ticket)
  post_entry_is copy e =
      (λ i. Entry.Post (record {
        ticket = d.ticket;
        cqe = post.1.cqe i;
        payload = (e ∙ data_is c past d.ticket post.1.status k.run flies post.1.owed) i;
      }))
      ∙ ap (post_entry c past d.ticket) (sym post.1.owed)

  -- ---- all fields

  -- all that was read goes with the last completion, and a pair, which owes two, has read nothing
  payload_is : cond d.last (job_at c past d.ticket).read [] ≡ (job_at c past d.ticket).read
  payload_is = go d.last (sym post.1.last)
    where
      go : (b : Bool) → eqb (length (job_at c past d.ticket).progress.cids) 1 ≡ b
          → cond b (job_at c past d.ticket).read [] ≡ (job_at c past d.ticket).read
      go true e = refl
      go false e = sym (nothing_yet c past d.ticket (more (length (job_at c past d.ticket).progress.cids) e some_cids))
        where
          more : (m : ℕ) → eqb m 1 ≡ false → 0 < m → 1 < m
          more m e l = elim (cases_eq m 1) [
            | inl same ↦ absurd (let x : true ≡ false = sym (eq-eqb m 1 same) ∙ e in cc)
            | inr apart ↦ omega (arith, apart, l)
          ]

  -- a Post for which room is needed is of a Read
  pub reads : (d.bytes ≡ 0 → ⊥) → op (Tickets.ticket past d.ticket) ≡ Some Op.Read
  reads some = only_reads c past d.ticket
      (λ (e : (job_at c past d.ticket).read ≡ []). some (post.1.bytes ∙ ap length e))

  -- what is taken with it
  pub taken_is : (payload : List ℕ)
      → ((x : Keeping) → job_of j.jobs d.ticket ≡ Some x → payload ≡ cond d.last x.read [])
      → payload ≡ (job_at c past d.ticket).read
  taken_is payload e = e (job_at c past d.ticket) is_there ∙ payload_is

  -- and left of the jobs
  module _ (j' : JobTable) (limit : j'.limit ≡ j.limit) (last : d.last ≡ true → j'.jobs ≡ jobs_beside j.jobs d.ticket)
      (more : d.last ≡ false → (x : Keeping) → job_of j.jobs d.ticket ≡ Some x
      → j'.jobs ≡ replaced j.jobs d.ticket (posted_job x)) where
    pub left : j' ≡ posted_table j d.ticket (job_at c past d.ticket)
    left = go d.last refl (sym post.1.last)
      where
        go : (b : Bool) → d.last ≡ b → eqb (length (job_at c past d.ticket).progress.cids) 1 ≡ b
            → j' ≡ posted_table j d.ticket (job_at c past d.ticket)
        go true f e =
            (λ i. record { limit = limit i; jobs = last f i })
            ∙ ap (λ b. cond b (record j { jobs = jobs_beside j.jobs d.ticket })
            (record j { jobs = replaced j.jobs d.ticket (posted_job (job_at c past d.ticket)) })) (sym e)
        go false f e =
            (λ i. record { limit = limit i; jobs = more f (job_at c past d.ticket) is_there i })
            ∙ ap (λ b. cond b (record j { jobs = jobs_beside j.jobs d.ticket })
            (record j { jobs = replaced j.jobs d.ticket (posted_job (job_at c past d.ticket)) })) (sym e)

  -- ---- the CIDs in use

  -- the queue that it came from
  pub from_there : (1 ≤ d.from) × (d.from ≤ c.pairs)
  from_there =
      let queue = queue_there c (Tickets.ticket past d.ticket).queue
      (ticket_queue c past d.ticket k.run.legal (flies_some past d.ticket flies)) in
      (omega (arith, queue.low, post.1.from), omega (arith, queue.high, post.1.from))

  pub from_place : d.from - 1 < length fields.in_use
  from_place = omega (arith, from_there.0, from_there.1, k.in_use.size)

  own_used : (u : UsedCids) → u ≡ get_or fields.in_use (d.from - 1) u → AreQueueCids c past d.from u
  own_used u e =
      used_at c.pairs (2 * c.jobs) (cids_in_use past) fields.in_use (d.from - 1) d.from u k.in_use
      (omega (arith, from_there.0)) (omega (arith, from_there.0, from_there.1)) e

  next_cid : slice_get (drop (posts_of past d.ticket) (cids (Tickets.ticket past d.ticket))) 0 ≡ Some d.cid
  unfolding job_by
  next_cid = post.1.cid

  some_ticket : 0 < d.ticket
  some_ticket = above d.ticket flies
    where
      above : (t : ℕ) → in_flight past t ≡ true → 0 < t
      above zero f = absurd (omega (arith, ltb-true _ _ f, ticket_zero c past k.run.legal))
      above (suc t) f = omega arith

  fewer : (copy : List ℕ) (m : ℕ) (p : ℕ → Bool)
      → count_by p (cids_in_use past m) ≡ count_by p (cond (eqb (Tickets.ticket past d.ticket).queue m) (d.cid ∷ []) [])
      + count_by p (cids_in_use (Entry.Post (post_line copy) ∷ past) m)
  fewer copy m p = count_posted past (post_line copy) d.cid next_cid some_ticket
      (fetched_if c past d.ticket k.run.legal flies) m p

  one_in : (p : ℕ → Bool) → count_by p (cond (eqb (Tickets.ticket past d.ticket).queue d.from) (d.cid ∷ []) [])
      ≡ cond (p d.cid) 1 0 + 0
  one_in p = ap (λ b. count_by p (cond b (d.cid ∷ []) [])) (eq-eqb _ _ (sym post.1.from)) ∙ count_cons p d.cid []

  -- its CID is in use
  pub uses : (u : UsedCids) → u ≡ get_or fields.in_use (d.from - 1) u → is_used d.cid u.cids ≡ true
  uses u e =
      let p : ℕ → Bool = λ x. eqb x d.cid in
      is_among u d.cid (count_by p (cids_in_use (Entry.Post (post_line []) ∷ past) d.from))
      (omega (arith, (own_used u e).cids p, fewer [] d.from p, one_in p))

  -- and afterwards once less
  used_after : (u y : UsedCids) (copy : List ℕ) → u ≡ get_or fields.in_use (d.from - 1) u
      → IsPermutation u.cids (d.cid ∷ y.cids) → y.room ≡ u.room
      → AreAllQueueCids c (Entry.Post (post_line copy) ∷ past) (set fields.in_use (d.from - 1) y)
  used_after u y copy e less room =
      used_set c.pairs (2 * c.jobs) (cids_in_use past) (cids_in_use (Entry.Post (post_line copy) ∷ past)) fields.in_use
      (d.from - 1) y k.in_use within_from here others
    where
      within_from : d.from - 1 < c.pairs
      within_from = omega (arith, from_there.0, from_there.1)

      own : AreQueueCids c past d.from u
      own = own_used u e

      at_from : suc (d.from - 1) ≡ d.from
      at_from = omega (arith, from_there.0)

      here : AreQueueCids c (Entry.Post (post_line copy) ∷ past) (suc (d.from - 1)) y
      here = subst (λ (m : ℕ). AreQueueCids c (Entry.Post (post_line copy) ∷ past) m y) (sym at_from) (record {
        cids = λ p. omega (arith, own.cids p, fewer copy d.from p, one_in p, one_less d.cid u.cids y.cids less p);
        room = room ∙ own.room;
      })

      others : (i : ℕ) → i ≢ d.from - 1 → (p : ℕ → Bool)
          → count_by p (cids_in_use (Entry.Post (post_line copy) ∷ past) (suc i))
          ≡ count_by p (cids_in_use past (suc i))
      others i apart p =
          let off = ap (λ b. count_by p (cond b (d.cid ∷ []) []))
          (ne_eqb (Tickets.ticket past d.ticket).queue (suc i)
          (λ (z : (Tickets.ticket past d.ticket).queue ≡ suc i). apart (omega (arith, z, post.1.from)))) in
          omega (arith, fewer copy (suc i) p, off)

  pub post_keeps : (x x' : CompletionRing) (u y : UsedCids) (copy payload : List ℕ) (j' : JobTable) (past' : Past)
      → x ≡ get_or q (d.queue - 1) x → u ≡ get_or fields.in_use (d.from - 1) u
      → IsPermutation u.cids (d.cid ∷ y.cids) → y.room ≡ u.room → copy ≡ (job_at c past d.ticket).read → payload ≡ copy
      → j' ≡ posted_table j d.ticket (job_at c past d.ticket)
      → x' ≡ posted_ring x (record { cqe = d.cqe; payload = payload })
      → past' ≡ Entry.Post (record { ticket = d.ticket; cqe = d.cqe; payload = copy }) ∷ past
      → IsCoreOf c past' (record fields {
        in_use = set fields.in_use (d.from - 1) y;
        completion = set q (d.queue - 1) x';
        jobs = j';
      })
  post_keeps x x' u y copy payload j' past' e used less room f g h l m =
      let p : PostLine = record { ticket = d.ticket; cqe = d.cqe; payload = copy } in
      let later : Past = Entry.Post p ∷ past in
      let ring : x' ≡ completion_ring c later (suc (d.queue - 1)) =
      l ∙ (λ i. posted_ring (ring_is x e i) (record { cqe = d.cqe; payload = g i }))
      ∙ post_ring c past p d.queue k.run.legal cq_some (sym post.1.queue)
      ∙ ap (completion_ring c later) (sym suc_is) in
      subst (λ (w : Past). IsCoreOf c w
      (record fields { in_use = set fields.in_use (d.from - 1) y; completion = set q (d.queue - 1) x'; jobs = j' }))
      (sym m) (record {
        accepted = k.accepted;
        volume = k.volume;
        submission = IsTable-same (λ i. submission_ring c past (suc i)) (λ i. submission_ring c later (suc i)) c.pairs s
            k.submission (λ i. post_sq_ring c past p (suc i));
        in_use = used_after u y copy used less room;
        completion = IsTable-set (λ i. completion_ring c past (suc i)) (λ i. completion_ring c later (suc i)) c.cqs
            (d.queue - 1) q x' k.completion within ring (λ i a. post_ring_other c past p (suc i) (other i a));
        jobs = h ∙ ap (λ (y : JobTable). posted_table y d.ticket (job_at c past d.ticket)) k.jobs
            ∙ posted_table_is c past p flies some_owed;
        held = k.held;
        count = k.count;
        run = subst (λ (y : Entry). ControllerInvariant c (y ∷ past)) (sym (post_entry_is copy f))
            (stepped c past (Step.Post d.ticket) k.run post.0);
      })
    where
      suc_is : suc (d.queue - 1) ≡ d.queue
      suc_is = omega (arith, queue_some)

      other : (i : ℕ) → i ≢ d.queue - 1 → eqb (completion_queue c (Tickets.ticket past d.ticket).queue) (suc i) ≡ false
      other i a = ne_eqb _ _ (λ (z : completion_queue c (Tickets.ticket past d.ticket).queue ≡ suc i).
          a (omega (arith, z, post.1.queue)))
