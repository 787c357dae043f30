-- What a Post finds.
use Rattle.std.proofs.Common.{◌≡◌, ℕ, zero, suc, ◌+◌, ◌-◌, ◌%◌, ◌≤◌, ◌<◌, Bool, true, false, not, cond, List, [], ◌∷◌}
use Rattle.std.proofs.Common.{length, drop, get_or, slice_get, Option, Some, None, is_none, sym, ap, ◌∙◌, subst}
use Rattle.std.proofs.Common.{arith, eqb, ltb-true, add-one}
use Rattle.std.proofs.lemmas.List.{length-map, length-drop}
use Rattle.nvme_model.specs.declared.config.ConfigNumbers.{ConfigNumbers}
use Rattle.nvme_model.specs.declared.refusal.Why.{Why}
use Rattle.nvme_model.specs.declared.status.Status.{Status}
use Rattle.nvme_model.specs.declared.step.Step.{Step}
use Rattle.nvme_model.specs.Config.{completion_queue}
use Rattle.nvme_model.specs.History.{Past}
use Rattle.nvme_model.specs.Tickets
use Rattle.nvme_model.specs.Tickets.{cids, in_flight, posts_of}
use Rattle.nvme_model.specs.Queues.{fetched_count}
use Rattle.nvme_model.specs.Completions.{posted_completions, reaped_count}
use Rattle.nvme_model.specs.Refusals.{owes_nothing_yet, refusal}
use Rattle.ticket_laws.specs.Standing.{standing, still_owed}
use Rattle.nvme_model.specs.Legal.{IsLegal}
use Rattle.nvme_model.specs.Kept.{ControllerInvariant}
use Rattle.nvme_model.proofs.Accepted.{accepted}
use Rattle.ticket_laws.proofs.Owing.{has_next, next_owed}
use Rattle.job_table.specs.Keeping.{Keeping}
use Rattle.job_table.specs.Stages.{owed_in}
use Rattle.job_table.proofs.Owes.{owes}
use Rattle.rings.specs.Completions.{CompletionRing, is_full}
use Rattle.rings.specs.Submissions.{SubmissionRing}
use Rattle.nvme_model.specs.Bits.{bit}
use Rattle.entry_codec.specs.Cqe.{completion_bytes}
use Rattle.entry_codec.specs.declared.cqe.Cqe.{Cqe}
use Rattle.completions.proofs.CompletionLemmas.{completion_bytes-completion}
use Rattle.step_core.specs.declared.controller.post.Due.{Due}
use Rattle.rings.specs.Queues.{completion_of, completion_ring, submission_ring}
use Rattle.job_table.specs.Tickets.{job_by}
use Rattle.step_core.specs.Kept.{CoreFields, IsCoreOf}
use Rattle.step_core.specs.Found.{IsDue, IsJob}
use Rattle.controller_interface.specs.State.{Room, ControllerState}
use Rattle.std.proofs.Math.Nat.{mod-lt}
use Rattle.plain_lemmas.proofs.Lists.{get_dropped}
use Rattle.nvme_model.proofs.TicketQueues.{HasQueue, queue_there, ticket_queue}

-- ---- the queue of a ticket

-- one in flight has a command
pub flies_some : (past : Past) (t : ℕ) → in_flight past t ≡ true → 1 ≤ length (Tickets.ticket past t).commands
flies_some past t f = omega (arith, ltb-true _ _ f)

pub job_queue : (c : ConfigNumbers) (past : Past) (t : ℕ) (j : Keeping) → IsLegal c past → IsJob c past t j
    → HasQueue c j.queue
unfolding job_by
job_queue c past t j h k =
    subst (HasQueue c) (sym (ap (λ (x : Keeping). x.queue) k.is))
    (queue_there c _ (ticket_queue c past t h (flies_some past t k.flies)))

-- ---- what is due

-- what is owed next by the stage is what the ticket still owes next
next_by : (c : ConfigNumbers) (past : Past) (t : ℕ) (j : Keeping) → IsLegal c past → IsJob c past t j
    → slice_get (still_owed c (standing past t)) 0 ≡ slice_get (owed_in j.progress.stage) 0
unfolding job_by
next_by c past t j h k = ap (λ xs. slice_get xs 0) (sym (owes c past t h))
    ∙ ap (λ (x : Keeping). slice_get (owed_in x.progress.stage) 0) (sym k.is)

-- where nothing is owed the Post is refused
pub nothing_due : (c : ConfigNumbers) (past : Past) (t : ℕ) (j : Keeping) → ControllerInvariant c past
    → IsJob c past t j
    → slice_get (owed_in j.progress.stage) 0 ≡ None → refusal c past (Step.Post t) ≡ Some Why.WrongState
unfolding job_by
nothing_due c past t j r k e =
    let next : is_none (slice_get (still_owed c (standing past t)) 0) ≡ true =
    ap is_none (next_by c past t j r.legal k ∙ e) in
    let nothing : owes_nothing_yet c past t ≡ true = sym (has_next c past t r.legal r.marks k.flies) ∙ next in
    (λ i. cond (not (k.flies i)) (Some Why.NoTicket)
    (cond (nothing i) (Some Why.WrongState)
    (cond (eqb (length (posted_completions c past (completion_queue c (Tickets.ticket past t).queue))
    - reaped_count past (completion_queue c (Tickets.ticket past t).queue)) (c.cq_size - 1)) (Some Why.CqFull)
    None)))

-- where something is, it is refused exactly where the completion queue is full
pub something_due : (c : ConfigNumbers) (past : Past) (t : ℕ) (j : Keeping) (s : Status) (b : Bool)
    → ControllerInvariant c past
    → IsJob c past t j → slice_get (owed_in j.progress.stage) 0 ≡ Some s
    → eqb (length (posted_completions c past (completion_queue c (Tickets.ticket past t).queue))
    - reaped_count past (completion_queue c (Tickets.ticket past t).queue)) (c.cq_size - 1) ≡ b
    → refusal c past (Step.Post t) ≡ cond b (Some Why.CqFull) None
unfolding job_by
something_due c past t j s b r k e full =
    let next : is_none (slice_get (still_owed c (standing past t)) 0) ≡ false =
    ap is_none (next_by c past t j r.legal k ∙ e) in
    let some : owes_nothing_yet c past t ≡ false = sym (has_next c past t r.legal r.marks k.flies) ∙ next in
    (λ i. cond (not (k.flies i)) (Some Why.NoTicket)
    (cond (some i) (Some Why.WrongState) (cond (full i) (Some Why.CqFull) None)))

-- ---- where it goes, and its bytes

found_at : {X : Type 0} (xs : List X) (n : ℕ) (x d : X) → slice_get xs n ≡ Some x → get_or xs n d ≡ x
found_at [] n x d e = absurd cc
found_at (y ∷ xs) zero x d e = some_inj e
  where
    some_inj : Some y ≡ Some x → y ≡ x
    some_inj h = cc
found_at (y ∷ xs) (suc n) x d e = found_at xs n x d e

-- the queue that a Post goes to
pub due_queue : (c : ConfigNumbers) (past : Past) (t : ℕ) (j : Keeping) → IsJob c past t j
    → completion_queue c j.queue ≡ completion_queue c (Tickets.ticket past t).queue
unfolding job_by
due_queue c past t j k = ap (λ (x : Keeping). completion_queue c x.queue) k.is

-- how full it is
pub due_full : (c : ConfigNumbers) (past : Past) (q : ℕ) (x : CompletionRing) → IsLegal c past
    → x ≡ completion_ring c past q
    → is_full x ≡ eqb (length (posted_completions c past q) - reaped_count past q) (c.cq_size - 1)
unfolding completion_ring
due_full c past q x h e =
    ap is_full e
    ∙ ap (λ n. eqb n (c.cq_size - 1))
    (length-map (drop (reaped_count past q) (posted_completions c past q)) completion_of
    ∙ length-drop (reaped_count past q) (posted_completions c past q))

-- the completion that is due
pub due_is : (c : ConfigNumbers) (past : Past) (t : ℕ) (j : Keeping) (s : Status) (cid : ℕ) (x : CompletionRing)
    (r : SubmissionRing) (cqe : Cqe) (d : Due) → ControllerInvariant c past → IsJob c past t j
    → slice_get (owed_in j.progress.stage) 0 ≡ Some s → slice_get j.progress.cids 0 ≡ Some cid
    → x ≡ completion_ring c past (completion_queue c (Tickets.ticket past t).queue)
    → r ≡ submission_ring c past j.queue
    → cqe ≡ record { sqhd = r.head; sqid = j.queue; cid = cid; phase = x.phase; status = s }
    → d.cqe ≡ completion_bytes cqe → d.from ≡ j.queue → d.cid ≡ cid → d.queue ≡ completion_queue c j.queue
    → d.bytes ≡ length j.read → d.last ≡ eqb (length j.progress.cids) 1 → IsDue c past (record d { ticket = t })
unfolding job_by completion_ring submission_ring
due_is c past t j s cid x r cqe d kept k due has ring sring fields bytes origin name queue read last =
    let of_queue : j.queue ≡ (Tickets.ticket past t).queue = ap (λ (y : Keeping). y.queue) k.is in
    record {
      status = s;
      owed = sym (next_owed c past t kept.legal kept.marks) ∙ next_by c past t j kept.legal k ∙ due;
      from = origin ∙ of_queue;
      queue = queue ∙ due_queue c past t j k;
      cid = ap (λ (y : Keeping). slice_get y.progress.cids 0) (sym k.is) ∙ has ∙ ap Some (sym name);
      cqe = bytes ∙ completion_bytes-completion c past t s cqe
          (ap (λ (y : Cqe). y.sqhd) fields ∙ ap (λ (y : SubmissionRing). y.head) sring
          ∙ ap (λ n. fetched_count past n % c.sq_size) of_queue)
          (ap (λ (y : Cqe). y.sqid) fields ∙ of_queue)
          (ap (λ (y : Cqe). y.cid) fields
          ∙ sym (found_at (cids (Tickets.ticket past t)) (posts_of past t) cid 0
          (sym (get_dropped (posts_of past t) (cids (Tickets.ticket past t)))
          ∙ ap (λ (y : Keeping). slice_get y.progress.cids 0) (sym k.is) ∙ has)))
          (ap (λ (y : Cqe). bit y.phase) fields ∙ ap (λ (y : CompletionRing). bit y.phase) ring)
          (ap (λ (y : Cqe). y.status) fields);
      bytes = read ∙ ap (λ (y : Keeping). length y.read) k.is;
      last = last ∙ ap (λ (y : Keeping). eqb (length y.progress.cids) 1) k.is;
    }

-- a completion by its fields
pub fields_by : (x : Cqe) (h h' q cid : ℕ) (p p' : Bool) (s : Status)
    → x ≡ record { sqhd = h; sqid = q; cid = cid; phase = p; status = s } → h ≡ h' → p ≡ p'
    → x ≡ record { sqhd = h'; sqid = q; cid = cid; phase = p'; status = s }
fields_by x h h' q cid p p' s e head phase = e
    ∙ (λ i. record { sqhd = head i; sqid = q; cid = cid; phase = phase i; status = s })

-- ---- what `post_due` finds

module _ (c : ConfigNumbers) (past : Past) (fields : CoreFields) (k : IsCoreOf c past fields)
    (x : ControllerState) (m : ℕ) {f : ℕ} {w : Room}
    (view : record { config = c; past = past; forgotten = f; promised = m; room = w } ≡ x) (t : ℕ)
    (job : Keeping) (is : IsJob x.config x.past t job) where
  abbrev s : List SubmissionRing
  s = fields.submission

  abbrev q : List CompletionRing
  q = fields.completion

  mine : IsJob c past t job
  mine = subst (λ (y : ControllerState). IsJob y.config y.past t job) (sym view) is

  refused_so : (o : Option Why) → refusal c past (Step.Post t) ≡ o → refusal x.config x.past (Step.Post t) ≡ o
  refused_so o e = subst (λ (y : ControllerState). refusal y.config y.past (Step.Post t) ≡ o) view e

  pub post_nothing : slice_get (owed_in job.progress.stage) 0 ≡ None
      → refusal x.config x.past (Step.Post t) ≡ Some Why.WrongState
  post_nothing e = refused_so (Some Why.WrongState) (nothing_due c past t job k.run mine e)

  pub post_some : 1 ≤ c.cqs
  post_some = (accepted c k.accepted).some_cqs

  -- by the number of its queue
  module _ (n' : ℕ) (of : n' ≡ job.queue) where
    pub post_queue : HasQueue c n'
    post_queue = subst (HasQueue c) (sym of) (job_queue c past t job k.run.legal mine)

    -- the place of the completion ring
    pub post_place : (n' - 1) % c.cqs < length q
    post_place = omega (arith, mod-lt (n' - 1) post_some, k.completion.size)

    -- and of the submission ring
    pub post_head : n' - 1 < length s
    post_head = omega (arith, post_queue.low, post_queue.high, k.submission.size)

    ring_is : (y : CompletionRing) → y ≡ get_or q ((n' - 1) % c.cqs) y
        → y ≡ completion_ring c past (completion_queue c (Tickets.ticket past t).queue)
    ring_is y e =
        e ∙ k.completion.at ((n' - 1) % c.cqs) y (mod-lt (n' - 1) post_some)
        ∙ ap (completion_ring c past)
        (sym (add-one ((n' - 1) % c.cqs)) ∙ ap (completion_queue c) of ∙ due_queue c past t job mine)

    pub post_full : (o : Status) (y : CompletionRing) (b : Bool) → slice_get (owed_in job.progress.stage) 0 ≡ Some o
        → y ≡ get_or q ((n' - 1) % c.cqs) y → is_full y ≡ b
        → refusal x.config x.past (Step.Post t) ≡ cond b (Some Why.CqFull) None
    post_full o y b due e f =
        refused_so (cond b (Some Why.CqFull) None)
        (something_due c past t job o b k.run mine due
        (sym (due_full c past (completion_queue c (Tickets.ticket past t).queue) y k.run.legal (ring_is y e)) ∙ f))

    pub post_is : (o : Status) (cid : ℕ) (y : CompletionRing) (z : SubmissionRing) (cqe : Cqe) (d : Due)
        → slice_get (owed_in job.progress.stage) 0 ≡ Some o → slice_get job.progress.cids 0 ≡ Some cid
        → y ≡ get_or q ((n' - 1) % c.cqs) y → z ≡ get_or s (n' - 1) z
        → cqe ≡ record { sqhd = z.head; sqid = n'; cid = cid; phase = y.phase; status = o }
        → d.cqe ≡ completion_bytes cqe → d.from ≡ n' → d.cid ≡ cid → d.queue ≡ (n' - 1) % c.cqs + 1
        → d.bytes ≡ length job.read → d.last ≡ eqb (length job.progress.cids) 1 → d.ticket ≡ t → IsDue x.config x.past d
    post_is o cid y z cqe d due has e f fields bytes origin name queue read last at =
        let p : suc (n' - 1) ≡ n' = omega (arith, post_queue.low) in
        let sring : z ≡ submission_ring c past n' = f
        ∙ k.submission.at (n' - 1) z (omega (arith, post_queue.low, post_queue.high))
        ∙ ap (submission_ring c past) p in
        let of_job : cqe ≡ record { sqhd = z.head; sqid = job.queue; cid = cid; phase = y.phase; status = o } = fields
        ∙ (λ i. record { sqhd = z.head; sqid = of i; cid = cid; phase = y.phase; status = o }) in
        subst (λ (u : ℕ). IsDue x.config x.past (record d { ticket = u })) (sym at)
        (subst (λ (w : ControllerState). IsDue w.config w.past (record d { ticket = t })) view
        (due_is c past t job o cid y z cqe d k.run mine due has (ring_is y e) (sring ∙ ap (submission_ring c past) of)
        of_job bytes (origin ∙ of) name (queue ∙ ap (completion_queue c) of) read last))
