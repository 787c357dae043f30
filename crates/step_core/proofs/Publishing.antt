-- What a Publish finds, and what the fields are after it.
use Rattle.std.proofs.Common.{◌≡◌, ◌≢◌, ℕ, suc, ◌+◌, ◌-◌, ◌≤◌, ◌<◌, Bool, cond, List, [], ◌∷◌, ◌++◌, length, get_or}
use Rattle.std.proofs.Common.{set, Some, None, refl, sym, ap, ◌∙◌, subst, arith, is_none, eq-eqb, ltb-false, ne_eqb}
use Rattle.std.proofs.lemmas.Bool.{eqb-false, or_parts}
use Rattle.std.proofs.lemmas.List.{append-nil, length-drop}
use Rattle.nvme_model.specs.declared.config.ConfigNumbers.{ConfigNumbers}
use Rattle.nvme_model.specs.declared.entry.Entry.{Entry}
use Rattle.nvme_model.specs.declared.refusal.Why.{Why}
use Rattle.nvme_model.specs.declared.step.Step.{Step}
use Rattle.nvme_model.specs.declared.submission.Submission.{Submission}
use Rattle.nvme_model.specs.History.{Past}
use Rattle.nvme_model.specs.Queues.{fetched_count, published_entries, waiting}
use Rattle.nvme_model.specs.Refusals.{conditions, refusal}
use Rattle.nvme_model.specs.Tables.{first_row}
use Rattle.nvme_model.specs.Kept.{ControllerInvariant}
use Rattle.nvme_model.proofs.Rules.{none_holds}
use Rattle.ticket_laws.proofs.Waiting.{publish_waits}
use Rattle.range_reserve.specs.declared.held.HeldRange.{HeldRange}
use Rattle.rings.specs.Completions.{CompletionRing}
use Rattle.rings.specs.Submissions.{SubmissionRing, batch_fault, batch_faults}
use Rattle.job_table.specs.Jobs.{JobTable}
use Rattle.rings.specs.Queues.{completion_ring, submission_ring}
use Rattle.step_core.specs.Kept.{CoreFields, IsCoreOf}
use Rattle.step_core.specs.Found.{IsSqRing}
use Rattle.step_core.proofs.Lookups.{sq_read}
use Rattle.step_core.proofs.Moves.{stepped}
use Rattle.rings.proofs.Tables.{IsTable-same}
use Rattle.rings.proofs.Tables.{IsTable-set}

-- ---- what refuses it

-- what refuses a batch at the ring of a queue, by the history
ring_faults : (c : ConfigNumbers) (past : Past) (q : ℕ) (batch : List Submission)
    → batch_fault (submission_ring c past q) batch
    ≡ first_row (batch_faults c.sq_size (length (published_entries past q) - fetched_count past q) batch)
unfolding submission_ring
ring_faults c past q batch =
    ap (λ n. first_row (batch_faults c.sq_size n batch)) (length-drop (fetched_count past q) (published_entries past q))

-- what refuses a Publish to a queue that is there
pub publish_refused : (c : ConfigNumbers) (past : Past) (q : ℕ) (batch : List Submission) (r : SubmissionRing)
    → IsSqRing c past q r
    → batch_fault r batch ≡ refusal c past (Step.Publish q batch)
publish_refused c past q batch r h =
    ap (λ (x : SubmissionRing). batch_fault x batch) h.is ∙ ring_faults c past q batch
    ∙ ap (λ (a : Bool). cond a (Some Why.NoQueue)
    (first_row (batch_faults c.sq_size (length (published_entries past q) - fetched_count past q) batch)))
    (sym h.there)

-- ---- an accepted Publish

-- a batch of one entry
pub single : (batch : List Submission) (x y : Submission) → length batch ≡ 1 → x ≡ get_or batch 0 x
    → y.entry ≡ x.entry → y.payload ≡ x.payload → y ∷ [] ≡ batch
single [] x y n is e p = absurd (omega (arith, n))
single (b ∷ []) x y n is e p =
    let same : y ≡ x = (λ i. record { entry = e i; payload = p i }) in ap (λ (z : Submission). z ∷ []) (same ∙ is)
single (a ∷ b ∷ batch) x y n is e p = absurd (omega (arith, n))

-- the entry that it adds
abbrev pub published_entry : ℕ → List Submission → Entry
published_entry t batch = Entry.Publish (record { queue = t; batch = batch })

-- the ring of each other queue stays
ring_stays : (c : ConfigNumbers) (past : Past) (t : ℕ) (batch : List Submission) (k : ℕ) → ControllerInvariant c past
    → k ≢ t
    → submission_ring c (published_entry t batch ∷ past) k ≡ submission_ring c past k
unfolding submission_ring
ring_stays c past t batch k h ne = ap (λ (xs : List Submission). record (submission_ring c past k) { waiting = xs })
    (publish_waits c past (record { queue = t; batch = batch }) k h.legal
    ∙ ap (λ b. waiting past k ++ cond b batch []) (ne_eqb t k (λ e. ne (sym e))) ∙ append-nil (waiting past k))

-- the ring that takes the batch
ring_more : (c : ConfigNumbers) (past : Past) (t : ℕ) (batch : List Submission) → ControllerInvariant c past
    → record (submission_ring c past t) { waiting = (submission_ring c past t).waiting ++ batch }
    ≡ submission_ring c (published_entry t batch ∷ past) t
unfolding submission_ring
ring_more c past t batch h = ap (λ (xs : List Submission). record (submission_ring c past t) { waiting = xs })
    (sym (publish_waits c past (record { queue = t; batch = batch }) t h.legal
    ∙ ap (λ b. waiting past t ++ cond b batch []) (eq-eqb t t refl)))

-- the ring of a completion queue stays
completion_stays : (c : ConfigNumbers) (past : Past) (t : ℕ) (batch : List Submission) (k : ℕ)
    → completion_ring c (published_entry t batch ∷ past) k ≡ completion_ring c past k
unfolding completion_ring
completion_stays c past t batch k = refl

module _ (c : ConfigNumbers) (past : Past) (fields : CoreFields)
    (k : IsCoreOf c past fields) (t : ℕ) (batch : List Submission) (none : refusal c past (Step.Publish t batch) ≡ None)
  where
    abbrev v : List (List ℕ)
    v = fields.volume

    abbrev s : List SubmissionRing
    s = fields.submission

    abbrev q : List CompletionRing
    q = fields.completion

    abbrev j : JobTable
    j = fields.jobs

    abbrev r : List HeldRange
    r = fields.held

    abbrev n : ℕ
    n = fields.tickets

    -- there is such a queue
    first_one : t ≡ 0 → ⊥
    first_one = eqb-false t 0
        (or_parts _ _ (none_holds (conditions c past (Step.Publish t batch)) (ap is_none none)).0).0

    last_one : t ≤ c.pairs
    last_one = ltb-false _ _
        (or_parts _ _ (none_holds (conditions c past (Step.Publish t batch)) (ap is_none none)).0).1

    module _ (x : SubmissionRing) (is : x ≡ get_or s (t - 1) x) where
      -- the ring that it finds
      publish_ring : IsSqRing c past t x
      publish_ring = sq_read c past fields k t x first_one last_one is

      -- the ring takes the batch
      pub publish_taken : (why : Why) → batch_fault x batch ≡ Some why → ⊥
      publish_taken why e =
          let no : Some why ≡ None = sym e ∙ publish_refused c past t batch x publish_ring ∙ none in
          cc

      -- the ring has room for a batch of one entry
      pub publish_room : length batch ≡ 1 → length x.waiting + 1 < x.size
      publish_room one =
          let free = publish_refused c past t batch x publish_ring ∙ none in
          let rows = none_holds (batch_faults x.size (length x.waiting) batch) (ap is_none free) in
          let enough = ltb-false _ _ rows.1.0 in omega (arith, one, enough)

      -- the fields
      pub publish_keeps : (copy : List Submission) (y : SubmissionRing) (p : Past) → copy ≡ batch
          → y ≡ record x { waiting = x.waiting ++ batch } → p ≡ published_entry t copy ∷ past
          → IsCoreOf c p (record fields { submission = set s (t - 1) y })
      publish_keeps copy y p same more adds =
          subst (λ (p : Past). IsCoreOf c p (record fields { submission = set s (t - 1) y })) (sym entry) (record {
            accepted = k.accepted;
            volume = k.volume;
            submission = IsTable-set _ _ c.pairs (t - 1) s y k.submission within ring
                (λ i apart. ring_stays c past t batch (suc i) k.run (other i apart));
            in_use = k.in_use;
            completion = IsTable-same _ _ c.cqs q k.completion (λ i. completion_stays c past t batch (suc i));
            jobs = k.jobs;
            held = k.held;
            count = k.count;
            run = stepped c past (Step.Publish t batch) k.run none;
          })
        where
          entry : p ≡ published_entry t batch ∷ past
          entry = adds ∙ ap (λ (b : List Submission). published_entry t b ∷ past) same

          place : suc (t - 1) ≡ t
          place = omega (arith, first_one)

          within : t - 1 < c.pairs
          within = omega (arith, first_one, last_one)

          ring : y ≡ submission_ring c (published_entry t batch ∷ past) (suc (t - 1))
          ring =
              more ∙ ap (λ (z : SubmissionRing). record z { waiting = z.waiting ++ batch }) publish_ring.is
              ∙ ring_more c past t batch k.run
              ∙ ap (submission_ring c (published_entry t batch ∷ past)) (sym place)

          other : (i : ℕ) → i ≢ t - 1 → suc i ≢ t
          other i apart e = apart (omega (arith, sym e))
