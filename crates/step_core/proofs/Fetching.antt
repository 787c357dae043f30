-- What a Fetch finds, and when it is refused.
use Rattle.std.proofs.Common.{◌≡◌, ℕ, ◌≤◌, ◌<◌, ◌==◌, Bool, true, false, cond, List, [], ◌∷◌, length, map, take}
use Rattle.std.proofs.Common.{slice_get, option_map, Option, Some, None, is_none, refl, sym, ap, ap₂, ◌∙◌, subst, arith}
use Rattle.std.proofs.Common.{eq-eqb, ltb-false, nat_le}
use Rattle.std.proofs.lemmas.Bool.{or_parts}
use Rattle.std.proofs.lemmas.Bool.Decides.{nat_tests}
use Rattle.std.proofs.lemmas.List.{length-drop}
use Rattle.nvme_model.specs.Config.{config_fault, config_faults}
use Rattle.nvme_model.specs.EntryBytes.{slba, sqe_fields}
use Rattle.nvme_model.specs.History.{Past}
use Rattle.nvme_model.specs.Operations.{op_by}
use Rattle.nvme_model.specs.Queues.{fetched_count, published_entries, waiting}
use Rattle.nvme_model.specs.Refusals.{jobs_full, no_queue, refusal}
use Rattle.ticket_laws.specs.Standing.{flying}
use Rattle.nvme_model.specs.Tickets.{cids_in_use, command}
use Rattle.nvme_model.specs.Verdict.{Item, item_of, taken_entries, verdict_of}
use Rattle.nvme_model.specs.declared.config.AtomicParameters.{AtomicParameters}
use Rattle.nvme_model.specs.declared.config.ConfigNumbers.{ConfigNumbers}
use Rattle.nvme_model.specs.declared.refusal.Why.{Why}
use Rattle.nvme_model.specs.declared.status.Verdict.{Verdict}
use Rattle.nvme_model.specs.declared.step.Step.{Step}
use Rattle.nvme_model.specs.declared.submission.Submission.{Submission}
use Rattle.ticket_laws.proofs.Counts.{flying_count}
use Rattle.ticket_laws.proofs.InUse.{verdict_same}
use Rattle.nvme_model.proofs.Rules.{none_holds}
use Rattle.rings.specs.Used.{UsedCids}
use Rattle.fused_match.specs.Judged.{NamesBlocks, cids_taken, operation_in, verdict_by, waiting_items}
use Rattle.fused_match.specs.declared.judged.Judged.{Judged}
use Rattle.job_table.specs.Jobs.{JobTable}
use Rattle.job_table.proofs.Tables.{length-jobs_by}
use Rattle.rings.specs.Submissions.{SubmissionRing}
use Rattle.step_core.specs.Found.{IsFront, IsSqRing}
use Rattle.step_core.specs.declared.controller.fetch.Front.{Front}
use Rattle.job_table.specs.Tickets.{job_at}
use Rattle.rings.specs.Queues.{submission_ring}
use Rattle.step_core.specs.Kept.{AreQueueCids, CoreFields, IsCoreOf}
use Rattle.rings.proofs.CidCounts.{same_in}

-- ---- the limits of a configuration

-- a volume has at most 65,536 blocks
pub blocks_most : (c : ConfigNumbers) → config_fault c ≡ None → c.blocks ≤ 65536
blocks_most c e = ltb-false _ _ (or_parts _ _ (none_holds (config_faults c) (ap is_none e)).1.1.1.1.0).1

-- ---- when it is refused

-- two tests of a count that is at most a limit
le_is_eq : (a b : ℕ) → a ≤ b → (a == b) ≡ nat_le b a
le_is_eq a b l = grind (arith, nat_tests)

-- the table is full where as many tickets are in flight as may be
pub full_is : (c : ConfigNumbers) (past : Past) (fields : CoreFields) → IsCoreOf c past fields
    → length fields.jobs.jobs ≤ fields.jobs.limit → (length fields.jobs.jobs == fields.jobs.limit) ≡ jobs_full c past
full_is c past fields k most =
    let j = fields.jobs in
    let count = ap (λ (x : JobTable). length x.jobs) k.jobs ∙ length-jobs_by (job_at c past) (flying past)
    ∙ flying_count past in
    le_is_eq (length j.jobs) j.limit most ∙ ap₂ (λ (m n : ℕ). nat_le m n) (ap (λ (x : JobTable). x.limit) k.jobs) count

-- none is waiting
none_waits : (c : ConfigNumbers) (past : Past) (q : ℕ) (r : SubmissionRing) → IsSqRing c past q r
    → slice_get r.waiting 0 ≡ None → (length (published_entries past q) == fetched_count past q) ≡ true
unfolding submission_ring
none_waits c past q r s none =
    eq-eqb _ _ (omega (
      arith,
      s.within,
      length-drop (fetched_count past q) (published_entries past q),
      no_first (waiting past q) (ap (λ (x : SubmissionRing). slice_get x.waiting 0) (sym s.is) ∙ none),
    ))
  where
    no_first : (xs : List Submission) → slice_get xs 0 ≡ None → length xs ≡ 0
    no_first [] e = refl
    no_first (x ∷ xs) e = absurd cc

-- where one does not all are
one_waits : (c : ConfigNumbers) (past : Past) (q : ℕ) (r : SubmissionRing) (x : Submission) → IsSqRing c past q r
    → slice_get r.waiting 0 ≡ Some x → (length (published_entries past q) == fetched_count past q) ≡ false
unfolding submission_ring
one_waits c past q r x s some =
    apart _ _ (omega (
      arith,
      length-drop (fetched_count past q) (published_entries past q),
      first (waiting past q) (ap (λ (y : SubmissionRing). slice_get y.waiting 0) (sym s.is) ∙ some),
    ))
  where
    apart : (a b : ℕ) → b < a → (a == b) ≡ false
    apart a b l = grind (arith, nat_tests)

    first : (xs : List Submission) → slice_get xs 0 ≡ Some x → 0 < length xs
    first [] e = absurd cc
    first (y ∷ xs) e = omega arith

-- the refusal by its three tests
refused_by : (c : ConfigNumbers) (past : Past) (q : ℕ) (b d f : Bool) → no_queue c q ≡ b
    → (length (published_entries past q) == fetched_count past q) ≡ d → jobs_full c past ≡ f
    → refusal c past (Step.Fetch q)
    ≡ cond b (Some Why.NoQueue) (cond d (Some Why.NoEntry) (cond f (Some Why.JobsFull) None))
refused_by c past q b d f x y z =
    (λ i. cond (x i) (Some Why.NoQueue) (cond (y i) (Some Why.NoEntry) (cond (z i) (Some Why.JobsFull) None)))

-- where no entry waits
pub fetch_no_entry : (c : ConfigNumbers) (past : Past) (q : ℕ) (r : SubmissionRing) → IsSqRing c past q r
    → slice_get r.waiting 0 ≡ None → refusal c past (Step.Fetch q) ≡ Some Why.NoEntry
fetch_no_entry c past q r s none =
    refused_by c past q false true (jobs_full c past) s.there (none_waits c past q r s none) refl

-- where one does it is refused exactly where the jobs are full
pub fetch_by_jobs : (c : ConfigNumbers) (past : Past) (q : ℕ) (r : SubmissionRing) (x : Submission) (b : Bool)
    → IsSqRing c past q r → slice_get r.waiting 0 ≡ Some x → jobs_full c past ≡ b
    → refusal c past (Step.Fetch q) ≡ cond b (Some Why.JobsFull) None
fetch_by_jobs c past q r x b s some full =
    refused_by c past q false false b s.there (one_waits c past q r x s some) full

-- ---- what becomes of the entries

-- a verdict looks at two entries
front_verdict : (u : AtomicParameters) (size : ℕ) (in_use : List ℕ) (ws : List Submission) (first : Submission)
    → slice_get ws 0 ≡ Some first
    → verdict_of u size in_use (waiting_items (item_of first) (option_map item_of (slice_get ws 1)))
    ≡ verdict_of u size in_use (map item_of ws)
front_verdict u size in_use [] first e = absurd cc
front_verdict u size in_use (x ∷ []) first e =
    ap (λ (s : Submission). verdict_of u size in_use (item_of s ∷ [])) (some_inj e)
  where
    some_inj : Some x ≡ Some first → first ≡ x
    some_inj h = cc
front_verdict u size in_use (x ∷ (y ∷ ws)) first e =
    ap (λ (s : Submission). verdict_of u size in_use (item_of s ∷ item_of y ∷ [])) (some_inj e)
  where
    some_inj : Some x ≡ Some first → first ≡ x
    some_inj h = cc

-- the first command of those that are taken
pub front_command : (ws : List Submission) (q : ℕ) (v : Verdict) (first : Submission) → slice_get ws 0 ≡ Some first
    → first ≡ command (record { queue = q; commands = take (taken_entries v) ws; verdict = v }) 0
front_command [] q v first e = absurd cc
front_command (x ∷ ws) q v first e = by v
  where
    some_inj : Some x ≡ Some first → first ≡ x
    some_inj h = cc

    by : (v : Verdict) → first
        ≡ command (record { queue = q; commands = take (taken_entries v) (x ∷ ws); verdict = v }) 0
    by Verdict.Single = some_inj e
    by (Verdict.SingleFailed s) = some_inj e
    by Verdict.Pair = some_inj e
    by (Verdict.PairFailed s t) = some_inj e

-- the CIDs of those that are taken, where two are looked at
front_cids : (ws : List Submission) (j : Judged) (first : Submission) → slice_get ws 0 ≡ Some first
    → cids_taken j (item_of first) (option_map item_of (slice_get ws 1))
    ≡ map (λ s. (sqe_fields s.entry).cid) (take (taken_entries (verdict_by j)) ws)
front_cids [] j first e = absurd cc
front_cids (x ∷ []) j first e = by (verdict_by j)
  where
    some_inj : Some x ≡ Some first → first ≡ x
    some_inj h = cc

    same : (sqe_fields first.entry).cid ≡ (sqe_fields x.entry).cid
    same = ap (λ (s : Submission). (sqe_fields s.entry).cid) (some_inj e)

    by : (v : Verdict) → map (λ (i : Item). i.fields.cid) (take (taken_entries v) (item_of first ∷ []))
        ≡ map (λ (s : Submission). (sqe_fields s.entry).cid) (take (taken_entries v) (x ∷ []))
    by Verdict.Single = ap (λ n. n ∷ []) same
    by (Verdict.SingleFailed s) = ap (λ n. n ∷ []) same
    by Verdict.Pair = ap (λ n. n ∷ []) same
    by (Verdict.PairFailed s t) = ap (λ n. n ∷ []) same
front_cids (x ∷ (y ∷ ws)) j first e = by (verdict_by j)
  where
    some_inj : Some x ≡ Some first → first ≡ x
    some_inj h = cc

    same : (sqe_fields first.entry).cid ≡ (sqe_fields x.entry).cid
    same = ap (λ (s : Submission). (sqe_fields s.entry).cid) (some_inj e)

    by : (v : Verdict) → map (λ (i : Item). i.fields.cid) (take (taken_entries v) (item_of first ∷ item_of y ∷ []))
        ≡ map (λ (s : Submission). (sqe_fields s.entry).cid) (take (taken_entries v) (x ∷ y ∷ ws))
    by Verdict.Single = ap (λ n. n ∷ []) same
    by (Verdict.SingleFailed s) = ap (λ n. n ∷ []) same
    by Verdict.Pair = ap (λ n. n ∷ (sqe_fields y.entry).cid ∷ []) same
    by (Verdict.PairFailed s t) = ap (λ n. n ∷ (sqe_fields y.entry).cid ∷ []) same

-- what was found at the front of the ring is what a Fetch finds
pub front_is : (c : ConfigNumbers) (past : Past) (q : ℕ) (r : SubmissionRing) (f : Front) (first : Submission)
    (second : Option Item) → IsSqRing c past q r
    → slice_get r.waiting 0 ≡ Some first → second ≡ option_map item_of (slice_get r.waiting 1)
    → verdict_by f.judged ≡ verdict_of c.atomic c.blocks (cids_in_use past q) (waiting_items (item_of first) second)
    → operation_in f.judged ≡ op_by (verdict_by f.judged) (sqe_fields first.entry)
    → NamesBlocks f.judged (sqe_fields first.entry)
    → f.cids ≡ cids_taken f.judged (item_of first) second → f.slba ≡ slba (sqe_fields first.entry) → IsFront c past q f
unfolding submission_ring
front_is c past q r f first second s there behind verdict operation range ids start =
    let waits : r.waiting ≡ waiting past q = ap (λ (y : SubmissionRing). y.waiting) s.is in
    let front : slice_get (waiting past q) 0 ≡ Some first = ap (λ (ws : List Submission). slice_get ws 0) (sym waits)
    ∙ there in
    let next : second ≡ option_map item_of (slice_get (waiting past q) 1) = behind
    ∙ ap (λ (ws : List Submission). option_map item_of (slice_get ws 1)) waits in
    let names = ap (λ (x : Submission). sqe_fields x.entry)
    (front_command (waiting past q) q (verdict_by f.judged) first front) in
    record {
      verdict = verdict ∙ ap (λ (o : Option Item).
          verdict_of c.atomic c.blocks (cids_in_use past q) (waiting_items (item_of first) o)) next
          ∙ front_verdict c.atomic c.blocks (cids_in_use past q) (waiting past q) first front;
      operation = operation ∙ ap (op_by (verdict_by f.judged)) names;
      range = subst (NamesBlocks f.judged) names range;
      cids = ids ∙ ap (cids_taken f.judged (item_of first)) next ∙ front_cids (waiting past q) f.judged first front;
      slba = start ∙ ap slba names;
    }

-- what is judged by the CIDs that are kept of a queue is judged by those in use
pub judged_by : (c : ConfigNumbers) (past : Past) (q : ℕ) (u : UsedCids) (j : Judged) (a : AtomicParameters) (size : ℕ)
    (cids : List ℕ) (items : List Item) → AreQueueCids c past q u → cids ≡ u.cids
    → a ≡ c.atomic → size ≡ c.blocks → verdict_by j ≡ verdict_of a size cids items
    → verdict_by j ≡ verdict_of c.atomic c.blocks (cids_in_use past q) items
judged_by c past q u j a size cids items used is units blocks e =
    e ∙ (λ i. verdict_of (units i) (blocks i) (is i) items)
    ∙ verdict_same c.atomic c.blocks u.cids (cids_in_use past q) items
    (same_in u.cids (cids_in_use past q) used.cids)
