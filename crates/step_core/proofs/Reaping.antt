-- What a Reap finds, and what the fields are after it.
use Rattle.std.proofs.Common.{◌≡◌, ◌≢◌, ℕ, suc, ◌-◌, ◌≤◌, ◌<◌, Bool, true, false, cond, List, [], ◌∷◌, length}
use Rattle.std.proofs.Common.{map, drop, get_or, set, slice_get, Option, Some, None, option_map, refl, sym, ap, ◌∙◌}
use Rattle.std.proofs.Common.{subst, arith, is_none, eqb, eqb-true, eq-eqb, ltb-false, ne_eqb, inl, inr}
use Rattle.std.proofs.lemmas.Bool.{cases_Bool, cases_lt, eqb-false, or_parts}
use Rattle.std.proofs.lemmas.List.{drop-map, length-drop, length-map}
use Rattle.std.proofs.lemmas.Option.{slice_get-map}
use Rattle.plain_lemmas.proofs.Lists.{get_dropped}
use Rattle.nvme_model.specs.declared.config.ConfigNumbers.{ConfigNumbers}
use Rattle.nvme_model.specs.declared.entry.Entry.{Entry}
use Rattle.nvme_model.specs.declared.entry.PostLine.{PostLine}
use Rattle.nvme_model.specs.declared.entry.ReapLine.{ReapLine}
use Rattle.nvme_model.specs.declared.refusal.Why.{Why}
use Rattle.nvme_model.specs.declared.step.Step.{Step}
use Rattle.nvme_model.specs.Completions.{posted_completions, reaped_count, reaped_payload}
use Rattle.nvme_model.specs.History.{Past}
use Rattle.nvme_model.specs.Refusals.{conditions, refusal}
use Rattle.nvme_model.specs.Steps.{next_entry, reap_entry}
use Rattle.nvme_model.specs.Kept.{ControllerInvariant}
use Rattle.nvme_model.proofs.Rules.{none_holds}
use Rattle.nvme_model.proofs.Runs.{reaped_posted, some_at}
use Rattle.ticket_laws.proofs.Waiting.{reap_waits}
use Rattle.range_reserve.specs.declared.held.HeldRange.{HeldRange}
use Rattle.rings.specs.Completions.{CompletionRing}
use Rattle.rings.specs.Submissions.{SubmissionRing}
use Rattle.rings.specs.declared.completion_ring.Completion.{Completion}
use Rattle.job_table.specs.Jobs.{JobTable}
use Rattle.rings.specs.Queues.{completion_of, completion_ring, submission_ring}
use Rattle.step_core.specs.Kept.{CoreFields, IsCoreOf}
use Rattle.step_core.specs.Found.{IsCqRing}
use Rattle.controller_interface.specs.State.{answer_of}
use Rattle.controller_interface.specs.declared.answer.Answer.{Answer}
use Rattle.step_core.proofs.Lookups.{cq_read}
use Rattle.step_core.proofs.Moves.{stepped}
use Rattle.rings.proofs.Tables.{IsTable-same}
use Rattle.rings.proofs.Tables.{IsTable-set}

-- ---- what waits

-- how many wait
length-waiting : (c : ConfigNumbers) (past : Past) (q : ℕ)
    → length (completion_ring c past q).waiting ≡ length (posted_completions c past q) - reaped_count past q
unfolding completion_ring
length-waiting c past q = length-map (drop (reaped_count past q) (posted_completions c past q)) completion_of
    ∙ length-drop (reaped_count past q) (posted_completions c past q)

-- the one that waits first is the next to be reaped
first-waiting : (c : ConfigNumbers) (past : Past) (q : ℕ)
    → slice_get (completion_ring c past q).waiting 0
    ≡ option_map completion_of (slice_get (posted_completions c past q) (reaped_count past q))
unfolding completion_ring
first-waiting c past q =
    slice_get-map completion_of (drop (reaped_count past q) (posted_completions c past q)) 0
    ∙ ap (option_map completion_of) (get_dropped (reaped_count past q) (posted_completions c past q))

-- ---- what refuses it

-- a count and what is left of it
left_none : (n p k : ℕ) → n ≡ p - k → k ≤ p → eqb p k ≡ eqb n 0
left_none n p k e l = elim (cases_Bool (eqb p k)) [
  | inl same ↦ same ∙ sym (eq-eqb n 0 (omega (arith, e, eqb-true p k same)))
  | inr apart ↦ apart ∙ sym
      (ne_eqb n 0 (λ z. absurd (let x : true ≡ false = sym (eq-eqb p k (omega (arith, e, l, z))) ∙ apart in cc)))
]

-- as many were reaped as were posted exactly where nothing waits
all_reaped : (c : ConfigNumbers) (past : Past) (q : ℕ) (r : CompletionRing) → IsCqRing c past q r
    → eqb (length (posted_completions c past q)) (reaped_count past q) ≡ eqb (length r.waiting) 0
all_reaped c past q r h =
    left_none (length r.waiting) _ _ (ap (λ (x : CompletionRing). length x.waiting) h.is ∙ length-waiting c past q)
    h.within

-- what refuses a Reap of a queue that is there
pub reap_refused : (c : ConfigNumbers) (past : Past) (q : ℕ) (r : CompletionRing) (b : Bool) → IsCqRing c past q r
    → eqb (length r.waiting) 0 ≡ b
    → cond b (Some Why.NoCompletion) None ≡ refusal c past (Step.Reap q)
reap_refused c past q r b h e =
    ap (λ (a : Bool). cond a (Some Why.NoCompletion) None) (sym (all_reaped c past q r h ∙ e))
    ∙ ap (λ (a : Bool). cond a (Some Why.NoQueue)
    (cond (eqb (length (posted_completions c past q)) (reaped_count past q)) (Some Why.NoCompletion) None))
    (sym h.there)

-- ---- an accepted Reap

-- a count below another
below : (k p : ℕ) → k ≤ p → eqb p k ≡ false → k < p
below k p l ne = elim (cases_lt k p) [
  | inl lt ↦ lt
  | inr ge ↦ absurd (let x : true ≡ false = sym (eq-eqb p k (omega (arith, l, ge))) ∙ ne in cc)
]

-- the entry that it adds
abbrev pub reaped_entry : ℕ → Completion → Entry
reaped_entry t d = Entry.Reap (record { queue = t; cqe = d.cqe })

-- the ring of each other queue stays
ring_stays : (c : ConfigNumbers) (past : Past) (t : ℕ) (d : Completion) (k : ℕ) → k ≢ t
    → completion_ring c (reaped_entry t d ∷ past) k ≡ completion_ring c past k
unfolding completion_ring
ring_stays c past t d k ne =
    ap (λ (xs : List PostLine). record (completion_ring c past k) { waiting = map completion_of xs })
    (reap_waits c past (record { queue = t; cqe = d.cqe }) k
    ∙ ap (λ b. drop (cond b 1 0) (drop (reaped_count past k) (posted_completions c past k)))
    (ne_eqb t k (λ e. ne (sym e))))

-- the ring that is reaped
ring_reaped : (c : ConfigNumbers) (past : Past) (t : ℕ) (d : Completion)
    → record (completion_ring c past t) { waiting = drop 1 (completion_ring c past t).waiting }
    ≡ completion_ring c (reaped_entry t d ∷ past) t
unfolding completion_ring
ring_reaped c past t d =
    let line : ReapLine = record { queue = t; cqe = d.cqe } in
    let one = ap (λ b. drop (cond b 1 0) (drop (reaped_count past t) (posted_completions c past t)))
    (eq-eqb t t refl) in
    ap (λ (xs : List Completion). record (completion_ring c past t) { waiting = xs })
    (drop-map completion_of 1 (drop (reaped_count past t) (posted_completions c past t))
    ∙ sym (ap (map completion_of) (reap_waits c past line t ∙ one)))

-- the ring of a submission queue stays
submission_stays : (c : ConfigNumbers) (past : Past) (t : ℕ) (d : Completion) (k : ℕ)
    → submission_ring c (reaped_entry t d ∷ past) k ≡ submission_ring c past k
unfolding submission_ring
submission_stays c past t d k = refl

-- what is found is one thing
same_completion : {x y : Completion} → Some x ≡ Some y → x ≡ y
same_completion h = cc

module _ (c : ConfigNumbers) (past : Past) (fields : CoreFields)
    (k : IsCoreOf c past fields) (t : ℕ) (none : refusal c past (Step.Reap t) ≡ None) where
  abbrev v : List (List ℕ)
  v = fields.volume

  abbrev s : List SubmissionRing
  s = fields.submission

  abbrev q : List CompletionRing
  q = fields.completion

  abbrev j : JobTable
  j = fields.jobs

  abbrev r : List HeldRange
  r = fields.held

  abbrev n : ℕ
  n = fields.tickets

  -- there is such a queue
  first_one : t ≡ 0 → ⊥
  first_one = eqb-false t 0 (or_parts _ _ (none_holds (conditions c past (Step.Reap t)) (ap is_none none)).0).0

  last_one : t ≤ c.cqs
  last_one = ltb-false _ _ (or_parts _ _ (none_holds (conditions c past (Step.Reap t)) (ap is_none none)).0).1

  -- the Post whose completion is next
  next_post : (p : PostLine) × (slice_get (posted_completions c past t) (reaped_count past t) ≡ Some p)
  next_post =
      some_at (posted_completions c past t) (reaped_count past t)
      (below _ _ (reaped_posted c past t k.run.legal)
      (none_holds (conditions c past (Step.Reap t)) (ap is_none none)).1.0)

  module _ (x : CompletionRing) (is : x ≡ get_or q (t - 1) x) where
    -- the ring that it finds
    reap_ring : x ≡ completion_ring c past t
    reap_ring = (cq_read c past fields k t x first_one last_one is).is

    -- what waits first in it
    reap_first : slice_get x.waiting 0 ≡ Some (completion_of next_post.0)
    reap_first = ap (λ (y : CompletionRing). slice_get y.waiting 0) reap_ring ∙ first-waiting c past t
        ∙ ap (option_map completion_of) next_post.1

    -- a completion waits
    pub reap_waiting : x.waiting ≡ [] → ⊥
    reap_waiting e =
        let no : None ≡ Some (completion_of next_post.0) = sym (ap (λ (xs : List Completion). slice_get xs 0) e)
        ∙ reap_first in
        cc

    module _ (d : Completion) (first : slice_get x.waiting 0 ≡ Some d) where
      -- it is the completion of the Post
      reap_completion : d ≡ completion_of next_post.0
      reap_completion = same_completion (sym first ∙ reap_first)

      -- the entry
      pub reap_adds : reaped_entry t d ≡ next_entry c past (Step.Reap t)
      reap_adds = ap (λ (y : Completion). reaped_entry t y) reap_completion ∙ sym (ap (reap_entry t) next_post.1)

      -- the answer
      pub reap_answers : Answer.Reaped d.cqe d.payload ≡ answer_of c past (next_entry c past (Step.Reap t))
      reap_answers =
          ap (λ (y : Completion). Answer.Reaped y.cqe y.payload) reap_completion
          ∙ ap (λ (o : Option PostLine). Answer.Reaped next_post.0.cqe (reaped_payload o)) (sym next_post.1)
          ∙ ap (λ (o : Option PostLine). answer_of c past (reap_entry t o)) (sym next_post.1)

      -- the fields
      pub reap_keeps : (y : CompletionRing) (p : Past) → y ≡ record x { waiting = drop 1 x.waiting }
          → p ≡ reaped_entry t d ∷ past
          → IsCoreOf c p (record fields { completion = set q (t - 1) y })
      reap_keeps y p rest more =
          subst (λ (p : Past). IsCoreOf c p (record fields { completion = set q (t - 1) y })) (sym more) (record {
            accepted = k.accepted;
            volume = k.volume;
            submission = IsTable-same _ _ c.pairs s k.submission (λ i. submission_stays c past t d (suc i));
            in_use = k.in_use;
            completion = IsTable-set _ _ c.cqs (t - 1) q y k.completion within ring
                (λ i apart. ring_stays c past t d (suc i) (other i apart));
            jobs = k.jobs;
            held = k.held;
            count = k.count;
            run = subst (λ (e : Entry). ControllerInvariant c (e ∷ past)) (sym reap_adds)
                (stepped c past (Step.Reap t) k.run none);
          })
        where
          place : suc (t - 1) ≡ t
          place = omega (arith, first_one)

          within : t - 1 < c.cqs
          within = omega (arith, first_one, last_one)

          ring : y ≡ completion_ring c (reaped_entry t d ∷ past) (suc (t - 1))
          ring =
              rest ∙ ap (λ (z : CompletionRing). record z { waiting = drop 1 z.waiting }) reap_ring
              ∙ ring_reaped c past t d
              ∙ ap (completion_ring c (reaped_entry t d ∷ past)) (sym place)

          other : (i : ℕ) → i ≢ t - 1 → suc i ≢ t
          other i apart e = apart (omega (arith, sym e))
