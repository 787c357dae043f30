-- What the read accessors of a core find.
use Rattle.std.proofs.Common.{◌≡◌, ℕ, zero, suc, ◌-◌, ◌≤◌, ◌<◌, ◌==◌, ◌||◌, Bool, true, false, cond, List, [], ◌∷◌}
use Rattle.std.proofs.Common.{get_or, option_map, slice_get, Option, Some, None, arith, inl, inr, ne_eqb, nat_lt, refl}
use Rattle.std.proofs.Common.{sym, subst, ap, ◌∙◌}
use Rattle.std.specs.List.{filter}
use Rattle.nvme_model.specs.declared.config.ConfigNumbers.{ConfigNumbers}
use Rattle.nvme_model.specs.History.{Past}
use Rattle.nvme_model.specs.Tickets.{in_flight, tickets}
use Rattle.ticket_laws.specs.Standing.{flying, rising}
use Rattle.rings.specs.Completions.{CompletionRing}
use Rattle.rings.specs.Submissions.{SubmissionRing}
use Rattle.job_table.specs.Jobs.{JobTable, job_of}
use Rattle.job_table.specs.Keeping.{Keeping}
use Rattle.job_table.specs.declared.jobs.InFlight.{InFlight}
use Rattle.job_table.proofs.Tables.{slice_get-jobs_by}
use Rattle.std.proofs.lemmas.Bool.{cases_eq, or_from}
use Rattle.std.proofs.lemmas.Bool.Decides.{nat_tests}
use Rattle.ticket_laws.proofs.Counts.{fetched_within}
use Rattle.nvme_model.proofs.Runs.{reaped_posted}
use Rattle.rings.specs.Queues.{completion_ring, submission_ring}
use Rattle.job_table.specs.Tickets.{job_at}
use Rattle.step_core.specs.Kept.{CoreFields, IsCoreOf}
use Rattle.step_core.specs.Found.{IsCqRing, IsJob, IsSqRing}
use Rattle.step_core.proofs.Moves.{job_found}

-- what is among those that pass passes
passes : (p : ℕ → Bool) (xs : List ℕ) (i x : ℕ) → slice_get (filter p xs) i ≡ Some x → p x ≡ true
passes p [] i x e = absurd (let w : None ≡ Some x = e in cc)
passes p (y ∷ ys) i x e = go (p y) refl (λ k. passes p ys k x) i e
  where
    some_inj : Some y ≡ Some x → y ≡ x
    some_inj h = cc

    go : (b : Bool) → p y ≡ b → ((i : ℕ) → slice_get (filter p ys) i ≡ Some x → p x ≡ true)
        → (i : ℕ) → slice_get (cond b (y ∷ filter p ys) (filter p ys)) i ≡ Some x → p x ≡ true
    go false f rest i h = rest i h
    go true f rest zero h = ap p (sym (some_inj h)) ∙ f
    go true f rest (suc i) h = rest i h

-- the place of a queue's ring
placed : (q n : ℕ) → (q ≡ 0 → ⊥) → q ≤ n → (suc (q - 1) ≡ q) × (q - 1 < n)
placed q n a b = elim (cases_eq q 0) [
  | inl e ↦ absurd (a e)
  | inr e ↦ (omega (arith, e), omega (arith, e, b))
]

there_if : (q n : ℕ) → (q ≡ 0 → ⊥) → q ≤ n → ((q == 0) || nat_lt n q) ≡ false
there_if q n a b = or_from _ _ (ne_eqb q 0 a) (le_not_lt q n b)
  where
    le_not_lt : (q n : ℕ) → q ≤ n → nat_lt n q ≡ false
    le_not_lt q n l = grind (arith, nat_tests)

module _ (c : ConfigNumbers) (past : Past) (fields : CoreFields) (k : IsCoreOf c past fields) where
  abbrev s : List SubmissionRing
  s = fields.submission

  abbrev q : List CompletionRing
  q = fields.completion

  abbrev j : JobTable
  j = fields.jobs

  found : (t : ℕ) → job_of j.jobs t ≡ cond (in_flight past t) (Some (job_at c past t)) None
  found t = ap (λ (x : JobTable). job_of x.jobs t) k.jobs ∙ job_found c past t k.run.legal

  -- the job of a ticket that is there is that of one in flight
  pub job_there : (t : ℕ) (x : Keeping) → Some x ≡ job_of j.jobs t → IsJob c past t x
  job_there t x e = go (in_flight past t) refl (e ∙ found t)
    where
      some_inj : {x y : Keeping} → Some x ≡ Some y → x ≡ y
      some_inj h = cc

      go : (b : Bool) → in_flight past t ≡ b → Some x ≡ cond b (Some (job_at c past t)) None → IsJob c past t x
      go true f h = record { legal = k.run.legal; flies = f; is = some_inj h }
      go false f h = absurd cc

  -- and where it isn't the ticket isn't in flight
  pub job_absent : (t : ℕ) → None ≡ job_of j.jobs t → in_flight past t ≡ false
  job_absent t e = go (in_flight past t) (e ∙ found t)
    where
      go : (b : Bool) → None ≡ cond b (Some (job_at c past t)) None → b ≡ false
      go true h = absurd cc
      go false h = refl

  -- the job of a ticket among those in flight
  pub job_nth : (i : ℕ) (e : InFlight) → slice_get j.jobs i ≡ Some e → IsJob c past e.ticket e.job
  job_nth i e h =
      by (slice_get (flying past) i) refl
      (sym (slice_get-jobs_by (job_at c past) (flying past) i) ∙ ap (λ (y : JobTable). slice_get y.jobs i) (sym k.jobs)
      ∙ h)
    where
      some_inj : {x y : InFlight} → Some x ≡ Some y → x ≡ y
      some_inj h = cc

      by : (o : Option ℕ) → slice_get (flying past) i ≡ o
          → option_map {U = InFlight} (λ t. record { ticket = t; job = job_at c past t }) o ≡ Some e
          → IsJob c past e.ticket e.job
      by None f g = absurd (let w : None ≡ Some e = g in cc)
      by (Some t) f g =
          subst (λ (y : InFlight). IsJob c past y.ticket y.job) (some_inj g)
          (record { legal = k.run.legal; flies = passes (in_flight past) (rising (tickets past)) i t f; is = refl })

  -- the ring of a submission queue
  pub sq_read : (t : ℕ) (x : SubmissionRing) → (t ≡ 0 → ⊥) → t ≤ c.pairs → x ≡ get_or s (t - 1) x → IsSqRing c past t x
  sq_read t x a b e =
      let p = placed t c.pairs a b in
      record {
        there = there_if t c.pairs a b;
        is = e ∙ k.submission.at (t - 1) x p.1 ∙ ap (submission_ring c past) p.0;
        within = fetched_within c past t k.run.legal;
      }

  -- the ring of a completion queue
  pub cq_read : (t : ℕ) (x : CompletionRing) → (t ≡ 0 → ⊥) → t ≤ c.cqs → x ≡ get_or q (t - 1) x → IsCqRing c past t x
  cq_read t x a b e =
      let p = placed t c.cqs a b in
      record {
        there = there_if t c.cqs a b;
        is = e ∙ k.completion.at (t - 1) x p.1 ∙ ap (completion_ring c past) p.0;
        within = reaped_posted c past t k.run.legal;
      }
