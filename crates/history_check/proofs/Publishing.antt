-- What a Publish finds, and what is kept after it.
use Rattle.std.proofs.Common.{◌≡◌, ◌≢◌, ℕ, suc, ◌&&◌, Bool, true, false, cond, List, [], ◌++◌, get_or, set, Option}
use Rattle.std.proofs.Common.{Some, None, is_none, refl, sym, ap, ◌∙◌, arith, eq-eqb, ne_eqb}
use Rattle.std.proofs.lemmas.List.{append-nil}
use Rattle.history_check.specs.Judged.{judged}
use Rattle.history_check.specs.Tables.{Tables, tables}
use Rattle.history_check.specs.Taken.{tables_after}
use Rattle.nvme_model.specs.History.{Past}
use Rattle.nvme_model.specs.Refusals.{no_queue}
use Rattle.nvme_model.specs.declared.config.ConfigNumbers.{ConfigNumbers}
use Rattle.nvme_model.specs.declared.entry.Entry.{Entry}
use Rattle.nvme_model.specs.declared.entry.PublishLine.{PublishLine}
use Rattle.nvme_model.specs.declared.refusal.Why.{Why}
use Rattle.nvme_model.specs.declared.submission.Submission.{Submission}
use Rattle.rings.specs.Submissions.{SubmissionRing, batch_fault}
use Rattle.history_check.specs.Kept.{IsCheckerState, CheckerState}
use Rattle.history_check.specs.Rings.{checked_submission_ring}
use Rattle.history_check.specs.Steps.{Took}
use Rattle.history_check.proofs.Rings.{IsPlace, apart, ring_at, there}
use Rattle.rings.proofs.Tables.{IsTable-set}

-- what the rule says of it, at a queue that is there
publish_judged : (c : ConfigNumbers) (s : Tables) (p : PublishLine) → no_queue c p.queue ≡ false
    → judged c s (Entry.Publish p) ≡ is_none (batch_fault (checked_submission_ring c s p.queue) p.batch)
publish_judged c s p e =
    ap (λ (b : Bool). is_none (cond b (Some Why.NoQueue) (batch_fault (checked_submission_ring c s p.queue) p.batch))
    && true) e
    ∙ and_true (is_none (batch_fault (checked_submission_ring c s p.queue) p.batch))
  where
    and_true : (b : Bool) → (b && true) ≡ b
    and_true true = refl
    and_true false = refl

module _ (c : ConfigNumbers) (past : Past) (k : CheckerState) (keeps : IsCheckerState c past k) (p : PublishLine)
    (i : ℕ)
    (place : IsPlace c.pairs p.queue i) (r : SubmissionRing) (is : r ≡ get_or k.submission i r)
    (batch : List Submission)
    (same : batch ≡ p.batch) where
  ring_is : r ≡ checked_submission_ring c (tables c past) p.queue
  ring_is = ring_at (checked_submission_ring c (tables c past)) c.pairs p.queue i k.submission r keeps.shows.sq_rings
      place is

  answer_is : (o : Option Why) → batch_fault r batch ≡ o → is_none o ≡ judged c (tables c past) (Entry.Publish p)
  answer_is o e =
      ap is_none (sym e) ∙ (λ z. is_none (batch_fault (ring_is z) (same z)))
      ∙ sym (publish_judged c (tables c past) p (there c.pairs p.queue i place))

  -- the ring doesn't take the batch
  pub publish_no : (why : Why) (after : CheckerState) → batch_fault r batch ≡ Some why
      → Took c past (Entry.Publish p) false after
  publish_no why after e =
      record { answer = answer_is (Some why) e; shows = λ f. absurd (let g : false ≡ true = f in cc) }

  -- it does
  pub publish_yes : (y : SubmissionRing) → batch_fault r batch ≡ None → y ≡ record r { waiting = r.waiting ++ batch }
      → Took c past (Entry.Publish p) true (record k { submission = set k.submission i y })
  publish_yes y e more = record {
    answer = answer_is None e;
    shows = λ _. record {
      blocks = keeps.shows.blocks;
      values = keeps.shows.values;
      sq_rings = IsTable-set _ (λ q. checked_submission_ring c (tables_after c (tables c past) (Entry.Publish p))
          (suc q)) c.pairs i
          k.submission y keeps.shows.sq_rings place.within own others;
      in_use = keeps.shows.in_use;
      cq_rings = keeps.shows.cq_rings;
      in_flight = keeps.shows.in_flight;
      ranges = keeps.shows.ranges;
      count = keeps.shows.count;
    };
  }
    where
      own : y ≡ checked_submission_ring c (tables_after c (tables c past) (Entry.Publish p)) (suc i)
      own =
          let here : p.queue ≡ suc i = omega (arith, place.next) in
          more ∙ (λ z. record (ring_is z) { waiting = (ring_is z).waiting ++ same z })
          ∙ (λ z. record (checked_submission_ring c (tables c past) (here z))
          { waiting = (tables c past).waiting (here z) ++ cond (sym (eq-eqb p.queue (suc i) here) z) p.batch [] })

      others : (q : ℕ) → q ≢ i
          → checked_submission_ring c (tables_after c (tables c past) (Entry.Publish p)) (suc q)
          ≡ checked_submission_ring c (tables c past) (suc q)
      others q ne =
          ap (λ (xs : List Submission). record (checked_submission_ring c (tables c past) (suc q)) { waiting = xs })
          (ap (λ b. (tables c past).waiting (suc q) ++ cond b p.batch [])
          (ne_eqb p.queue (suc q) (apart c.pairs p.queue i q place ne))
          ∙ append-nil ((tables c past).waiting (suc q)))
