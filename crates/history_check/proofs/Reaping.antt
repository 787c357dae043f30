-- What a Reap finds, and what is kept after it.
use Rattle.std.proofs.Common.{◌≡◌, ◌≢◌, ℕ, suc, ◌&&◌, ◌==◌, Bool, true, false, cond, List, [], ◌∷◌, drop, get_or}
use Rattle.std.proofs.Common.{length, map, set, slice_get, Some, None, bytes_eq, is_none, refl, sym, ap, ◌∙◌, arith}
use Rattle.std.proofs.Common.{eq-eqb, ne_eqb}
use Rattle.std.proofs.lemmas.List.{drop-map}
use Rattle.history_check.specs.Judged.{judged}
use Rattle.history_check.specs.Tables.{tables}
use Rattle.history_check.specs.Taken.{tables_after}
use Rattle.nvme_model.specs.History.{Past}
use Rattle.nvme_model.specs.Legal.{is_cqe}
use Rattle.nvme_model.specs.declared.config.ConfigNumbers.{ConfigNumbers}
use Rattle.nvme_model.specs.declared.entry.Entry.{Entry}
use Rattle.nvme_model.specs.declared.entry.PostLine.{PostLine}
use Rattle.nvme_model.specs.declared.entry.ReapLine.{ReapLine}
use Rattle.nvme_model.specs.declared.refusal.Why.{Why}
use Rattle.rings.specs.Completions.{CompletionRing}
use Rattle.rings.specs.declared.completion_ring.Completion.{Completion}
use Rattle.history_check.specs.Kept.{IsCheckerState, CheckerState}
use Rattle.history_check.specs.Rings.{bare, checked_completion_ring}
use Rattle.history_check.specs.Steps.{Took}
use Rattle.history_check.proofs.Rings.{IsPlace, apart, ring_at, there}
use Rattle.rings.proofs.Tables.{IsTable-set}

-- what the rule says of what isn't reaped, at a queue that is there
abbrev reap_by : Bool → List PostLine → List ℕ → Bool
reap_by b xs cqe = is_none (cond b (Some Why.NoQueue) (cond (length xs == 0) (Some Why.NoCompletion) None))
    && is_cqe (slice_get xs 0) cqe

reap_none : (xs : List PostLine) (cqe : List ℕ) → map bare xs ≡ [] → reap_by false xs cqe ≡ false
reap_none [] cqe e = refl
reap_none (p ∷ xs) cqe e = absurd (let f : bare p ∷ map bare xs ≡ [] = e in cc)

reap_first : (xs : List PostLine) (cqe : List ℕ) (d : Completion) → slice_get (map bare xs) 0 ≡ Some d
    → reap_by false xs cqe ≡ bytes_eq d.cqe cqe
reap_first [] cqe d e = absurd (let f : None ≡ Some d = e in cc)
reap_first (p ∷ xs) cqe d e =
    ap (λ b. is_none (cond b (Some Why.NoCompletion) None) && bytes_eq p.cqe cqe)
    (ne_eqb (suc (length xs)) 0 (λ z. omega (arith, z)))
    ∙ ap (λ (y : Completion). bytes_eq y.cqe cqe) (some_inj e)
  where
    some_inj : Some (bare p) ≡ Some d → bare p ≡ d
    some_inj h = cc

module _ (c : ConfigNumbers) (past : Past) (k : CheckerState) (keeps : IsCheckerState c past k) (l : ReapLine) (i : ℕ)
    (place : IsPlace c.cqs l.queue i) (r : CompletionRing) (is : r ≡ get_or k.completion i r) where
  ring_is : r ≡ checked_completion_ring c (tables c past) l.queue
  ring_is = ring_at (checked_completion_ring c (tables c past)) c.cqs l.queue i k.completion r keeps.shows.cq_rings
      place is

  pub waiting_is : r.waiting ≡ map bare ((tables c past).unreaped l.queue)
  waiting_is = ap (λ (y : CompletionRing). y.waiting) ring_is

  reap_judged : judged c (tables c past) (Entry.Reap l) ≡ reap_by false ((tables c past).unreaped l.queue) l.cqe
  reap_judged = ap (λ b. reap_by b ((tables c past).unreaped l.queue) l.cqe) (there c.cqs l.queue i place)

  -- nothing waits
  pub reap_no : (after : CheckerState) → r.waiting ≡ [] → Took c past (Entry.Reap l) false after
  reap_no after e = record {
    answer = sym (reap_judged ∙ reap_none ((tables c past).unreaped l.queue) l.cqe (sym waiting_is ∙ e));
    shows = λ f. absurd (let g : false ≡ true = f in cc);
  }

  -- this waits first
  pub reap_yes : (d : Completion) (b : Bool) (y : CompletionRing) → slice_get r.waiting 0 ≡ Some d
      → b ≡ bytes_eq d.cqe l.cqe → y ≡ record r { waiting = drop 1 r.waiting }
      → Took c past (Entry.Reap l) b (record k { completion = set k.completion i y })
  reap_yes d b y first e rest = record {
    answer = e ∙ sym (reap_judged
        ∙ reap_first ((tables c past).unreaped l.queue) l.cqe d
        (ap (λ (xs : List Completion). slice_get xs 0) (sym waiting_is) ∙ first));
    shows = λ _. record {
      blocks = keeps.shows.blocks;
      values = keeps.shows.values;
      sq_rings = keeps.shows.sq_rings;
      in_use = keeps.shows.in_use;
      cq_rings = IsTable-set _
          (λ q. checked_completion_ring c (tables_after c (tables c past) (Entry.Reap l)) (suc q)) c.cqs i
          k.completion y keeps.shows.cq_rings place.within own others;
      in_flight = keeps.shows.in_flight;
      ranges = keeps.shows.ranges;
      count = keeps.shows.count;
    };
  }
    where
      own : y ≡ checked_completion_ring c (tables_after c (tables c past) (Entry.Reap l)) (suc i)
      own =
          let here : l.queue ≡ suc i = omega (arith, place.next) in
          rest ∙ ap (λ (z : CompletionRing). record z { waiting = drop 1 z.waiting }) ring_is
          ∙ ap (λ (xs : List Completion). record (checked_completion_ring c (tables c past) l.queue) { waiting = xs })
          (drop-map bare 1 ((tables c past).unreaped l.queue))
          ∙ (λ z. record (checked_completion_ring c (tables c past) (here z)) {
            waiting = map bare (drop (cond (sym (eq-eqb l.queue (suc i) here) z) 1 0)
                ((tables c past).unreaped (here z)));
          })

      others : (q : ℕ) → q ≢ i
          → checked_completion_ring c (tables_after c (tables c past) (Entry.Reap l)) (suc q)
          ≡ checked_completion_ring c (tables c past) (suc q)
      others q ne =
          ap (λ b. record (checked_completion_ring c (tables c past) (suc q))
          { waiting = map bare (drop (cond b 1 0) ((tables c past).unreaped (suc q))) })
          (ne_eqb l.queue (suc q) (apart c.cqs l.queue i q place ne))
