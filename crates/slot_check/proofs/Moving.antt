-- What the tables of queues and tickets say stays true, step by step.
use Rattle.nvme_model.specs.Tickets
use Rattle.std.proofs.Common.{◌≡◌, ℕ, suc, ◌+◌, ◌-◌, ◌<◌, ◌≤◌, Bool, true, false, ◌&&◌, cond, refl, sym, ap, ◌∙◌}
use Rattle.std.proofs.Common.{List, [], ◌∷◌, ◌++◌, Some, None, arith, eqb, eqb-true, eq-eqb, nat_le, length}
use Rattle.std.proofs.Common.{slice_get, ltb, ltb-true, leb-true, zero, inl, inr}
use Rattle.std.specs.Option.{option_map}
use Rattle.std.proofs.lemmas.Bool.{cases_Bool, not-false}
use Rattle.std.proofs.lemmas.List.{length-append}
use Rattle.nvme_model.specs.Completions.{reaped_count}
use Rattle.nvme_model.specs.Config.{completion_queue}
use Rattle.nvme_model.specs.History.{Past}
use Rattle.nvme_model.specs.Legal.{IsLegal}
use Rattle.nvme_model.specs.Queues.{fetched_count}
use Rattle.nvme_model.specs.Slots.{EntryCompletion, entry_completion, entry_completions, fetched_before, says_success}
use Rattle.nvme_model.specs.Tickets.{fetched_ticket, in_flight, posts_of}
use Rattle.nvme_model.specs.Verdict.{taken_entries}
use Rattle.nvme_model.specs.declared.config.ConfigNumbers.{ConfigNumbers}
use Rattle.nvme_model.specs.declared.entry.Entry.{Entry}
use Rattle.nvme_model.specs.declared.entry.FetchLine.{FetchLine}
use Rattle.nvme_model.specs.declared.entry.PostLine.{PostLine}
use Rattle.nvme_model.specs.declared.entry.ReapLine.{ReapLine}
use Rattle.nvme_model.proofs.Rules.{fetch_number, follows}
use Rattle.nvme_model.proofs.NextPost.{commands_few}
use Rattle.ticket_laws.proofs.Unfetched.{no_posts}
use Rattle.slot_check.specs.Progress.{KeptProgress, KnowsProgress, completed_of, flying_of, after_completion}
use Rattle.slot_check.specs.declared.progress.Flying.{Flying}

-- ---- a Fetch

module _ (c : ConfigNumbers) (past : Past) (f : FetchLine) (k m : KeptProgress) (h : KnowsProgress c past k)
    (legal : IsLegal c (Entry.Fetch f ∷ past)) where
  fetched_flying : (t : ℕ)
      → m.flying t ≡ cond (eqb f.ticket t)
      (Some (record { queue = f.queue; next = k.fetched f.queue; left = taken_entries f.verdict })) (k.flying t)
      → in_flight (Entry.Fetch f ∷ past) t ≡ true → m.flying t ≡ Some (flying_of (Entry.Fetch f ∷ past) t)
  fetched_flying t e i = go (eqb f.ticket t) refl e i
    where
      go : (b : Bool) → eqb f.ticket t ≡ b
          → m.flying t ≡ cond b (Some
          (record { queue = f.queue; next = k.fetched f.queue; left = taken_entries f.verdict })) (k.flying t)
          → ltb (posts_of past t) (length (cond b (fetched_ticket past f.queue f.verdict)
          (Tickets.ticket past t)).commands) ≡ true
          → m.flying t ≡ Some (record {
            queue = (cond b (fetched_ticket past f.queue f.verdict) (Tickets.ticket past t)).queue;
            next = cond b (fetched_count past f.queue) (fetched_before past t) + posts_of past t;
            left = taken_entries (cond b (fetched_ticket past f.queue f.verdict)
                (Tickets.ticket past t)).verdict - posts_of past t;
          })
      go false q e i = e ∙ h.flying t i
      go true q e i =
          let none : posts_of past t ≡ 0 = no_posts c past t (follows c past (Entry.Fetch f) legal).before
          (omega (arith, eqb-true f.ticket t q, fetch_number c past f legal)) in
          let first : k.fetched f.queue ≡ fetched_count past f.queue + posts_of past t = omega
          (arith, h.fetched f.queue, none) in
          let left : taken_entries f.verdict ≡ taken_entries f.verdict - posts_of past t = omega (arith, none) in
          e ∙ (λ j. Some (record { queue = f.queue; next = first j; left = left j }))

  pub fetched : ((q : ℕ) → m.published q ≡ k.published q)
      → ((q : ℕ) → m.fetched q ≡ k.fetched q + cond (eqb f.queue q) (taken_entries f.verdict) 0)
      → ((q : ℕ) → m.posted q ≡ k.posted q) → ((q : ℕ) → m.reaped q ≡ k.reaped q)
      → ((t : ℕ) → m.flying t ≡ cond (eqb f.ticket t)
      (Some (record { queue = f.queue; next = k.fetched f.queue; left = taken_entries f.verdict })) (k.flying t))
      → ((q i : ℕ) → m.waiting q i ≡ k.waiting q i) → KnowsProgress c (Entry.Fetch f ∷ past) m
  fetched p e a b g w =
      record {
        published = λ q. p q ∙ h.published q;
        fetched = λ q. e q ∙ ap (λ (x : ℕ). x + cond (eqb f.queue q) (taken_entries f.verdict) 0) (h.fetched q);
        posted = λ q. a q ∙ h.posted q;
        reaped = λ q. b q ∙ h.reaped q;
        flying = λ t i. fetched_flying t (g t) i;
        waiting = λ q i l. w q i ∙ h.waiting q i l;
      }

-- ---- a Post

eqb_suc : (n i : ℕ) (b : Bool) → eqb (suc n) (suc i) ≡ b → eqb n i ≡ b
eqb_suc n i true e = eq-eqb n i (omega (arith, eqb-true (suc n) (suc i) e))
eqb_suc n i false e = elim (cases_Bool (eqb n i)) [
  | inr f ↦ f
  | inl f ↦ absurd (let g = sym (eq-eqb (suc n) (suc i) (ap suc (eqb-true n i f))) ∙ e in cc)
]

get_one_more : {X : Type 0} (xs : List X) (x : X) (i : ℕ) (b : Bool) → eqb (length xs) i ≡ b
    → slice_get (xs ++ x ∷ []) i ≡ cond b (Some x) (slice_get xs i)
get_one_more [] x zero true e = refl
get_one_more [] x zero false e = absurd cc
get_one_more [] x (suc i) true e = absurd (let y : 0 ≡ suc i = eqb-true 0 (suc i) e in omega (arith, y))
get_one_more [] x (suc i) false e = refl
get_one_more (y ∷ xs) x zero true e =
    absurd (let z : suc (length xs) ≡ 0 = eqb-true (suc (length xs)) 0 e in omega (arith, z))
get_one_more (y ∷ xs) x zero false e = refl
get_one_more (y ∷ xs) x (suc i) b e = get_one_more xs x i b (eqb_suc (length xs) i b e)

module _ (c : ConfigNumbers) (past : Past) (p : PostLine) (k m : KeptProgress) (h : KnowsProgress c past k)
    (legal : IsLegal c (Entry.Post p ∷ past)) where
  pub flies : k.flying p.ticket ≡ Some (flying_of past p.ticket)
  flies = h.flying p.ticket (not-false _ (follows c past (Entry.Post p) legal).allowed.0)

  posted_flying : (t : ℕ)
      → m.flying t ≡ cond (eqb p.ticket t) (after_completion (flying_of past p.ticket)) (k.flying t)
      → in_flight (Entry.Post p ∷ past) t ≡ true → m.flying t ≡ Some (flying_of (Entry.Post p ∷ past) t)
  posted_flying t e i = go (eqb p.ticket t) refl e i
    where
      moved : (n l : ℕ) → 1 < l → (b : Bool) → nat_le l 1 ≡ b → after_completion (record {
        queue =
            (Tickets.ticket past t).queue;
        next = n;
        left = l;
      })
          ≡ Some (record { queue = (Tickets.ticket past t).queue; next = n + 1; left = l - 1 })
      moved n l g true q = absurd (omega (arith, g, leb-true l 1 q))
      moved n l g false q = ap (λ (b : Bool). cond b None (Some (record {
        queue =
            (Tickets.ticket past t).queue;
        next = n + 1;
        left = l - 1;
      }))) q

      go : (b : Bool) → eqb p.ticket t ≡ b
          → m.flying t ≡ cond b (after_completion (flying_of past p.ticket)) (k.flying t)
          → ltb (posts_of past t + cond b 1 0) (length (Tickets.ticket past t).commands) ≡ true
          → m.flying t ≡ Some (record {
            queue = (Tickets.ticket past t).queue;
            next = fetched_before past t + (posts_of past t + cond b 1 0);
            left = taken_entries (Tickets.ticket past t).verdict - (posts_of past t + cond b 1 0);
          })
      go false q e i =
          let same : posts_of past t + 0 ≡ posts_of past t = omega arith in
          e ∙ h.flying t (ap (λ (n : ℕ). ltb n (length (Tickets.ticket past t).commands)) (sym same) ∙ i)
          ∙ (λ j. Some (record {
            queue = (Tickets.ticket past t).queue;
            next = fetched_before past t + sym same j;
            left = taken_entries (Tickets.ticket past t).verdict - sym same j;
          }))
      go true q e i =
          let more = ltb-true (posts_of past t + 1) (length (Tickets.ticket past t).commands) i in
          let l = taken_entries (Tickets.ticket past t).verdict - posts_of past t in
          let some : 1 < l = omega (arith, more, commands_few past t) in
          let next : (fetched_before past t + posts_of past t) + 1 ≡ fetched_before past t +
          (posts_of past t + 1) = omega arith in
          let left : l - 1 ≡ taken_entries (Tickets.ticket past t).verdict - (posts_of past t + 1) = omega arith in
          e ∙ ap (λ (x : ℕ). after_completion (flying_of past x)) (eqb-true p.ticket t q)
          ∙ moved (fetched_before past t + posts_of past t) l some (nat_le l 1) refl
          ∙ (λ j. Some (record { queue = (Tickets.ticket past t).queue; next = next j; left = left j }))

  -- the completion of the Post, of this queue or of another
  posted_waiting : (q i : ℕ)
      → m.waiting q i ≡ cond (eqb (completion_queue c (Tickets.ticket past p.ticket).queue) q
      && eqb (k.posted (completion_queue c (Tickets.ticket past p.ticket).queue)) i)
      (Some (completed_of (entry_completion past p))) (k.waiting q i)
      → reaped_count past q ≤ i
      → m.waiting q i ≡ option_map completed_of (slice_get (entry_completions c (Entry.Post p ∷ past) q) i)
  posted_waiting q i e l = go (eqb (completion_queue c (Tickets.ticket past p.ticket).queue) q) refl e
    where
      place : (b : Bool) → eqb (length (entry_completions c past q)) i ≡ b
          → cond b (Some (completed_of (entry_completion past p))) (k.waiting q i)
          ≡ option_map completed_of (slice_get (entry_completions c past q ++ entry_completion past p ∷ []) i)
      place true f = sym (ap (option_map completed_of) (get_one_more (entry_completions c past q)
          (entry_completion past p) i true f))
      place false f = h.waiting q i l
          ∙ sym (ap (option_map completed_of) (get_one_more (entry_completions c past q)
          (entry_completion past p) i false f))

      nil : (xs : List EntryCompletion) → xs ≡ xs ++ []
      nil [] = refl
      nil (x ∷ xs) = ap (λ (ys : List EntryCompletion). x ∷ ys) (nil xs)

      go : (b : Bool) → eqb (completion_queue c (Tickets.ticket past p.ticket).queue) q ≡ b
          → m.waiting q i ≡ cond (b && eqb (k.posted (completion_queue c (Tickets.ticket past p.ticket).queue)) i)
          (Some (completed_of (entry_completion past p))) (k.waiting q i)
          → m.waiting q i ≡ option_map completed_of
          (slice_get (entry_completions c past q ++ cond b (entry_completion past p ∷ []) []) i)
      go false f e = e ∙ h.waiting q i l
          ∙ ap (λ (xs : List EntryCompletion). option_map completed_of (slice_get xs i)) (nil
          (entry_completions c past q))
      go true f e =
          let count : k.posted (completion_queue c (Tickets.ticket past p.ticket).queue) ≡ length
          (entry_completions c past q) =
          ap k.posted (eqb-true _ q f) ∙ h.posted q in
          e ∙ ap (λ (n : ℕ). cond (eqb n i) (Some (completed_of (entry_completion past p))) (k.waiting q i)) count
          ∙ place (eqb (length (entry_completions c past q)) i) refl

  one_more : (q : ℕ) (b : Bool) → length (entry_completions c past q) + cond b 1 0
      ≡ length (entry_completions c past q ++ cond b (entry_completion past p ∷ []) [])
  one_more q true = sym (length-append (entry_completions c past q) (entry_completion past p ∷ []))
  one_more q false = sym (length-append (entry_completions c past q) [])

  pub posted : (f : Flying) → f ≡ flying_of past p.ticket → (cq : ℕ) → cq ≡ completion_queue c f.queue → (s : Bool)
      → s ≡ says_success p.cqe
      → ((q : ℕ) → m.published q ≡ k.published q) → ((q : ℕ) → m.fetched q ≡ k.fetched q)
      → ((q : ℕ) → m.reaped q ≡ k.reaped q)
      → ((q : ℕ) → m.posted q ≡ k.posted q + cond (eqb cq q) 1 0)
      → ((t : ℕ) → m.flying t ≡ cond (eqb p.ticket t) (after_completion f) (k.flying t))
      → ((q i : ℕ) → m.waiting q i ≡ cond (eqb cq q && eqb (k.posted cq) i)
      (Some (record { queue = f.queue; number = f.next; success = s })) (k.waiting q i))
      → KnowsProgress c (Entry.Post p ∷ past) m
  posted f is cq qis s sis a b d e g w =
      let queue : cq ≡ completion_queue c (Tickets.ticket past p.ticket).queue =
      qis ∙ ap (λ (x : Flying). completion_queue c x.queue) is in
      record {
        published = λ q. a q ∙ h.published q;
        fetched = λ q. b q ∙ h.fetched q;
        posted = λ q. e q ∙ ap (λ (x : ℕ). x + cond (eqb cq q) 1 0) (h.posted q)
            ∙ ap (λ (x : ℕ). length (entry_completions c past q) + cond (eqb x q) 1 0) queue
            ∙ one_more q (eqb (completion_queue c (Tickets.ticket past p.ticket).queue) q);
        reaped = λ q. d q ∙ h.reaped q;
        flying = λ t i. posted_flying t (g t ∙ ap (λ (x : Flying). cond (eqb p.ticket t) (after_completion x)
            (k.flying t)) is) i;
        waiting = λ q i l. posted_waiting q i
            (w q i ∙ (λ j. cond (eqb (queue j) q && eqb (k.posted (queue j)) i)
            (Some (record { queue = (is j).queue; number = (is j).next; success = sis j })) (k.waiting q i))) l;
      }

-- ---- a Reap

pub reaped : (c : ConfigNumbers) (past : Past) (r : ReapLine) (k m : KeptProgress) → KnowsProgress c past k
    → ((q : ℕ) → m.published q ≡ k.published q) → ((q : ℕ) → m.fetched q ≡ k.fetched q)
    → ((q : ℕ) → m.posted q ≡ k.posted q)
    → ((q : ℕ) → m.reaped q ≡ k.reaped q + cond (eqb r.queue q) 1 0)
    → ((t : ℕ) → m.flying t ≡ k.flying t)
    → ((q i : ℕ) → m.waiting q i ≡ cond (eqb r.queue q && eqb (k.reaped r.queue) i) None (k.waiting q i))
    → KnowsProgress c (Entry.Reap r ∷ past) m
reaped c past r k m h a b d e g w =
    record {
      published = λ q. a q ∙ h.published q;
      fetched = λ q. b q ∙ h.fetched q;
      posted = λ q. d q ∙ h.posted q;
      reaped = λ q. e q ∙ ap (λ (x : ℕ). x + cond (eqb r.queue q) 1 0) (h.reaped q);
      flying = λ t i. g t ∙ h.flying t i;
      waiting = λ q i l. at q i (eqb r.queue q) refl (w q i) l;
    }
  where
    beside : (q i : ℕ) (b : Bool) → eqb (k.reaped q) i ≡ b → reaped_count past q + 1 ≤ i
        → cond b None (k.waiting q i) ≡ k.waiting q i
    beside q i false f l = refl
    beside q i true f l = absurd (omega (arith, eqb-true (k.reaped q) i f, h.reaped q, l))

    at : (q i : ℕ) (b : Bool) → eqb r.queue q ≡ b
        → m.waiting q i ≡ cond (b && eqb (k.reaped r.queue) i) None (k.waiting q i)
        → reaped_count past q + cond b 1 0 ≤ i
        → m.waiting q i ≡ option_map completed_of (slice_get (entry_completions c past q) i)
    at q i false f e l = e ∙ h.waiting q i (omega (arith, l))
    at q i true f e l = e
        ∙ ap (λ (x : ℕ). cond (eqb (k.reaped x) i) None (k.waiting q i)) (eqb-true r.queue q f)
        ∙ beside q i (eqb (k.reaped q) i) refl l ∙ h.waiting q i (omega (arith, l))

-- ---- what changes nothing

pub still : (c : ConfigNumbers) (past : Past) (k m : KeptProgress) → KnowsProgress c past k
    → ((q : ℕ) → m.published q ≡ k.published q) → ((q : ℕ) → m.fetched q ≡ k.fetched q)
    → ((q : ℕ) → m.posted q ≡ k.posted q) → ((q : ℕ) → m.reaped q ≡ k.reaped q)
    → ((t : ℕ) → m.flying t ≡ k.flying t) → ((q i : ℕ) → m.waiting q i ≡ k.waiting q i) → KnowsProgress c past m
still c past k m h a b d e g w =
    record {
      published = λ q. a q ∙ h.published q;
      fetched = λ q. b q ∙ h.fetched q;
      posted = λ q. d q ∙ h.posted q;
      reaped = λ q. e q ∙ h.reaped q;
      flying = λ t i. g t ∙ h.flying t i;
      waiting = λ q i l. w q i ∙ h.waiting q i l;
    }
