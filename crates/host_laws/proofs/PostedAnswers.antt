-- Where a completion was posted, and which entry it is for.
use Rattle.nvme_model.specs.Tickets
use Rattle.std.proofs.Common.{◌≡◌, ℕ, zero, suc, Bool, true, false, ◌&&◌, cond, List, [], ◌∷◌, ◌++◌, refl, ap, ap₂, ◌∙◌}
use Rattle.std.proofs.Common.{subst, subst₂, Option, Some, None, inl, inr, eqb, eqb-true, slice_get, map}
use Rattle.std.proofs.lemmas.Bool.{and_parts}
use Rattle.nvme_model.specs.declared.config.ConfigNumbers.{ConfigNumbers}
use Rattle.nvme_model.specs.History.{Past}
use Rattle.nvme_model.specs.Completions.{reaped_count, posted_completions}
use Rattle.host_laws.specs.Calls.{posted_answers, reaped_post, post_if, PostedAnswer, posted_answer}
use Rattle.nvme_model.specs.Slots.{next_number, EntryCompletion, entry_completion, entry_completions}
use Rattle.nvme_model.specs.declared.entry.PostLine.{PostLine}
use Rattle.nvme_model.specs.declared.entry.Entry.{Entry}
use Rattle.std.proofs.lemmas.List.{map-append}
use Rattle.nvme_model.specs.Config.{completion_queue}
use Rattle.host_laws.proofs.Elements.{get_cases, same_some}

-- ---- where a completion was posted

-- the Post of the completion for entry j of queue q
pub record PostedAt (past : Past) (q j : ℕ) (post : PostLine) : Type 0 where
  pub later : Past
  pub before : Past
  pub is : past ≡ later ++ (Entry.Post post ∷ before)
  pub queue : (Tickets.ticket before post.ticket).queue ≡ q
  pub number : next_number before post.ticket ≡ j

later_post : (e : Entry) (past : Past) (q j : ℕ) (p : PostLine) → PostedAt past q j p → PostedAt (e ∷ past) q j p
later_post e past q j p h =
    record {
      later = e ∷ h.later;
      before = h.before;
      is = ap (λ (x : Past). e ∷ x) h.is;
      queue = h.queue;
      number = h.number;
    }

-- of the answers of a completion queue
pub answer_at : (c : ConfigNumbers) (past : Past) (q i : ℕ) (a : PostedAnswer)
    → slice_get (posted_answers c past q) i ≡ Some a → PostedAt past a.queue a.number a.post
answer_at c [] q i a h = absurd (let f : None ≡ Some a = h in cc)
answer_at c (Entry.Post p ∷ past) q i a h =
    elim (get_cases (posted_answers c past q)
    (cond (eqb (completion_queue c (Tickets.ticket past p.ticket).queue) q) (posted_answer past p ∷ []) []) i a h) [
      | inl e ↦ later_post (Entry.Post p) past a.queue a.number a.post (answer_at c past q i a e)
      | inr m ↦ new (eqb (completion_queue c (Tickets.ticket past p.ticket).queue) q) m.0 m.2
    ]
  where
    new : (x : Bool) (m : ℕ) → slice_get (cond x (posted_answer past p ∷ []) []) m ≡ Some a
        → PostedAt (Entry.Post p ∷ past) a.queue a.number a.post
    new false m f = absurd (let g : None ≡ Some a = f in cc)
    new true zero f =
        subst (λ (y : PostedAnswer). PostedAt (Entry.Post p ∷ past) y.queue y.number y.post)
        (same_some (posted_answer past p) a (Some (posted_answer past p)) refl f)
        (record { later = []; before = past; is = refl; queue = refl; number = refl })
    new true (suc m) f = absurd (let g : None ≡ Some a = f in cc)
answer_at c (Entry.Publish p ∷ past) q i a h = later_post _ past a.queue a.number a.post (answer_at c past q i a h)
answer_at c (Entry.Fetch p ∷ past) q i a h = later_post _ past a.queue a.number a.post (answer_at c past q i a h)
answer_at c (Entry.Grant p ∷ past) q i a h = later_post _ past a.queue a.number a.post (answer_at c past q i a h)
answer_at c (Entry.Block p ∷ past) q i a h = later_post _ past a.queue a.number a.post (answer_at c past q i a h)
answer_at c (Entry.Reap p ∷ past) q i a h = later_post _ past a.queue a.number a.post (answer_at c past q i a h)

-- an answer stands on its submission queue's completion queue
pub answer_own : (c : ConfigNumbers) (past : Past) (q i : ℕ) (a : PostedAnswer)
    → slice_get (posted_answers c past q) i ≡ Some a → completion_queue c a.queue ≡ q
answer_own c [] q i a h = absurd (let f : None ≡ Some a = h in cc)
answer_own c (Entry.Post p ∷ past) q i a h =
    elim (get_cases (posted_answers c past q)
    (cond (eqb (completion_queue c (Tickets.ticket past p.ticket).queue) q) (posted_answer past p ∷ []) []) i a h) [
      | inl e ↦ answer_own c past q i a e
      | inr m ↦ new (eqb (completion_queue c (Tickets.ticket past p.ticket).queue) q) refl m.0 m.2
    ]
  where
    new : (x : Bool) → eqb (completion_queue c (Tickets.ticket past p.ticket).queue) q ≡ x → (m : ℕ)
        → slice_get (cond x (posted_answer past p ∷ []) []) m ≡ Some a → completion_queue c a.queue ≡ q
    new false e m f = absurd (let g : None ≡ Some a = f in cc)
    new true e zero f = subst (λ (y : PostedAnswer). completion_queue c y.queue ≡ q)
        (same_some (posted_answer past p) a (Some (posted_answer past p)) refl f) (eqb-true _ _ e)
    new true e (suc m) f = absurd (let g : None ≡ Some a = f in cc)
answer_own c (Entry.Publish p ∷ past) q i a h = answer_own c past q i a h
answer_own c (Entry.Fetch p ∷ past) q i a h = answer_own c past q i a h
answer_own c (Entry.Grant p ∷ past) q i a h = answer_own c past q i a h
answer_own c (Entry.Block p ∷ past) q i a h = answer_own c past q i a h
answer_own c (Entry.Reap p ∷ past) q i a h = answer_own c past q i a h

-- of a completion that was reaped
pub reaped_posted_at : (c : ConfigNumbers) (past : Past) (q j : ℕ) (p : PostLine) → reaped_post c past q j ≡ Some p
    → PostedAt past q j p
reaped_posted_at c [] q j p h = absurd (let f : None ≡ Some p = h in cc)
reaped_posted_at c (Entry.Reap r ∷ past) q j p h =
    later_post (Entry.Reap r) past q j p
    (by_answer (slice_get (posted_answers c past r.queue) (reaped_count past r.queue)) refl h
    (reaped_posted_at c past q j p))
  where
    by_answer : (o : Option PostedAnswer) → slice_get (posted_answers c past r.queue) (reaped_count past r.queue) ≡ o
        → post_if q j o (reaped_post c past q j) ≡ Some p → (reaped_post c past q j ≡ Some p → PostedAt past q j p)
        → PostedAt past q j p
    by_answer None e f ih = ih f
    by_answer (Some a) e f ih = by_number (eqb a.queue q && eqb a.number j) refl f
      where
        by_number : (x : Bool) → (eqb a.queue q && eqb a.number j) ≡ x
            → cond x (Some a.post) (reaped_post c past q j) ≡ Some p → PostedAt past q j p
        by_number false n g = ih g
        by_number true n g =
            let k = and_parts _ _ n in
            let at = subst₂ (λ (x y : ℕ). PostedAt past x y a.post) (eqb-true a.queue q k.0) (eqb-true a.number j k.1)
            (answer_at c past r.queue (reaped_count past r.queue) a e) in
            subst (λ (z : PostLine). PostedAt past q j z) (same_some a.post p (Some a.post) refl g) at
reaped_posted_at c (Entry.Publish x ∷ past) q j p h = later_post _ past q j p (reaped_posted_at c past q j p h)
reaped_posted_at c (Entry.Fetch x ∷ past) q j p h = later_post _ past q j p (reaped_posted_at c past q j p h)
reaped_posted_at c (Entry.Grant x ∷ past) q j p h = later_post _ past q j p (reaped_posted_at c past q j p h)
reaped_posted_at c (Entry.Block x ∷ past) q j p h = later_post _ past q j p (reaped_posted_at c past q j p h)
reaped_posted_at c (Entry.Post x ∷ past) q j p h = later_post _ past q j p (reaped_posted_at c past q j p h)

-- ---- the answers are the Posts, and the entry_completions

abbrev to_post : PostedAnswer → PostLine
to_post a = a.post

abbrev pub to_entry_completion : PostedAnswer → EntryCompletion
to_entry_completion a = record { queue = a.queue; number = a.number; cqe = a.post.cqe }

posts_map : (c : ConfigNumbers) (past : Past) (q : ℕ)
    → map to_post (posted_answers c past q) ≡ posted_completions c past q
posts_map c [] q = refl
posts_map c (Entry.Post p ∷ past) q =
    map-append to_post (posted_answers c past q)
    (cond (eqb (completion_queue c (Tickets.ticket past p.ticket).queue) q) (posted_answer past p ∷ []) [])
    ∙ ap₂ (λ (x y : List PostLine). x ++ y) (posts_map c past q)
    (one (eqb (completion_queue c (Tickets.ticket past p.ticket).queue) q))
  where
    one : (b : Bool) → map to_post (cond b (posted_answer past p ∷ []) []) ≡ cond b (p ∷ []) []
    one true = refl
    one false = refl
posts_map c (Entry.Publish p ∷ past) q = posts_map c past q
posts_map c (Entry.Fetch p ∷ past) q = posts_map c past q
posts_map c (Entry.Grant p ∷ past) q = posts_map c past q
posts_map c (Entry.Block p ∷ past) q = posts_map c past q
posts_map c (Entry.Reap p ∷ past) q = posts_map c past q

pub entry_completions_map : (c : ConfigNumbers) (past : Past) (q : ℕ)
    → map to_entry_completion (posted_answers c past q) ≡ entry_completions c past q
entry_completions_map c [] q = refl
entry_completions_map c (Entry.Post p ∷ past) q =
    map-append to_entry_completion (posted_answers c past q)
    (cond (eqb (completion_queue c (Tickets.ticket past p.ticket).queue) q) (posted_answer past p ∷ []) [])
    ∙ ap₂ (λ (x y : List EntryCompletion). x ++ y) (entry_completions_map c past q)
    (one (eqb (completion_queue c (Tickets.ticket past p.ticket).queue) q))
  where
    one : (b : Bool) → map to_entry_completion (cond b (posted_answer past p ∷ []) [])
        ≡ cond b (entry_completion past p ∷ []) []
    one true = refl
    one false = refl
entry_completions_map c (Entry.Publish p ∷ past) q = entry_completions_map c past q
entry_completions_map c (Entry.Fetch p ∷ past) q = entry_completions_map c past q
entry_completions_map c (Entry.Grant p ∷ past) q = entry_completions_map c past q
entry_completions_map c (Entry.Block p ∷ past) q = entry_completions_map c past q
entry_completions_map c (Entry.Reap p ∷ past) q = entry_completions_map c past q

by_map : {X : Type 0} (f : PostedAnswer → X) (xs : List PostedAnswer) (i : ℕ) (p : X) → slice_get (map f xs) i ≡ Some p
    → (a : PostedAnswer) × (slice_get xs i ≡ Some a) × (f a ≡ p)
by_map f [] i p h = absurd (let e : None ≡ Some p = h in cc)
by_map f (x ∷ xs) zero p h = (x, refl, same_some (f x) p (Some (f x)) refl h)
by_map f (x ∷ xs) (suc i) p h = by_map f xs i p h

pub posts_are : (c : ConfigNumbers) (past : Past) (q i : ℕ) (p : PostLine)
    → slice_get (posted_completions c past q) i ≡ Some p
    → (a : PostedAnswer) × (slice_get (posted_answers c past q) i ≡ Some a) × (a.post ≡ p)
posts_are c past q i p h =
    by_map to_post (posted_answers c past q) i p (ap (λ (xs : List PostLine). slice_get xs i) (posts_map c past q) ∙ h)

pub entry_completions_are : (c : ConfigNumbers) (past : Past) (q i : ℕ) (r : EntryCompletion)
    → slice_get (entry_completions c past q) i ≡ Some r
    → (a : PostedAnswer) × (slice_get (posted_answers c past q) i ≡ Some a) × (to_entry_completion a ≡ r)
entry_completions_are c past q i r h =
    by_map to_entry_completion (posted_answers c past q) i r
    (ap (λ (xs : List EntryCompletion). slice_get xs i) (entry_completions_map c past q) ∙ h)
