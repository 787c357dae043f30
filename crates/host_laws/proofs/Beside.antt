-- Entries beside a completion queue and its submission queues leave what was published there and reaped from there.
use Rattle.std.proofs.Common.{◌≡◌, ℕ, suc, ◌+◌, ◌≤◌, Bool, true, false, not, ◌&&◌, ◌||◌, cond, List, [], ◌∷◌, ◌++◌}
use Rattle.std.proofs.Common.{length, refl, sym, ap, ◌∙◌, Option, Some, None, inl, inr, ◌⊎◌, arith, eq-eqb, eqb}
use Rattle.std.proofs.Common.{eqb-true, slice_get}
use Rattle.std.specs.List.{list_all, list_any}
use Rattle.std.proofs.lemmas.Bool.{and_from, and_parts, cases_Bool, cond-false, cond-true, not-true, or_cases}
use Rattle.std.proofs.lemmas.List.{append-nil, map-append}
use Rattle.std.proofs.lemmas.List.Folds.{list_any-append}
use Rattle.nvme_model.specs.Completions.{reaped_count}
use Rattle.nvme_model.specs.Config.{completion_queue}
use Rattle.nvme_model.specs.History.{Past}
use Rattle.nvme_model.specs.Passes.{SharedPast, entries, places}
use Rattle.nvme_model.specs.Queues.{published_entries}
use Rattle.nvme_model.specs.Slots.{Name, Swap, releases, swaps, swaps_in}
use Rattle.nvme_model.specs.declared.config.ConfigNumbers.{ConfigNumbers}
use Rattle.nvme_model.specs.declared.entry.Entry.{Entry}
use Rattle.nvme_model.specs.declared.entry.PostLine.{PostLine}
use Rattle.host_laws.specs.Beside.{IsBeside, IsSole, is_beside}
use Rattle.host_laws.specs.Calls.{PostedAnswer, posted_answers, post_if, reaped_post}
use Rattle.host_laws.specs.Claims.{is_released_on}
use Rattle.host_laws.proofs.PostedAnswers.{answer_own}
use Rattle.host_laws.proofs.Elements.{In, any_in, in_cases}
use Rattle.host_laws.proofs.SwapEntries.{swaps_in_queue}
use Rattle.nvme_model.specs.declared.entry.PublishLine.{PublishLine}
use Rattle.nvme_model.specs.declared.submission.Submission.{Submission}
use Rattle.nvme_model.proofs.Cut.{clash}

not_equal : (n m : ℕ) → not (eqb n m) ≡ true → n ≡ m → ⊥
not_equal n m h e = clash (eqb n m) (eq-eqb n m e) (not-true (eqb n m) h)

-- ---- submission queues

publish_beside : (c : ConfigNumbers) (n q r : ℕ) → not (eqb (completion_queue c r) n) ≡ true → completion_queue c q ≡ n
    → eqb r q ≡ false
publish_beside c n q r h e = elim (cases_Bool (eqb r q)) [
  | inr o ↦ o
  | inl o ↦ absurd (not_equal (completion_queue c r) n h (ap (completion_queue c) (eqb-true r q o) ∙ e))
]

pub published_beside : (c : ConfigNumbers) (later past : Past) (n q : ℕ) → IsBeside c n later → completion_queue c q ≡ n
    → published_entries (later ++ past) q ≡ published_entries past q
published_beside c [] past n q h e = refl
published_beside c (Entry.Publish p ∷ later) past n q h e =
    let a = and_parts (not (eqb (completion_queue c p.queue) n)) (list_all (is_beside c n) later) h in
    ap (λ (xs : List Submission). published_entries (later ++ past) q ++ xs)
    (cond-false (eqb p.queue q) p.batch [] (publish_beside c n q p.queue a.0 e))
    ∙ (append-nil (published_entries (later ++ past) q) ∙ published_beside c later past n q a.1 e)
published_beside c (Entry.Reap r ∷ later) past n q h e =
    published_beside c later past n q (and_parts (not (eqb r.queue n)) (list_all (is_beside c n) later) h).1 e
published_beside c (Entry.Fetch p ∷ later) past n q h e = published_beside c later past n q h e
published_beside c (Entry.Grant p ∷ later) past n q h e = published_beside c later past n q h e
published_beside c (Entry.Block p ∷ later) past n q h e = published_beside c later past n q h e
published_beside c (Entry.Post p ∷ later) past n q h e = published_beside c later past n q h e

-- ---- the completion queue

pub reaped_beside : (c : ConfigNumbers) (later past : Past) (n : ℕ) → IsBeside c n later
    → reaped_count (later ++ past) n ≡ reaped_count past n
reaped_beside c [] past n h = refl
reaped_beside c (Entry.Reap r ∷ later) past n h =
    let a = and_parts (not (eqb r.queue n)) (list_all (is_beside c n) later) h in
    add_none (eqb r.queue n) a.0 (reaped_count (later ++ past) n) ∙ reaped_beside c later past n a.1
  where
    add_none : (b : Bool) → not b ≡ true → (m : ℕ) → m + cond b 1 0 ≡ m
    add_none true h m = cc
    add_none false h m = omega arith
reaped_beside c (Entry.Publish p ∷ later) past n h =
    reaped_beside c later past n
    (and_parts (not (eqb (completion_queue c p.queue) n)) (list_all (is_beside c n) later) h).1
reaped_beside c (Entry.Fetch p ∷ later) past n h = reaped_beside c later past n h
reaped_beside c (Entry.Grant p ∷ later) past n h = reaped_beside c later past n h
reaped_beside c (Entry.Block p ∷ later) past n h = reaped_beside c later past n h
reaped_beside c (Entry.Post p ∷ later) past n h = reaped_beside c later past n h

-- a Reap of another completion queue answers no entry of this one's submission queues
reap_beside : (c : ConfigNumbers) (past : Past) (n q j r i : ℕ) (o : Option PostedAnswer)
    → slice_get (posted_answers c past r) i ≡ o → not (eqb r n) ≡ true → completion_queue c q ≡ n
    → (before : Option PostLine) → post_if q j o before ≡ before
reap_beside c past n q j r i None a h e before = refl
reap_beside c past n q j r i (Some x) a h e before =
    cond-false (eqb x.queue q && eqb x.number j) (Some x.post) before
    (elim (cases_Bool (eqb x.queue q && eqb x.number j)) [
      | inr o ↦ o
      | inl o ↦ absurd (not_equal r n h
          (sym (answer_own c past r i x a) ∙ (ap (completion_queue c) (eqb-true x.queue q (and_parts _ _ o).0) ∙ e)))
    ])

pub reaped_post_beside : (c : ConfigNumbers) (later past : Past) (n q j : ℕ) → IsBeside c n later
    → completion_queue c q ≡ n → reaped_post c (later ++ past) q j ≡ reaped_post c past q j
reaped_post_beside c [] past n q j h e = refl
reaped_post_beside c (Entry.Reap r ∷ later) past n q j h e =
    let a = and_parts (not (eqb r.queue n)) (list_all (is_beside c n) later) h in
    reap_beside c (later ++ past) n q j r.queue (reaped_count (later ++ past) r.queue)
    (slice_get (posted_answers c (later ++ past) r.queue) (reaped_count (later ++ past) r.queue)) refl a.0 e
    (reaped_post c (later ++ past) q j)
    ∙ reaped_post_beside c later past n q j a.1 e
reaped_post_beside c (Entry.Publish p ∷ later) past n q j h e =
    reaped_post_beside c later past n q j
    (and_parts (not (eqb (completion_queue c p.queue) n)) (list_all (is_beside c n) later) h).1 e
reaped_post_beside c (Entry.Fetch p ∷ later) past n q j h e = reaped_post_beside c later past n q j h e
reaped_post_beside c (Entry.Grant p ∷ later) past n q j h e = reaped_post_beside c later past n q j h e
reaped_post_beside c (Entry.Block p ∷ later) past n q j h e = reaped_post_beside c later past n q j h e
reaped_post_beside c (Entry.Post p ∷ later) past n q j h e = reaped_post_beside c later past n q j h e

-- ---- claims and releases

pub swaps_beside : (c : ConfigNumbers) (later past : Past) (n : ℕ) (s : Swap) → IsBeside c n later
    → completion_queue c s.queue ≡ n → In s (swaps (later ++ past)) → In s (swaps past)
swaps_beside c [] past n s h e i = i
swaps_beside c (Entry.Publish p ∷ later) past n s h e i =
    let a = and_parts (not (eqb (completion_queue c p.queue) n)) (list_all (is_beside c n) later) h in
    go a.0 (in_cases s (swaps_in p.queue (length (published_entries (later ++ past) p.queue)) p.batch)
    (swaps (later ++ past)) i) (swaps_beside c later past n s a.1 e)
  where
    go : not (eqb (completion_queue c p.queue) n) ≡ true
        → In s (swaps_in p.queue (length (published_entries (later ++ past) p.queue)) p.batch)
        ⊎ In s (swaps (later ++ past)) → (In s (swaps (later ++ past)) → In s (swaps past)) → In s (swaps past)
    go b (inl new) ih = absurd
        (not_equal (completion_queue c p.queue) n b
        (ap (completion_queue c) (sym (swaps_in_queue (later ++ past) p s new)) ∙ e))
    go b (inr old) ih = ih old
swaps_beside c (Entry.Reap r ∷ later) past n s h e i =
    swaps_beside c later past n s (and_parts (not (eqb r.queue n)) (list_all (is_beside c n) later) h).1 e i
swaps_beside c (Entry.Fetch p ∷ later) past n s h e i = swaps_beside c later past n s h e i
swaps_beside c (Entry.Grant p ∷ later) past n s h e i = swaps_beside c later past n s h e i
swaps_beside c (Entry.Block p ∷ later) past n s h e i = swaps_beside c later past n s h e i
swaps_beside c (Entry.Post p ∷ later) past n s h e i = swaps_beside c later past n s h e i

none_new : (c : ConfigNumbers) (past : Past) (p : PublishLine) (n l : ℕ) (name : Name)
    → not (eqb (completion_queue c p.queue) n) ≡ true
    → list_any (λ r. releases r l name && eqb (completion_queue c r.queue) n)
    (swaps_in p.queue (length (published_entries past p.queue)) p.batch) ≡ false
none_new c past p n l name h =
    let of = swaps_in p.queue (length (published_entries past p.queue)) p.batch in
    elim (cases_Bool (list_any (λ r. releases r l name && eqb (completion_queue c r.queue) n) of)) [
      | inr o ↦ o
      | inl o ↦
          let w = any_in (λ r. releases r l name && eqb (completion_queue c r.queue) n) of o in
          let b = and_parts (releases w.0 l name) (eqb (completion_queue c w.0.queue) n) w.2 in
          absurd (not_equal (completion_queue c p.queue) n h
          (ap (completion_queue c) (sym (swaps_in_queue past p w.0 w.1)) ∙ eqb-true _ _ b.1))
    ]

pub released_beside : (c : ConfigNumbers) (later past : Past) (n l : ℕ) (name : Name) → IsBeside c n later
    → is_released_on c (later ++ past) n l name ≡ is_released_on c past n l name
released_beside c [] past n l name h = refl
released_beside c (Entry.Publish p ∷ later) past n l name h =
    let a = and_parts (not (eqb (completion_queue c p.queue) n)) (list_all (is_beside c n) later) h in
    list_any-append (λ r. releases r l name && eqb (completion_queue c r.queue) n)
    (swaps_in p.queue (length (published_entries (later ++ past) p.queue)) p.batch) (swaps (later ++ past))
    ∙ (ap (λ (b : Bool). b || is_released_on c (later ++ past) n l name) (none_new c (later ++ past) p n l name a.0)
    ∙ released_beside c later past n l name a.1)
released_beside c (Entry.Reap r ∷ later) past n l name h =
    released_beside c later past n l name (and_parts (not (eqb r.queue n)) (list_all (is_beside c n) later) h).1
released_beside c (Entry.Fetch p ∷ later) past n l name h = released_beside c later past n l name h
released_beside c (Entry.Grant p ∷ later) past n l name h = released_beside c later past n l name h
released_beside c (Entry.Block p ∷ later) past n l name h = released_beside c later past n l name h
released_beside c (Entry.Post p ∷ later) past n l name h = released_beside c later past n l name h

-- ---- whose entries they are

pub entries_append : (later seen : SharedPast) → entries (later ++ seen) ≡ entries later ++ entries seen
entries_append later seen = map-append (λ (m : ℕ × Entry). m.1) later seen

pub places_grow : (p : ℕ) (later seen : SharedPast) → length (places p seen) ≤ length (places p (later ++ seen))
places_grow p [] seen = omega arith
places_grow p (m ∷ later) seen = go (eqb m.0 p) (places_grow p later seen)
  where
    go : (b : Bool) → length (places p seen) ≤ length (places p (later ++ seen))
        → length (places p seen)
        ≤ length (cond b (suc (length (later ++ seen)) ∷ places p (later ++ seen)) (places p (later ++ seen)))
    go true l = omega (arith, l)
    go false l = l

-- where only pass p uses the queues, what came later and isn't of pass p is beside them
pub sole_beside : (c : ConfigNumbers) (q p : ℕ) (later seen : SharedPast) → IsSole c q p (later ++ seen)
    → places p (later ++ seen) ≡ places p seen → IsBeside c q (entries later)
sole_beside c q p [] seen h e = refl
sole_beside c q p (m ∷ later) seen h e =
    let a = and_parts (is_beside c q m.1 || eqb m.0 p) (list_all (λ x. is_beside c q x.1 || eqb x.0 p) (later ++ seen))
    h in
    go (eqb m.0 p) refl e a.0 (sole_beside c q p later seen a.1)
  where
    go : (b : Bool) → eqb m.0 p ≡ b
        → cond b (suc (length (later ++ seen)) ∷ places p (later ++ seen)) (places p (later ++ seen)) ≡ places p seen
        → (is_beside c q m.1 || eqb m.0 p) ≡ true
        → (places p (later ++ seen) ≡ places p seen → IsBeside c q (entries later))
        → (is_beside c q m.1 && list_all (is_beside c q) (entries later)) ≡ true
    go true o f g ih = absurd (omega (arith, places_grow p later seen, ap length f))
    go false o f g ih = elim (or_cases (is_beside c q m.1) (eqb m.0 p) g) [
      | inl y ↦ and_from (is_beside c q m.1) (list_all (is_beside c q) (entries later)) y (ih f)
      | inr y ↦ clash (eqb m.0 p) y o
    ]

-- the same where pass p has added one entry of its own, the last
pub own_beside : (c : ConfigNumbers) (q p m : ℕ) (e : Entry) (later seen : SharedPast)
    → IsSole c q p ((p, e) ∷ (later ++ seen)) → places p ((p, e) ∷ (later ++ seen)) ≡ m ∷ places p seen
    → IsBeside c q (entries later)
own_beside c q p m e later seen h o =
    let a = and_parts (is_beside c q e || eqb p p) (list_all (λ x. is_beside c q x.1 || eqb x.0 p) (later ++ seen)) h in
    let same = sym (cond-true (eqb p p) (suc (length (later ++ seen)) ∷ places p (later ++ seen))
    (places p (later ++ seen)) (eq-eqb p p refl)) ∙ o in
    sole_beside c q p later seen a.1 (rest same)
  where
    rest : suc (length (later ++ seen)) ∷ places p (later ++ seen) ≡ m ∷ places p seen
        → places p (later ++ seen) ≡ places p seen
    rest e = cc
