-- A CID in use is that of a published entry whose completion is not reaped.
use Rattle.nvme_model.specs.Tickets
use Rattle.std.proofs.Common.{◌≡◌, ℕ, zero, suc, ◌+◌, ◌≤◌, ◌<◌, Bool, true, false, cond, List, [], ◌∷◌, length, map}
use Rattle.std.proofs.Common.{drop, refl, sym, ap, ◌∙◌, subst, Some, inl, inr, ◌⊎◌, arith, eqb, eqb-true, slice_get}
use Rattle.std.proofs.Common.{get_or}
use Rattle.std.specs.List.{flat_map}
use Rattle.std.proofs.lemmas.Bool.{cases_lt, cases_eq}
use Rattle.nvme_model.specs.declared.config.ConfigNumbers.{ConfigNumbers}
use Rattle.nvme_model.specs.Verdict.{taken_entries}
use Rattle.nvme_model.specs.History.{Past}
use Rattle.nvme_model.specs.Tickets.{tickets, numbers_down, command, cids, cids_in_use, posts_of}
use Rattle.nvme_model.specs.Queues.{fetched_count, published_entries}
use Rattle.nvme_model.specs.Slots.{fetched_before}
use Rattle.host_laws.specs.Calls.{reaped_post, IsEntryWaiting}
use Rattle.nvme_model.specs.Legal.{IsLegal}
use Rattle.nvme_model.specs.declared.submission.Submission.{Submission}
use Rattle.nvme_model.specs.Config.{completion_queue}
use Rattle.nvme_model.proofs.TakenEntries.{taken_two}
use Rattle.host_laws.proofs.Elements.{In, in_cases}
use Rattle.host_laws.proofs.Taken.{ticket_taken}
use Rattle.host_laws.proofs.TicketsApart.{ranges_apart, within_fetched}
use Rattle.host_laws.proofs.OneAnswer.{Known, posted_answers_known, reaped_at}
use Rattle.host_laws.proofs.Reaps.{none_if}
use Rattle.host_laws.specs.Book.{cid_of}

in_flat : {X : Type 0} (f : X → List ℕ) (xs : List X) (n : ℕ) → In n (flat_map f xs) → (x : X) × In x xs × In n (f x)
in_flat f [] n i = absurd i
in_flat f (x ∷ xs) n i = go (in_cases n (f x) (flat_map f xs) i) (in_flat f xs n)
  where
    go : In n (f x) ⊎ In n (flat_map f xs) → (In n (flat_map f xs) → (y : _) × In y xs × In n (f y))
        → (y : _) × In y (x ∷ xs) × In n (f y)
    go (inl j) ih = (x, inl refl, j)
    go (inr j) ih = let r = ih j in (r.0, inr r.1, r.2)

in_numbers : (m t : ℕ) → In t (numbers_down m) → (1 ≤ t) × (t ≤ m)
in_numbers zero t i = absurd i
in_numbers (suc m) t (inl e) = (omega (arith, e), omega (arith, e))
in_numbers (suc m) t (inr i) = let r = in_numbers m t i in (r.0, omega (arith, r.1))

in_drop : (k : ℕ) (xs : List Submission) (n : ℕ) (d : Submission) → In n (drop k (map cid_of xs))
    → (i : ℕ) × (k ≤ i) × (i < length xs) × (cid_of (get_or xs i d) ≡ n)
in_drop zero [] n d i = absurd i
in_drop zero (x ∷ xs) n d (inl e) = (0, omega arith, omega arith, sym e)
in_drop zero (x ∷ xs) n d (inr i) = let r = in_drop zero xs n d i in (suc r.0, omega arith, omega (arith, r.2), r.3)
in_drop (suc k) [] n d i = absurd i
in_drop (suc k) (x ∷ xs) n d i = let r = in_drop k xs n d i in (suc r.0, omega (arith, r.1), omega (arith, r.2), r.3)

not_known : (c : ConfigNumbers) (past : Past) (q t i j : ℕ) → IsLegal c past → 1 ≤ t → t ≤ tickets past
    → (Tickets.ticket past t).queue ≡ q → posts_of past t ≤ i → i < taken_entries (Tickets.ticket past t).verdict
    → j ≡ fetched_before past t + i → Known past q j → ⊥
not_known c past q t i j h a b e l m n k =
    elim (cases_lt k.ticket t) [
      | inl x ↦ omega (
        arith,
        ranges_apart c past k.ticket t h k.some x b (k.queue ∙ sym e),
        k.number,
        k.posted,
        k.few,
        n,
      )
      | inr x ↦ elim (cases_eq k.ticket t) [
        | inl s ↦ omega (arith, ap (fetched_before past) s, ap (posts_of past) s, k.number, k.posted, n, l)
        | inr d ↦ omega (
          arith,
          ranges_apart c past t k.ticket h a (omega (arith, x, d)) k.known (e ∙ sym k.queue),
          k.number,
          m,
          n,
        )
      ]
    ]

pub in_use : (c : ConfigNumbers) (past : Past) (q cid : ℕ) → IsLegal c past → In cid (cids_in_use past q)
    → (j : ℕ) × IsEntryWaiting c past q cid j × (j < fetched_count past q)
in_use c past q cid h i =
    let x = in_flat (λ t. cond (eqb (Tickets.ticket past t).queue q)
    (drop (posts_of past t) (cids (Tickets.ticket past t))) []) (numbers_down (tickets past)) cid i in
    let known = in_numbers (tickets past) x.0 x.1 in
    by_queue x.0 known.0 known.1 (eqb (Tickets.ticket past x.0).queue q) refl x.2
  where
    by_queue : (t : ℕ) → 1 ≤ t → t ≤ tickets past → (b : Bool) → eqb (Tickets.ticket past t).queue q ≡ b
        → In cid (cond b (drop (posts_of past t) (cids (Tickets.ticket past t))) [])
        → (j : ℕ) × IsEntryWaiting c past q cid j × (j < fetched_count past q)
    by_queue t a k false e j = absurd j
    by_queue t a k true e j =
        let queue = eqb-true (Tickets.ticket past t).queue q e in
        let tk = Tickets.ticket past t in
        let r = in_drop (posts_of past t) tk.commands cid (record { entry = []; payload = [] }) j in
        let f = ticket_taken c past t h a k in
        let few : r.0 < taken_entries tk.verdict = omega (arith, r.2, f.count) in
        let stands : slice_get (published_entries past tk.queue) (fetched_before past t + r.0) ≡ Some (command tk r.0) =
        elim (cases_lt r.0 1) [
          | inl z ↦
              let o : r.0 ≡ 0 = omega (arith, z) in
              ap (slice_get (published_entries past tk.queue)) (omega (arith, o))
              ∙ (f.first ∙ ap (λ (n : ℕ). Some (command tk n)) (sym o))
          | inr z ↦
              let o : r.0 ≡ 1 = omega (arith, z, few, taken_two tk.verdict) in
              ap (slice_get (published_entries past tk.queue)) (omega (arith, o))
              ∙ (f.second (omega (arith, few, o, taken_two tk.verdict))
              ∙ ap (λ (n : ℕ). Some (command tk n)) (sym o))
        ] in (
          fetched_before past t + r.0,
          record {
            entry = command tk r.0;
            published = subst (λ (n : ℕ). slice_get (published_entries past n) (fetched_before past t + r.0)
                ≡ Some (command tk r.0)) queue stands;
            says = r.3;
            unreaped = none_if (reaped_post c past q (fetched_before past t + r.0)) (λ p s.
                let y = reaped_at c past q (fetched_before past t + r.0) p s in
                not_known c past q t r.0 (fetched_before past t + r.0) h a k queue r.1 few refl
                (posted_answers_known c past (completion_queue c q) y.index
                (record { queue = q; number = fetched_before past t + r.0; post = p }) h y.at));
          },
          (let w = subst (λ (n : ℕ). fetched_before past t + taken_entries tk.verdict ≤ fetched_count past n) queue
              (within_fetched c past t h a k) in omega (arith, w, few)),
        )
