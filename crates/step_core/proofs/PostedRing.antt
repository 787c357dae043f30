-- The ring of a completion queue after one more Post.
use Rattle.std.proofs.Common.{◌≡◌, ℕ, zero, suc, ◌%◌, ◌/◌, ◌≤◌, ◌<◌, false, cond, List, [], ◌∷◌, ◌++◌}
use Rattle.std.proofs.Common.{length, map, drop, refl, sym, ap, ◌∙◌, subst, arith, eqb, eq-eqb}
use Rattle.std.proofs.lemmas.List.{append-nil, length-map}
use Rattle.nvme_model.specs.declared.config.ConfigNumbers.{ConfigNumbers}
use Rattle.nvme_model.specs.declared.entry.Entry.{Entry}
use Rattle.nvme_model.specs.declared.entry.PostLine.{PostLine}
use Rattle.nvme_model.specs.Config.{completion_queue}
use Rattle.nvme_model.specs.History.{Past}
use Rattle.nvme_model.specs.Tickets.{ticket}
use Rattle.nvme_model.specs.Completions.{posted_completions, reaped_count}
use Rattle.nvme_model.specs.Legal.{IsLegal}
use Rattle.nvme_model.proofs.Runs.{reaped_posted}
use Rattle.rings.specs.Completions.{QueueCompletions, CompletionRing, ShowsCompleted, posted_ring}
use Rattle.rings.specs.declared.completion_ring.Completion.{Completion}
use Rattle.rings.proofs.Counts.{completed_more}
use Rattle.rings.specs.Queues.{completion_of, completion_ring}
use Rattle.entry_codec.proofs.Phases.{same_bit}

-- the ring of m slots that shows these Posts, k of them reaped
abbrev pub ring_of : ℕ → List PostLine → ℕ → CompletionRing
ring_of m ps k = record {
  size = m;
  tail = length ps % m;
  phase = eqb ((length ps / m) % 2) 0;
  waiting = map completion_of (drop k ps);
}

-- these Posts without their tickets
abbrev pub shown : List PostLine → ℕ → QueueCompletions
shown ps k = record { posted = map completion_of ps; reaped = k }

map_drop : (k : ℕ) (ps : List PostLine) → map completion_of (drop k ps) ≡ drop k (map completion_of ps)
map_drop zero [] = refl
map_drop zero (p ∷ ps) = refl
map_drop (suc k) [] = refl
map_drop (suc k) (p ∷ ps) = map_drop k ps

map_push : (ps : List PostLine) (p : PostLine)
    → map completion_of (ps ++ p ∷ []) ≡ map completion_of ps ++ completion_of p ∷ []
map_push [] p = refl
map_push (x ∷ ps) p = ap (λ ys. completion_of x ∷ ys) (map_push ps p)

-- a ring that shows them is that ring
pub shows_is : (m : ℕ) (ps : List PostLine) (k : ℕ) (r : CompletionRing) → ShowsCompleted (shown ps k) r → r.size ≡ m
    → r ≡ ring_of m ps k
shows_is m ps k r h e =
    let n : length (map completion_of ps) ≡ length ps = length-map ps completion_of in
    let tail : r.tail ≡ length ps % m = h.tail ∙ (λ i. n i % e i) in
    let phase : r.phase ≡ eqb ((length ps / m) % 2) 0 =
    same_bit r.phase (eqb ((length ps / m) % 2) 0) (h.phase ∙ (λ i. cond (eqb ((n i / e i) % 2) 0) 1 0)) in
    (λ i. record { size = e i; tail = tail i; phase = phase i; waiting = (h.waiting ∙ sym (map_drop k ps)) i })

-- and it shows them
pub shows_of : (m : ℕ) (ps : List PostLine) (k : ℕ) → k ≤ length ps → ShowsCompleted (shown ps k) (ring_of m ps k)
shows_of m ps k l =
    let n : length (map completion_of ps) ≡ length ps = length-map ps completion_of in
    record {
      reaped = omega (arith, l, n);
      waiting = map_drop k ps;
      tail = ap (λ x. x % m) (sym n);
      phase = ap (λ x. cond (eqb ((x / m) % 2) 0) 1 0) (sym n);
    }

-- after one more Post
pub ring_more : (m : ℕ) (ps : List PostLine) (k : ℕ) (p : PostLine) → 0 < m → k ≤ length ps
    → posted_ring (ring_of m ps k) (completion_of p) ≡ ring_of m (ps ++ p ∷ []) k
ring_more m ps k p some l =
    let more = completed_more (shown ps k) (ring_of m ps k) (posted_ring (ring_of m ps k) (completion_of p))
    (completion_of p) refl some (shows_of m ps k l) in
    shows_is m (ps ++ p ∷ []) k (posted_ring (ring_of m ps k) (completion_of p))
    (subst (λ (xs : List Completion).
    ShowsCompleted (record { posted = xs; reaped = k }) (posted_ring (ring_of m ps k) (completion_of p)))
    (sym (map_push ps p)) more) refl

-- the ring that a Post goes to
pub post_ring : (c : ConfigNumbers) (past : Past) (p : PostLine) (q : ℕ) → IsLegal c past → 0 < c.cq_size
    → completion_queue c (ticket past p.ticket).queue ≡ q
    → posted_ring (completion_ring c past q) (completion_of p) ≡ completion_ring c (Entry.Post p ∷ past) q
unfolding completion_ring
post_ring c past p q h some e =
    ring_more c.cq_size (posted_completions c past q) (reaped_count past q) p some (reaped_posted c past q h)
    ∙ ap (λ b. ring_of c.cq_size (posted_completions c past q ++ cond b (p ∷ []) []) (reaped_count past q))
    (sym (eq-eqb _ _ e))

-- and the others
pub post_ring_other : (c : ConfigNumbers) (past : Past) (p : PostLine) (q : ℕ)
    → eqb (completion_queue c (ticket past p.ticket).queue) q ≡ false
    → completion_ring c (Entry.Post p ∷ past) q ≡ completion_ring c past q
unfolding completion_ring
post_ring_other c past p q e =
    ap (λ b. ring_of c.cq_size (posted_completions c past q ++ cond b (p ∷ []) []) (reaped_count past q)) e
    ∙ ap (λ ps. ring_of c.cq_size ps (reaped_count past q)) (append-nil (posted_completions c past q))
