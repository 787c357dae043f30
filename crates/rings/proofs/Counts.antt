-- What a ring shows after each call, by the counts of all that went in and out.
use Rattle.std.proofs.Common.{Bool, List, [], add-zero, ap, ap₂, arith, drop, false, if◌then◌else◌, inl, inr, length}
use Rattle.std.proofs.Common.{length-append, length-drop, mod-eq_of_lt, not, slice_get, subst, sym, true, ℕ, ◌%◌, ◌*◌}
use Rattle.std.proofs.Common.{◌+◌, ◌++◌, ◌/◌, ◌<◌, ◌==◌, ◌∙◌, ◌∷◌, ◌≡◌, ◌≤◌}
use Rattle.std.proofs.Math.Nat.{add-mul, mod-add-mod}
use Rattle.std.proofs.lemmas.Bool.Decides.{eqb_tells, nat_tests}
use Rattle.std.proofs.lemmas.Grind.{common_steps}
use Rattle.std.proofs.lemmas.Option.{gets}
use Rattle.std.proofs.lemmas.List.{drop-append-le, drop-drop, length_push}
use Rattle.std.proofs.lemmas.Nat.{div-add-mod', div-mul-add, mod_below}
use Rattle.nvme_model.specs.Bits.{bit}
use Rattle.nvme_model.specs.Completions.{phase}
use Rattle.nvme_model.specs.declared.submission.Submission.{Submission}
use Rattle.rings.specs.Completions.{QueueCompletions, CompletionRing, ShowsCompleted, posted_ring}
use Rattle.rings.specs.Submissions.{ShowsSubmitted, SubmissionRing, Submitted, advanced}
use Rattle.rings.specs.declared.completion_ring.Completion.{Completion}

-- ---- submission queues

-- some more are published
pub submitted_more : (s : Submitted) (r r' : SubmissionRing) (batch : List Submission)
    → r' ≡ record r { waiting = r.waiting ++ batch } → ShowsSubmitted s r
    → ShowsSubmitted (record s { published = s.published ++ batch }) r'
submitted_more s r r' batch e h =
    subst (ShowsSubmitted (record s { published = s.published ++ batch })) (sym e) (record {
      fetched = omega (arith, h.fetched, length-append s.published batch);
      waiting = ap (λ (xs : List Submission). xs ++ batch) h.waiting
          ∙ sym (drop-append-le s.fetched s.published batch h.fetched);
      head = h.head;
    })

-- none left it
pub advanced-none : (r : SubmissionRing) → r.head < r.size → r ≡ advanced r 0
advanced-none r within =
    ap (λ n. record r { head = n }) (sym (ap (λ n. n % r.size) (add-zero r.head) ∙ mod-eq_of_lt within))

-- one more left it
pub advanced-more : (r : SubmissionRing) (k : ℕ) → advanced (advanced r k) 1 ≡ advanced r (k + 1)
advanced-more r k =
    ap₂ (λ (xs : List Submission) (n : ℕ). record r { waiting = xs; head = n })
    (drop-drop 1 k r.waiting) (mod-add-mod (r.head + k) r.size 1 ∙ ap (λ n. n % r.size) (omega arith))

-- k more are fetched
pub submitted_fetched : (s : Submitted) (r r' : SubmissionRing) (k : ℕ) → r' ≡ advanced r k
    → k ≤ length r.waiting → ShowsSubmitted s r → ShowsSubmitted (record s { fetched = s.fetched + k }) r'
submitted_fetched s r r' k e some h =
    subst (ShowsSubmitted (record s { fetched = s.fetched + k })) (sym e) (record {
      fetched = omega (arith, h.fetched, ap length h.waiting, length-drop s.fetched s.published);
      waiting = ap (drop k) h.waiting ∙ drop-drop k s.fetched s.published;
      head = ap (λ n. (n + k) % r.size) h.head ∙ mod-add-mod s.fetched r.size k;
    })

-- ---- completion queues

-- the phase of pass q
abbrev pass_phase : ℕ → ℕ
pass_phase q = if q % 2 == 0 then 1 else 0

-- it is inverted in the next pass
pass_phase-next : (q : ℕ) (b : Bool) → bit b ≡ pass_phase q → bit (not b) ≡ pass_phase (q + 1)
pass_phase-next q true e = grind (arith, nat_tests, e)
pass_phase-next q false e = grind (arith, nat_tests, e)

-- the phase after one more: another pass begins where the last slot was filled
phase_more : (k m : ℕ) (b : Bool) → 0 < m → bit b ≡ phase k m
    → bit (if k % m + 1 == m then not b else b) ≡ phase (k + 1) m
phase_more k m b some e =
    let split : k / m * m + k % m ≡ k = div-add-mod' k m in
    let below : k % m < m = mod_below k m some in
    elim (eqb_tells (k % m + 1) m) [
      | inl (is, last) ↦
          let whole : k + 1 ≡ (k / m + 1) * m + 0 = omega (arith, add-mul (k / m) 1 m) in
          let pass : (k + 1) / m ≡ k / m + 1 = ap (λ n. n / m) whole ∙ div-mul-add (k / m + 1) m 0 some in
          ap (λ t. bit (if t then not b else b)) is ∙ pass_phase-next (k / m) b e ∙ ap pass_phase (sym pass)
      | inr (isnt, further) ↦
          let part : k + 1 ≡ k / m * m + (k % m + 1) = omega arith in
          let pass : (k + 1) / m ≡ k / m = ap (λ n. n / m) part ∙ div-mul-add (k / m) m (k % m + 1) (omega arith) in
          ap (λ t. bit (if t then not b else b)) isnt ∙ e ∙ ap pass_phase (sym pass)
    ]

-- one more is posted
pub completed_more : (s : QueueCompletions) (r r' : CompletionRing) (c : Completion)
    → r' ≡ posted_ring r c → 0 < r.size → ShowsCompleted s r
    → ShowsCompleted (record s { posted = s.posted ++ c ∷ [] }) r'
completed_more s r r' c e some h =
    let more : length (s.posted ++ c ∷ []) ≡ length s.posted + 1 = length_push s.posted c in
    subst (ShowsCompleted (record s { posted = s.posted ++ c ∷ [] })) (sym e) (record {
      reaped = omega (arith, h.reaped);
      waiting = ap (λ (xs : List Completion). xs ++ c ∷ []) h.waiting
          ∙ sym (drop-append-le s.reaped s.posted (c ∷ []) h.reaped);
      tail = ap (λ n. (n + 1) % r.size) h.tail ∙ mod-add-mod (length s.posted) r.size 1
          ∙ ap (λ n. n % r.size) (sym more);
      phase =
          ap (λ n. bit (if n + 1 == r.size then not r.phase else r.phase)) h.tail
          ∙ phase_more (length s.posted) r.size r.phase some h.phase ∙ ap (λ n. phase n r.size) (sym more);
    })

-- what waits first is the next to be reaped
pub slice_get-reaped : (s : QueueCompletions) (r : CompletionRing) → ShowsCompleted s r
    → slice_get r.waiting 0 ≡ slice_get s.posted s.reaped
slice_get-reaped s r h = ap (λ (xs : List Completion). slice_get xs 0) h.waiting
    ∙ grind (arith, common_steps, gets, h.reaped)

-- one more is reaped
pub completed_reaped : (s : QueueCompletions) (r r' : CompletionRing)
    → r' ≡ record r { waiting = drop 1 r.waiting } → 0 < length r.waiting → ShowsCompleted s r
    → ShowsCompleted (record s { reaped = s.reaped + 1 }) r'
completed_reaped s r r' e some h =
    subst (ShowsCompleted (record s { reaped = s.reaped + 1 })) (sym e) (record {
      reaped = omega (arith, h.reaped, ap length h.waiting, length-drop s.reaped s.posted);
      waiting = ap (drop 1) h.waiting ∙ drop-drop 1 s.reaped s.posted;
      tail = h.tail;
      phase = h.phase;
    })
