-- The completion ring behind one Post more, and the rule of a Post by its three tests.
use Rattle.std.proofs.Common.{Bool, List, None, Some, [], ap, cond, false, is_none, length, not, refl, replicate, sym}
use Rattle.std.proofs.Common.{true, ℕ, ◌%◌, ◌&&◌, ◌+◌, ◌++◌, ◌/◌, ◌<◌, ◌==◌, ◌∙◌, ◌∷◌, ◌≡◌, arith}
use Rattle.std.proofs.lemmas.List.{length-replicate, length_push}
use Rattle.nvme_model.specs.Completions.{phase}
use Rattle.nvme_model.specs.declared.refusal.Why.{Why}
use Rattle.rings.specs.Completions.{CompletionRing, QueueCompletions, ShowsCompleted, posted_ring}
use Rattle.rings.specs.declared.completion_ring.Completion.{Completion}
use Rattle.rings.proofs.Counts.{completed_more}
use Rattle.entry_codec.proofs.Phases.{same_bit}

-- ---- the ring after one more

abbrev filled : ℕ → Completion → QueueCompletions
filled n d = record { posted = replicate n d; reaped = 0 }

abbrev filled_ring : ℕ → ℕ → Completion → CompletionRing
filled_ring m n d = record { size = m; tail = n % m; phase = (n / m) % 2 == 0; waiting = replicate n d }

shows_filled : (m n : ℕ) (d : Completion) → ShowsCompleted (filled n d) (filled_ring m n d)
shows_filled m n d =
    let l : length (replicate n d) ≡ n = length-replicate n d in
    record { reaped = omega arith; waiting = refl; tail = ap (λ x. x % m) (sym l); phase = ap (λ x. phase x m) (sym l) }

-- the tail and the phase after one more
pub ring_next : (m n : ℕ) (d : Completion) (xs : List Completion) → 0 < m
    → posted_ring (record { size = m; tail = n % m; phase = (n / m) % 2 == 0; waiting = xs }) d ≡ record {
      size = m;
      tail = (n + 1) % m;
      phase = ((n + 1) / m) % 2 == 0;
      waiting = xs ++ d ∷ [];
    }
ring_next m n d xs some =
    let r = completed_more (filled n d) (filled_ring m n d) (posted_ring (filled_ring m n d) d) d refl some
    (shows_filled m n d) in
    let l : length (replicate n d ++ d ∷ []) ≡ n + 1 = length_push (replicate n d) d
    ∙ ap (λ x. x + 1) (length-replicate n d) in
    let tail : (n % m + 1) % m ≡ (n + 1) % m = r.tail ∙ ap (λ x. x % m) l in
    let bit = same_bit (posted_ring (filled_ring m n d) d).phase (((n + 1) / m) % 2 == 0)
    (r.phase ∙ ap (λ x. phase x m) l) in
    (λ i. record { size = m; tail = tail i; phase = bit i; waiting = xs ++ d ∷ [] })

-- ---- the rule

abbrev pub post_form : Bool → Bool → Bool → Bool → Bool
post_form flies nothing full fits =
    is_none (cond (not flies) (Some Why.NoTicket)
    (cond nothing (Some Why.WrongState) (cond full (Some Why.CqFull) None))) && fits

pub form_unfit : (nothing full : Bool) → post_form true nothing full false ≡ false
form_unfit true full = refl
form_unfit false true = refl
form_unfit false false = refl

pub form_full : (nothing fits : Bool) → post_form true nothing true fits ≡ false
form_full true fits = refl
form_full false fits = refl
