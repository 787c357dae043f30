-- The tickets of one queue take entries apart.
use Rattle.nvme_model.specs.Tickets
use Rattle.std.proofs.Common.{◌≡◌, ℕ, ◌+◌, ◌≤◌, ◌<◌, Bool, true, false, cond, [], ◌∷◌, refl, sym, ap, subst, inl, inr}
use Rattle.std.proofs.Common.{arith, eq-eqb, eqb, eqb-true}
use Rattle.std.proofs.lemmas.Bool.{cases_Bool, cases_lt, eqb-false, cond-true}
use Rattle.nvme_model.specs.declared.config.ConfigNumbers.{ConfigNumbers}
use Rattle.nvme_model.specs.Verdict.{taken_entries}
use Rattle.nvme_model.specs.History.{Past}
use Rattle.nvme_model.specs.Tickets.{tickets, fetched_ticket}
use Rattle.nvme_model.specs.Queues.{fetched_count}
use Rattle.nvme_model.specs.Legal.{IsLegal}
use Rattle.nvme_model.specs.Slots.{fetched_before}
use Rattle.nvme_model.specs.declared.entry.Entry.{Entry}
use Rattle.nvme_model.proofs.Rules.{follows, fetch_number}
use Rattle.nvme_model.specs.declared.status.Verdict.{Verdict}

pub within_fetched : (c : ConfigNumbers) (past : Past) (t : ℕ) → IsLegal c past → 1 ≤ t → t ≤ tickets past
    → fetched_before past t + taken_entries (Tickets.ticket past t).verdict ≤ fetched_count past
    (Tickets.ticket past t).queue
within_fetched c [] t h a l = absurd (omega (arith, a, l))
within_fetched c (Entry.Fetch f ∷ past) t h a l =
    go (eqb f.ticket t) refl (λ m. within_fetched c past t (follows c past (Entry.Fetch f) h).before a m)
  where
    go : (b : Bool) → eqb f.ticket t ≡ b
        → (t ≤ tickets past → fetched_before past t + taken_entries (Tickets.ticket past t).verdict
        ≤ fetched_count past (Tickets.ticket past t).queue)
        → cond b (fetched_count past f.queue) (fetched_before past t)
        + taken_entries (cond b (fetched_ticket past f.queue f.verdict) (Tickets.ticket past t)).verdict
        ≤ fetched_count past (cond b (fetched_ticket past f.queue f.verdict) (Tickets.ticket past t)).queue
        + cond (eqb f.queue (cond b (fetched_ticket past f.queue f.verdict) (Tickets.ticket past t)).queue)
        (taken_entries f.verdict) 0
    go true e ih = omega (
      arith,
      cond-true (eqb f.queue f.queue) (taken_entries f.verdict) 0
          (eq-eqb f.queue f.queue refl),
    )
    go false e ih =
        let i = ih (elim (cases_lt (tickets past) t) [
          | inl k ↦ absurd (eqb-false f.ticket t e (omega (arith, k, l, fetch_number c past f h)))
          | inr k ↦ k
        ]) in
        omega (arith, i)
within_fetched c (e ∷ past) t h a l = within_fetched c past t (follows c past e h).before a l

pub ranges_apart : (c : ConfigNumbers) (past : Past) (t u : ℕ) → IsLegal c past → 1 ≤ t → t < u → u ≤ tickets past
    → (Tickets.ticket past t).queue ≡ (Tickets.ticket past u).queue
    → fetched_before past t + taken_entries (Tickets.ticket past t).verdict ≤ fetched_before past u
ranges_apart c [] t u h a k l q = absurd (omega (arith, k, l))
ranges_apart c (Entry.Fetch f ∷ past) t u h a k l q =
    let n = fetch_number c past f h in
    let before = (follows c past (Entry.Fetch f) h).before in
    let other : eqb f.ticket t ≡ false = elim (cases_Bool (eqb f.ticket t)) [
      | inl e ↦ absurd (omega (arith, eqb-true f.ticket t e, n, k, l))
      | inr e ↦ e
    ] in
    go (eqb f.ticket t) other (eqb f.ticket u) refl q before n (λ m s. ranges_apart c past t u before a k m s)
  where
    go : (b : Bool) → b ≡ false → (d : Bool) → eqb f.ticket u ≡ d
        → (cond b (fetched_ticket past f.queue f.verdict) (Tickets.ticket past t)).queue
        ≡ (cond d (fetched_ticket past f.queue f.verdict) (Tickets.ticket past u)).queue
        → IsLegal c past → f.ticket ≡ tickets past + 1
        → (u ≤ tickets past → (Tickets.ticket past t).queue ≡ (Tickets.ticket past u).queue
        → fetched_before past t + taken_entries (Tickets.ticket past t).verdict ≤ fetched_before past u)
        → cond b (fetched_count past f.queue) (fetched_before past t)
        + taken_entries (cond b (fetched_ticket past f.queue f.verdict) (Tickets.ticket past t)).verdict
        ≤ cond d (fetched_count past f.queue) (fetched_before past u)
    go true o d e s before n ih = absurd (let g = o in cc)
    go false o true e s before n ih =
        let w = within_fetched c past t before a (omega (arith, k, l)) in
        subst (λ (x : ℕ). fetched_before past t + taken_entries (Tickets.ticket past t).verdict ≤ fetched_count past x)
        s w
    go false o false e s before n ih =
        ih (elim (cases_lt (tickets past) u) [
          | inl m ↦ absurd (eqb-false f.ticket u e (omega (arith, m, l, n)))
          | inr m ↦ m
        ]) s
ranges_apart c (e ∷ past) t u h a k l q = ranges_apart c past t u (follows c past e h).before a k l q

pub taken_some : (v : Verdict) → 1 ≤ taken_entries v
taken_some Verdict.Single = omega arith
taken_some (Verdict.SingleFailed s) = omega arith
taken_some Verdict.Pair = omega arith
taken_some (Verdict.PairFailed s r) = omega arith

pub one_ticket : (c : ConfigNumbers) (past : Past) (t u : ℕ) → IsLegal c past → 1 ≤ t → t ≤ tickets past → 1 ≤ u
    → u ≤ tickets past → (Tickets.ticket past t).queue ≡ (Tickets.ticket past u).queue
    → fetched_before past t ≡ fetched_before past u → t ≡ u
one_ticket c past t u h a b d e q n =
    elim (cases_lt t u) [
      | inl l ↦ absurd (omega (arith, ranges_apart c past t u h a l e q, n, taken_some (Tickets.ticket past t).verdict))
      | inr l ↦ elim (cases_lt u t) [
        | inl m ↦ absurd (omega (
          arith,
          ranges_apart c past u t h d m b (sym q),
          n,
          taken_some (Tickets.ticket past u).verdict,
        ))
        | inr m ↦ omega (arith, l, m)
      ]
    ]

-- no ticket begins inside another
pub not_inside : (c : ConfigNumbers) (past : Past) (t u : ℕ) → IsLegal c past → 1 ≤ t → t ≤ tickets past → 1 ≤ u
    → u ≤ tickets past → (Tickets.ticket past t).queue ≡ (Tickets.ticket past u).queue
    → fetched_before past u < fetched_before past t
    → fetched_before past t < fetched_before past u + taken_entries (Tickets.ticket past u).verdict → ⊥
not_inside c past t u h a b d e q l m =
    elim (cases_lt u t) [
      | inl k ↦ omega (arith, ranges_apart c past u t h d k b (sym q), m)
      | inr k ↦ elim (cases_lt t u) [
        | inl n ↦ omega (arith, ranges_apart c past t u h a n e q, l)
        | inr n ↦
            let same : u ≡ t = omega (arith, k, n) in
            omega (arith, l, ap (fetched_before past) same)
      ]
    ]
