-- The submission queues of a completion queue.
use Rattle.std.proofs.Common.{All, Contains, List, None, [], arith, ap, eqb, false, inl, inr, is_none, le-leb, length}
use Rattle.std.proofs.Common.{length-append, mod-eq_of_lt, slice_index, subst, suc, sym, true, true≢false, zero, ℕ, ◌%◌}
use Rattle.std.proofs.Common.{◌+◌, ◌-◌, ◌++◌, ◌<◌, ◌∙◌, ◌∷◌, ◌≡◌, ◌≤◌}
use Rattle.std.proofs.Math.ListN.{get_or-append}
use Rattle.std.proofs.Math.Seq.{get_or-append_seam}
use Rattle.std.proofs.lemmas.Bool.{and_from, and_parts, cases_lt, eq-eqb, eqb-true, leb-true, ltb-false, or_parts}
use Rattle.std.proofs.lemmas.Bool.Decides.{nat_tests}
use Rattle.std.proofs.lemmas.List.Elements.{All-append, Contains-append_left, Contains-push}
use Rattle.std.specs.List.Sorted.{IsStrictlyIncreasing}
use Rattle.nvme_model.specs.Config.{completion_queue, config_fault, config_faults}
use Rattle.nvme_model.specs.declared.config.ConfigNumbers.{ConfigNumbers}
use Rattle.nvme_model.proofs.Rules.{none_holds}
use Rattle.race_hosts.specs.Hosts.{HasEach, HasEachBelow, uses}
use Rattle.nvme_model.proofs.Accepted.{accepted}

-- a greater number behind rising ones
pub rising_on : (xs : List ℕ) (n : ℕ) → IsStrictlyIncreasing xs → All (λ x. x < n) xs
    → IsStrictlyIncreasing (xs ++ n ∷ [])
rising_on xs n up below k within =
    elim (cases_lt (k + 1) (length xs)) [
      | inl low ↦
          let a : slice_index (xs ++ n ∷ []) k ≡ slice_index xs k =
          get_or-append xs (n ∷ []) 0 k (omega (arith, low)) in
          let b : slice_index (xs ++ n ∷ []) (k + 1) ≡ slice_index xs (k + 1) =
          get_or-append xs (n ∷ []) 0 (k + 1) low in
          let c = up k low in
          omega (arith, a, b, c)
      | inr high ↦
          let len : length (xs ++ n ∷ []) ≡ length xs + 1 = length-append xs (n ∷ []) in
          let at : k + 1 ≡ length xs = omega (arith, len, within, high) in
          let a : slice_index (xs ++ n ∷ []) k ≡ slice_index xs k = get_or-append xs (n ∷ []) 0 k (omega (arith, at)) in
          let b : slice_index (xs ++ n ∷ []) (length xs) ≡ n = get_or-append_seam xs n [] 0 in
          let b' : slice_index (xs ++ n ∷ []) (k + 1) ≡ n = ap (slice_index (xs ++ n ∷ [])) at ∙ b in
          let c : slice_index xs k < n = below k 0 (omega (arith, at)) in
          omega (arith, a, b', c)
    ]

one : (P : ℕ → Type 0) (n : ℕ) → P n → All P (n ∷ [])
one P n h zero x within = h
one P n h (suc k) x within = absurd (omega (arith, within))

-- so all are below the number after it
pub below_on : (xs : List ℕ) (n : ℕ) → All (λ x. x < n) xs → All (λ x. x < n + 1) (xs ++ n ∷ [])
below_on xs n below = All-append (λ x. x < n + 1) xs (n ∷ [])
    (λ k x within. let c = below k x within in omega (arith, c)) (one (λ x. x < n + 1) n (omega arith))

pub below_later : (xs : List ℕ) (n : ℕ) → All (λ x. x < n) xs → All (λ x. x < n + 1) xs
below_later xs n below k x within = let c = below k x within in omega (arith, c)

pub use_on : (c : ConfigNumbers) (queue : ℕ) (xs : List ℕ) (n : ℕ) → All (λ x. uses c queue x ≡ true) xs
    → uses c queue n ≡ true → All (λ x. uses c queue x ≡ true) (xs ++ n ∷ [])
use_on c queue xs n all h =
    All-append (λ x. uses c queue x ≡ true) xs (n ∷ []) all (one (λ x. uses c queue x ≡ true) n h)

pub empty : (P : ℕ → Type 0) → All P []
empty P k x within = absurd (omega (arith, within))

-- ---- which queues use it

-- there are as many submission queues as completion queues, or more
counts : (c : ConfigNumbers) → config_fault c ≡ None → (1 ≤ c.cqs) × (c.cqs ≤ c.pairs)
counts c e = ((accepted c e).some_cqs, (accepted c e).most_cqs)

used : (c : ConfigNumbers) (queue n : ℕ) → 1 ≤ n → n ≤ c.pairs → completion_queue c n ≡ queue → uses c queue n ≡ true
used c queue n some few e =
    and_from _ _ (and_from _ _ (le-leb 1 n some) (le-leb n c.pairs few)) (eq-eqb (completion_queue c n) queue e)

-- the first of its number
pub first_use : (c : ConfigNumbers) (queue : ℕ) → config_fault c ≡ None → 1 ≤ queue → queue ≤ c.cqs
    → uses c queue queue ≡ true
first_use c queue e some few =
    let n = counts c e in
    let small : (queue - 1) % c.cqs ≡ queue - 1 = mod-eq_of_lt (omega (arith, some, few)) in
    used c queue queue some (omega (arith, few, n.1)) (omega (arith, small, some))

-- each next one by its remainder
pub next_use : (c : ConfigNumbers) (queue k : ℕ) → 1 ≤ queue → k < c.pairs → k % c.cqs ≡ queue - 1
    → uses c queue (k + 1) ≡ true
next_use c queue k some few at =
    let same : (k + 1) - 1 ≡ k = omega arith in
    let rest : ((k + 1) - 1) % c.cqs ≡ k % c.cqs = ap (λ (n : ℕ). n % c.cqs) same in
    used c queue (k + 1) (omega arith) (omega (arith, few)) (omega (arith, rest, at, some))

-- ---- each of them

-- it is there, and the one before it leaves the remainder of its completion queue
its_use : (c : ConfigNumbers) (queue n : ℕ) → uses c queue n ≡ true
    → (1 ≤ n) × (n ≤ c.pairs) × ((n - 1) % c.cqs + 1 ≡ queue)
its_use c queue n e =
    let p = and_parts _ _ e in
    let q = and_parts _ _ p.0 in
    (leb-true 1 n q.0, leb-true n c.pairs q.1, eqb-true (completion_queue c n) queue p.1)

pub each_on : (c : ConfigNumbers) (queue : ℕ) (xs : List ℕ) (next : ℕ) → HasEachBelow c queue next xs
    → HasEachBelow c queue (next + 1) (xs ++ next ∷ [])
each_on c queue xs next each n e low =
    elim (cases_lt n next) [
      | inl below ↦ Contains-append_left xs (next ∷ []) n (each n e below)
      | inr above ↦
          let same : next ≡ n = omega (arith, above, low) in
          subst (Contains (xs ++ next ∷ [])) same (Contains-push xs next)
    ]

-- what holds of queues and one more
pub ruleset one_more = (rising_on, below_on, use_on, each_on)

-- by another remainder it isn't one
pub each_past : (c : ConfigNumbers) (queue : ℕ) (xs : List ℕ) (k : ℕ) → eqb (k % c.cqs) (queue - 1) ≡ false
    → HasEachBelow c queue (k + 1) xs → HasEachBelow c queue (k + 1 + 1) xs
each_past c queue xs k other each n e low =
    elim (cases_lt n (k + 1)) [
      | inl below ↦ each n e below
      | inr above ↦
          let u = its_use c queue n e in
          let same : n - 1 ≡ k = omega (arith, above, low) in
          let rest : (n - 1) % c.cqs ≡ k % c.cqs = ap (λ (m : ℕ). m % c.cqs) same in
          let at : k % c.cqs ≡ queue - 1 = omega (arith, rest, u.2) in
          absurd (true≢false (sym (eq-eqb (k % c.cqs) (queue - 1) at) ∙ other))
    ]

pub each_all : (c : ConfigNumbers) (queue : ℕ) (xs : List ℕ) (m : ℕ) → c.pairs < m → HasEachBelow c queue m xs
    → HasEach c queue xs
each_all c queue xs m all each n e = let u = its_use c queue n e in each n e (omega (arith, u.1, all))
