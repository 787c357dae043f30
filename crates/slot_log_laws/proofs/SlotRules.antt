-- A log goes on keeping the rules of slots.
use Rattle.std.proofs.Common.{Bool, List, [], ap, arith, cond, eq-eqb, false, inl, inr, length, lt-ltb, ltb-true}
use Rattle.std.proofs.Common.{nat_lt, not, refl, true, ℕ, ◌+◌, ◌<◌, ◌||◌, ◌∙◌, ◌∷◌, ◌≡◌, ◌≤◌}
use Rattle.std.specs.List.{list_all, list_any}
use Rattle.std.proofs.lemmas.Bool.{and_from, and_parts, not-true, or_cases, or_left, or_right}
use Rattle.std.proofs.lemmas.List.Folds.{list_all-append}
use Rattle.nvme_model.specs.Array.{has_block}
use Rattle.nvme_model.specs.Slots.{Name, Swap, in_area, swaps_in, touches}
use Rattle.nvme_model.specs.declared.array.Range.{Range}
use Rattle.nvme_model.specs.declared.submission.Submission.{Submission}
use Rattle.nvme_model.proofs.Cut.{clash}
use Rattle.host_laws.proofs.Claims.{all_from, all_in}
use Rattle.host_laws.proofs.Publishing.{claim_at, filter_append, no_swaps, release_at}
use Rattle.driver_calls.specs.Log.{sent}
use Rattle.driver_calls.specs.declared.event.PortEvent.{PortEvent}
use Rattle.slot_log_laws.specs.Calls.{IsClaimBatch, IsName, IsReleaseBatch}
use Rattle.slot_log_laws.specs.SlotRules.{each_keeps_slot_rules, keeps_slot_rules, swap_keeps_slot_rules, serials_below}
use Rattle.slot_log_laws.specs.Swaps.{log_believed, log_swaps}
use Rattle.slot_log_laws.proofs.Batches.{claim_batch, pair_of, release_batch}

-- ---- serials

-- a swap is no claim, or has a serial below this one
abbrev pub is_below : ℕ → Swap → Bool
is_below serial s = not s.claims || nat_lt s.name.serial serial

pub below_parts : (serial : ℕ) (s : Swap) → is_below serial s ≡ true → s.claims ≡ true → s.name.serial < serial
below_parts serial s h a = elim (or_cases (not s.claims) (nat_lt s.name.serial serial) h) [
  | inl n ↦ clash s.claims a (not-true s.claims n)
  | inr e ↦ ltb-true s.name.serial serial e
]

pub below_up : (low high : ℕ) (s : Swap) → low ≤ high → is_below low s ≡ true → is_below high s ≡ true
below_up low high s l h = elim (or_cases (not s.claims) (nat_lt s.name.serial low) h) [
  | inl n ↦ or_left (not s.claims) (nat_lt s.name.serial high) n
  | inr e ↦ let low_is = ltb-true s.name.serial low e in
      or_right (not s.claims) (nat_lt s.name.serial high) (lt-ltb s.name.serial high (omega (arith, low_is, l)))
]

pub serials_up : (slots : Range) (low high : ℕ) (log : List PortEvent) → low ≤ high → serials_below slots low log ≡ true
    → serials_below slots high log ≡ true
serials_up slots low high log l h =
    all_from (is_below high) (in_area slots (log_swaps log))
    (λ s i. below_up low high s l (all_in (is_below low) (in_area slots (log_swaps log)) s h i))

-- a batch with such swaps
pub serials_more : (slots : Range) (serial : ℕ) (log : List PortEvent) (q : ℕ) (batch : List Submission)
    → list_all (is_below serial) (in_area slots (swaps_in q (length (sent log q)) batch)) ≡ true
    → serials_below slots serial log ≡ true → serials_below slots serial (PortEvent.Sent q batch ∷ log) ≡ true
serials_more slots serial log q batch h k =
    let of = swaps_in q (length (sent log q)) batch in
    ap (list_all (is_below serial)) (filter_append (λ s. has_block slots s.lba) of (log_swaps log))
    ∙ (list_all-append (is_below serial) (in_area slots of) (in_area slots (log_swaps log)) ∙ and_from _ _ h k)

-- one swap alone
one_below : (slots : Range) (serial : ℕ) (s : Swap) (of : List Swap) → of ≡ s ∷ [] → is_below serial s ≡ true
    → list_all (is_below serial) (in_area slots of) ≡ true
one_below slots serial s of e d = ap (λ (xs : List Swap). list_all (is_below serial) (in_area slots xs)) e
    ∙ go (has_block slots s.lba)
  where
    go : (b : Bool) → list_all (is_below serial) (cond b (s ∷ []) []) ≡ true
    go true = and_from _ _ d refl
    go false = refl

-- ---- the parts of a log that keeps the rules

pub record SlotRules (slots : Range) (host last : ℕ) (log : List PortEvent) : Type 0 where
  pub each : each_keeps_slot_rules slots host log ≡ true
  pub below : serials_below slots (last + 1) log ≡ true

pub slot_rules_parts : (slots : Range) (host last : ℕ) (log : List PortEvent)
    → keeps_slot_rules slots host last log ≡ true
    → SlotRules slots host last log
slot_rules_parts slots host last log h = let a =
    and_parts (each_keeps_slot_rules slots host log) (serials_below slots (last + 1) log) h in
    record { each = a.0; below = a.1 }

-- ---- what keeps it so

pub slot_rules_drawn : (slots : Range) (host last next : ℕ) (log : List PortEvent) → last ≤ next
    → keeps_slot_rules slots host last log ≡ true → keeps_slot_rules slots host next log ≡ true
slot_rules_drawn slots host last next log l h =
    let a = slot_rules_parts slots host last log h in
    and_from _ _ a.each (serials_up slots (last + 1) (next + 1) log (omega (arith, l)) a.below)

pub slot_rules_outside : (slots : Range) (host last : ℕ) (log : List PortEvent) (q : ℕ) (batch : List Submission)
    → list_any (touches slots) batch ≡ false → keeps_slot_rules slots host last log ≡ true
    → keeps_slot_rules slots host last (PortEvent.Sent q batch ∷ log) ≡ true
slot_rules_outside slots host last log q batch t h =
    let a = slot_rules_parts slots host last log h in
    and_from _ _ (and_from _ _ a.each (or_left _ _ (ap not t)))
    (serials_more slots (last + 1) log q batch
    (ap (list_all (is_below (last + 1))) (no_swaps slots q (length (sent log q)) batch t)) a.below)

-- a pair with one swap that keeps the rules
slot_rules_pair : (slots : Range) (host last : ℕ) (log : List PortEvent) (q : ℕ) (batch : List Submission) (s : Swap)
    → length batch ≡ 2 → swaps_in q (length (sent log q)) batch ≡ s ∷ []
    → swap_keeps_slot_rules slots host log (s ∷ []) ≡ true
    → is_below (last + 1) s ≡ true → each_keeps_slot_rules slots host log ≡ true
    → serials_below slots (last + 1) log ≡ true
    → keeps_slot_rules slots host last (PortEvent.Sent q batch ∷ log) ≡ true
slot_rules_pair slots host last log q batch s two e k d each below =
    let swap : swap_keeps_slot_rules slots host log (swaps_in q (length (sent log q)) batch) ≡ true =
    ap (swap_keeps_slot_rules slots host log) e ∙ k in
    and_from _ _ (and_from _ _ each
    (or_right (not (list_any (touches slots) batch)) _ (and_from _ _ (eq-eqb (length batch) 2 two) swap)))
    (serials_more slots (last + 1) log q batch
    (one_below slots (last + 1) s (swaps_in q (length (sent log q)) batch) e d) below)

pub slot_rules_claim : (slots : Range) (last : ℕ) (log : List PortEvent) (q l first second : ℕ) (n : Name)
    (batch : List Submission) → IsName n → IsClaimBatch l first second n batch → has_block slots l ≡ true
    → last < n.serial
    → keeps_slot_rules slots n.host last log ≡ true
    → keeps_slot_rules slots n.host n.serial (PortEvent.Sent q batch ∷ log) ≡ true
slot_rules_claim slots last log q l first second n batch x b v m h =
    let a = slot_rules_parts slots n.host last log h in
    slot_rules_pair slots n.host n.serial log q batch (claim_at q (length (sent log q)) l n)
    (ap length (pair_of l first second _ _ batch b).are)
    (claim_batch q (length (sent log q)) l first second n batch x b)
    (and_from _ _ v (and_from _ _ (eq-eqb n.host n.host refl)
    (serials_up slots (last + 1) n.serial log (omega (arith, m)) a.below)))
    (lt-ltb n.serial (n.serial + 1) (omega arith)) a.each
    (serials_up slots (last + 1) (n.serial + 1) log (omega (arith, m)) a.below)

pub slot_rules_release : (slots : Range) (host last : ℕ) (log : List PortEvent) (q l first second : ℕ) (n : Name)
    (batch : List Submission) → IsName n → IsReleaseBatch l first second n batch → has_block slots l ≡ true
    → log_believed log l n ≡ true → keeps_slot_rules slots host last log ≡ true
    → keeps_slot_rules slots host last (PortEvent.Sent q batch ∷ log) ≡ true
slot_rules_release slots host last log q l first second n batch x b v k h =
    let a = slot_rules_parts slots host last log h in
    slot_rules_pair slots host last log q batch (release_at q (length (sent log q)) l n)
    (ap length (pair_of l first second _ _ batch b).are)
    (release_batch q (length (sent log q)) l first second n batch x b)
    (and_from _ _ v k) refl a.each a.below
