-- What a log that keeps the rules of slots has claimed, and so what it may have released.
use Rattle.std.proofs.Common.{Bool, List, [], ap, arith, cond, eqb, eqb-true, false, inl, inr, length, not, refl, subst}
use Rattle.std.proofs.Common.{sym, true, ℕ, ◌&&◌, ◌+◌, ◌<◌, ◌∙◌, ◌∷◌, ◌≡◌, ◌⊎◌}
use Rattle.std.specs.List.{list_any}
use Rattle.std.proofs.lemmas.Bool.{and_parts, not-true, or_cases}
use Rattle.nvme_model.specs.Array.{has_block}
use Rattle.nvme_model.specs.Slots.{Name, Swap, in_area, releases, swaps_in, touches}
use Rattle.nvme_model.specs.declared.array.Range.{Range}
use Rattle.nvme_model.specs.declared.submission.Submission.{Submission}
use Rattle.nvme_model.proofs.Cut.{clash}
use Rattle.host_laws.proofs.Claims.{all_in, none_any}
use Rattle.host_laws.proofs.Elements.{In, in_cases, in_filter, in_right}
use Rattle.host_laws.proofs.Publishing.{no_swaps}
use Rattle.driver_calls.specs.Log.{sent}
use Rattle.driver_calls.specs.declared.event.PortEvent.{PortEvent}
use Rattle.slot_log_laws.specs.SlotRules.{each_keeps_slot_rules, keeps_slot_rules, batch_keeps_slot_rules}
use Rattle.slot_log_laws.specs.SlotRules.{swap_keeps_slot_rules, serials_below}
use Rattle.slot_log_laws.specs.Swaps.{log_believed, log_released, log_swaps}
use Rattle.slot_log_laws.proofs.SlotRules.{below_parts, slot_rules_parts, is_below}
use Rattle.slot_log_laws.proofs.Beliefs.{believed_parts}
use Rattle.slot_log_laws.proofs.Staying.{releases_parts}

-- ---- the parts of a batch that keeps the rules

-- the parts of a swap that keeps the rules
pub record SwapRules (slots : Range) (host : ℕ) (log : List PortEvent) (of : List Swap) : Type 0 where
  pub swap : Swap
  pub alone : of ≡ swap ∷ []
  pub inside : has_block slots swap.lba ≡ true
  pub claim : swap.claims ≡ true → (swap.name.host ≡ host) × (serials_below slots swap.name.serial log ≡ true)
  pub release : swap.claims ≡ false → log_believed log swap.lba swap.name ≡ true

pub slot_rules_swap : (slots : Range) (host : ℕ) (log : List PortEvent) (of : List Swap)
    → swap_keeps_slot_rules slots host log of ≡ true → SwapRules slots host log of
slot_rules_swap slots host log [] h = clash false h refl
slot_rules_swap slots host log (s ∷ t ∷ of) h = clash false h refl
slot_rules_swap slots host log (s ∷ []) h =
    let a = and_parts (has_block slots s.lba)
    (cond s.claims (eqb s.name.host host && serials_below slots s.name.serial log) (log_believed log s.lba s.name))
    h in
    record { swap = s; alone = refl; inside = a.0; claim = claims s.claims a.1; release = release s.claims a.1 }
  where
    claims : (b : Bool) → cond b (eqb s.name.host host && serials_below slots s.name.serial log)
        (log_believed log s.lba s.name) ≡ true → b ≡ true
        → (s.name.host ≡ host) × (serials_below slots s.name.serial log ≡ true)
    claims true k e = let p = and_parts (eqb s.name.host host) (serials_below slots s.name.serial log) k in
        (eqb-true s.name.host host p.0, p.1)
    claims false k e = clash false e refl

    release : (b : Bool) → cond b (eqb s.name.host host && serials_below slots s.name.serial log)
        (log_believed log s.lba s.name) ≡ true → b ≡ false → log_believed log s.lba s.name ≡ true
    release true k e = clash true refl e
    release false k e = k

-- what a batch that keeps the rules is
pub data BatchRules (slots : Range) (host : ℕ) (log : List PortEvent) (q : ℕ) (batch : List Submission) : Type 0 where
  outside : list_any (touches slots) batch ≡ false → BatchRules slots host log q batch
  pair : length batch ≡ 2 → SwapRules slots host log (swaps_in q (length (sent log q)) batch)
      → BatchRules slots host log q batch

pub slot_rules_batch : (slots : Range) (host : ℕ) (log : List PortEvent) (q : ℕ) (batch : List Submission)
    → batch_keeps_slot_rules slots host log q batch ≡ true → BatchRules slots host log q batch
slot_rules_batch slots host log q batch h =
    elim (or_cases (not (list_any (touches slots) batch))
    (eqb (length batch) 2 && swap_keeps_slot_rules slots host log (swaps_in q (length (sent log q)) batch)) h) [
      | inl n ↦ BatchRules.outside (not-true (list_any (touches slots) batch) n)
      | inr e ↦
          let a = and_parts (eqb (length batch) 2)
          (swap_keeps_slot_rules slots host log (swaps_in q (length (sent log q)) batch)) e in
          BatchRules.pair (eqb-true (length batch) 2 a.0)
          (slot_rules_swap slots host log (swaps_in q (length (sent log q)) batch) a.1)
    ]

-- ---- its claims

-- the claim of a name of a slot
pub record ClaimedIn (log : List PortEvent) (l : ℕ) (n : Name) : Type 0 where
  pub swap : Swap
  pub there : In swap (log_swaps log)
  pub claims : swap.claims ≡ true
  pub lba : swap.lba ≡ l
  pub name : swap.name ≡ n

-- it stands there for each release
pub claimed_before : (slots : Range) (host : ℕ) (log : List PortEvent) (r : Swap)
    → each_keeps_slot_rules slots host log ≡ true
    → In r (log_swaps log) → r.claims ≡ false → has_block slots r.lba ≡ true → ClaimedIn log r.lba r.name
claimed_before slots host [] r h i e v = absurd i
claimed_before slots host (PortEvent.Got cqe payload ∷ log) r h i e v = let k =
    claimed_before slots host log r h i e v in
    record { swap = k.swap; there = k.there; claims = k.claims; lba = k.lba; name = k.name }
claimed_before slots host (PortEvent.Sent q batch ∷ log) r h i e v =
    let a = and_parts (each_keeps_slot_rules slots host log) (batch_keeps_slot_rules slots host log q batch) h in
    go (slot_rules_batch slots host log q batch a.1)
    (in_cases r (swaps_in q (length (sent log q)) batch) (log_swaps log) i)
    (λ j. claimed_before slots host log r a.0 j e v)
  where
    later : ClaimedIn log r.lba r.name → ClaimedIn (PortEvent.Sent q batch ∷ log) r.lba r.name
    later k = record {
      swap = k.swap;
      there = in_right k.swap (swaps_in q (length (sent log q)) batch) (log_swaps log) k.there;
      claims = k.claims;
      lba = k.lba;
      name = k.name;
    }

    go : BatchRules slots host log q batch → In r (swaps_in q (length (sent log q)) batch) ⊎ In r (log_swaps log)
        → (In r (log_swaps log) → ClaimedIn log r.lba r.name) → ClaimedIn (PortEvent.Sent q batch ∷ log) r.lba r.name
    go b (inr j) ih = later (ih j)
    go (BatchRules.outside t) (inl j) ih =
        absurd (subst (λ (xs : List Swap). In r xs) (no_swaps slots q (length (sent log q)) batch t)
        (in_filter (λ w. has_block slots w.lba) (swaps_in q (length (sent log q)) batch) r j v))
    go (BatchRules.pair two s) (inl j) ih = one (subst (λ (xs : List Swap). In r xs) s.alone j)
      where
        one : In r (s.swap ∷ []) → ClaimedIn (PortEvent.Sent q batch ∷ log) r.lba r.name
        one (inl z) =
            let b = believed_parts log s.swap.lba s.swap.name (s.release (ap (λ (w : Swap). w.claims) (sym z) ∙ e)) in
            later (record {
              swap = b.swap;
              there = b.there;
              claims = b.claims;
              lba = b.lba ∙ ap (λ (w : Swap). w.lba) (sym z);
              name = b.name ∙ ap (λ (w : Swap). w.name) (sym z);
            })
        one (inr z) = absurd z

pub unreleased : (slots : Range) (host last : ℕ) (log : List PortEvent) (l : ℕ) (n : Name)
    → keeps_slot_rules slots host last log ≡ true → has_block slots l ≡ true → last < n.serial
    → log_released log l n ≡ false
unreleased slots host last log l n h v m =
    let a = slot_rules_parts slots host last log h in
    none_any (λ s. releases s l n) (log_swaps log) (λ r i e.
    let x = releases_parts r l n e in
    let k = claimed_before slots host log r a.each i x.releases (ap (has_block slots) x.lba ∙ v) in
    let there = in_filter (λ w. has_block slots w.lba) (log_swaps log) k.swap k.there
    (ap (has_block slots) (k.lba ∙ x.lba) ∙ v) in
    let low = below_parts (last + 1) k.swap
    (all_in (is_below (last + 1)) (in_area slots (log_swaps log)) k.swap a.below there) k.claims in
    omega (arith, low, m, ap (λ (w : Name). w.serial) (k.name ∙ x.name)))

-- a log that keeps the rules claims under its host's number alone
pub claimed_host : (slots : Range) (host : ℕ) (log : List PortEvent) (s : Swap)
    → each_keeps_slot_rules slots host log ≡ true
    → In s (log_swaps log) → s.claims ≡ true → has_block slots s.lba ≡ true → s.name.host ≡ host
claimed_host slots host [] s h i e v = absurd i
claimed_host slots host (PortEvent.Got cqe payload ∷ log) s h i e v = claimed_host slots host log s h i e v
claimed_host slots host (PortEvent.Sent q batch ∷ log) s h i e v =
    let a = and_parts (each_keeps_slot_rules slots host log) (batch_keeps_slot_rules slots host log q batch) h in
    go (slot_rules_batch slots host log q batch a.1)
    (in_cases s (swaps_in q (length (sent log q)) batch) (log_swaps log) i)
    (λ j. claimed_host slots host log s a.0 j e v)
  where
    go : BatchRules slots host log q batch → In s (swaps_in q (length (sent log q)) batch) ⊎ In s (log_swaps log)
        → (In s (log_swaps log) → s.name.host ≡ host) → s.name.host ≡ host
    go b (inr j) ih = ih j
    go (BatchRules.outside t) (inl j) ih =
        absurd (subst (λ (xs : List Swap). In s xs) (no_swaps slots q (length (sent log q)) batch t)
        (in_filter (λ w. has_block slots w.lba) (swaps_in q (length (sent log q)) batch) s j v))
    go (BatchRules.pair two k) (inl j) ih = one (subst (λ (xs : List Swap). In s xs) k.alone j)
      where
        one : In s (k.swap ∷ []) → s.name.host ≡ host
        one (inl z) = ap (λ (w : Swap). w.name.host) z ∙ (k.claim (ap (λ (w : Swap). w.claims) (sym z) ∙ e)).0
        one (inr z) = absurd z
