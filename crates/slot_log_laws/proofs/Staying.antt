-- What a log believes, and what it has released, over one event more.
use Rattle.std.proofs.Common.{Bool, List, ap, eqb, eqb-true, false, length, not, refl, subst, suc, true, ℕ, ◌&&◌, ◌||◌}
use Rattle.std.proofs.Common.{◌∙◌, ◌∷◌, ◌≡◌}
use Rattle.std.specs.List.{list_any}
use Rattle.std.proofs.lemmas.Bool.{and_parts, not-true, or_right}
use Rattle.std.proofs.lemmas.List.Folds.{list_any-append}
use Rattle.nvme_model.specs.Array.{has_block}
use Rattle.nvme_model.specs.Slots.{Name, Swap, releases, same_name, swaps_in, touches}
use Rattle.nvme_model.specs.declared.array.Range.{Range}
use Rattle.nvme_model.specs.declared.submission.Submission.{Submission}
use Rattle.host_laws.proofs.Claims.{none_any}
use Rattle.host_laws.proofs.Elements.{In, in_filter, in_right}
use Rattle.host_laws.proofs.Names.{name_eq}
use Rattle.host_laws.proofs.Publishing.{no_swaps}
use Rattle.driver_calls.specs.Log.{sent}
use Rattle.driver_calls.specs.declared.event.PortEvent.{PortEvent}
use Rattle.slot_log_laws.specs.Calls.{IsClaimBatch, IsName, IsReleaseBatch}
use Rattle.slot_log_laws.specs.Swaps.{log_believed, log_released, log_success, log_swaps}
use Rattle.slot_log_laws.proofs.Batches.{claim_batch, release_batch}
use Rattle.slot_log_laws.proofs.Beliefs.{believed_from, believed_parts}

-- ---- what is released

-- a batch without a release of the name there
released_more : (log : List PortEvent) (q : ℕ) (batch : List Submission) (l : ℕ) (n : Name)
    → list_any (λ s. releases s l n) (swaps_in q (length (sent log q)) batch) ≡ false
    → log_released (PortEvent.Sent q batch ∷ log) l n ≡ log_released log l n
released_more log q batch l n h =
    list_any-append (λ s. releases s l n) (swaps_in q (length (sent log q)) batch) (log_swaps log)
    ∙ ap (λ (b : Bool). b || log_released log l n) h

-- what a release has
pub record Releases (s : Swap) (l : ℕ) (n : Name) : Type 0 where
  pub releases : s.claims ≡ false
  pub lba : s.lba ≡ l
  pub name : s.name ≡ n

pub releases_parts : (s : Swap) (l : ℕ) (n : Name) → releases s l n ≡ true → Releases s l n
releases_parts s l n h =
    let a = and_parts (not s.claims && eqb s.lba l) (same_name s.name n) h in
    let b = and_parts (not s.claims) (eqb s.lba l) a.0 in
    record { releases = not-true s.claims b.0; lba = eqb-true s.lba l b.1; name = name_eq s.name n a.1 }

pub released_outside : (slots : Range) (log : List PortEvent) (q : ℕ) (batch : List Submission) (l : ℕ) (n : Name)
    → list_any (touches slots) batch ≡ false → has_block slots l ≡ true
    → log_released (PortEvent.Sent q batch ∷ log) l n ≡ log_released log l n
released_outside slots log q batch l n t v =
    let of = swaps_in q (length (sent log q)) batch in
    released_more log q batch l n (none_any (λ s. releases s l n) of (λ s i e.
    let there = in_filter (λ w. has_block slots w.lba) of s i (ap (has_block slots) (releases_parts s l n e).lba ∙ v) in
    subst (λ (xs : List Swap). In s xs) (no_swaps slots q (length (sent log q)) batch t) there))

pub released_claim : (log : List PortEvent) (q k first second : ℕ) (m : Name) (batch : List Submission) (l : ℕ)
    (n : Name) → IsName m → IsClaimBatch k first second m batch
    → log_released (PortEvent.Sent q batch ∷ log) l n ≡ log_released log l n
released_claim log q k first second m batch l n x b =
    released_more log q batch l n
    (ap (list_any (λ s. releases s l n)) (claim_batch q (length (sent log q)) k first second m batch x b))

other_release : (a b : Bool) → (a && b) ≡ false → ((a && b) || false) ≡ false
other_release true b h = go b h
  where
    go : (b : Bool) → b ≡ false → (b || false) ≡ false
    go true e = e
    go false e = refl
other_release false b h = refl

pub released_other : (log : List PortEvent) (q k first second : ℕ) (m : Name) (batch : List Submission) (l : ℕ)
    (n : Name) → IsName m → IsReleaseBatch k first second m batch → (eqb k l && same_name m n) ≡ false
    → log_released (PortEvent.Sent q batch ∷ log) l n ≡ log_released log l n
released_other log q k first second m batch l n x b o =
    released_more log q batch l n
    (ap (list_any (λ s. releases s l n)) (release_batch q (length (sent log q)) k first second m batch x b)
    ∙ other_release (eqb k l) (same_name m n) o)

-- ---- what is believed

-- success stays
pub success_got : (log : List PortEvent) (cqe payload : List ℕ) (q j : ℕ) → log_success log q j ≡ true
    → log_success (PortEvent.Got cqe payload ∷ log) q j ≡ true
success_got log cqe payload q j h = or_right _ (log_success log q j) h

pub believed_got : (log : List PortEvent) (cqe payload : List ℕ) (l : ℕ) (n : Name) → log_believed log l n ≡ true
    → log_believed (PortEvent.Got cqe payload ∷ log) l n ≡ true
believed_got log cqe payload l n h =
    let b = believed_parts log l n h in
    believed_from (PortEvent.Got cqe payload ∷ log) l n
    (record {
      swap = b.swap;
      there = b.there;
      claims = b.claims;
      lba = b.lba;
      name = b.name;
      success = success_got log cqe payload b.swap.queue (suc b.swap.number) b.success;
      unreleased = b.unreleased;
    })

-- a batch that releases nothing more
pub believed_sent : (log : List PortEvent) (q : ℕ) (batch : List Submission) (l : ℕ) (n : Name)
    → log_released (PortEvent.Sent q batch ∷ log) l n ≡ log_released log l n → log_believed log l n ≡ true
    → log_believed (PortEvent.Sent q batch ∷ log) l n ≡ true
believed_sent log q batch l n e h =
    let b = believed_parts log l n h in
    believed_from (PortEvent.Sent q batch ∷ log) l n
    (record {
      swap = b.swap;
      there = in_right b.swap (swaps_in q (length (sent log q)) batch) (log_swaps log) b.there;
      claims = b.claims;
      lba = b.lba;
      name = b.name;
      success = b.success;
      unreleased = e ∙ b.unreleased;
    })

pub believed_outside : (slots : Range) (log : List PortEvent) (q : ℕ) (batch : List Submission) (l : ℕ) (n : Name)
    → list_any (touches slots) batch ≡ false → has_block slots l ≡ true → log_believed log l n ≡ true
    → log_believed (PortEvent.Sent q batch ∷ log) l n ≡ true
believed_outside slots log q batch l n t v = believed_sent log q batch l n (released_outside slots log q batch l n t v)

pub believed_claim : (log : List PortEvent) (q k first second : ℕ) (m : Name) (batch : List Submission) (l : ℕ)
    (n : Name) → IsName m → IsClaimBatch k first second m batch → log_believed log l n ≡ true
    → log_believed (PortEvent.Sent q batch ∷ log) l n ≡ true
believed_claim log q k first second m batch l n x b =
    believed_sent log q batch l n (released_claim log q k first second m batch l n x b)

pub believed_other : (log : List PortEvent) (q k first second : ℕ) (m : Name) (batch : List Submission) (l : ℕ)
    (n : Name) → IsName m → IsReleaseBatch k first second m batch → (eqb k l && same_name m n) ≡ false
    → log_believed log l n ≡ true → log_believed (PortEvent.Sent q batch ∷ log) l n ≡ true
believed_other log q k first second m batch l n x b o =
    believed_sent log q batch l n (released_other log q k first second m batch l n x b o)
