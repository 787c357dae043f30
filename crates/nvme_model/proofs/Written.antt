-- One Block of a unit that writes, seen from one block of its range: what the volume holds there and what its value is.
use Rattle.std.proofs.Common.{◌≡◌, ℕ, suc, ◌+◌, ◌-◌, ◌*◌, ◌%◌, ◌≤◌, ◌<◌, Bool, true, false, ◌&&◌, cond, List, sym, ap}
use Rattle.std.proofs.Common.{◌∙◌, inl, inr, arith, eq-eqb, ne_eqb, eqb, nat_le, nat_lt, leb-true, leb-false, le-leb}
use Rattle.std.proofs.Common.{mod-eq_of_lt}
use Rattle.std.proofs.Math.Nat.{mod-eq-sub-mod}
use Rattle.std.proofs.lemmas.Bool.{and_from, and_left, and_right, cond-true, cond-false, cases_eq, lt-leb}
use Rattle.nvme_model.specs.Open.{is_written}
use Rattle.nvme_model.specs.declared.operation.Found.{Found}
use Rattle.nvme_model.proofs.Cut.{clash}

-- st: the effect came. w: how many blocks were written
pub record Writing (st : Bool) (w s l : ℕ) (medium value new : List ℕ) : Type 0 where
  pub not_yet : st ≡ false → medium ≡ value
  pub gives : st ≡ true → value ≡ new
  pub lies : st ≡ true → l < s + w → medium ≡ new

-- the volume after a `written` of block `lba`
abbrev pub medium_after : Found → ℕ → ℕ → List ℕ → List ℕ → List ℕ
medium_after f lba l new old = cond (is_written f && eqb lba l) new old

-- where the w-th block was written too
pub written_one : (f : Found) (lba l s w : ℕ) (new old : List ℕ) → is_written f ≡ true → lba ≡ s + w
    → (l < s + w → old ≡ new) → l < s + suc w → medium_after f lba l new old ≡ new
written_one f lba l s w new old e d h b =
    elim (cases_eq lba l) [
      | inl q ↦ cond-true _ _ _ (and_from _ _ e (eq-eqb lba l q))
      | inr q ↦ cond-false _ _ _ (and_right _ _ (ne_eqb lba l q)) ∙ h (omega (arith, d, b, q))
    ]

-- A Write, of which j of n Blocks were made.
pub write_step : (f : Found) (effect : Bool) (s n j l lba : ℕ) (medium value new : List ℕ) → is_written f ≡ true
    → effect ≡ eqb j 0 → lba ≡ s + j % n → j < n → s ≤ l
    → Writing (nat_lt 0 j) j s l medium value new
    → Writing (nat_lt 0 (suc j)) (suc j) s l (medium_after f lba l new medium) (cond effect new value) new
write_step f effect s n j l lba medium value new e m d k b h =
    record {
      not_yet = λ x. clash (nat_lt 0 (suc j)) (le-leb 1 (suc j) (omega arith)) x;
      gives = λ x. elim (cases_eq j 0) [
        | inl z ↦ cond-true effect new value (m ∙ eq-eqb j 0 z)
        | inr z ↦ cond-false effect new value (m ∙ ne_eqb j 0 z) ∙ h.gives (le-leb 1 j (omega arith))
      ];
      lies = λ x a. written_one f lba l s j new medium e (d ∙ ap (λ (i : ℕ). s + i) (mod-eq_of_lt k))
          (λ (q : l < s + j). h.lies (le-leb 1 j (omega (arith, q, b))) q) a;
    }

-- its last Block
pub write_end : (s n j l : ℕ) (medium value new : List ℕ) → n ≤ suc j → l < s + n
    → Writing (nat_lt 0 (suc j)) (suc j) s l medium value new → medium ≡ value
write_end s n j l medium value new k b h =
    let x : nat_lt 0 (suc j) ≡ true = le-leb 1 (suc j) (omega arith) in
    h.lies x (omega arith) ∙ sym (h.gives x)

-- A pair, of which j Blocks were made, each a compare: one more that says `equal`.
pub equal_step : (f : Found) (effect : Bool) (s n j l lba : ℕ) (medium value new : List ℕ) → is_written f ≡ false
    → effect ≡ eqb (suc j) n → j < n → s ≤ l
    → Writing (nat_le n j) (j - n) s l medium value new
    → Writing (nat_le n (suc j)) (suc j - n) s l (medium_after f lba l new medium) (cond effect new value) new
equal_step f effect s n j l lba medium value new e m k b h =
    let same : medium_after f lba l new medium ≡ medium = cond-false _ _ _ (and_left _ _ e) in
    record {
      not_yet = λ x. same ∙ (h.not_yet (lt-leb n j (omega arith))
          ∙ sym (cond-false effect new value
          (m ∙ ne_eqb (suc j) n (λ (q : suc j ≡ n). omega (arith, q, leb-false n (suc j) x)))));
      gives = λ x. cond-true effect new value (m ∙ eq-eqb (suc j) n (omega (arith, leb-true n (suc j) x)));
      lies = λ x a. absurd (omega arith);
    }

-- One more write of a pair.
pub pair_write_step : (f : Found) (effect : Bool) (s n j l lba : ℕ) (medium value new : List ℕ) → is_written f ≡ true
    → effect ≡ false → lba ≡ s + j % n → n ≤ j → j < 2 * n → s ≤ l
    → Writing (nat_le n j) (j - n) s l medium value new
    → Writing (nat_le n (suc j)) (suc j - n) s l (medium_after f lba l new medium) (cond effect new value) new
pair_write_step f effect s n j l lba medium value new e m d k t b h =
    let x : nat_le n j ≡ true = le-leb n j k in
    let here : j % n ≡ j - n = mod-eq-sub-mod k ∙ mod-eq_of_lt (omega arith) in
    record {
      not_yet = λ y. clash (nat_le n (suc j)) (le-leb n (suc j) (omega arith)) y;
      gives = λ y. cond-false effect new value m ∙ h.gives x;
      lies = λ y a. written_one f lba l s (j - n) new medium e (d ∙ ap (λ (i : ℕ). s + i) here) (h.lies x)
          (omega arith);
    }

pub pair_end : (s n j l : ℕ) (medium value new : List ℕ) → 2 * n ≤ suc j → 1 ≤ n → l < s + n
    → Writing (nat_le n (suc j)) (suc j - n) s l medium value new → medium ≡ value
pair_end s n j l medium value new k o b h =
    let x : nat_le n (suc j) ≡ true = le-leb n (suc j) (omega arith) in
    h.lies x (omega arith) ∙ sym (h.gives x)
