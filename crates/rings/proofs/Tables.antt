-- Tables by place.
use Rattle.std.proofs.Common.{◌≡◌, ◌≢◌, ℕ, ◌<◌, List, length, get_or, set, replicate, sym, ap, ◌∙◌, inl, inr, arith}
use Rattle.std.proofs.lemmas.Bool.{cases_eq}
use Rattle.std.proofs.lemmas.List.{get_or-set_same, get_or-set_other, length-set, length-replicate, get_or-replicate}
use Rattle.rings.specs.Tables.{IsTable}

-- a table after one place has changed
pub IsTable-set : {X : Type 0} (f g : ℕ → X) (n i : ℕ) (xs : List X) (y : X) → IsTable f n xs → i < n → y ≡ g i
    → ((k : ℕ) → k ≢ i → g k ≡ f k) → IsTable g n (set xs i y)
IsTable-set f g n i xs y t lt e others =
    record {
      size = length-set xs i y ∙ t.size;
      at = λ k d below. elim (cases_eq k i) [
        | inl same ↦ let within : i < length xs = omega (arith, t.size, lt) in
            rw same (get_or-set_same xs i y d within ∙ e)
        | inr apart ↦ get_or-set_other xs i k y d apart ∙ t.at k d below ∙ sym (others k apart)
      ];
    }

-- the same table by another function
pub IsTable-same : {X : Type 0} (f g : ℕ → X) (n : ℕ) (xs : List X) → IsTable f n xs → ((k : ℕ) → g k ≡ f k)
    → IsTable g n xs
IsTable-same f g n xs t same = record { size = t.size; at = λ k d below. t.at k d below ∙ sym (same k) }

-- a table of one value
pub IsTable-replicate : {X : Type 0} (f : ℕ → X) (n : ℕ) (x : X) (xs : List X) → xs ≡ replicate n x
    → ((k : ℕ) → f k ≡ x) → IsTable f n xs
IsTable-replicate f n x xs is same =
    record {
      size = ap length is ∙ length-replicate n x;
      at = λ k d lt. ap (λ ys. get_or ys k d) is ∙ get_or-replicate n k x d lt ∙ sym (same k);
    }
