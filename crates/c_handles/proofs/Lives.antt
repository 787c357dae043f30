-- Whether a host that was made of a disk has ended.
use Rattle.std.proofs.Common.{Bool, List, false, get_or, is_some, length, refl, true, ℕ, ◌<◌, ◌≡◌}
use Rattle.std.proofs.lemmas.Option.{slice_get_read}
use Rattle.std.specs.Prelude.{None, Option, Some, slice_get}

-- nobody is kept at a place
pub nobody_at : {A : Type 0} (xs : List (Option A)) (i : ℕ) (x : Option A) {b : Bool} → i < length xs
    → x ≡ get_or xs i x → b ≡ is_some x → b ≡ false → slice_get xs i ≡ Some None
nobody_at xs i None l at h k = slice_get_read xs (length xs) i None refl l at
nobody_at xs i (Some x) l at h k = absurd (let f = h in let g = k in cc)

-- somebody is
pub somebody_at : {A : Type 0} (xs : List (Option A)) (i : ℕ) (x : Option A) {b : Bool} {o : Option ℕ} → i < length xs
    → x ≡ get_or xs i x → b ≡ is_some x → b ≡ true → o ≡ Some i
    → (place : ℕ) → (o ≡ Some place) × (slice_get xs place ≡ Some None) → ⊥
somebody_at xs i None l at h k e place lives = let f = h in let g = k in cc
somebody_at xs i (Some x) l at h k e place lives =
    let there : slice_get xs i ≡ Some (Some x) = slice_get_read xs (length xs) i (Some x) refl l at in
    let f = e in let g = lives.0 in let n = lives.1 in cc
