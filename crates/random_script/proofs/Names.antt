-- The block of a small name.
use Rattle.std.proofs.Common.{[], List, ap, ap₂, arith, refl, replicate, ℕ, ◌%◌, ◌++◌, ◌/◌, ◌<◌, ◌^◌, ◌∙◌, ◌∷◌, ◌≡◌}
use Rattle.nvme_model.specs.Slots.{four_bytes, slot_block}

-- the bytes of a number of one byte
small_bytes : (n : ℕ) → n < 256 → n ∷ 0 ∷ 0 ∷ 0 ∷ [] ≡ four_bytes n
small_bytes n low =
    let a : n % 256 ≡ n = omega (arith, low) in
    let b : n / 256 % 256 ≡ 0 = omega (arith, low) in
    let c : n / 65536 % 256 ≡ 0 = omega (arith, low) in
    let d : n / 65536 / 256 % 256 ≡ 0 = omega (arith, low) in
    rw (a, b, c, d) refl

-- the block whose name has such numbers
pub small_block : (host serial : ℕ) → host < 256 → serial < 256
    → (host ∷ 0 ∷ 0 ∷ 0 ∷ []) ++ (replicate 4 0 ++ ((serial ∷ 0 ∷ 0 ∷ 0 ∷ []) ++ (replicate 4 0 ++ replicate 496 0)))
    ≡ slot_block (record { host = host; serial = serial })
small_block host serial h s =
    let high : 0 ≡ serial / 2 ^ 32 = omega (arith, s) in
    ap₂ (λ (x y : List ℕ). x ++ (replicate 4 0 ++ (y ++ (four_bytes 0 ++ replicate 496 0)))) (small_bytes host h)
    (small_bytes serial s)
    ∙ ap (λ (k : ℕ). four_bytes host ++ (replicate 4 0 ++ (four_bytes serial ++ (four_bytes k ++ replicate 496 0))))
    high
