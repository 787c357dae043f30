-- The bytes of a number, the least first, as those of a name.
use Rattle.std.proofs.Common.{[], arith, refl, ℕ, ◌%◌, ◌++◌, ◌/◌, ◌^◌, ◌∷◌, ◌≡◌}
use Rattle.nvme_model.specs.Slots.{four_bytes}

pub host_bytes : (n : ℕ) → n % 256 ∷ n / 256 % 256 ∷ n / 65536 % 256 ∷ n / 16777216 % 256 ∷ [] ≡ four_bytes n
host_bytes n =
    let last : n / 16777216 % 256 ≡ n / 65536 / 256 % 256 = omega arith in
    rw last refl

pub serial_bytes : (n : ℕ)
    → n % 256 ∷ n / 256 % 256 ∷ n / 65536 % 256 ∷ n / 16777216 % 256 ∷ n / 4294967296 % 256 ∷ n / 1099511627776 % 256
    ∷ n / 281474976710656 % 256 ∷ n / 72057594037927936 % 256 ∷ []
    ≡ four_bytes n ++ four_bytes (n / 2 ^ 32)
serial_bytes n =
    let at3 : n / 16777216 % 256 ≡ n / 65536 / 256 % 256 = omega arith in
    let at5 : n / 1099511627776 % 256 ≡ n / 4294967296 / 256 % 256 = omega arith in
    let at6 : n / 281474976710656 % 256 ≡ n / 4294967296 / 65536 % 256 = omega arith in
    let at7 : n / 72057594037927936 % 256 ≡ n / 4294967296 / 65536 / 256 % 256 = omega arith in
    rw (at3, at5, at6, at7) refl
