-- Numbers as bytes, the least first, and back.
use Rattle.std.proofs.Common.{List, [], arith, length, refl, slice_index, sym, take, drop, zero, suc, ap, ℕ, ◌%◌, ◌*◌}
use Rattle.std.proofs.Common.{◌++◌, ◌+◌, ◌-◌, ◌/◌, ◌<◌, ◌≡◌, ◌≤◌, ◌∙◌, ◌∷◌, ◌^◌}
use Rattle.std.proofs.Math.Nat.{div-div-eq-div-mul, mul_comm, pow-suc}
use Rattle.std.proofs.lemmas.List.{append-nil, drop-drop, get_or_default, length-drop, length-take-le, take-append-drop}
use Rattle.std.proofs.lemmas.List.Elements.{All-drop, All-take}
use Rattle.std.specs.Int.{byte_at, bytes_low_first}
use Rattle.byteorder.specs.Endian.{little_bytes, little_from}
use Rattle.byteorder.specs.Numbers.{length-bytes_low_first, little_from-cons, little_number-reads_back}
use Rattle.nvme_model.specs.EntryBytes.{field, little_endian}
use Rattle.entry_codec.specs.Bytes.{IsBytes}

-- numbers that are bytes by their places
pub IsBytes-places : (xs : List ℕ) → ((i : ℕ) → slice_index xs i < 256) → IsBytes xs
IsBytes-places xs each k d within = rw (get_or_default xs k d 0 within) (each k)

-- a number read place by place is the number that the bytes spell
pub little_from-is : (n : ℕ) (xs : List ℕ) → length xs ≡ n → little_from 0 n xs ≡ little_endian xs
little_from-is zero [] h = refl
little_from-is (suc n) (x ∷ xs) h =
    ap (λ r. x + 256 * r) (little_from-cons 0 n x xs ∙ little_from-is n xs (omega arith))
little_from-is zero (x ∷ xs) h = absurd (omega arith)
little_from-is (suc n) [] h = absurd (omega arith)

-- the bytes of a number spell it
pub little_endian-bytes : (n x : ℕ) → x < 256 ^ n → little_endian (little_bytes n x) ≡ x
little_endian-bytes n x h =
    sym (little_from-is n (little_bytes n x) (length-bytes_low_first 0 n x))
    ∙ ap (little_from 0 n) (sym (append-nil (little_bytes n x)))
    ∙ little_number-reads_back n x [] h

-- a byte above the least is one of the number without the least
byte_at-suc : (j x : ℕ) → byte_at (suc j) x ≡ byte_at j (x / 256)
byte_at-suc zero x = refl
byte_at-suc (suc j) x =
    ap (λ p. x / p % 256) (pow-suc 256 (suc j) ∙ mul_comm (256 ^ suc j) 256)
    ∙ ap (λ q. q % 256) (sym (div-div-eq-div-mul x 256 (256 ^ suc j)))

-- the bytes above the least are those of the number without it
bytes_low_first-suc : (j k x : ℕ) → bytes_low_first (suc j) k x ≡ bytes_low_first j k (x / 256)
bytes_low_first-suc j zero x = refl
bytes_low_first-suc j (suc k) x = rw (byte_at-suc j x, bytes_low_first-suc (suc j) k x) refl

-- the number that bytes spell has those bytes
pub little_bytes-little_endian : (n : ℕ) (xs : List ℕ) → length xs ≡ n → IsBytes xs
    → little_bytes n (little_endian xs) ≡ xs
little_bytes-little_endian zero [] h bytes = refl
little_bytes-little_endian (suc n) (x ∷ xs) h bytes =
    let below : x < 256 = bytes 0 0 (omega arith) in
    let rest : little_bytes n (little_endian xs) ≡ xs =
    little_bytes-little_endian n xs (omega arith) (λ k d l. bytes (suc k) d (omega arith)) in
    let first : (x + 256 * little_endian xs) % 256 ≡ x = omega arith in
    let above : (x + 256 * little_endian xs) / 256 ≡ little_endian xs = omega arith in
    rw (bytes_low_first-suc 0 n (x + 256 * little_endian xs), first, above, rest) refl
little_bytes-little_endian zero (x ∷ xs) h bytes = absurd (omega arith)
little_bytes-little_endian (suc n) [] h bytes = absurd (omega arith)

-- a field has the bytes at its place
pub little_bytes-field : (i n : ℕ) (bytes : List ℕ) → i + n ≤ length bytes → IsBytes bytes
    → little_bytes n (field i n bytes) ≡ take n (drop i bytes)
little_bytes-field i n bytes room each =
    let span : i + n - i ≡ n = omega arith in
    rw span
    (little_bytes-little_endian n (take n (drop i bytes))
    (length-take-le n (drop i bytes) (omega (arith, length-drop i bytes)))
    (All-take (λ b. b < 256) n (drop i bytes) (All-drop (λ b. b < 256) i bytes each)))

-- a field's bytes and what follows them
pub little_bytes-field-append : (i n : ℕ) (bytes rest : List ℕ) → i + n ≤ length bytes → IsBytes bytes
    → rest ≡ drop (i + n) bytes → little_bytes n (field i n bytes) ++ rest ≡ drop i bytes
little_bytes-field-append i n bytes rest room each follows =
    rw (little_bytes-field i n bytes room each, follows, ← drop-drop n i bytes) (take-append-drop n (drop i bytes))
