-- How much is asked about single lines.
use Rattle.std.proofs.Common.{ℕ, ◌+◌, ◌*◌, ◌<◌, ◌≤◌, arith}
use Rattle.std.proofs.Math.Nat.{mul-le-mul_left}

-- one round over m lines, and those over fewer
pub rounds : (m k : ℕ) → k < m → m + k * (k + 1) ≤ m * (m + 1)
rounds m k low =
    let le : k + 1 ≤ m = omega arith in
    let both : k * (k + 1) ≤ k * m = mul-le-mul_left k le in
    let few : (k + 1) * m ≤ m * m = omega (arith, mul-le-mul_left m le) in
    omega (arith, both, few)

-- over fewer lines no more is asked
pub fewer_rounds : (m k : ℕ) → k ≤ m → k * (k + 1) ≤ m * (m + 1)
fewer_rounds m k le =
    let one : k * (k + 1) ≤ k * (m + 1) = mul-le-mul_left k (omega arith) in
    let two : (m + 1) * k ≤ (m + 1) * m = mul-le-mul_left (m + 1) le in
    omega (arith, one, two)

-- one round is among them
pub one_round : (m : ℕ) → m ≤ m * (m + 1)
one_round m =
    let le : m * 1 ≤ m * (m + 1) = mul-le-mul_left m (omega arith) in
    omega (arith, le)
