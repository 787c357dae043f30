-- How the bytes of a completion differ from those that are due (Base 2.0, Completion Queue Entry).
use Rattle.std.specs.Prelude.{Bool, List, None, Option, Some, [], bytes_eq, get_or, if◌then◌else◌, not, suc, ℕ, ◌%◌}
use Rattle.std.specs.Prelude.{◌*◌, ◌+◌, ◌/◌, ◌==◌, ◌∷◌}
use Rattle.broken_rules.specs.declared.unlike.Unlike.{Unlike}

-- the number that the two bytes from this place on spell
abbrev pub two_at : ℕ → List ℕ → ℕ
two_at place bytes = get_or bytes place 0 + 256 * get_or bytes (place + 1) 0

-- how many bytes both begin with
abbrev pub first_apart : List ℕ → List ℕ → ℕ
first_apart [] ys = 0
first_apart (x ∷ xs) [] = 0
first_apart (x ∷ xs) (y ∷ ys) = if x == y then suc (first_apart xs ys) else 0

-- the status, as its code and 256 times its type, and the phase tag, of the last two bytes
abbrev pub status_bits : ℕ → ℕ
status_bits word = (word / 2) % 2048

-- the phase tag of a completion's last two bytes
abbrev pub phase_of : ℕ → ℕ
phase_of word = word % 2

-- the first byte that differs
abbrev pub bytes_apart : List ℕ → List ℕ → Option Unlike
bytes_apart found due =
    let place = first_apart found due in
    if bytes_eq found due then None else Some (Unlike.Byte place (get_or found place 0) (get_or due place 0))

-- one of two rows
abbrev pub row_or : Bool → Unlike → Option Unlike → Option Unlike
row_or holds fault more = if holds then Some fault else more

-- The first of these that differs: the numbers of the queue and of the command, the status, the head, the phase tag,
-- and any byte.
abbrev pub cqe_unlike : List ℕ → List ℕ → Option Unlike
cqe_unlike found due =
    row_or (not (two_at 10 found == two_at 10 due)) (Unlike.Sqid (two_at 10 found) (two_at 10 due))
    (row_or (not (two_at 12 found == two_at 12 due)) (Unlike.Cid (two_at 12 found) (two_at 12 due))
    (row_or (not (status_bits (two_at 14 found) == status_bits (two_at 14 due)))
    (Unlike.Status (status_bits (two_at 14 found)) (status_bits (two_at 14 due)))
    (row_or (not (two_at 8 found == two_at 8 due)) (Unlike.Sqhd (two_at 8 found) (two_at 8 due))
    (row_or (not (phase_of (two_at 14 found) == phase_of (two_at 14 due)))
    (Unlike.Phase (phase_of (two_at 14 found)) (phase_of (two_at 14 due)))
    (bytes_apart found due)))))
