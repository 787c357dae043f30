-- Which hosts were made of a disk: by completion queue, from 1, the number of the host that was made on it, or 0.
use Rattle.std.specs.Prelude.{Bool, List, get_or, not, ℕ, ◌-◌, ◌<◌, ◌==◌, ◌≡◌}
use Rattle.std.specs.List.{list_any}

-- no two completion queues have the same host
abbrev pub AreApart : List ℕ → Type 0
AreApart numbers = (i j : ℕ) → 0 < get_or numbers i 0 → get_or numbers i 0 ≡ get_or numbers j 0 → i ≡ j

-- a host of this number was made
abbrev pub has_number : List ℕ → ℕ → Bool
has_number numbers n = list_any (λ m. m == n) numbers

-- a host was made on this completion queue
abbrev pub has_host : List ℕ → ℕ → Bool
has_host numbers queue = not (get_or numbers (queue - 1) 0 == 0)
