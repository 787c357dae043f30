-- The CIDs in use on submission queues.
use Rattle.std.specs.List.{count_by, list_any}
use Rattle.std.specs.Prelude.{Bool, List, get_or, length, suc, ℕ, ◌<◌, ◌==◌, ◌≡◌}

-- CIDs in whatever order, each as often as it is in use, and how many may be there
pub record UsedCids : Type 0 where
  pub room : ℕ
  pub cids : List ℕ

-- the CID is in use
abbrev pub is_used : ℕ → List ℕ → Bool
is_used cid cids = list_any (λ one. one == cid) cids

-- these are the CIDs in use, in whatever order, each as often, and so many may be there
pub record AreUsed (most : ℕ) (ones : List ℕ) (u : UsedCids) : Type 0 where
  pub cids : (p : ℕ → Bool) → count_by p u.cids ≡ count_by p ones
  pub room : u.room ≡ most

-- so it is of each of so many submission queues
pub record AreInUse (count most : ℕ) (ones : ℕ → List ℕ) (us : List UsedCids) : Type 0 where
  pub size : length us ≡ count
  pub at : (k : ℕ) (d : UsedCids) → k < count → AreUsed most (ones (suc k)) (get_or us k d)
