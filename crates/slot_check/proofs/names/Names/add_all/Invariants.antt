use Rattle.std.proofs.Common.{◌≡◌, ◌≤◌, Bool, List, drop, length, true, ◌++◌, ℕ}
use Rattle.std.specs.HashMap.{spare}
use Rattle.std.specs.HashSet as set
use Rattle.nvme_model.specs.Slots.{Swap}
use Rattle.slot_check.specs.Batch.{fresh_in}
use Rattle.slot_check.specs.Names.{AreUnwon, KnowsNames, names_in}
use Rattle.slot_check.proofs.names.Names.add_all.Given as goal

abbrev pub invariant-loop-left : goal.invariant-loop-left
invariant-loop-left l =
    record {
      within : l.left ≤ length l.swaps;
      claims : l.left ≤ spare l.self.claims;
      won : l.left ≤ spare l.self.won;
      released : l.left ≤ set.spare l.self.released;
      knows : (r : ℕ → ℕ → Bool) (of : List Swap) → KnowsNames r of (names_in l.fn.self)
          → fresh_in (names_in l.fn.self) l.swaps ≡ true → AreUnwon r l.swaps
          → KnowsNames r (drop l.left l.swaps ++ of) (names_in l.self);
    }

abbrev pub decreases-loop-left : goal.decreases-loop-left
decreases-loop-left l = l.left
