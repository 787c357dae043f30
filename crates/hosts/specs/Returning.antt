-- What comes back from threads.
use Rattle.std.specs.List.{AllZip}
use Rattle.std.specs.Prelude.{List, Ok, OnOk, Result, reverse, ◌++◌, ◌≡◌}

module _ {H Q E : Type 0} where
  -- by its promise a thread gave this back, and said Ok where all did
  abbrev pub GaveBack : (Q → H × Result (Unit {0}) E → Type 0) → Result (Unit {0}) E → Q → H → Type 0
  GaveBack kept ends promise back = (end : Result (Unit {0}) E) × kept promise (back, end) × OnOk ends (end ≡ Ok tt)

module _ {H Q : Type 0} where
  -- What became of these passes where threads were to be started with them, the last first: those behind `left` are
  -- what the promises say, by the newest first, and the others stand in their places.
  pub record AreParted (goes : H → H → Type 0) (is_for : H → Q → Type 0) (old new : List H)
      (promises : List Q) : Type 0 where
    pub left : List H
    pub begun : List H
    pub whole : old ≡ left ++ begun
    pub stayed : AllZip goes left new
    pub runs : AllZip is_for begun (reverse promises)
