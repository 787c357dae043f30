-- Single lines that are left out, on the way to the smallest.
use Rattle.std.specs.Prelude.{ℕ, Bool, List, remove, length, Result, Ok, Err, ◌≡◌, ◌+◌}
use Rattle.shrink.specs.Shrinking.{AreNeeded, IsSmallest, Stopped}
use Rattle.shrink.specs.declared.question.Unanswered.{Unanswered}

-- by whether the line at a place was left out: the others are the lines, or it is needed too
abbrev pub LeavesOut : {Q : Type 0} → (Q → List (List ℕ) → Bool → Q → Type 0) →
    (Q → List (List ℕ) → Unanswered → Q → Type 0) → (first after : Q) → (whole old new : List (List ℕ)) →
    (n from k : ℕ) → Result Bool Unanswered → Type 0
LeavesOut asks stops first after whole old new n from k (Ok Bool.true) =
    (new ≡ remove old k) × AreNeeded asks first after whole new (n + 1) k k
LeavesOut asks stops first after whole old new n from k (Ok Bool.false) =
    (new ≡ old) × AreNeeded asks first after whole new (n + 1) from (k + 1)
LeavesOut asks stops first after whole old new n from k (Err why) = Stopped asks stops first after whole new (n + 1) why

-- all lines from a place on are needed, or there was no answer
abbrev pub Scans : {Q : Type 0} → (Q → List (List ℕ) → Bool → Q → Type 0) →
    (Q → List (List ℕ) → Unanswered → Q → Type 0) → (first after : Q) → (whole lines : List (List ℕ)) → ℕ →
    Result ℕ Unanswered → Type 0
Scans asks stops first after whole lines count (Ok from) =
    AreNeeded asks first after whole lines count from (length lines)
Scans asks stops first after whole lines count (Err why) = Stopped asks stops first after whole lines count why

-- all lines are needed, or there was no answer
abbrev pub Ends : {Q : Type 0} → (Q → List (List ℕ) → Bool → Q → Type 0) →
    (Q → List (List ℕ) → Unanswered → Q → Type 0) → (first after : Q) → (whole lines : List (List ℕ)) → ℕ →
    Result (Unit {0}) Unanswered → Type 0
Ends asks stops first after whole lines count (Ok done) = IsSmallest asks first after whole lines count
Ends asks stops first after whole lines count (Err why) = Stopped asks stops first after whole lines count why
