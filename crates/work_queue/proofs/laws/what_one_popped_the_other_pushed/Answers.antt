use Rattle.std.proofs.Common.{List, [], arith, sym, ℕ, ◌+◌, ◌++◌, ◌<◌, ◌∙◌, ◌≡◌, ◌≢◌, ◌≤◌, ◌∷◌}
use mathlib.Core.Logic.{dite}
use native.Mathlib.Decide.{ℕ_discrete}
use Rattle.work_queue.specs.QueuePasses.{pusher_number}
use Rattle.work_queue.specs.QueueSteps.{IsNth}
use Rattle.work_queue.proofs.laws.what_one_popped_the_other_pushed.Goals as goal

-- nothing stands in an empty list
none_there : {A : Type 0} (xs : List A) (n : ℕ) (x : A) → IsNth xs n x → xs ≢ []
none_there {A} xs n x (front, rest, is, long) none = empty front (sym none ∙ is)
  where
    empty : (front : List A) → [] ≡ front ++ x ∷ rest → ⊥
    empty [] e = cc
    empty (y ∷ front) e = cc

-- the other one of two
the_other : (e p q n : ℕ) → 0 < e → e ≤ n → n ≡ 2 → p + q ≡ 3 → 0 < p → 0 < q → e ≢ p → e ≡ q
the_other e p q n some most two sum one other ne = dite (ℕ_discrete e q) (λ is. is) (λ not. absurd (omega arith))

pub returns : goal.returns
returns g c = λ matched two none k e a.
    let m = matched k e a in
    let pusher = c.args.pusher.now in
    let popper = c.args.popper.now in
    dite (ℕ_discrete e.pusher (pusher_number pusher)) m.1
    (λ ne. absurd (none_there _ _ _
    (m.2 (the_other e.pusher (pusher_number pusher) (pusher_number popper) _ m.0.0 m.0.1 two.0 two.1 pusher.numbered
    popper.numbered ne)) none))
