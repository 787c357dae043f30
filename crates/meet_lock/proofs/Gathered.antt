-- The passes that were joined to a seat, where the history or the numbers go on.
use Rattle.std.proofs.Common.{List, [], subst, ℕ, ◌∙◌, ◌≡◌, ◌≢◌, ◌≤◌, ◌⊎◌, ◌∷◌, ⊎_elim}
use Rattle.nvme_model.specs.Passes.{SharedPast, places}
use Rattle.nvme_model.specs.declared.config.ConfigNumbers.{ConfigNumbers}
use Rattle.meet_lock.specs.Lock.{AreGathered, ExtendsByPasses}
use Rattle.meet_lock.specs.SeatSteps.{AllBegin, HasNumber}
use Rattle.meet_lock.specs.declared.view.Gathered.{Gathered}
use Rattle.meet_lock.proofs.Beginnings.{begins-more}

-- the history grows by entries of a number that none of them has
pub gathered_grow : (c : ConfigNumbers) (passes top : ℕ) (seat_of : ℕ → ℕ) (log more : SharedPast) (j own by : ℕ)
    → ExtendsByPasses passes log more → ((n : ℕ) → n ≢ by → places n more ≡ places n log)
    → ((n : ℕ) → seat_of n ≡ j → n ≢ own → n ≢ by) → (gs : List Gathered)
    → AreGathered c passes top seat_of log j own gs → AreGathered c passes top seat_of more j own gs
gathered_grow c passes top seat_of log more j own by longer others differs [] all = tt
gathered_grow c passes top seat_of log more j own by longer others differs (g ∷ gs) all =
    let k = all.0 in (
      record {
        seat = k.seat;
        other = k.other;
        given = k.given;
        configured = k.configured;
        sees = begins-more passes g.seen log more k.sees longer;
        mine = others g.number (differs g.number k.seat k.other) ∙ k.mine;
      },
      gathered_grow c passes top seat_of log more j own by longer others differs gs all.1,
    )

-- more numbers are given out, or one comes to another seat
pub gathered_move : (c : ConfigNumbers) (passes top more : ℕ) (seat_of now : ℕ → ℕ) (log : SharedPast) (j own : ℕ)
    → ((n : ℕ) → (n ≤ top) ⊎ (n ≡ passes) → (n ≤ more) ⊎ (n ≡ passes))
    → ((n : ℕ) → seat_of n ≡ j → (n ≤ top) ⊎ (n ≡ passes) → now n ≡ j) → (gs : List Gathered)
    → AreGathered c passes top seat_of log j own gs → AreGathered c passes more now log j own gs
gathered_move c passes top more seat_of now log j own wider moved [] all = tt
gathered_move c passes top more seat_of now log j own wider moved (g ∷ gs) all =
    let k = all.0 in (
      record {
        seat = moved g.number k.seat k.given;
        other = k.other;
        given = wider g.number k.given;
        configured = k.configured;
        sees = k.sees;
        mine = k.mine;
      },
      gathered_move c passes top more seat_of now log j own wider moved gs all.1,
    )

-- what the one who holds the lock is told of them
pub gathered_begin : (c : ConfigNumbers) (passes top : ℕ) (seat_of : ℕ → ℕ) (log : SharedPast) (j own : ℕ)
    (gs : List Gathered) → AreGathered c passes top seat_of log j own gs → AllBegin c passes log gs
gathered_begin c passes top seat_of log j own [] all = tt
gathered_begin c passes top seat_of log j own (g ∷ gs) all =
    let k = all.0 in
    ((k.configured, k.sees, k.mine), gathered_begin c passes top seat_of log j own gs all.1)

-- their numbers are at their seat
pub gathered_seat : (c : ConfigNumbers) (passes top : ℕ) (seat_of : ℕ → ℕ) (log : SharedPast) (j own n : ℕ)
    (gs : List Gathered) → HasNumber n gs → AreGathered c passes top seat_of log j own gs → seat_of n ≡ j
gathered_seat c passes top seat_of log j own n [] has all = absurd has
gathered_seat c passes top seat_of log j own n (g ∷ gs) has all =
    ⊎_elim (λ (e : g.number ≡ n). subst (λ k. seat_of k ≡ j) e all.0.seat)
    (λ (h : HasNumber n gs). gathered_seat c passes top seat_of log j own n gs h all.1) has
