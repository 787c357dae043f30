-- What was asked so far, and one thing more.
use Rattle.std.proofs.Common.{◌≡◌, ℕ, suc, ◌+◌, ◌<◌, ◌≤◌, Bool, true, false, List, [], ◌∷◌, length, ◌⊎◌, inl}
use Rattle.std.proofs.Common.{inr}
use Rattle.std.proofs.Common.{refl, sym, subst, arith, Result, Ok, Err}
use Rattle.std.specs.Prelude.{Contains, remove}
use Rattle.shrink.specs.Asked.{AskedCandidate, AsksTo, WasPassing}
use Rattle.shrink.specs.Scanning.{Ends}
use Rattle.shrink.specs.Shrinking.{AreNeeded, StillFails, Stopped}
use Rattle.shrink.specs.Smaller.{HasSmallerPart}
use Rattle.shrink.specs.declared.question.Unanswered.{Unanswered}
use Rattle.shrink.specs.declared.question.Unanswered.TheVariants.{NoMemory}
use Rattle.shrink.proofs.Parts.{part_refl, part_trans, part_without}

-- what was asked before was asked
there : {X : Type 0} (xs : List X) (y x : X) → Contains xs x → Contains (y ∷ xs) x
there xs y x h = (suc h.0, omega (arith, h.1), h.2)

-- what was asked now was asked
here : {X : Type 0} (xs : List X) (x : X) → Contains (x ∷ xs) x
here xs x = (0, omega arith, refl)

-- all lines but one are a part
pub rest_part : (lines rest : List (List ℕ)) (k : ℕ) → rest ≡ remove lines k → HasSmallerPart lines rest
rest_part lines rest k same = subst (HasSmallerPart lines) (sym same) (part_without lines k)

module _ {Q : Type 0} (asks : Q → List (List ℕ) → Bool → Q → Type 0) (first mid after : Q)
    (whole lines candidate : List (List ℕ)) (n : ℕ) where
  -- a run is one answer longer
  longer : (past : List AskedCandidate) (b : Bool) → AsksTo asks first past mid → asks mid candidate b after
      → AsksTo asks first (record { lines = candidate; fails = b } ∷ past) after
  unfolding AsksTo
  longer past b run now = (mid, run, now)

  -- other lines passed
  pub passed : StillFails asks first mid whole lines n → asks mid candidate false after → HasSmallerPart lines candidate
      → StillFails asks first after whole lines (n + 1)
  passed s now part =
      record {
        asked = record { lines = candidate; fails = false } ∷ s.asked;
        run = longer s.asked false s.run now;
        parts = (part_trans whole lines candidate s.part part, s.parts);
        fails = there s.asked (record { lines = candidate; fails = false }) (record { lines = lines; fails = true })
            s.fails;
        part = s.part;
        few = omega (arith, s.few);
      }

  -- other lines failed
  pub failed : StillFails asks first mid whole lines n → asks mid candidate true after → HasSmallerPart lines candidate
      → StillFails asks first after whole candidate (n + 1)
  failed s now part =
      record {
        asked = record { lines = candidate; fails = true } ∷ s.asked;
        run = longer s.asked true s.run now;
        parts = (part_trans whole lines candidate s.part part, s.parts);
        fails = here s.asked (record { lines = candidate; fails = true });
        part = part_trans whole lines candidate s.part part;
        few = omega (arith, s.few);
      }

  -- without a line the others passed
  pub needs : (k from : ℕ) → AreNeeded asks first mid whole lines n from k → candidate ≡ remove lines k
      → asks mid candidate false after → AreNeeded asks first after whole lines (n + 1) from (k + 1)
  needs k from s same now =
      let part : HasSmallerPart lines candidate = rest_part lines candidate k same in
      record {
        asked = record { lines = candidate; fails = false } ∷ s.asked;
        run = longer s.asked false s.run now;
        parts = (part_trans whole lines candidate s.part part, s.parts);
        fails = there s.asked (record { lines = candidate; fails = false }) (record { lines = lines; fails = true })
            s.fails;
        part = s.part;
        few = omega (arith, s.few);
        needed = λ j at below. by_place j at (last_or j k below);
      }
    where
      last_or : (j k : ℕ) → j < k + 1 → (j < k) ⊎ (j ≡ k)
      last_or j k h = grind arith

      by_place : (j : ℕ) → from ≤ j → (j < k) ⊎ (j ≡ k)
          → WasPassing (record { lines = candidate; fails = false } ∷ s.asked) (remove lines j)
      by_place j at (inl low) =
          there s.asked (record { lines = candidate; fails = false })
          (record { lines = remove lines j; fails = false }) (s.needed j at low)
      by_place j at (inr e) =
          let P : List (List ℕ) → Type 0 = λ l.
          WasPassing (record { lines = candidate; fails = false } ∷ s.asked) l in
          let R : ℕ → Type 0 = λ i. P (remove lines i) in
          subst R (sym e) (subst P same (here s.asked (record { lines = candidate; fails = false })))

  -- a line was left out
  pub leaves : (k from : ℕ) → AreNeeded asks first mid whole lines n from k → candidate ≡ remove lines k
      → asks mid candidate true after → AreNeeded asks first after whole candidate (n + 1) k k
  leaves k from s same now =
      let part : HasSmallerPart lines candidate = rest_part lines candidate k same in
      record {
        asked = record { lines = candidate; fails = true } ∷ s.asked;
        run = longer s.asked true s.run now;
        parts = (part_trans whole lines candidate s.part part, s.parts);
        fails = here s.asked (record { lines = candidate; fails = true });
        part = part_trans whole lines candidate s.part part;
        few = omega (arith, s.few);
        needed = λ j at below. absurd (omega (arith, at, below));
      }

module _ {Q : Type 0} (asks : Q → List (List ℕ) → Bool → Q → Type 0) where
  -- the first answer
  pub begins : (first after : Q) (whole : List (List ℕ)) → asks first whole true after
      → StillFails asks first after whole whole 1
  unfolding AsksTo
  begins first after whole now =
      record {
        asked = record { lines = whole; fails = true } ∷ [];
        run = (first, refl, now);
        parts = (part_refl whole, tt);
        fails = here [] (record { lines = whole; fails = true });
        part = part_refl whole;
        few = omega arith;
      }

  -- at most more things
  pub more : (first after : Q) (whole lines : List (List ℕ)) (n m : ℕ) → n ≤ m
      → StillFails asks first after whole lines n → StillFails asks first after whole lines m
  more first after whole lines n m le s =
      record {
        asked = s.asked;
        run = s.run;
        parts = s.parts;
        fails = s.fails;
        part = s.part;
        few = omega (arith, s.few, le);
      }

  -- nothing is needed yet
  pub unscanned : (first after : Q) (whole lines : List (List ℕ)) (n : ℕ)
      → StillFails asks first after whole lines n → AreNeeded asks first after whole lines n 0 0
  unscanned first after whole lines n s =
      record {
        asked = s.asked;
        run = s.run;
        parts = s.parts;
        fails = s.fails;
        part = s.part;
        few = s.few;
        needed = λ j at below. absurd (omega (arith, at, below));
      }

  -- lines that are needed fail
  pub scanned : (first after : Q) (whole lines : List (List ℕ)) (n from to : ℕ)
      → AreNeeded asks first after whole lines n from to → StillFails asks first after whole lines n
  scanned first after whole lines n from to s =
      record {
        asked = s.asked;
        run = s.run;
        parts = s.parts;
        fails = s.fails;
        part = s.part;
        few = s.few;
      }

  -- at most more things, and fewer places
  pub wider : (first after : Q) (whole lines : List (List ℕ)) (n m from low to high : ℕ) → n ≤ m → from ≤ low
      → high ≤ to → AreNeeded asks first after whole lines n from to → AreNeeded asks first after whole lines m low high
  wider first after whole lines n m from low to high le below above s =
      record {
        asked = s.asked;
        run = s.run;
        parts = s.parts;
        fails = s.fails;
        part = s.part;
        few = omega (arith, s.few, le);
        needed = λ j at under. s.needed j (omega (arith, at, below)) (omega (arith, under, above));
      }

module _ {Q : Type 0} (asks : Q → List (List ℕ) → Bool → Q → Type 0)
    (stops : Q → List (List ℕ) → Unanswered → Q → Type 0) where
  -- no answer about other lines
  pub unanswered : (first mid after : Q) (whole lines candidate : List (List ℕ)) (n : ℕ) (why : Unanswered)
      → StillFails asks first mid whole lines n → HasSmallerPart lines candidate → stops mid candidate why after
      → Stopped asks stops first after whole lines (n + 1) why
  unanswered first mid after whole lines candidate n why s part now =
      record {
        mid = mid;
        before = more asks first mid whole lines n (n + 1) (omega arith) s;
        last = inr (candidate, part_trans whole lines candidate s.part part, now);
      }

  -- nothing was asked, without memory
  pub unasked : (first after : Q) (whole lines : List (List ℕ)) (n m : ℕ) (why : Unanswered) → why ≡ NoMemory → n ≤ m
      → StillFails asks first after whole lines n → Stopped asks stops first after whole lines m why
  unasked first after whole lines n m why no_room le s =
      record { mid = after; before = more asks first after whole lines n m le s; last = inl (refl, no_room) }

  -- at most more things
  pub stopped_more : (first after : Q) (whole lines : List (List ℕ)) (n m : ℕ) (why : Unanswered) → n ≤ m
      → Stopped asks stops first after whole lines n why → Stopped asks stops first after whole lines m why
  stopped_more first after whole lines n m why le s =
      record { mid = s.mid; before = more asks first s.mid whole lines n m le s.before; last = s.last }

  -- the same at the end
  pub ends_more : (first after : Q) (whole lines : List (List ℕ)) (n m : ℕ) (r : Result (Unit {0}) Unanswered) → n ≤ m
      → Ends asks stops first after whole lines n r → Ends asks stops first after whole lines m r
  ends_more first after whole lines n m (Ok done) le s =
      wider asks first after whole lines n m 0 0 (length lines) (length lines) le (omega arith) (omega arith) s
  ends_more first after whole lines n m (Err why) le s = stopped_more first after whole lines n m why le s
