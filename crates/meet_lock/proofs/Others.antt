-- What others may have added to a history.
use Rattle.std.proofs.Common.{[], ap, arith, eq-eqb, eqb, length, length-append, ne_eqb, refl, subst, suc, sym, ℕ, ◌++◌}
use Rattle.std.proofs.Common.{◌<◌, ◌∙◌, ◌≡◌, ◌≢◌, ◌∷◌}
use Rattle.std.proofs.lemmas.Bool.{cond-false, cond-true}
use Rattle.nvme_model.specs.Passes.{IsBeginning, SharedPast, places}
use Rattle.nvme_model.specs.declared.entry.Entry.{Entry}
use Rattle.meet_lock.specs.Lock.{AreOfPasses, ExtendsByPasses, noted}
use Rattle.meet_lock.proofs.Places.{places-front}

-- nothing of a number that no pass has
later_above : (passes n : ℕ) (later log : SharedPast) → passes < n → AreOfPasses passes later
    → places n (later ++ log) ≡ places n log
later_above passes n [] log above made = refl
later_above passes n (m ∷ later) log above made = let le = made.0.1 in
    cond-false (eqb m.0 n) _ _ (ne_eqb m.0 n (λ e. omega (arith, e, le, above)))
    ∙ later_above passes n later log above made.1

pub places_above : (passes n : ℕ) (seen log : SharedPast) → passes < n → ExtendsByPasses passes seen log
    → places n log ≡ places n seen
places_above passes n seen log above g = ap (places n) (sym g.0.1) ∙ later_above passes n g.0.0 seen above g.1

-- nor of nobody's
later_nobody : (passes : ℕ) (later log : SharedPast) → AreOfPasses passes later → places 0 (later ++ log) ≡ places 0 log
later_nobody passes [] log made = refl
later_nobody passes (m ∷ later) log made = let some = made.0.0 in
    cond-false (eqb m.0 0) _ _ (ne_eqb m.0 0 (λ e. omega (arith, e, some))) ∙ later_nobody passes later log made.1

pub places_nobody : (passes : ℕ) (seen log : SharedPast) → ExtendsByPasses passes seen log
    → places 0 log ≡ places 0 seen
places_nobody passes seen log g = ap (places 0) (sym g.0.1) ∙ later_nobody passes g.0.0 seen g.1

one_more : (by : ℕ) (m : ℕ × Entry) (later seen : SharedPast) → m.0 ≡ by
    → places by (m ∷ later ++ seen) ≢ places by seen
one_more by m later seen is same =
    let more : places by (m ∷ later ++ seen) ≡ suc (length (later ++ seen)) ∷ places by (later ++ seen) =
    cond-true (eqb m.0 by) _ _ (eq-eqb m.0 by is) in
    let t = places-front by later seen in
    let a = ap length more in
    let b = ap length t.1 ∙ length-append t.0 (places by seen) in
    let c = ap length same in
    omega (arith, a, b, c)

-- of one pass, none but its own
none_later : (later seen : SharedPast) → AreOfPasses 1 later → places 1 (later ++ seen) ≡ places 1 seen
    → later ++ seen ≡ seen
none_later [] seen made same = refl
none_later (m ∷ later) seen made same = let some = made.0.0 in let le = made.0.1 in
    absurd (one_more 1 m later seen (omega (arith, some, le)) same)

pub only_own : (passes by : ℕ) (seen log : SharedPast) → passes ≡ 1 → by ≡ 1 → ExtendsByPasses passes seen log
    → places by log ≡ places by seen → log ≡ seen
only_own passes by seen log one is g same =
    let g1 : ExtendsByPasses 1 seen log = subst (λ n. ExtendsByPasses n seen log) one g in
    let s1 : places 1 log ≡ places 1 seen = subst (λ n. places n log ≡ places n seen) is same in
    sym g1.0.1 ∙ none_later g1.0.0 seen g1.1 (ap (places 1) g1.0.1 ∙ s1)

abbrev first_number : ℕ × Entry → SharedPast → ℕ
first_number m [] = m.0
first_number m (x ∷ log) = x.0

-- whoever made the newest entry has seen the whole
newest : (m : ℕ × Entry) (before later seen : SharedPast) → later ++ seen ≡ m ∷ before
    → places m.0 (m ∷ before) ≡ places m.0 seen → m ∷ before ≡ seen
newest m before [] seen e same = sym e
newest m before (x ∷ later) seen e same =
    absurd (one_more m.0 x later seen (ap (λ l. first_number m l) e) (ap (places m.0) e ∙ same))

pub newest_seen : (passes : ℕ) (m : ℕ × Entry) (before seen : SharedPast) → ExtendsByPasses passes seen (m ∷ before)
    → places m.0 (m ∷ before) ≡ places m.0 seen → m ∷ before ≡ seen
newest_seen passes m before seen g same = newest m before g.0.0 seen g.0.1 same

-- what was seen never goes on by an entry of nobody's
not_nobody_from : (passes : ℕ) (seen log later : SharedPast) (e : Entry) → later ++ seen ≡ noted 0 e ∷ log
    → AreOfPasses passes later → IsBeginning seen log → ⊥
not_nobody_from passes seen log [] e is made b = let long = ap length b.1 in let all = ap length is in
    let sum = length-append b.0 seen in omega (arith, long, all, sum)
not_nobody_from passes seen log (m ∷ later) e is made b = let zero_is : m.0 ≡ 0 = ap (first_number m) is in
    let some = made.0.0 in omega (arith, zero_is, some)

pub not_nobody : (passes : ℕ) (seen log : SharedPast) (e : Entry) → ExtendsByPasses passes seen (noted 0 e ∷ log)
    → IsBeginning seen log → ⊥
not_nobody passes seen log e g b = not_nobody_from passes seen log g.0.0 e g.0.1 g.1 b
