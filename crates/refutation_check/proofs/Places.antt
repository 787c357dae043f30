-- Where entries are: what stands at the place of one is that entry.
use Rattle.std.proofs.Common.{Bool, List, None, Option, Some, [], ap, arith, false, if◌then◌else◌, length, refl}
use Rattle.std.proofs.Common.{slice_get, suc, sym, true, zero, ℕ, ◌&&◌, ◌+◌, ◌++◌, ◌-◌, ◌<◌, ◌≤◌, ◌==◌, ◌∙◌, ◌∷◌, ◌≡◌}
use Rattle.std.specs.Prelude.{nat_le, nat_lt, reverse}
use Rattle.std.proofs.lemmas.Bool.{eqb-true, leb-false, leb-true, ltb-false}
use Rattle.std.proofs.lemmas.List.{append-nil, length-append, length-reverse, reverse-append}
use Rattle.plain_lemmas.proofs.Lists.{at_last}
use Rattle.trace.specs.declared.seen.Seen.{Seen}
use Rattle.nvme_model.specs.EntryBytes.{cqe_fields}
use Rattle.refutation.specs.Lines.{answer_in, answered, is_number, published_in}
use Rattle.refutation_check.specs.Answers.{answer_place, entry_at, entry_of, entry_place, reaped_at, reaped_of}
use Rattle.refutation_check.specs.declared.tables.EntryPlace.{EntryPlace}

-- ---- lists

get_front : {A : Type 0} (xs ys : List A) (k : ℕ) → k < length xs → slice_get (xs ++ ys) k ≡ slice_get xs k
get_front [] ys k l = absurd (omega arith)
get_front (x ∷ xs) ys zero l = refl
get_front (x ∷ xs) ys (suc k) l = get_front xs ys k (omega arith)

get_behind : {A : Type 0} (xs ys : List A) (k : ℕ) → length xs ≤ k
    → slice_get (xs ++ ys) k ≡ slice_get ys (k - length xs)
get_behind [] ys k l = ap (slice_get ys) (omega arith)
get_behind (x ∷ xs) ys zero l = absurd (omega arith)
get_behind (x ∷ xs) ys (suc k) l =
    let same : k - length xs ≡ suc k - length (x ∷ xs) = omega arith in
    get_behind xs ys k (omega arith) ∙ ap (slice_get ys) same

get_none : {A : Type 0} (xs : List A) (k : ℕ) → length xs ≤ k → slice_get xs k ≡ None
get_none [] k l = refl
get_none (x ∷ xs) zero l = absurd (omega arith)
get_none (x ∷ xs) (suc k) l = get_none xs k (omega arith)

-- ---- one line more

-- each place is of a line that is there
pub within : (trace : List Seen) (q j : ℕ) (p : EntryPlace) → entry_place trace q j ≡ Some p → p.line < length trace
within [] q j p e = absurd (let no : None ≡ Some p = e in cc)
within (Seen.Published b ∷ trace) q j p e =
    by ((b.queue == q) && (nat_le n j && nat_lt j (n + length b.batch))) e (within trace q j p)
  where
    n : ℕ
    n = length (published_in trace b.queue)

    by : (t : Bool)
        → (if t then Some (record { line = length trace; place = j - n }) else entry_place trace q j) ≡ Some p
        → (entry_place trace q j ≡ Some p → p.line < length trace) → p.line < suc (length trace)
    by true g f =
        let here : EntryPlace = record { line = length trace; place = j - n } in
        let same : here ≡ p = cc in
        let line : length trace ≡ p.line = ap (λ (x : EntryPlace). x.line) same in omega arith
    by false g f = let low : p.line < length trace = f g in omega arith
within (Seen.Reaped r ∷ trace) q j p e = let low : p.line < length trace = within trace q j p e in omega arith

-- it is of the same line behind one more
still_there : (trace : List Seen) (s : Seen) (q j : ℕ) (o : Option EntryPlace) → entry_place trace q j ≡ o
    → entry_at (reverse (s ∷ trace)) o ≡ entry_at (reverse trace) o
still_there trace s q j None e = refl
still_there trace s q j (Some p) e =
    let low : p.line < length trace = within trace q j p e in
    let lower : p.line < length (reverse trace) = omega (arith, length-reverse trace) in
    ap (λ xs. entry_of (slice_get xs p.line) p.place) (reverse-append (s ∷ []) trace)
    ∙ ap (λ o. entry_of o p.place) (get_front (reverse trace) (s ∷ []) p.line lower)

newest_there : (trace : List Seen) (s : Seen) → slice_get (reverse (s ∷ trace)) (length trace) ≡ Some s
newest_there trace s =
    ap (λ xs. slice_get xs (length trace)) (reverse-append (s ∷ []) trace)
    ∙ ap (slice_get (reverse trace ++ s ∷ [])) (sym (length-reverse trace)) ∙ at_last (reverse trace) s

-- What stands at the place of an entry is that entry.
pub place_is : (trace : List Seen) (q j : ℕ)
    → entry_at (reverse trace) (entry_place trace q j) ≡ slice_get (published_in trace q) j
place_is [] q j = refl
place_is (Seen.Reaped r ∷ trace) q j =
    still_there trace (Seen.Reaped r) q j (entry_place trace q j) refl ∙ place_is trace q j
place_is (Seen.Published b ∷ trace) q j = by (b.queue == q) refl (place_is trace q j)
  where
    n : ℕ
    n = length (published_in trace b.queue)

    old : entry_at (reverse (Seen.Published b ∷ trace)) (entry_place trace q j)
        ≡ entry_at (reverse trace) (entry_place trace q j)
    old = still_there trace (Seen.Published b) q j (entry_place trace q j) refl

    inside : (t u : Bool) → nat_le n j ≡ t → nat_lt j (n + length b.batch) ≡ u → b.queue ≡ q
        → entry_at (reverse trace) (entry_place trace q j) ≡ slice_get (published_in trace q) j
        → entry_at (reverse (Seen.Published b ∷ trace))
        (if t && u then Some (record { line = length trace; place = j - n }) else entry_place trace q j)
        ≡ slice_get (published_in trace q ++ b.batch) j
    inside true true e f g h =
        let count : length (published_in trace q) ≡ n = ap (λ r. length (published_in trace r)) (sym g) in
        let low : n ≤ j = leb-true _ _ e in
        ap (λ o. entry_of o (j - n)) (newest_there trace (Seen.Published b))
        ∙ ap (λ k. slice_get b.batch (j - k)) (sym count)
        ∙ sym (get_behind (published_in trace q) b.batch j (omega arith))
    inside true false e f g h =
        let count : length (published_in trace q) ≡ n = ap (λ r. length (published_in trace r)) (sym g) in
        let high : n + length b.batch ≤ j = ltb-false _ _ f in
        let lower : length (published_in trace q) ≤ j = omega arith in
        let all : length (published_in trace q ++ b.batch) ≤ j =
        omega (arith, length-append (published_in trace q) b.batch) in
        old ∙ h ∙ get_none (published_in trace q) j lower ∙ sym (get_none (published_in trace q ++ b.batch) j all)
    inside false u e f g h =
        let count : length (published_in trace q) ≡ n = ap (λ r. length (published_in trace r)) (sym g) in
        let low : j < n = leb-false _ _ e in
        old ∙ h ∙ sym (get_front (published_in trace q) b.batch j (omega arith))

    by : (a : Bool) → (b.queue == q) ≡ a
        → entry_at (reverse trace) (entry_place trace q j) ≡ slice_get (published_in trace q) j
        → entry_at (reverse (Seen.Published b ∷ trace))
        (if a && (nat_le n j && nat_lt j (n + length b.batch)) then Some (record { line = length trace; place = j - n })
        else entry_place trace q j)
        ≡ slice_get (published_in trace q ++ (if a then b.batch else [])) j
    by true e h =
        inside (nat_le n j) (nat_lt j (n + length b.batch)) refl refl (eqb-true _ _ e) h
    by false e h = old ∙ h ∙ ap (λ xs. slice_get xs j) (sym (append-nil (published_in trace q)))

-- ---- answers

answer_within : (trace : List Seen) (q j n : ℕ) → answer_place trace q j ≡ Some n → n < length trace
answer_within [] q j n e = absurd (let no : None ≡ Some n = e in cc)
answer_within (Seen.Published p ∷ trace) q j n e =
    let low : n < length trace = answer_within trace q j n e in omega arith
answer_within (Seen.Reaped r ∷ trace) q j n e =
    by (((cqe_fields r.cqe).sqid == q) && is_number j (answered trace r.cqe)) e (answer_within trace q j n)
  where
    by : (t : Bool) → (if t then Some (length trace) else answer_place trace q j) ≡ Some n
        → (answer_place trace q j ≡ Some n → n < length trace) → n < suc (length trace)
    by true g f = let same : length trace ≡ n = cc in omega arith
    by false g f = let low : n < length trace = f g in omega arith

answer_still : (trace : List Seen) (s : Seen) (q j : ℕ) (o : Option ℕ) → answer_place trace q j ≡ o
    → reaped_at (reverse (s ∷ trace)) o ≡ reaped_at (reverse trace) o
answer_still trace s q j None e = refl
answer_still trace s q j (Some n) e =
    let low : n < length trace = answer_within trace q j n e in
    let lower : n < length (reverse trace) = omega (arith, length-reverse trace) in
    ap (λ xs. reaped_of (slice_get xs n)) (reverse-append (s ∷ []) trace)
    ∙ ap reaped_of (get_front (reverse trace) (s ∷ []) n lower)

-- The completion at the place of an answer is that answer.
pub answer_is : (trace : List Seen) (q j : ℕ)
    → reaped_at (reverse trace) (answer_place trace q j) ≡ answer_in trace q j
answer_is [] q j = refl
answer_is (Seen.Published p ∷ trace) q j =
    answer_still trace (Seen.Published p) q j (answer_place trace q j) refl ∙ answer_is trace q j
answer_is (Seen.Reaped r ∷ trace) q j =
    by (((cqe_fields r.cqe).sqid == q) && is_number j (answered trace r.cqe)) (answer_is trace q j)
  where
    by : (t : Bool) → reaped_at (reverse trace) (answer_place trace q j) ≡ answer_in trace q j
        → reaped_at (reverse (Seen.Reaped r ∷ trace)) (if t then Some (length trace) else answer_place trace q j)
        ≡ (if t then Some r else answer_in trace q j)
    by true h = ap reaped_of (newest_there trace (Seen.Reaped r))
    by false h = answer_still trace (Seen.Reaped r) q j (answer_place trace q j) refl ∙ h
