-- One line publishes two entries exactly where they are at one line.
use Rattle.std.proofs.Common.{Bool, List, None, Option, Some, [], ap, arith, false, if◌then◌else◌, length, refl, suc}
use Rattle.std.proofs.Common.{sym}
use Rattle.std.proofs.Common.{true, ℕ, ◌&&◌, ◌+◌, ◌++◌, ◌-◌, ◌<◌, ◌≤◌, ◌==◌, ◌∙◌, ◌∷◌, ◌≡◌, ◌⊎◌, inl, inr}
use Rattle.std.specs.Prelude.{is_none, nat_le, nat_lt}
use Rattle.std.proofs.lemmas.Bool.{and_from, cond-false, cond-true, eq-eqb, eqb-true, le-leb}
use Rattle.std.proofs.lemmas.Bool.{leb-true, lt-leb, lt-ltb, ltb-false, ltb-true, ne_eqb, true≢false}
use Rattle.std.proofs.lemmas.List.{length-append}
use Rattle.nvme_model.specs.declared.entry.PublishLine.{PublishLine}
use Rattle.nvme_model.specs.declared.submission.Submission.{Submission}
use Rattle.trace.specs.declared.seen.Seen.{Seen}
use Rattle.refutation.specs.Lines.{before_entry, published_in}
use Rattle.refutation.specs.MayAnswer.{are_together}
use Rattle.refutation_check.specs.Answers.{are_at_one_line, entry_place}
use Rattle.refutation_check.specs.declared.tables.EntryPlace.{EntryPlace}
use Rattle.refutation_check.proofs.Places.{within}

-- how many entries are published
abbrev count : List Seen → ℕ → ℕ
count trace q = length (published_in trace q)

-- where too few are published the whole trace is before an entry
before_all : (trace : List Seen) (q k : ℕ) → count trace q ≤ k → before_entry trace q k ≡ trace
before_all [] q k l = refl
before_all (s ∷ trace) q k l = cond-true _ (s ∷ trace) (before_entry trace q k) (le-leb _ _ l)

before_more : (s : Seen) (trace : List Seen) (q k : ℕ) → k < count (s ∷ trace) q
    → before_entry (s ∷ trace) q k ≡ before_entry trace q k
before_more s trace q k l = cond-false _ (s ∷ trace) (before_entry trace q k) (lt-leb _ _ l)

-- how many a line adds
added : (xs ys : List Submission) (b : Bool)
    → length (xs ++ (if b then ys else [])) ≡ length xs + (if b then length ys else 0)
added xs ys true = length-append xs ys
added xs ys false = omega (arith, length-append xs [])

-- the place of an entry that the newest line publishes
pub newer : (p : PublishLine) (trace : List Seen) (q k : ℕ) → count trace q ≤ k → k < count (Seen.Published p ∷ trace) q
    → entry_place (Seen.Published p ∷ trace) q k
    ≡ Some (record { line = length trace; place = k - count trace p.queue })
newer p trace q k low high = by (p.queue == q) refl
  where
    by : (b : Bool) → (p.queue == q) ≡ b
        → (if b && (nat_le (count trace p.queue) k && nat_lt k (count trace p.queue + length p.batch))
        then Some (record { line = length trace; place = k - count trace p.queue }) else entry_place trace q k)
        ≡ Some (record { line = length trace; place = k - count trace p.queue })
    by true e =
        let same : count trace p.queue ≡ count trace q = ap (count trace) (eqb-true _ _ e) in
        let all : count (Seen.Published p ∷ trace) q ≡ count trace q + length p.batch =
        added (published_in trace q) p.batch (p.queue == q)
        ∙ ap (λ b. count trace q + (if b then length p.batch else 0)) e in
        cond-true _ _ (entry_place trace q k)
        (and_from _ _ (le-leb (count trace p.queue) k (omega arith))
        (lt-ltb k (count trace p.queue + length p.batch) (omega arith)))
    by false e =
        let all : count (Seen.Published p ∷ trace) q ≡ count trace q + 0 =
        added (published_in trace q) p.batch (p.queue == q)
        ∙ ap (λ b. count trace q + (if b then length p.batch else 0)) e in
        absurd (omega arith)

-- and of one that earlier lines publish, or none
pub older : (p : PublishLine) (trace : List Seen) (q k : ℕ)
    → (k < count trace q) ⊎ (count (Seen.Published p ∷ trace) q ≤ k)
    → entry_place (Seen.Published p ∷ trace) q k ≡ entry_place trace q k
older p trace q k h = by (p.queue == q) refl
  where
    here : EntryPlace
    here = record { line = length trace; place = k - count trace p.queue }

    outside : (t u : Bool) → nat_le (count trace p.queue) k ≡ t → nat_lt k (count trace p.queue + length p.batch) ≡ u
        → (p.queue == q) ≡ true
        → (if t && u then Some here else entry_place trace q k) ≡ entry_place trace q k
    outside false u f g e = refl
    outside true false f g e = refl
    outside true true f g e =
        let low : count trace p.queue ≤ k = leb-true _ _ f in
        let high : k < count trace p.queue + length p.batch = ltb-true _ _ g in
        let same : count trace p.queue ≡ count trace q = ap (count trace) (eqb-true _ _ e) in
        let all : count (Seen.Published p ∷ trace) q ≡ count trace q + length p.batch =
        added (published_in trace q) p.batch (p.queue == q)
        ∙ ap (λ b. count trace q + (if b then length p.batch else 0)) e in
        elim h [ inl x ↦ absurd (omega arith) | inr y ↦ absurd (omega arith) ]

    by : (b : Bool) → (p.queue == q) ≡ b
        → (if b && (nat_le (count trace p.queue) k && nat_lt k (count trace p.queue + length p.batch))
        then Some here else entry_place trace q k) ≡ entry_place trace q k
    by true e = outside _ _ refl refl e
    by false e = refl

-- an entry has no place exactly where it isn't published
pub none_is : (trace : List Seen) (q k : ℕ) → is_none (entry_place trace q k) ≡ nat_le (count trace q) k
none_is [] q k = sym (le-leb 0 k (omega arith))
none_is (Seen.Reaped r ∷ trace) q k = none_is trace q k
none_is (Seen.Published p ∷ trace) q k =
    by (nat_lt k (count trace q)) (nat_lt k (count (Seen.Published p ∷ trace) q)) refl refl (none_is trace q k)
  where
    more : count trace q ≤ count (Seen.Published p ∷ trace) q
    more = omega (arith, added (published_in trace q) p.batch (p.queue == q))

    by : (t u : Bool) → nat_lt k (count trace q) ≡ t → nat_lt k (count (Seen.Published p ∷ trace) q) ≡ u
        → is_none (entry_place trace q k) ≡ nat_le (count trace q) k
        → is_none (entry_place (Seen.Published p ∷ trace) q k) ≡ nat_le (count (Seen.Published p ∷ trace) q) k
    by true u e f h =
        let low : k < count trace q = ltb-true _ _ e in
        ap is_none (older p trace q k (inl low)) ∙ h ∙ lt-leb _ _ low ∙ sym (lt-leb _ _ (omega (arith, more, low)))
    by false true e f h =
        let low : count trace q ≤ k = ltb-false _ _ e in
        let high : k < count (Seen.Published p ∷ trace) q = ltb-true _ _ f in
        ap is_none (newer p trace q k low high) ∙ sym (lt-leb _ _ high)
    by false false e f h =
        let low : count trace q ≤ k = ltb-false _ _ e in
        let none : count (Seen.Published p ∷ trace) q ≤ k = ltb-false _ _ f in
        ap is_none (older p trace q k (inr none)) ∙ h ∙ le-leb _ _ low ∙ sym (le-leb _ _ none)

-- ---- two entries

pub none_of : (o : Option EntryPlace) → is_none o ≡ true → o ≡ None
none_of None e = refl
none_of (Some p) e = absurd (true≢false (sym e))

-- the second isn't published
neither : (trace : List Seen) (q i : ℕ) → count trace q ≤ suc i
    → are_together trace q i ≡ are_at_one_line (entry_place trace q i) (entry_place trace q (suc i))
neither trace q i l =
    let second : entry_place trace q (suc i) ≡ None =
    none_of (entry_place trace q (suc i)) (none_is trace q (suc i) ∙ le-leb _ _ l) in
    ap (λ t. nat_le (count t q) i) (before_all trace q (suc i) l) ∙ sym (none_is trace q i)
    ∙ ap (are_at_one_line (entry_place trace q i)) (sym second)

at_lower : (a b : EntryPlace) (o : Option EntryPlace) → o ≡ Some a → a.line < b.line
    → are_at_one_line o (Some b) ≡ false
at_lower a b o e l = ap (λ x. are_at_one_line x (Some b)) e ∙ ne_eqb a.line b.line (λ same. omega (arith, same, l))

pub together : (trace : List Seen) (q i : ℕ)
    → are_together trace q i ≡ are_at_one_line (entry_place trace q i) (entry_place trace q (suc i))
together [] q i = neither [] q i (omega arith)
together (Seen.Reaped r ∷ trace) q i =
    by (nat_lt (suc i) (count trace q)) refl (together trace q i)
  where
    by : (t : Bool) → nat_lt (suc i) (count trace q) ≡ t
        → are_together trace q i ≡ are_at_one_line (entry_place trace q i) (entry_place trace q (suc i))
        → are_together (Seen.Reaped r ∷ trace) q i
        ≡ are_at_one_line (entry_place trace q i) (entry_place trace q (suc i))
    by true e h =
        ap (λ t. nat_le (count t q) i) (before_more (Seen.Reaped r) trace q (suc i) (ltb-true _ _ e)) ∙ h
    by false e h = neither (Seen.Reaped r ∷ trace) q i (ltb-false _ _ e)
together (Seen.Published p ∷ trace) q i =
    by (nat_lt (suc i) (count (Seen.Published p ∷ trace) q)) (nat_lt (suc i) (count trace q)) refl refl
    (together trace q i)
  where
    whole : List Seen
    whole = Seen.Published p ∷ trace

    earlier : (t : Bool) → nat_lt i (count trace q) ≡ t → count trace q ≤ suc i → suc i < count whole q
        → nat_le (count trace q) i ≡ are_at_one_line (entry_place whole q i) (entry_place whole q (suc i))
    earlier false e l m =
        let low : count trace q ≤ i = ltb-false _ _ e in
        le-leb _ _ low ∙ sym (eq-eqb (length trace) (length trace) refl)
        ∙ (λ t. are_at_one_line (sym (newer p trace q i low (omega arith)) t) (sym (newer p trace q (suc i) l m) t))
    earlier true e l m =
        let low : i < count trace q = ltb-true _ _ e in
        let lower = found (entry_place trace q i) (none_is trace q i ∙ lt-leb _ _ low) in
        lt-leb _ _ low
        ∙ sym (at_lower lower.0 (record { line = length trace; place = suc i - count trace p.queue })
        (entry_place trace q i) lower.1 (within trace q i lower.0 lower.1))
        ∙ (λ t. are_at_one_line (sym (older p trace q i (inl low)) t) (sym (newer p trace q (suc i) l m) t))
      where
        found : (o : Option EntryPlace) → is_none o ≡ false → (a : EntryPlace) × (o ≡ Some a)
        found None e = absurd (true≢false e)
        found (Some a) e = (a, refl)

    by : (t u : Bool) → nat_lt (suc i) (count whole q) ≡ t → nat_lt (suc i) (count trace q) ≡ u
        → are_together trace q i ≡ are_at_one_line (entry_place trace q i) (entry_place trace q (suc i))
        → are_together whole q i ≡ are_at_one_line (entry_place whole q i) (entry_place whole q (suc i))
    by false u e f h = neither whole q i (ltb-false _ _ e)
    by true true e f h =
        let low : suc i < count trace q = ltb-true _ _ f in
        ap (λ t. nat_le (count t q) i) (before_more (Seen.Published p) trace q (suc i) (ltb-true _ _ e)) ∙ h
        ∙ (λ t. are_at_one_line (sym (older p trace q i (inl (omega arith))) t)
        (sym (older p trace q (suc i) (inl low)) t))
    by true false e f h =
        let l : count trace q ≤ suc i = ltb-false _ _ f in
        ap (λ t. nat_le (count t q) i) (before_more (Seen.Published p) trace q (suc i) (ltb-true _ _ e)
        ∙ before_all trace q (suc i) l)
        ∙ earlier (nat_lt i (count trace q)) refl l (ltb-true _ _ e)
