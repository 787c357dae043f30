-- How many lines publish so many entries, or reap so many completions.
use Rattle.std.proofs.Common.{Bool, List, None, Option, Some, ap, arith, cond, eqb, false, inl, inr, length, nat_le}
use Rattle.std.proofs.Common.{nat_lt, refl, suc, sym, true, ℕ, [], ◌&&◌, ◌%◌, ◌+◌, ◌-◌, ◌<◌, ◌≤◌, ◌∙◌, ◌∷◌, ◌≡◌}
use Rattle.std.specs.Prelude.{is_none, reverse}
use Rattle.std.proofs.Math.Nat.{mod-add-mod}
use Rattle.std.proofs.lemmas.Bool.{cond-false, cond-true, eqb-false, eqb-true, le-leb, leb-false, leb-true}
use Rattle.std.proofs.lemmas.Bool.{lt-leb, ltb-false, ltb-true, true≢false}
use Rattle.std.proofs.lemmas.List.{length-reverse}
use Rattle.trace.specs.declared.seen.Seen.{Seen}
use Rattle.refutation.specs.EffectOrders.{through_entries, through_reaps}
use Rattle.refutation.specs.Lines.{published_in, reaped_in}
use Rattle.refutation_check.specs.Answers.{entry_place}
use Rattle.refutation_check.specs.Posts.{reap_end}
use Rattle.refutation_check.specs.declared.tables.EntryPlace.{EntryPlace}
use Rattle.refutation_check.proofs.Together.{newer, none_is, none_of, older}

-- ---- the most that SQHD says

pub most_by_parts : (n s h : ℕ) → n - (n % s + (s - h % s)) % s ≡ n - (n + (s - h % s)) % s
most_by_parts n s h = ap (λ (x : ℕ). n - x) (mod-add-mod n s (s - h % s))

-- ---- how many lines

-- so many, or all
abbrev pub lines_or : Option ℕ → ℕ → ℕ
lines_or None n = n
lines_or (Some k) n = k

-- so many lines there are up to that of an entry, or all
abbrev pub end_or : Option EntryPlace → ℕ → ℕ
end_or None n = n
end_or (Some p) n = suc p.line

-- where there is one it isn't asked how many there are
there : {A : Type 0} (f : Option A → ℕ → ℕ) (o : Option A) (m n : ℕ) → ((a : A) → f (Some a) m ≡ f (Some a) n)
    → is_none o ≡ false → f o m ≡ f o n
there f None m n g e = absurd (true≢false e)
there f (Some a) m n g e = g a

-- ---- entries

pub no_entry : (trace : List Seen) (q : ℕ) → length (through_entries trace q 0) ≡ 0
no_entry [] q = refl
no_entry (s ∷ trace) q =
    ap length (cond-true _ (through_entries trace q 0) (s ∷ trace)
    (le-leb 0 (length (published_in trace q)) (omega arith)))
    ∙ no_entry trace q

through : (trace : List Seen) (q j : ℕ)
    → length (through_entries trace q (suc j)) ≡ end_or (entry_place trace q j) (length trace)
through [] q j = refl
through (Seen.Reaped r ∷ trace) q j = by (nat_le (suc j) n) refl (through trace q j)
  where
    n : ℕ
    n = length (published_in trace q)

    by : (b : Bool) → nat_le (suc j) n ≡ b
        → length (through_entries trace q (suc j)) ≡ end_or (entry_place trace q j) (length trace)
        → length (cond b (through_entries trace q (suc j)) (Seen.Reaped r ∷ trace))
        ≡ end_or (entry_place trace q j) (suc (length trace))
    by true e ih =
        ih ∙ there end_or (entry_place trace q j) (length trace) (suc (length trace)) (λ a. refl)
        (none_is trace q j ∙ lt-leb n j (omega (arith, leb-true (suc j) n e)))
    by false e ih =
        ap (λ (o : Option EntryPlace). end_or o (suc (length trace)))
        (sym (none_of (entry_place trace q j)
        (none_is trace q j ∙ le-leb n j (omega (arith, leb-false (suc j) n e)))))
through (Seen.Published p ∷ trace) q j = by (nat_le (suc j) n) refl (through trace q j)
  where
    n : ℕ
    n = length (published_in trace q)

    whole : List Seen
    whole = Seen.Published p ∷ trace

    late : (b : Bool) → nat_lt j (length (published_in whole q)) ≡ b → n ≤ j
        → suc (length trace) ≡ end_or (entry_place whole q j) (suc (length trace))
    late true e l =
        ap (λ (o : Option EntryPlace). end_or o (suc (length trace)))
        (sym (newer p trace q j l (ltb-true j (length (published_in whole q)) e)))
    late false e l =
        ap (λ (o : Option EntryPlace). end_or o (suc (length trace)))
        (sym (older p trace q j (inr (ltb-false j (length (published_in whole q)) e))
        ∙ none_of (entry_place trace q j) (none_is trace q j ∙ le-leb n j l)))

    by : (b : Bool) → nat_le (suc j) n ≡ b
        → length (through_entries trace q (suc j)) ≡ end_or (entry_place trace q j) (length trace)
        → length (cond b (through_entries trace q (suc j)) whole)
        ≡ end_or (entry_place whole q j) (suc (length trace))
    by true e ih =
        let low : j < n = omega (arith, leb-true (suc j) n e) in
        ih ∙ there end_or (entry_place trace q j) (length trace) (suc (length trace)) (λ a. refl)
        (none_is trace q j ∙ lt-leb n j low)
        ∙ ap (λ (o : Option EntryPlace). end_or o (suc (length trace))) (sym (older p trace q j (inl low)))
    by false e ih =
        late (nat_lt j (length (published_in whole q))) refl (omega (arith, leb-false (suc j) n e))

-- How many lines there are up to the one that publishes the last of n entries; all where none does. The lines are given
-- the oldest first.
pub through_entry : (lines : List Seen) (q n : ℕ) (o : Option EntryPlace) → (n ≡ 0 → ⊥)
    → o ≡ entry_place (reverse lines) q (n - 1)
    → length (through_entries (reverse lines) q n) ≡ end_or o (length lines)
through_entry lines q n o some e =
    let next : n ≡ suc (n - 1) = omega arith in
    ap (λ (k : ℕ). length (through_entries (reverse lines) q k)) next
    ∙ (through (reverse lines) q (n - 1)
    ∙ (λ t. end_or (sym e t) (length-reverse lines t)))

-- ---- completions

pub no_reap : (trace : List Seen) (n : ℕ) → length (through_reaps trace n 0) ≡ 0
no_reap [] n = refl
no_reap (s ∷ trace) n =
    ap length (cond-true _ (through_reaps trace n 0) (s ∷ trace) (le-leb 0 (reaped_in trace n) (omega arith)))
    ∙ no_reap trace n

none_of_them : (o : Option ℕ) → is_none o ≡ true → o ≡ None
none_of_them None e = refl
none_of_them (Some x) e = absurd (true≢false (sym e))

-- one that isn't reaped has no line
reap_none : (trace : List Seen) (n i : ℕ) → is_none (reap_end trace n i) ≡ nat_le (reaped_in trace n) i
reap_none [] n i = sym (le-leb 0 i (omega arith))
reap_none (Seen.Published p ∷ trace) n i = reap_none trace n i
reap_none (Seen.Reaped r ∷ trace) n i =
    by (eqb r.queue n) (eqb (reaped_in trace r.queue) i) refl refl (reap_none trace n i)
  where
    k : ℕ
    k = reaped_in trace n

    more : (b : Bool) → nat_le k i ≡ b → (k ≡ i → ⊥) → b ≡ nat_le (k + 1) i
    more true e f =
        let low = leb-true k i e in
        sym (le-leb (k + 1) i (omega (arith, low, f)))
    more false e f =
        let high = leb-false k i e in
        sym (lt-leb (k + 1) i (omega (arith, high)))

    by : (b x : Bool) → eqb r.queue n ≡ b → eqb (reaped_in trace r.queue) i ≡ x
        → is_none (reap_end trace n i) ≡ nat_le k i
        → is_none (cond (b && x) (Some (suc (length trace))) (reap_end trace n i)) ≡ nat_le (k + cond b 1 0) i
    by false x e f ih =
        let same : k ≡ k + 0 = omega arith in
        ih ∙ ap (λ (m : ℕ). nat_le m i) same
    by true true e f ih =
        let same : reaped_in trace r.queue ≡ k = ap (reaped_in trace) (eqb-true r.queue n e) in
        let here = eqb-true (reaped_in trace r.queue) i f in
        sym (lt-leb (k + 1) i (omega (arith, same, here)))
    by true false e f ih =
        let same : reaped_in trace r.queue ≡ k = ap (reaped_in trace) (eqb-true r.queue n e) in
        ih ∙ more (nat_le k i) refl (λ (g : k ≡ i). eqb-false (reaped_in trace r.queue) i f (same ∙ g))

reaps : (trace : List Seen) (n i : ℕ)
    → length (through_reaps trace n (suc i)) ≡ lines_or (reap_end trace n i) (length trace)
reaps [] n i = refl
reaps (Seen.Published p ∷ trace) n i = by (nat_le (suc i) k) refl (reaps trace n i)
  where
    k : ℕ
    k = reaped_in trace n

    by : (b : Bool) → nat_le (suc i) k ≡ b
        → length (through_reaps trace n (suc i)) ≡ lines_or (reap_end trace n i) (length trace)
        → length (cond b (through_reaps trace n (suc i)) (Seen.Published p ∷ trace))
        ≡ lines_or (reap_end trace n i) (suc (length trace))
    by true e ih =
        ih ∙ there lines_or (reap_end trace n i) (length trace) (suc (length trace)) (λ a. refl)
        (reap_none trace n i ∙ lt-leb k i (omega (arith, leb-true (suc i) k e)))
    by false e ih =
        ap (λ (o : Option ℕ). lines_or o (suc (length trace)))
        (sym (none_of_them (reap_end trace n i)
        (reap_none trace n i ∙ le-leb k i (omega (arith, leb-false (suc i) k e)))))
reaps (Seen.Reaped r ∷ trace) n i =
    by (nat_le (suc i) k) (eqb r.queue n) (eqb (reaped_in trace r.queue) i) refl refl refl (reaps trace n i)
  where
    k : ℕ
    k = reaped_in trace n

    early : (b x : Bool) → eqb r.queue n ≡ b → eqb (reaped_in trace r.queue) i ≡ x → i < k → (b && x) ≡ false
    early false x e f l = refl
    early true false e f l = refl
    early true true e f l =
        let same : reaped_in trace r.queue ≡ k = ap (reaped_in trace) (eqb-true r.queue n e) in
        let here = eqb-true (reaped_in trace r.queue) i f in absurd (omega (arith, same, here, l))

    late : (d : Bool) → k ≤ i
        → suc (length trace) ≡ lines_or (cond d (Some (suc (length trace))) (reap_end trace n i)) (suc (length trace))
    late true l = refl
    late false l =
        ap (λ (o : Option ℕ). lines_or o (suc (length trace)))
        (sym (none_of_them (reap_end trace n i) (reap_none trace n i ∙ le-leb k i l)))

    by : (a b x : Bool) → nat_le (suc i) k ≡ a → eqb r.queue n ≡ b → eqb (reaped_in trace r.queue) i ≡ x
        → length (through_reaps trace n (suc i)) ≡ lines_or (reap_end trace n i) (length trace)
        → length (cond a (through_reaps trace n (suc i)) (Seen.Reaped r ∷ trace))
        ≡ lines_or (cond (b && x) (Some (suc (length trace))) (reap_end trace n i)) (suc (length trace))
    by true b x d e f ih =
        let low : i < k = omega (arith, leb-true (suc i) k d) in
        ih ∙ there lines_or (reap_end trace n i) (length trace) (suc (length trace)) (λ a. refl)
        (reap_none trace n i ∙ lt-leb k i low)
        ∙ ap (λ (o : Option ℕ). lines_or o (suc (length trace)))
        (sym (cond-false (b && x) (Some (suc (length trace))) (reap_end trace n i) (early b x e f low)))
    by false b x d e f ih = late (b && x) (omega (arith, leb-false (suc i) k d))

-- How many lines there are up to the one that reaps the last of i completions; all where none does. The lines are given
-- the oldest first.
pub through_reap : (lines : List Seen) (n i : ℕ) (o : Option ℕ) → (i ≡ 0 → ⊥) → o ≡ reap_end (reverse lines) n (i - 1)
    → length (through_reaps (reverse lines) n i) ≡ lines_or o (length lines)
through_reap lines n i o some e =
    let next : i ≡ suc (i - 1) = omega arith in
    ap (λ (k : ℕ). length (through_reaps (reverse lines) n k)) next
    ∙ (reaps (reverse lines) n (i - 1)
    ∙ (λ t. lines_or (sym e t) (length-reverse lines t)))
