-- Places of entries and of answers.
use Rattle.std.proofs.Common.{◌≡◌, ◌∙◌, ◌<◌, ◌≤◌, ◌&&◌, ◌+◌, ◌-◌, [], ◌∷◌, ◌++◌, Bool, List, None, Option, Some, arith}
use Rattle.std.proofs.Common.{ap, cond}
use Rattle.std.proofs.Common.{eqb, eqb-true, false, inl, inr, le-leb, leb-true, length, length-append, lt-ltb, ltb-true}
use Rattle.std.proofs.Common.{nat_le, nat_lt, refl, sym, true, ℕ}
use Rattle.std.proofs.lemmas.Bool.{and_parts, cases_Bool, cases_lt, cond-false}
use Rattle.refutation.proofs.QueueBooks.{before_all}
use Rattle.nvme_model.specs.EntryBytes.{cqe_fields}
use Rattle.nvme_model.specs.declared.entry.PublishLine.{PublishLine}
use Rattle.trace.specs.declared.seen.Seen.{Seen}
use Rattle.refutation.specs.Lines.{answered, before_entry, is_number, published_in}
use Rattle.refutation.specs.Places
use Rattle.refutation_check.specs.Answers
use Rattle.refutation_check.specs.Answers.{entry_place}
use Rattle.refutation_check.specs.declared.tables.EntryPlace.{EntryPlace}

-- the line that answers an entry is the same number in both
pub same_place : (trace : List Seen) (q j : ℕ) → Answers.answer_place trace q j ≡ Places.answer_place trace q j
same_place [] q j = refl
same_place (Seen.Published p ∷ trace) q j = same_place trace q j
same_place (Seen.Reaped r ∷ trace) q j =
    ap (λ (o : Option ℕ). cond (eqb (cqe_fields r.cqe).sqid q && is_number j (answered trace r.cqe))
    (Some (length trace)) o) (same_place trace q j)

-- the line of an entry that is published, or that number
abbrev pub line_or : Option EntryPlace → ℕ → ℕ
line_or None n = n
line_or (Some p) n = p.line

-- ---- entries that aren't published

unpublished : (p : PublishLine) (trace : List Seen) (q j : ℕ)
    → length (published_in (Seen.Published p ∷ trace) q) ≤ j → length (published_in trace q) ≤ j
unpublished p trace q j l =
    omega (arith, l, length-append (published_in trace q) (cond (eqb p.queue q) p.batch []))

no_place : (trace : List Seen) (q j : ℕ) → length (published_in trace q) ≤ j → entry_place trace q j ≡ None
no_place [] q j l = refl
no_place (Seen.Published p ∷ trace) q j l = go (eqb p.queue q) refl l (no_place trace q j (unpublished p trace q j l))
  where
    n : ℕ
    n = length (published_in trace p.queue)

    late : length (published_in trace q ++ p.batch) ≤ j → p.queue ≡ q
        → (nat_le n j && nat_lt j (n + length p.batch)) ≡ false
    late m same = elim (cases_Bool (nat_le n j && nat_lt j (n + length p.batch))) [
      | inl e ↦
          let parts = and_parts (nat_le n j) (nat_lt j (n + length p.batch)) e in
          absurd (omega (
            arith,
            m,
            ltb-true j (n + length p.batch) parts.1,
            length-append (published_in trace q) p.batch,
            ap (λ (k : ℕ). length (published_in trace k)) same,
          ))
      | inr e ↦ e
    ]

    go : (b : Bool) → eqb p.queue q ≡ b → length (published_in trace q ++ cond b p.batch []) ≤ j
        → entry_place trace q j ≡ None
        → cond (b && (nat_le n j && nat_lt j (n + length p.batch)))
        (Some (record { line = length trace; place = j - n })) (entry_place trace q j)
        ≡ None
    go false e m ih = ih
    go true e m ih =
        cond-false (nat_le n j && nat_lt j (n + length p.batch)) (Some (record { line = length trace; place = j - n }))
        (entry_place trace q j) (late m (eqb-true p.queue q e))
        ∙ ih
no_place (Seen.Reaped r ∷ trace) q j l = no_place trace q j l

-- ---- entries that are

placed_at : (trace : List Seen) (q j : ℕ) → j < length (published_in trace q)
    → (p : EntryPlace) × (entry_place trace q j ≡ Some p) × (p.line ≡ length (before_entry trace q j))
placed_at [] q j l = absurd (omega (arith, l))
placed_at (Seen.Published p ∷ trace) q j l = go (eqb p.queue q) refl l (λ m. placed_at trace q j m)
  where
    n : ℕ
    n = length (published_in trace p.queue)

    Is : Option EntryPlace → Type 0
    Is o = (x : EntryPlace) × (o ≡ Some x) × (x.line ≡ length (before_entry (Seen.Published p ∷ trace) q j))

    step : before_entry (Seen.Published p ∷ trace) q j ≡ before_entry trace q j
    step =
        cond-false (nat_le (length (published_in (Seen.Published p ∷ trace) q)) j) (Seen.Published p ∷ trace)
        (before_entry trace q j) (not_le (length (published_in (Seen.Published p ∷ trace) q)) l)
      where
        not_le : (k : ℕ) → j < k → nat_le k j ≡ false
        not_le k m = elim (cases_Bool (nat_le k j)) [
          | inl e ↦ absurd (omega (arith, m, leb-true k j e))
          | inr e ↦ e
        ]

    carried : (o : Option EntryPlace)
        → (x : EntryPlace) × (o ≡ Some x) × (x.line ≡ length (before_entry trace q j)) → Is o
    carried o x = (x.0, x.1, x.2 ∙ ap length (sym step))

    go : (b : Bool) → eqb p.queue q ≡ b → j < length (published_in trace q ++ cond b p.batch [])
        → (j < length (published_in trace q)
        → (x : EntryPlace) × (entry_place trace q j ≡ Some x) × (x.line ≡ length (before_entry trace q j)))
        → Is (cond (b && (nat_le n j && nat_lt j (n + length p.batch)))
        (Some (record { line = length trace; place = j - n })) (entry_place trace q j))
    go false e m ih =
        carried (entry_place trace q j) (ih (omega (arith, m, length-append (published_in trace q) [])))
    go true e m ih =
        let same : n ≡ length (published_in trace q) =
        ap (λ (k : ℕ). length (published_in trace k)) (eqb-true p.queue q e) in
        by (nat_le n j && nat_lt j (n + length p.batch)) refl same
      where
        by : (b : Bool) → (nat_le n j && nat_lt j (n + length p.batch)) ≡ b → n ≡ length (published_in trace q)
            → Is (cond b (Some (record { line = length trace; place = j - n })) (entry_place trace q j))
        by true f same =
            let parts = and_parts (nat_le n j) (nat_lt j (n + length p.batch)) f in
            let low : length (published_in trace q) ≤ j = omega (arith, same, leb-true n j parts.0) in (
              record { line = length trace; place = j - n },
              refl,
              ap length (sym (before_all trace q j low)) ∙ ap length (sym step),
            )
        by false f same = elim (cases_lt j (length (published_in trace q))) [
          | inl k ↦ carried (entry_place trace q j) (ih k)
          | inr k ↦
              let yes : (nat_le n j && nat_lt j (n + length p.batch)) ≡ true =
              both (nat_le n j) (nat_lt j (n + length p.batch)) (le-leb n j (omega (arith, same, k)))
              (lt-ltb j (n + length p.batch) (omega (arith, same, m, length-append (published_in trace q) p.batch))) in
              absurd (let z : true ≡ false = sym yes ∙ f in cc)
        ]
          where
            both : (x y : Bool) → x ≡ true → y ≡ true → (x && y) ≡ true
            both true y e f = f
            both false y e f = absurd (let z : false ≡ true = e in cc)
placed_at (Seen.Reaped r ∷ trace) q j l =
    let x = placed_at trace q j l in (
      x.0,
      x.1,
      x.2 ∙ ap length (sym (cond-false (nat_le (length (published_in trace q)) j) (Seen.Reaped r ∷ trace)
          (before_entry trace q j) (not_le (length (published_in trace q)) l))),
    )
  where
    not_le : (k : ℕ) → j < k → nat_le k j ≡ false
    not_le k m = elim (cases_Bool (nat_le k j)) [
      | inl e ↦ absurd (omega (arith, m, leb-true k j e))
      | inr e ↦ e
    ]

-- How many lines stand before the one that publishes an entry; all where none does.
pub lines_by_place : (trace : List Seen) (q j : ℕ) (o : Option EntryPlace) → o ≡ entry_place trace q j
    → length (before_entry trace q j) ≡ line_or o (length trace)
lines_by_place trace q j o e = elim (cases_lt j (length (published_in trace q))) [
  | inl l ↦
      let x = placed_at trace q j l in
      sym (ap (λ (y : Option EntryPlace). line_or y (length trace)) (e ∙ x.1) ∙ x.2)
  | inr l ↦
      ap length (before_all trace q j l)
      ∙ sym (ap (λ (y : Option EntryPlace). line_or y (length trace)) (e ∙ no_place trace q j l))
]
