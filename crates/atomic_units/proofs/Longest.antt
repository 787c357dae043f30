-- The longest unit, by arithmetic.
use Rattle.std.proofs.Common.{◌≡◌, ◌≢◌, ℕ, suc, ◌+◌, ◌-◌, ◌*◌, ◌/◌, ◌%◌, ◌≤◌, ◌<◌, true, eqb, ltb, min, sym, ap, ◌∙◌}
use Rattle.std.proofs.Common.{arith, inl, inr, eq-eqb, ne_eqb, lt-ltb, le-ltb}
use Rattle.std.proofs.lemmas.Bool.{cases_eq, cases_lt, cond-true, cond-false, false_from_ne_true}
use Rattle.std.proofs.lemmas.Nat.{div-mul-add, div-add-mod', mod_below}
use Rattle.nvme_model.specs.Cells.{cell, is_atomic}
use Rattle.nvme_model.specs.Cut.{longest}
use Rattle.nvme_model.specs.declared.config.AtomicParameters.{AtomicParameters}
use Rattle.nvme_model.proofs.Cut.{Atomic, atomic_from, atomic_parts, longest_is}
use Rattle.atomic_units.specs.Room.{cell_room}
use Rattle.atomic_units.proofs.Ends.{cell_above, cell_below, cell_unbounded, one_cell_at, one_cell_from}

-- ---- quotients near a multiple

-- as long as the remainder has room the quotient stays
div_stays : (o k w : ℕ) → o % w + k < w → (o + k) / w ≡ o / w
div_stays o k w h =
    let e : o + k ≡ o / w * w + (o % w + k) = omega (arith, div-add-mod' o w) in
    ap (λ x. x / w) e ∙ div-mul-add (o / w) w (o % w + k) h

div_next : (o w : ℕ) → 0 < w → (o + (w - o % w)) / w ≡ o / w + 1
div_next o w p =
    let e : o + (w - o % w) ≡ (o / w + 1) * w + 0 = omega (arith, div-add-mod' o w, mod_below o w p) in
    ap (λ x. x / w) e ∙ div-mul-add (o / w + 1) w 0 p

-- ---- the room of a cell

-- m blocks from s on are in the cell of s, and at most n; the next is in another, where there is one
record Room (u : AtomicParameters) (s n m : ℕ) : Type 0 where
  pub some : 1 ≤ m
  pub within : m ≤ n
  pub same : (k : ℕ) → k < m → cell u (s + k) ≡ cell u s
  pub next : m < n → cell u (s + m) ≢ cell u s

room_unbounded : (u : AtomicParameters) (s n : ℕ) → 1 ≤ n → u.nabsn ≡ 0 → Room u s n n
room_unbounded u s n o e = record {
  some = o;
  within = omega arith;
  same = λ k l. cell_unbounded u (s + k) e ∙ sym (cell_unbounded u s e);
  next = λ l. absurd (omega (arith, l));
}

room_below : (u : AtomicParameters) (s n : ℕ) → 1 ≤ n → (u.nabsn ≡ 0 → ⊥) → s < u.nabo → Room u s n (min n (u.nabo - s))
room_below u s n o b h = record {
  some = omega (arith, o, h);
  within = omega arith;
  same = λ k l. cell_below u (s + k) (omega (arith, l, h)) ∙ sym (cell_below u s h);
  next = λ l e. absurd (omega
      (arith, cell_above u (s + min n (u.nabo - s)) b (omega (arith, l, h)), cell_below u s h, e));
}

room_above : (u : AtomicParameters) (s n : ℕ) → 1 ≤ n → (u.nabsn ≡ 0 → ⊥) → u.nabo ≤ s
    → Room u s n (min n (u.nabsn + 1 - (s - u.nabo) % (u.nabsn + 1)))
room_above u s n o b h =
    let below : (s - u.nabo) % (u.nabsn + 1) < u.nabsn + 1 = mod_below (s - u.nabo) (u.nabsn + 1) (omega arith) in
    record {
      some = omega (arith, o, below);
      within = omega arith;
      same = λ k l. above_same u s k b h (omega (arith, l, below));
      next = λ l e. above_next u s (min n (u.nabsn + 1 - (s - u.nabo) % (u.nabsn + 1))) b h (omega (arith, l)) e;
    }
  where
    above_same : (u : AtomicParameters) (s k : ℕ) → (u.nabsn ≡ 0 → ⊥) → u.nabo ≤ s
        → (s - u.nabo) % (u.nabsn + 1) + k < u.nabsn + 1 → cell u (s + k) ≡ cell u s
    above_same u s k b h l =
        let e : s + k - u.nabo ≡ s - u.nabo + k = omega (arith, h) in
        cell_above u (s + k) b (omega (arith, h)) ∙ ap (λ x. x / (u.nabsn + 1) + 1) e
        ∙ ap (λ x. x + 1) (div_stays (s - u.nabo) k (u.nabsn + 1) l) ∙ sym (cell_above u s b h)

    above_next : (u : AtomicParameters) (s m : ℕ) → (u.nabsn ≡ 0 → ⊥) → u.nabo ≤ s
        → m ≡ u.nabsn + 1 - (s - u.nabo) % (u.nabsn + 1) → cell u (s + m) ≢ cell u s
    above_next u s m b h e same =
        let f : s + m - u.nabo ≡ s - u.nabo + (u.nabsn + 1 - (s - u.nabo) % (u.nabsn + 1)) = omega (arith, h, e) in
        let there : cell u (s + m) ≡ (s - u.nabo) / (u.nabsn + 1) + 1 + 1 =
        cell_above u (s + m) b (omega (arith, h)) ∙ ap (λ x. x / (u.nabsn + 1) + 1) f
        ∙ ap (λ x. x + 1) (div_next (s - u.nabo) (u.nabsn + 1) (omega arith)) in
        omega (arith, there, cell_above u s b h, same)

room_facts : (u : AtomicParameters) (s n : ℕ) → 1 ≤ n → Room u s n (cell_room u s n)
room_facts u s n o =
    elim (cases_eq u.nabsn 0) [
      | inl e ↦ rw (cond-true (eqb u.nabsn 0) n _ (eq-eqb u.nabsn 0 e)) (room_unbounded u s n o e)
      | inr b ↦ rw (cond-false (eqb u.nabsn 0) n _ (ne_eqb u.nabsn 0 b)) (elim (cases_lt s u.nabo) [
        | inl h ↦ rw (cond-true (ltb s u.nabo) (min n (u.nabo - s)) _ (lt-ltb s u.nabo h)) (room_below u s n o b h)
        | inr h ↦ rw (cond-false (ltb s u.nabo) (min n (u.nabo - s)) _ (le-ltb s u.nabo h)) (room_above u s n o b h)
      ])
    ]

-- ---- the longest unit

longest_by : (u : AtomicParameters) (s n m : ℕ) → Room u s (min n (u.awun + 1)) m → longest u s n ≡ m
longest_by u s n m r =
    longest_is u s n m (omega (arith, r.within))
    (atomic_from u s m (record {
      some = r.some;
      short = omega (arith, r.within);
      one_cell = one_cell_from u s m r.same;
    }))
    (λ l. false_from_ne_true (is_atomic u s (suc m)) (λ (t : is_atomic u s (suc m) ≡ true).
    let a : Atomic u s (suc m) = atomic_parts u s (suc m) t in
    r.next (omega (arith, l, a.short)) (one_cell_at u s (suc m) m a.one_cell (omega arith))))

-- it is as long as AWUN and the room of the cell allow
pub longest_room : (u : AtomicParameters) (s n : ℕ) → 1 ≤ n → longest u s n ≡ cell_room u s (min n (u.awun + 1))
longest_room u s n o = longest_by u s n (cell_room u s (min n (u.awun + 1)))
    (room_facts u s (min n (u.awun + 1)) (omega (arith, o)))
