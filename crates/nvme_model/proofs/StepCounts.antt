-- A ticket of n blocks in m units has at most m Grants and n Blocks, 2n in a pair.
use Rattle.std.proofs.Common.{◌≡◌, ℕ, zero, suc, ◌+◌, ◌-◌, ◌*◌, ◌≤◌, ◌<◌, Bool, true, false, ◌&&◌, cond, List, [], ◌∷◌}
use Rattle.std.proofs.Common.{◌++◌, length, refl, sym, ap, ap₂, ◌∙◌, subst, Option, Some, None, inl, inr, arith, eq-eqb}
use Rattle.std.proofs.Common.{ne_eqb, eqb-true, eqb, nat_le, leb-false, slice_get, length-append}
use Rattle.std.specs.List.{filter, list_any, sum_by}
use Rattle.std.proofs.lemmas.Bool.{or_parts, cases_Bool, cases_lt, cases_eq}
use Rattle.std.proofs.lemmas.List.Sums.{sum_by-cons}
use Rattle.nvme_model.specs.declared.config.AtomicParameters.{AtomicParameters}
use Rattle.nvme_model.specs.declared.config.ConfigNumbers.{ConfigNumbers}
use Rattle.nvme_model.specs.Cut.{IsCut, cut}
use Rattle.nvme_model.specs.EntryBytes.{slba, block_count}
use Rattle.nvme_model.specs.History.{Past}
use Rattle.nvme_model.specs.Tickets
use Rattle.nvme_model.specs.Tickets.{Ticket, first_fields}
use Rattle.nvme_model.specs.Operations.{op, is_pair, units, units_by}
use Rattle.nvme_model.specs.Open.{granted, grants_of, blocks_made, blocks_of, is_differs, steps_needed, unit_range}
use Rattle.nvme_model.specs.Legal.{IsLegal}
use Rattle.nvme_model.specs.declared.array.Range.{Range}
use Rattle.nvme_model.specs.declared.operation.Op.{Op}
use Rattle.nvme_model.specs.declared.entry.GrantLine.{GrantLine}
use Rattle.nvme_model.specs.declared.entry.BlockLine.{BlockLine}
use Rattle.nvme_model.specs.declared.entry.Entry.{Entry}
use Rattle.nvme_model.proofs.Rules.{follows}
use Rattle.nvme_model.proofs.Cut.{cut-is}
use Rattle.nvme_model.proofs.Apart.{ticket_kept}
use Rattle.nvme_model.proofs.Blocks.{MayBlock, may_block, no_blocks, at_key, grants_before, range_before}
use Rattle.nvme_model.proofs.Pairs.{no_blocks_yet, goes_on}
use Rattle.nvme_model.proofs.Runs.{below_if}
use Rattle.nvme_model.proofs.NextPost.{granted_unit}

-- ---- sums over the numbers below one

-- f of each number below m, summed
abbrev sum_below : (ℕ → ℕ) → ℕ → ℕ
sum_below f zero = 0
sum_below f (suc m) = sum_below f m + f m

sum_same : (f g : ℕ → ℕ) (m : ℕ) → ((u : ℕ) → u < m → g u ≡ f u) → sum_below g m ≡ sum_below f m
sum_same f g zero h = refl
sum_same f g (suc m) h = ap₂ (λ (x y : ℕ). x + y) (sum_same f g m (λ u l. h u (omega (arith, l)))) (h m (omega arith))

-- one of them is one more
sum_one_more : (f g : ℕ → ℕ) (v m : ℕ) → v < m → g v ≡ suc (f v) → ((u : ℕ) → (u ≡ v → ⊥) → g u ≡ f u)
    → sum_below g m ≡ sum_below f m + 1
sum_one_more f g v zero l e h = absurd (omega (arith, l))
sum_one_more f g v (suc m) l e h =
    elim (cases_eq v m) [
      | inl q ↦ let here : g m ≡ suc (f m) = subst (λ (i : ℕ). g i ≡ suc (f i)) q e in
          let below = sum_same f g m (λ u k. h u (λ (r : u ≡ v). omega (arith, r, q, k))) in
          omega (arith, here, below)
      | inr q ↦ let before = sum_one_more f g v m (omega (arith, l, q)) e h in
          let here = h m (λ (r : m ≡ v). q (sym r)) in
          omega (arith, before, here)
    ]

sum_within : (f g : ℕ → ℕ) (m : ℕ) → ((u : ℕ) → u < m → f u ≤ g u) → sum_below f m ≤ sum_below g m
sum_within f g zero h = omega arith
sum_within f g (suc m) h = omega (arith, sum_within f g m (λ u l. h u (omega (arith, l))), h m (omega arith))

-- the first number apart
sum_first : (f : ℕ → ℕ) (m : ℕ) → sum_below f (suc m) ≡ f 0 + sum_below (λ u. f (suc u)) m
sum_first f zero = omega arith
sum_first f (suc m) = omega (arith, sum_first f m)

-- ---- the blocks of ranges by their numbers

abbrev blocks_in : Option Range → ℕ
blocks_in None = 0
blocks_in (Some r) = r.blocks

sum_of_ranges : (rs : List Range) (m : ℕ) → sum_below (λ u. blocks_in (slice_get rs u)) m ≤ sum_by (λ r. r.blocks) rs
sum_of_ranges rs zero = omega arith
sum_of_ranges [] (suc m) = omega (arith, sum_of_ranges [] m)
sum_of_ranges (r ∷ rs) (suc m) =
    omega (
      arith,
      sum_first (λ u. blocks_in (slice_get (r ∷ rs) u)) m,
      sum_of_ranges rs m,
      sum_by-cons (λ (x : Range). x.blocks) r rs,
    )

sum_of_cut : (u : AtomicParameters) (s n : ℕ) (rs : List Range) → IsCut u s n rs → sum_by (λ r. r.blocks) rs ≡ n
sum_of_cut u s n [] h = sym h
sum_of_cut u s n (r ∷ rs) h =
    omega (arith, sum_by-cons (λ (x : Range). x.blocks) r rs, sum_of_cut u (s + r.blocks) (n - r.blocks) rs h.4, h.1)

-- the units of a cut are the blocks of its range
pub cut_sum : (u : AtomicParameters) (s n : ℕ) → sum_by (λ r. r.blocks) (cut u s n) ≡ n
cut_sum u s n = sum_of_cut u s n (cut u s n) (cut-is u s n)

units_sum : (u : AtomicParameters) (o : Option Op) (s n : ℕ) → sum_by (λ r. r.blocks) (units_by u o s n) ≤ n
units_sum u None s n = omega arith
units_sum u (Some Op.Pair) s n = omega arith
units_sum u (Some Op.Read) s n = omega (arith, cut_sum u s n)
units_sum u (Some Op.Compare) s n = omega (arith, cut_sum u s n)
units_sum u (Some Op.Write) s n = omega (arith, cut_sum u s n)
units_sum u (Some Op.WriteZeroes) s n = omega (arith, cut_sum u s n)

-- ---- the Blocks of one unit

abbrev Few : Past → ℕ → ℕ → List BlockLine → Type 0
Few past t u made = length made ≤ steps_needed (Tickets.ticket past t) (unit_range past t u).blocks

few_none : (past : Past) (t u : ℕ) (made : List BlockLine) → made ≡ [] → Few past t u made
few_none past t u made e = omega (arith, ap length e)

few_more : (past : Past) (b : BlockLine) (g : GrantLine) → MayBlock past b g
    → Few past b.ticket b.unit (b ∷ blocks_made past b.ticket b.unit)
few_more past b g m =
    let n = steps_needed (Tickets.ticket past b.ticket) (unit_range past b.ticket b.unit).blocks in
    let made = blocks_made past b.ticket b.unit in
    omega (
      arith,
      leb-false n (length made)
          (or_parts (nat_le n (length made)) (list_any (λ x. is_differs x.found) made) (goes_on past b g m)).0,
    )

few : (c : ConfigNumbers) (past : Past) (t u : ℕ) → IsLegal c past → Few past t u (blocks_made past t u)
few c [] t u h = omega arith
few c (Entry.Fetch f ∷ past) t u h =
    let before = (follows c past (Entry.Fetch f) h).before in
    elim (cases_lt (Tickets.tickets past) t) [
      | inl l ↦ few_none (Entry.Fetch f ∷ past) t u (blocks_made past t u) (no_blocks_yet c past t u before l)
      | inr l ↦ subst (λ (k : Ticket). length (blocks_made past t u) ≤ steps_needed k (unit_range past t u).blocks)
          (sym (ticket_kept c past f t h l)) (few c past t u before)
    ]
few c (Entry.Grant g ∷ past) t u h =
    let before = (follows c past (Entry.Grant g) h).before in
    elim (cases_Bool (eqb g.ticket t && eqb g.unit u)) [
      | inl e ↦ few_none (Entry.Grant g ∷ past) t u (blocks_made past t u)
          (no_blocks c past t u before (grants_before c past g t u h e))
      | inr e ↦ subst (λ (r : Range). length (blocks_made past t u) ≤ steps_needed (Tickets.ticket past t) r.blocks)
          (sym (range_before past g t u e)) (few c past t u before)
    ]
few c (Entry.Block b ∷ past) t u h =
    let m = may_block c past b h in
    go (eqb b.ticket t && eqb b.unit u) refl (few c past t u (follows c past (Entry.Block b) h).before)
    (few_more past b m.0 m.2)
  where
    go : (x : Bool) → (eqb b.ticket t && eqb b.unit u) ≡ x → Few past t u (blocks_made past t u)
        → Few past b.ticket b.unit (b ∷ blocks_made past b.ticket b.unit)
        → Few past t u (cond x (b ∷ []) [] ++ blocks_made past t u)
    go true e ih n = at_key (λ i j. Few past i j (b ∷ blocks_made past i j)) b t u e n
    go false e ih n = ih
few c (e ∷ past) t u h = few c past t u (follows c past e h).before

-- ---- all Blocks of a ticket

abbrev made_of : Past → ℕ → ℕ → ℕ
made_of past t u = length (blocks_made past t u)

abbrev Summed : Past → ℕ → Type 0
Summed past t = blocks_of past t ≡ sum_below (made_of past t) (grants_of past t)

summed : (c : ConfigNumbers) (past : Past) (t : ℕ) → IsLegal c past → Summed past t
summed c [] t h = refl
summed c (Entry.Grant g ∷ past) t h =
    let before = (follows c past (Entry.Grant g) h).before in
    go (eqb g.ticket t) (summed c past t before)
    (ap length (no_blocks c past t (grants_of past t) before (omega arith)))
  where
    go : (x : Bool) → Summed past t → made_of past t (grants_of past t) ≡ 0
        → blocks_of past t ≡ sum_below (made_of past t)
        (length (cond x (g ∷ filter (λ y. eqb y.ticket t) (granted past))
        (filter (λ y. eqb y.ticket t) (granted past))))
    go true ih z = omega (arith, ih, z)
    go false ih z = ih
summed c (Entry.Block b ∷ past) t h =
    let m = may_block c past b h in
    elim (cases_Bool (eqb b.ticket t)) [
      | inl e ↦ own (eqb-true b.ticket t e) m.0 m.2 (summed c past t (follows c past (Entry.Block b) h).before)
      | inr e ↦ other e (summed c past t (follows c past (Entry.Block b) h).before)
    ]
  where
    unit_made : (u : ℕ) (x : Bool) → eqb b.unit u ≡ x → (eqb b.ticket t) ≡ true
        → made_of (Entry.Block b ∷ past) t u ≡ length (cond x (b ∷ []) []) + made_of past t u
    unit_made u x e d = length-append (cond (eqb b.ticket t && eqb b.unit u) (b ∷ []) []) (blocks_made past t u)
        ∙ ap₂ (λ (y z : Bool). length (cond (y && z) (b ∷ []) []) + made_of past t u) d e

    own : b.ticket ≡ t → (g : GrantLine) → MayBlock past b g → Summed past t → Summed (Entry.Block b ∷ past) t
    own e g m ih =
        let d : eqb b.ticket t ≡ true = eq-eqb b.ticket t e in
        let known : b.unit < grants_of past t =
        omega (arith, m.unit, m.unended.facts.number, ap (grants_of past) (m.ticket ∙ e)) in
        ap (λ (x : Bool). blocks_of past t + cond x 1 0) d
        ∙ (ap (λ (i : ℕ). i + 1) ih
        ∙ sym (sum_one_more (made_of past t) (made_of (Entry.Block b ∷ past) t) b.unit (grants_of past t) known
        (unit_made b.unit true (eq-eqb b.unit b.unit refl) d ∙ omega arith)
        (λ u n. unit_made u false (ne_eqb b.unit u (λ (q : b.unit ≡ u). n (sym q))) d ∙ omega arith)))

    other : eqb b.ticket t ≡ false → Summed past t → Summed (Entry.Block b ∷ past) t
    other e ih =
        ap (λ (x : Bool). blocks_of past t + cond x 1 0) e
        ∙ (omega arith
        ∙ (ih ∙ sym (sum_same (made_of past t) (made_of (Entry.Block b ∷ past) t) (grants_of past t)
        (λ u l. ap (λ (x : Bool). length (cond (x && eqb b.unit u) (b ∷ []) [] ++ blocks_made past t u)) e))))
summed c (e ∷ past) t h = summed c past t (follows c past e h).before

-- ---- the two counts

pub grants_within : (c : ConfigNumbers) (past : Past) (t : ℕ) → IsLegal c past
    → grants_of past t ≤ length (units c (Tickets.ticket past t))
grants_within c past t h = go (grants_of past t) refl
  where
    go : (n : ℕ) → grants_of past t ≡ n → grants_of past t ≤ length (units c (Tickets.ticket past t))
    go zero e = omega (arith, e)
    go (suc n) e =
        let x = granted_unit c past t n h (omega (arith, e)) in
        omega (arith, e, below_if (units c (Tickets.ticket past t)) n (Some x.0.range) x.1.at refl)

pub blocks_within : (c : ConfigNumbers) (past : Past) (t : ℕ) → IsLegal c past
    → blocks_of past t ≤ steps_needed (Tickets.ticket past t) (block_count (first_fields (Tickets.ticket past t)))
blocks_within c past t h =
    let k = Tickets.ticket past t in
    let rs = units c k in
    let each : (u : ℕ) → u < grants_of past t → made_of past t u ≤ steps_needed k (blocks_in (slice_get rs u)) = λ u l.
    let x = granted_unit c past t u h l in
    let same : (unit_range past t u).blocks ≡ blocks_in (slice_get rs u) =
    unit_blocks x.0 u x.1.ticket x.1.unit x.1.facts.range x.1.at in
    subst (λ (i : ℕ). made_of past t u ≤ steps_needed k i) same (few c past t u h) in
    let whole = sum_of_ranges rs (grants_of past t) in
    let most = units_sum c.atomic (op k) (slba (first_fields k)) (block_count (first_fields k)) in
    by_pair (is_pair (op k)) (sum_by (λ r. r.blocks) rs) each whole most (summed c past t h)
  where
    unit_blocks : (x : GrantLine) (u : ℕ) → x.ticket ≡ t → x.unit ≡ u → unit_range past x.ticket x.unit ≡ x.range
        → slice_get (units c (Tickets.ticket past t)) u ≡ Some x.range
        → (unit_range past t u).blocks ≡ blocks_in (slice_get (units c (Tickets.ticket past t)) u)
    unit_blocks x u e d r a =
        ap (λ (s : Range). s.blocks) (ap₂ (λ (i j : ℕ). unit_range past i j) (sym e) (sym d) ∙ r) ∙ sym (ap blocks_in a)

    doubled : (f : ℕ → ℕ) (m : ℕ) → sum_below (λ u. 2 * f u) m ≡ 2 * sum_below f m
    doubled f zero = refl
    doubled f (suc m) = omega (arith, doubled f m)

    by_pair : (x : Bool) (total : ℕ)
        → ((u : ℕ) → u < grants_of past t
        → made_of past t u ≤ cond x (2 * blocks_in (slice_get (units c (Tickets.ticket past t)) u))
        (blocks_in (slice_get (units c (Tickets.ticket past t)) u)))
        → sum_below (λ u. blocks_in (slice_get (units c (Tickets.ticket past t)) u)) (grants_of past t) ≤ total
        → total ≤ block_count (first_fields (Tickets.ticket past t))
        → Summed past t
        → blocks_of past t ≤ cond x (2 * block_count (first_fields (Tickets.ticket past t)))
        (block_count (first_fields (Tickets.ticket past t)))
    by_pair true total each whole most s =
        omega (
          arith,
          s,
          whole,
          most,
          sum_within (made_of past t) (λ u. 2 * blocks_in (slice_get (units c (Tickets.ticket past t)) u))
              (grants_of past t) each,
          doubled (λ u. blocks_in (slice_get (units c (Tickets.ticket past t)) u)) (grants_of past t),
        )
    by_pair false total each whole most s =
        omega (
          arith,
          s,
          whole,
          most,
          sum_within (made_of past t) (λ u. blocks_in (slice_get (units c (Tickets.ticket past t)) u))
              (grants_of past t) each,
        )

-- a Flush, and a ticket that failed its checks, have none
pub idle_counts : (c : ConfigNumbers) (past : Past) (t : ℕ) → IsLegal c past → op (Tickets.ticket past t) ≡ None
    → (grants_of past t ≡ 0) × (blocks_of past t ≡ 0)
idle_counts c past t h e =
    let none : length (units c (Tickets.ticket past t)) ≡ 0 =
    ap (λ (o : Option Op). length
    (units_by c.atomic o (slba (first_fields (Tickets.ticket past t)))
    (block_count (first_fields (Tickets.ticket past t))))) e in
    let grants : grants_of past t ≡ 0 = omega (arith, none, grants_within c past t h) in
    (grants, summed c past t h ∙ ap (sum_below (made_of past t)) grants)
