-- What a ticket still writes after a Block.
use Rattle.std.proofs.Common.{◌≡◌, ℕ, suc, ◌+◌, ◌-◌, ◌*◌, ◌≤◌, ◌<◌, ◌||◌, Bool, true, false, cond, List, drop, length}
use Rattle.std.proofs.Common.{nat_le, nat_lt, refl, sym, ap, ◌∙◌, subst, Option, Some, None, arith, leb-true, leb-false}
use Rattle.std.proofs.Common.{ltb-true, ltb-false}
use Rattle.std.proofs.lemmas.Bool.{lt-leb}
use Rattle.std.proofs.lemmas.List.{drop-drop}
use Rattle.nvme_model.specs.declared.config.ConfigNumbers.{ConfigNumbers}
use Rattle.nvme_model.specs.declared.entry.GrantLine.{GrantLine}
use Rattle.nvme_model.specs.declared.operation.Found.{Found}
use Rattle.nvme_model.specs.declared.operation.Op.{Op}
use Rattle.nvme_model.specs.History.{Past}
use Rattle.nvme_model.specs.Legal.{IsLegal}
use Rattle.nvme_model.specs.Open.{blocks_made, is_differs}
use Rattle.nvme_model.specs.Steps.{marked}
use Rattle.nvme_model.specs.Tickets.{ticket}
use Rattle.ticket_laws.specs.Standing.{Standing, had, standing}
use Rattle.ticket_laws.proofs.Standings.{after_block}
use Rattle.block_exec.specs.Progress.{compared_as, next_block}
use Rattle.block_exec.specs.Units.{progress_of}
use Rattle.job_table.specs.Keeping.{written_on}
use Rattle.job_table.specs.Tickets.{job_at, job_by, still_written, write_blocks_by, written_so_far}
use Rattle.step_core.proofs.BlockData.{IsUnit}
use Rattle.step_core.proofs.Blocked.{done_now, is_equal, line_now, unit_now}
use Rattle.step_core.proofs.Written.{calm, goes_on, had_is, made_is, pair_count, pair_had, starts, write_count}

module _ (c : ConfigNumbers) (past : Past) (t : ℕ) (h : IsLegal c past) (g : GrantLine) where
  abbrev s : Standing
  s = standing past t

  abbrev n : ℕ
  n = g.range.blocks

  abbrev made : ℕ
  made = length (blocks_made past t g.unit)

  abbrev made_here : ℕ
  made_here = length (blocks_made past g.ticket g.unit)

  -- the blocks that a ticket writes which does this
  abbrev all : Op → List (List ℕ)
  all o = write_blocks_by (Some o) (ticket past t)

  -- how many it has written
  abbrev so_far : Op → ℕ
  so_far o = written_so_far c (standing past t) (Some o)

  -- how many it has written after a Block that found this, which ends the unit or doesn't
  abbrev then : Op → Found → Bool → ℕ
  then o f b =
      written_so_far c
      (after_block past (record {
        ticket = t;
        unit = g.unit;
        lba = next_block (progress_of past t g.unit o g.range);
        found = f;
        effect = marked (Some o) n made f;
      })
      (cond b None (Some (record { line = g; made = made_here + 1 })))) (Some o)

  -- one more is off what is still written
  one_more : (o : Op) (i : ℕ) → so_far o + 1 ≡ i → drop 1 (drop (so_far o) (all o)) ≡ drop i (all o)
  one_more o i e = drop-drop 1 (so_far o) (all o) ∙ ap (λ (j : ℕ). drop j (all o)) e

  -- ---- a Write

  write_then : IsUnit c past t g Op.Write
      → so_far Op.Write + 1 ≡ then Op.Write Found.Written (nat_le n (suc made) || false)
  write_then u = go (nat_le n (suc made)) refl
    where
      ends : (w had before n m at from : ℕ) → w ≡ at - from + m → had ≡ before + n → at ≡ from + before → m < n
          → n ≤ suc m → w + 1 ≡ had - 0
      ends w had before n m at from e a b l r = omega (arith, e, a, b, l, r)

      stays : (w had before n m m' at from : ℕ) → w ≡ at - from + m → had ≡ before + n → at ≡ from + before → m' ≡ m
          → suc m < n → w + 1 ≡ had - (n - (m' + 1))
      stays w had before n m m' at from e a b same l = omega (arith, e, a, b, same, l)

      go : (b : Bool) → nat_le n (suc made) ≡ b → so_far Op.Write + 1 ≡ then Op.Write Found.Written (b || false)
      go true e = ends (so_far Op.Write) (had c s) _ n made _ _ (write_count c past t h g u)
          (had_is c past t h g Op.Write u) (starts c past t h g u) (goes_on c past t h g Op.Write u)
          (leb-true n (suc made) e)
      go false e = stays (so_far Op.Write) (had c s) _ n made made_here _ _ (write_count c past t h g u)
          (had_is c past t h g Op.Write u) (starts c past t h g u) (made_is c past t h g Op.Write u)
          (leb-false n (suc made) e)

  -- ---- a pair

  -- what is still written then
  abbrev PairOn : Found → Bool → Type 0
  PairOn f b = written_on Op.Pair f (drop (so_far Op.Pair) (all Op.Pair)) ≡ drop (then Op.Pair f b) (all Op.Pair)

  pair_then : IsUnit c past t g Op.Pair → (e : Bool)
      → PairOn (cond (nat_lt made n) (compared_as e) Found.Written)
      (nat_le (2 * n) (suc made) || is_differs (cond (nat_lt made n) (compared_as e) Found.Written))
  pair_then u e = go (nat_lt made n) refl e
    where
      none : (w m m' n : ℕ) → w ≡ m - n → m' ≡ m → m < n → w ≡ m' + 1 - n
      none w m m' n e same l = omega (arith, e, same, l)

      first : (w m n : ℕ) → w ≡ m - n → m < n → w ≡ 0
      first w m n e l = omega (arith, e, l)

      last : (w m n had : ℕ) → w ≡ m - n → had ≡ n → m < 2 * n → 2 * n ≤ suc m → w + 1 ≡ had
      last w m n had e all l r = omega (arith, e, all, l, r)

      next : (w m m' n : ℕ) → w ≡ m - n → m' ≡ m → n ≤ m → w + 1 ≡ m' + 1 - n
      next w m m' n e same l = omega (arith, e, same, l)

      compares : made < n → nat_le (2 * n) (suc made) ≡ false
      compares l = lt-leb (2 * n) (suc made) (omega (arith, l))

      writes : n ≤ made → (b : Bool) → nat_le (2 * n) (suc made) ≡ b → PairOn Found.Written (b || false)
      writes l true e =
          one_more Op.Pair (had c s)
          (last (so_far Op.Pair) made n (had c s) (pair_count c past t h g u) (pair_had c past t h g u)
          (goes_on c past t h g Op.Pair u) (leb-true (2 * n) (suc made) e))
          ∙ ap (λ d. drop (cond d 0 (had c s)) (all Op.Pair)) (sym (calm c past t h g Op.Pair u))
      writes l false e = one_more Op.Pair (made_here + 1 - n)
          (next (so_far Op.Pair) made made_here n (pair_count c past t h g u) (made_is c past t h g Op.Pair u) l)

      go : (b : Bool) → nat_lt made n ≡ b → (e : Bool)
          → PairOn (cond b (compared_as e) Found.Written)
          (nat_le (2 * n) (suc made) || is_differs (cond b (compared_as e) Found.Written))
      go true l true =
          subst (λ (b : Bool). PairOn Found.Equal (b || false)) (sym (compares (ltb-true made n l)))
          (ap (λ (i : ℕ). drop i (all Op.Pair))
          (none (so_far Op.Pair) made made_here n (pair_count c past t h g u) (made_is c past t h g Op.Pair u)
          (ltb-true made n l)))
      go true l false =
          subst (λ (b : Bool). PairOn Found.Differs (b || true)) (sym (compares (ltb-true made n l)))
          (ap (λ (i : ℕ). drop i (all Op.Pair))
          (first (so_far Op.Pair) made n (pair_count c past t h g u) (ltb-true made n l)))
      go false l e = writes (ltb-false made n l) (nat_le (2 * n) (suc made)) refl

  -- ---- each operation

  on : (o : Op) → IsUnit c past t g o
      → written_on o (done_now past t g o).found (drop (so_far o) (all o))
      ≡ drop (then o (done_now past t g o).found (done_now past t g o).ended) (all o)
  on Op.Write u = one_more Op.Write _ (write_then u)
  on Op.Pair u = pair_then u (is_equal past t g Op.Pair)
  on Op.Read u = refl
  on Op.WriteZeroes u = refl
  on Op.Compare u = by (is_equal past t g Op.Compare)
    where
      by : (e : Bool) → written_on Op.Compare (compared_as e) (all Op.Compare) ≡ all Op.Compare
      by true = refl
      by false = refl

  -- what is kept of it to be written is so
  pub write_now : (o : Op) → IsUnit c past t g o
      → written_on o (done_now past t g o).found (job_at c past t).write
      ≡ still_written c (after_block past (line_now past t g o) (unit_now past t g o))
  unfolding job_by
  write_now o u =
      ap (λ (x : Option Op). written_on o (done_now past t g o).found
      (drop (written_so_far c s x) (write_blocks_by x (ticket past t)))) u.does
      ∙ on o u
      ∙ ap (λ (x : Option Op).
      drop (written_so_far c (after_block past (line_now past t g o) (unit_now past t g o)) x)
      (write_blocks_by x (ticket past t))) (sym u.does)
