-- The fields after a Block.
use Rattle.std.proofs.Common.{◌≡◌, ℕ, ◌+◌, ◌-◌, ◌*◌, ◌%◌, ◌≤◌, ◌<◌, Bool, true, false, ◌&&◌, cond, List, [], ◌∷◌, ◌++◌}
use Rattle.std.proofs.Common.{length, take, refl, sym, ap, ◌∙◌, subst, Option, Some, arith, eq-eqb, ne_eqb, leb-false}
use Rattle.std.proofs.Common.{set, replicate, slice_get, ◌==◌, nat_lt}
use Rattle.std.specs.Option.{option_map}
use Rattle.std.proofs.lemmas.Bool.{and_right, or_parts}
use Rattle.nvme_model.specs.declared.array.Range.{Range}
use Rattle.nvme_model.specs.declared.config.ConfigNumbers.{ConfigNumbers}
use Rattle.nvme_model.specs.declared.entry.Entry.{Entry}
use Rattle.nvme_model.specs.declared.entry.GrantLine.{GrantLine}
use Rattle.nvme_model.specs.declared.operation.Found.{Found}
use Rattle.nvme_model.specs.declared.operation.Op.{Op}
use Rattle.nvme_model.specs.Array.{zeros}
use Rattle.nvme_model.specs.EntryBytes.{block_count, slba}
use Rattle.nvme_model.specs.History.{Past}
use Rattle.nvme_model.specs.Legal.{IsLegal}
use Rattle.nvme_model.specs.Medium.{medium}
use Rattle.nvme_model.specs.Open.{blocks_made, blocks_of, grants_of, is_read_found, is_written}
use Rattle.nvme_model.specs.Operations.{op, units, units_by, write_data}
use Rattle.ticket_laws.specs.Standing.{bytes_read, open_unit, standing, unit_of}
use Rattle.nvme_model.specs.Tickets.{Ticket, first_fields, ticket, tickets}
use Rattle.nvme_model.proofs.Cut.{cut-is}
use Rattle.ticket_laws.proofs.Left.{blocks_of_all, take_one_more}
use Rattle.ticket_laws.proofs.Lengths.{medium_length}
use Rattle.ticket_laws.proofs.ReadPlace.{read_length, read_placed, rest_of}
use Rattle.block_exec.specs.Bytes.{block_at, put_at, volume_with, written_by}
use Rattle.block_exec.specs.Progress.{UnitProgress, found_by, needed, next_block}
use Rattle.block_exec.specs.Units.{progress_of}
use Rattle.job_table.specs.Keeping.{read_of}
use Rattle.job_table.specs.Parts.{part_of, with_part}
use Rattle.job_table.specs.Tickets.{job_at, job_by, read_bytes_by, still_written}
use Rattle.rings.specs.Tables.{IsTable}
use Rattle.step_core.proofs.BlockData.{IsUnit, place_within, range_inside, unended}
use Rattle.step_core.proofs.Blocked.{done_now, is_equal, line_now}
use Rattle.step_core.proofs.ReadBytes.{cut_place, read_next, zeros_left}
use Rattle.rings.proofs.Tables.{IsTable-same}
use Rattle.rings.proofs.Tables.{IsTable-set}
use Rattle.step_core.proofs.Written.{written_now}

-- ---- what each operation finds

compared_no_read : (e : Bool) → is_read_found (cond e Found.Equal Found.Differs) ≡ false
compared_no_read true = refl
compared_no_read false = refl

pair_no_read : (l e : Bool) → is_read_found (cond l (cond e Found.Equal Found.Differs) Found.Written) ≡ false
pair_no_read true e = compared_no_read e
pair_no_read false e = refl

-- ---- the volume, and what a Read has read

module _ (c : ConfigNumbers) (past : Past) (t : ℕ) (g : GrantLine) (o : Op) (u : IsUnit c past t g o)
    (h : IsLegal c past) where
  -- of the volume, one block is as the ticket writes it
  pub volume_now : (v : List (List ℕ)) → IsTable (medium past) c.blocks v
      → IsTable (medium (Entry.Block (line_now past t g o) ∷ past)) c.blocks
      (volume_with (progress_of past t g.unit o g.range) v (block_at (job_at c past t).write 0)
      (done_now past t g o).found)
  unfolding job_by
  volume_now v table = go (is_written f) refl
    where
      p : UnitProgress
      p = progress_of past t g.unit o g.range

      f : Found
      f = (done_now past t g o).found

      w : List ℕ
      w = block_at (still_written c (standing past t)) 0

      lies : next_block p < c.blocks
      lies = omega (arith, range_inside c past t h g o u, place_within c past t h g o u)

      value : is_written f ≡ true
          → written_by o w ≡ cond (is_written f && (next_block p == next_block p))
          (write_data (ticket past t) (next_block p)) (medium past (next_block p))
      value e =
          written_now c past t h g o u (is_equal past t g o) e
          ∙ (λ z. cond (sym e z && sym (eq-eqb (next_block p) (next_block p) refl) z)
          (write_data (ticket past t) (next_block p)) (medium past (next_block p)))

      go : (b : Bool) → is_written f ≡ b
          → IsTable (medium (Entry.Block (line_now past t g o) ∷ past)) c.blocks
          (cond b (set v (next_block p) (written_by o w)) v)
      go true e =
          IsTable-set (medium past) (medium (Entry.Block (line_now past t g o) ∷ past)) c.blocks (next_block p) v
          (written_by o w) table lies (value e)
          (λ i ne. ap (λ b. cond b (write_data (ticket past t) i) (medium past i))
          (and_right (is_written f) (next_block p == i) (ne_eqb (next_block p) i (λ q. ne (sym q)))))
      go false e =
          IsTable-same (medium past) (medium (Entry.Block (line_now past t g o) ∷ past)) c.blocks v table
          (λ i. ap (λ b. cond (b && (next_block p == i)) (write_data (ticket past t) i) (medium past i)) e)

  -- a Read has read up to its next block
  read_so_far : o ≡ Op.Read
      → (length (bytes_read past t) ≡ 512
      * (g.range.slba - slba (first_fields (ticket past t)) + length (blocks_made past t g.unit)))
      × (length (blocks_made past t g.unit) < g.range.blocks)
  read_so_far e =
      let known : t ≤ tickets past = subst (λ (i : ℕ). i ≤ tickets past) u.own u.facts.facts.known in
      let k : Ticket = ticket past t in
      let s : ℕ = slba (first_fields k) in
      let us : List Range = units c k in
      let made : ℕ = length (blocks_made past t g.unit) in
      let does : op k ≡ Some Op.Read = u.does ∙ ap Some e in
      let cut : us ≡ units_by c.atomic (Some Op.Read) s (block_count (first_fields k)) =
      ap (λ (w : Option Op). units_by c.atomic w s (block_count (first_fields k))) does in
      let starts : g.range.slba ≡ s + blocks_of_all (take g.unit us) =
      cut_place c.atomic (units_by c.atomic (Some Op.Read) s (block_count (first_fields k))) s
      (block_count (first_fields k))
      g.unit g.range (cut-is c.atomic s (block_count (first_fields k)))
      (ap (λ (rs : List Range). slice_get rs g.unit) (sym cut) ∙ u.place)
      ∙ ap (λ (rs : List Range). s + blocks_of_all (take g.unit rs)) (sym cut) in
      let one : blocks_of_all (take (g.unit + 1) us) ≡ blocks_of_all (take g.unit us) + g.range.blocks =
      take_one_more g.unit g.range us u.place in
      let count : grants_of past t ≡ g.unit + 1 = omega (arith, u.last) in
      let open_now : rest_of (open_unit past t) ≡ g.range.blocks - length (blocks_made past g.ticket g.unit) =
      ap (λ (x : Option GrantLine). rest_of (option_map (unit_of past) x)) u.found in
      let same : length (blocks_made past g.ticket g.unit) ≡ made =
      ap (λ (i : ℕ). length (blocks_made past i g.unit)) u.own in
      let below : made < g.range.blocks =
      subst (λ (x : Op). made < needed x g.range.blocks) e
      (leb-false (needed o g.range.blocks) made (or_parts _ _ (unended c past t h g o u)).0) in
      let so_far : blocks_of past t + rest_of (open_unit past t) ≡ blocks_of_all (take (grants_of past t) us) =
      read_placed c past t h known does in
      let most : blocks_of_all (take (grants_of past t) us) ≡ blocks_of_all (take g.unit us) + g.range.blocks =
      ap (λ (i : ℕ). blocks_of_all (take i us)) count ∙ one in
      (read_length c past t h does ∙ omega (arith, starts, so_far, most, open_now, same, below), below)

  -- what is kept of it has the next block behind that
  pub read_now : (v : List (List ℕ)) → IsTable (medium past) c.blocks v
      → read_of (job_at c past t).read (job_at c past t).slba (progress_of past t g.unit o g.range) v
      (done_now past t g o).found
      ≡ read_bytes_by (op (ticket past t)) (ticket past t)
      (bytes_read past t ++ cond (is_read_found (done_now past t g o).found)
      (medium past (next_block (progress_of past t g.unit o g.range))) [])
  unfolding job_by
  read_now v table =
      ap (λ (w : Option Op). kept_of (read_bytes_by w k so_far) (done_now past t g o).found) u.does
      ∙ by o refl
      ∙ ap (λ (w : Option Op).
      read_bytes_by w k (so_far ++ cond (is_read_found (done_now past t g o).found) (medium past l) []))
      (sym u.does)
    where
      k : Ticket
      k = ticket past t

      s : ℕ
      s = slba (first_fields k)

      made : ℕ
      made = length (blocks_made past t g.unit)

      l : ℕ
      l = next_block (progress_of past t g.unit o g.range)

      so_far : List ℕ
      so_far = bytes_read past t

      -- these bytes after a Block that found this
      kept_of : List ℕ → Found → List ℕ
      kept_of bytes f = cond (is_read_found f)
          (with_part bytes s g.range
          (cond (is_read_found f) (put_at (part_of bytes s g.range) (made % g.range.blocks) (block_at v l))
          (part_of bytes s g.range))) bytes

      lies : l < c.blocks
      lies = omega (arith, range_inside c past t h g o u, place_within c past t h g o u)

      by : (x : Op) → o ≡ x → kept_of (read_bytes_by (Some x) k so_far)
          (found_by x g.range.blocks made (is_equal past t g o))
          ≡ read_bytes_by (Some x) k
          (so_far ++ cond (is_read_found (found_by x g.range.blocks made (is_equal past t g o))) (medium past l) [])
      by Op.Read e =
          let place = read_so_far e in
          ap (λ (xs : List ℕ). with_part (whole so_far) s g.range
          (put_at (part_of (whole so_far) s g.range) (made % g.range.blocks) xs)) (table.at l zeros lies)
          ∙ read_next so_far (zeros_of so_far) (zeros_of (so_far ++ medium past l)) (medium past l) s g.range made
          place.1 place.0 (zeros_left so_far (medium past l) (512 * block_count (first_fields k)) 512
          (medium_length c past l h))
        where
          zeros_of : List ℕ → List ℕ
          zeros_of xs = replicate (512 * block_count (first_fields k) - length xs) 0

          whole : List ℕ → List ℕ
          whole xs = xs ++ zeros_of xs
      by Op.Compare e = ap (λ b.
          cond b (with_part [] s g.range
          (cond b (put_at (part_of [] s g.range) (made % g.range.blocks) (block_at v l)) (part_of [] s g.range))) [])
          (compared_no_read (is_equal past t g o))
      by Op.Write e = refl
      by Op.WriteZeroes e = refl
      by Op.Pair e = ap (λ b. cond b
          (with_part [] s g.range (cond b (put_at (part_of [] s g.range) (made % g.range.blocks) (block_at v l))
          (part_of [] s g.range))) []) (pair_no_read (nat_lt made g.range.blocks) (is_equal past t g o))
