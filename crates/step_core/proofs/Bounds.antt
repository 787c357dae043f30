-- Where the blocks of a ticket lie, and how many units they make.
use Rattle.std.proofs.Common.{◌≡◌, ℕ, ◌+◌, ◌≤◌, Bool, true, false, cond, Some, None, is_some, arith}
use Rattle.std.proofs.Common.{slice_get}
use Rattle.std.proofs.lemmas.List.Sums.{sum_by-take-drop}
use Rattle.nvme_model.specs.declared.array.Range.{Range}
use Rattle.nvme_model.specs.declared.config.ConfigNumbers.{ConfigNumbers}
use Rattle.nvme_model.specs.Config.{config_fault}
use Rattle.nvme_model.specs.EntryBytes.{block_count, slba}
use Rattle.nvme_model.specs.History.{Past}
use Rattle.nvme_model.specs.Legal.{IsLegal}
use Rattle.nvme_model.specs.Operations.{op, units}
use Rattle.ticket_laws.specs.Standing.{Standing, had, blocks_left, remaining, standing}
use Rattle.nvme_model.specs.Tickets.{first_fields, ticket}
use Rattle.nvme_model.proofs.Checked.{ticket_checked}
use Rattle.nvme_model.proofs.Granted.{units_some}
use Rattle.ticket_laws.proofs.Lengths.{units_lie}
use Rattle.nvme_model.proofs.Lists.{each_get}
use Rattle.nvme_model.specs.Array.{IsRange}
use Rattle.nvme_model.proofs.Accepted.{accepted}
use Rattle.ticket_laws.proofs.Bounds.{units_sum}

-- ---- the blocks of a list of units

-- what was opened and what wasn't are no more than the command's blocks
pub had_remaining : (c : ConfigNumbers) (s : Standing) → had c s + remaining c s ≤ block_count (first_fields s.ticket)
had_remaining c s =
    omega (
      arith,
      sum_by-take-drop (λ (x : Range). x.blocks) (units c s.ticket) s.opened,
      units_sum c.atomic (op s.ticket) (slba (first_fields s.ticket)) (block_count (first_fields s.ticket)),
    )

left_few : (c : ConfigNumbers) (s : Standing) → (blocks_left c s).blocks ≤ remaining c s
left_few c s = go s.differs
  where
    go : (b : Bool) → cond b 0 (remaining c s) ≤ remaining c s
    go true = omega arith
    go false = omega arith

-- ---- of a ticket that works on blocks

module _ (c : ConfigNumbers) (past : Past) (t : ℕ) (h : IsLegal c past) (f : config_fault c ≡ None)
    (some : is_some (op (ticket past t)) ≡ true) where
  -- its command's blocks lie in a volume
  pub command_within : slba (first_fields (ticket past t)) + block_count (first_fields (ticket past t)) ≤ 65536
  command_within = omega (arith, (ticket_checked c past t h some).first.inside, (accepted c f).most_blocks)

  -- those that are left are few
  pub left_short : (blocks_left c (standing past t)).blocks ≤ 256
  left_short = omega (
    arith,
    had_remaining c (standing past t),
    left_few c (standing past t),
    (ticket_checked c past t h some).first.few,
  )

  -- each of its units is a range of blocks
  pub unit_range_is : (n : ℕ) (r : Range) → slice_get (units c (ticket past t)) n ≡ Some r → IsRange r
  unit_range_is n r e =
      let k = ticket past t in
      let one : 1 ≤ block_count (first_fields k) = omega arith in
      let least = each_get _ (units c k) n r
      (units_some c.atomic (op k) (slba (first_fields k)) (block_count (first_fields k)) one) e in
      let lies = each_get _ (units c k) n r
      (units_lie c.atomic (op k) (slba (first_fields k)) (block_count (first_fields k))) e in
      (least, omega (arith, lies.high, command_within))
