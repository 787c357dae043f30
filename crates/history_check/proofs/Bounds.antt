-- Where the units of a ticket lie, and how many there are.
use Rattle.std.proofs.Common.{◌≡◌, ℕ, ◌+◌, ◌≤◌, true, List, [], ◌∷◌, length, Some, None, is_some}
use Rattle.std.proofs.Common.{arith, slice_get}
use Rattle.std.proofs.lemmas.List.Sums.{sum_by-cons}
use Rattle.nvme_model.specs.declared.array.Range.{Range}
use Rattle.nvme_model.specs.declared.config.ConfigNumbers.{ConfigNumbers}
use Rattle.nvme_model.specs.Config.{config_fault}
use Rattle.nvme_model.specs.EntryBytes.{block_count, slba}
use Rattle.nvme_model.specs.History.{Past}
use Rattle.nvme_model.specs.Legal.{IsLegal}
use Rattle.nvme_model.specs.Open.{grants_of}
use Rattle.nvme_model.specs.Operations.{op, units}
use Rattle.nvme_model.specs.Tickets.{first_fields, ticket}
use Rattle.nvme_model.proofs.Checked.{ticket_checked}
use Rattle.nvme_model.proofs.Granted.{units_some}
use Rattle.ticket_laws.proofs.Left.{blocks_of_all}
use Rattle.ticket_laws.proofs.Lengths.{units_lie}
use Rattle.nvme_model.proofs.Lists.{Each, each_get}
use Rattle.nvme_model.proofs.StepCounts.{grants_within}
use Rattle.nvme_model.specs.Array.{IsRange}
use Rattle.nvme_model.proofs.Accepted.{accepted}
use Rattle.nvme_model.proofs.UnitsWork.{units_of_op}
use Rattle.ticket_laws.proofs.Bounds.{units_sum}

-- ---- the blocks of a list of units

few_units : (rs : List Range) → Each (λ r. 1 ≤ r.blocks) rs → length rs ≤ blocks_of_all rs
few_units [] e = omega arith
few_units (r ∷ rs) e = omega (arith, few_units rs e.1, e.0, sum_by-cons (λ (x : Range). x.blocks) r rs)

pub has_op : (c : ConfigNumbers) (past : Past) (t i : ℕ) (r : Range) → slice_get (units c (ticket past t)) i ≡ Some r
    → is_some (op (ticket past t)) ≡ true
has_op c past t i r e = units_of_op c.atomic (op (ticket past t)) (slba (first_fields (ticket past t)))
    (block_count (first_fields (ticket past t))) i r e

-- ---- of a ticket that works on blocks

module _ (c : ConfigNumbers) (past : Past) (t : ℕ) (h : IsLegal c past) (f : config_fault c ≡ None)
    (some : is_some (op (ticket past t)) ≡ true) where
  -- its command's blocks lie in a volume
  pub command_within : slba (first_fields (ticket past t)) + block_count (first_fields (ticket past t)) ≤ 65536
  command_within = omega (arith, (ticket_checked c past t h some).first.inside, (accepted c f).most_blocks)

  -- and are few
  pub command_few : block_count (first_fields (ticket past t)) ≤ 256
  command_few = (ticket_checked c past t h some).first.few

  -- it has few units
  pub opened_few : grants_of past t ≤ 256
  opened_few =
      let k = ticket past t in
      let rs = units c k in
      let one : 1 ≤ block_count (first_fields k) = omega arith in
      omega (
        arith,
        grants_within c past t h,
        few_units rs (units_some c.atomic (op k) (slba (first_fields k)) (block_count (first_fields k)) one),
        units_sum c.atomic (op k) (slba (first_fields k)) (block_count (first_fields k)),
        command_few,
      )

  -- each of them is a range of blocks
  pub unit_range_is : (n : ℕ) (r : Range) → slice_get (units c (ticket past t)) n ≡ Some r → IsRange r
  unit_range_is n r e =
      let k = ticket past t in
      let one : 1 ≤ block_count (first_fields k) = omega arith in
      let least = each_get _ (units c k) n r
      (units_some c.atomic (op k) (slba (first_fields k)) (block_count (first_fields k)) one) e in
      let lies = each_get _ (units c k) n r
      (units_lie c.atomic (op k) (slba (first_fields k)) (block_count (first_fields k))) e in
      (least, omega (arith, lies.high, command_within))
