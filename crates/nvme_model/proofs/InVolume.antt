-- Each granted unit lies in the volume.
use Rattle.std.proofs.Common.{◌≡◌, ℕ, zero, suc, ◌+◌, ◌-◌, ◌≤◌, true, Option, Some, None, is_some, arith, slice_get}
use Rattle.nvme_model.specs.declared.config.AtomicParameters.{AtomicParameters}
use Rattle.nvme_model.specs.declared.config.ConfigNumbers.{ConfigNumbers}
use Rattle.nvme_model.specs.Cut.{cut_within, longest}
use Rattle.nvme_model.specs.EntryBytes.{slba, block_count}
use Rattle.nvme_model.specs.History.{Past}
use Rattle.nvme_model.specs.Tickets
use Rattle.nvme_model.specs.Tickets.{Ticket, first_fields, fetched_ticket, cids_in_use}
use Rattle.nvme_model.specs.Operations.{op, units, units_by}
use Rattle.nvme_model.specs.Open.{granted}
use Rattle.nvme_model.specs.Legal.{IsLegal}
use Rattle.nvme_model.specs.declared.operation.Op.{Op}
use Rattle.nvme_model.specs.declared.entry.GrantLine.{GrantLine}
use Rattle.nvme_model.proofs.Lists.{Each, each_map, each_both, each_get}
use Rattle.nvme_model.proofs.Cut.{longest_facts}
use Rattle.nvme_model.proofs.Ended.{granted_op}
use Rattle.nvme_model.proofs.Checked.{ticket_checked}
use Rattle.nvme_model.proofs.NextPost.{unit_at}

-- ---- the units of a range lie in it

cut_inside : (k : ℕ) (c : AtomicParameters) (s n : ℕ) → Each (λ r. r.slba + r.blocks ≤ s + n) (cut_within k c s n)
cut_inside k c s zero = tt
cut_inside zero c s (suc n) = tt
cut_inside (suc k) c s (suc n) =
    let m = longest c s (suc n) in
    let within : m ≤ suc n = (longest_facts c s n).within in (
      omega (arith, within),
      each_map (λ r. r.slba + r.blocks ≤ s + m + (suc n - m)) (λ r. r.slba + r.blocks ≤ s + suc n)
          (λ r l. omega (arith, l, within)) (cut_within k c (s + m) (suc n - m)) (cut_inside k c (s + m) (suc n - m)),
    )

units_inside : (c : AtomicParameters) (o : Option Op) (s n : ℕ)
    → Each (λ r. r.slba + r.blocks ≤ s + n) (units_by c o s n)
units_inside c None s n = tt
units_inside c (Some Op.Pair) s n = (omega arith, tt)
units_inside c (Some o) s n = cut_inside n c s n

-- ---- each granted unit

pub units_in_volume : (c : ConfigNumbers) (past : Past) → IsLegal c past
    → Each (λ g. g.range.slba + g.range.blocks ≤ c.blocks) (granted past)
units_in_volume c past h =
    each_map (λ g. (slice_get (units c (Tickets.ticket past g.ticket)) g.unit ≡ Some g.range)
    × (is_some (op (Tickets.ticket past g.ticket)) ≡ true)) (λ g. g.range.slba + g.range.blocks ≤ c.blocks)
    (λ g p. inside g p.0 (ticket_checked c past g.ticket h p.1).first.inside) (granted past)
    (each_both _ _ (granted past) (unit_at c past h) (granted_op c past h))
  where
    inside : (g : GrantLine) → slice_get (units c (Tickets.ticket past g.ticket)) g.unit ≡ Some g.range
        → slba (first_fields (Tickets.ticket past g.ticket)) + block_count
        (first_fields (Tickets.ticket past g.ticket))
        ≤ c.blocks → g.range.slba + g.range.blocks ≤ c.blocks
    inside g e l =
        let k = Tickets.ticket past g.ticket in
        omega (
          arith,
          l,
          each_get (λ r. r.slba + r.blocks ≤ slba (first_fields k) + block_count (first_fields k)) (units c k)
              g.unit g.range (units_inside c.atomic (op k) (slba (first_fields k)) (block_count (first_fields k))) e,
        )
