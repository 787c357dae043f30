use Rattle.std.proofs.Common.{drop, length, ◌++◌, ◌+◌, ◌-◌, ◌≡◌, ◌≤◌}
use Rattle.nvme_model.specs.Slots.{in_area, swaps_in}
use Rattle.host_laws.specs.Rules.{takeovers_within}
use Rattle.host_laws.specs.Takeovers.{takeovers_in}
use Rattle.slot_check.proofs.moves.moves_in_area.Given as goal

abbrev pub invariant-loop-place : goal.invariant-loop-place
invariant-loop-place l =
    record {
      within : l.place ≤ length l.batch;
      swaps : l.swaps.items ++ in_area l.slots (swaps_in l.queue (l.first + l.place) (drop l.place l.batch))
          ≡ in_area l.slots (swaps_in l.queue l.first l.batch);
      takeovers : l.takeovers.items
          ++ takeovers_within l.slots (takeovers_in l.queue (l.first + l.place) (drop l.place l.batch))
          ≡ takeovers_within l.slots (takeovers_in l.queue l.first l.batch);
    }

abbrev pub decreases-loop-place : goal.decreases-loop-place
decreases-loop-place l = length l.batch - l.place
