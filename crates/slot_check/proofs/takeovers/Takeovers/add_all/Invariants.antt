use Rattle.std.proofs.Common.{◌≡◌, ◌≤◌, drop, length, ℕ}
use Rattle.std.specs.HashMap.{spare}
use Rattle.nvme_model.specs.Slots.{Name}
use Rattle.slot_check.specs.Names.{names_in}
use Rattle.slot_check.specs.Takeovers.{begun_by, cut_by, takeovers_kept}
use Rattle.slot_check.proofs.takeovers.Takeovers.add_all.Given as goal

abbrev pub invariant-loop-left : goal.invariant-loop-left
invariant-loop-left l =
    record {
      within : l.left ≤ length l.takeovers;
      begun_room : l.left ≤ spare l.self.begun;
      cut_room : l.left ≤ spare l.self.cut;
      begun : (q j : ℕ) → (takeovers_kept l.self).begun q j
          ≡ begun_by (drop l.left l.takeovers) (takeovers_kept l.fn.self).begun q j;
      taken : (i : ℕ) (n : Name) → (takeovers_kept l.self).taken i n ≡ (takeovers_kept l.fn.self).taken i n;
      cut : (q : ℕ) → (takeovers_kept l.self).cut q
          ≡ cut_by l.config (names_in l.names) (drop l.left l.takeovers) (takeovers_kept l.fn.self).cut q;
    }

abbrev pub decreases-loop-left : goal.decreases-loop-left
decreases-loop-left l = l.left
