use Rattle.std.proofs.Common.{take}
use mathlib.Core.List.{reverse}
use Rattle.nvme_model.specs.Legal.{IsLegal}
use Rattle.history_check.specs.Kept.{Stands}
use Rattle.history_check.proofs.checking.check.Given as goal

abbrev pub invariant-loop-place : goal.invariant-loop-place
invariant-loop-place l = record {
  stands : Stands l.config (reverse (take l.place l.entries)) l.checker;
  legal : IsLegal l.config (reverse (take l.place l.entries));
}
