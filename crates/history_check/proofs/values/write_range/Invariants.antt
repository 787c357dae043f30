use Rattle.std.proofs.Common.{◌≡◌, ◌<◌, ℕ, length}
use Rattle.history_check.specs.Contents.{contents_in, written_in}
use Rattle.history_check.proofs.values.write_range.Given as goal

abbrev pub invariant-loop-place : goal.invariant-loop-place
invariant-loop-place l = record {
  size : length l.volume ≡ length l.fn.volume;
  value : (b : ℕ) → b < length l.fn.volume
      → contents_in l.volume b
      ≡ written_in (contents_in l.fn.volume) l.ticket (record { slba = l.range.slba; blocks = l.place }) b;
}
