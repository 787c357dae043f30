use Rattle.std.proofs.Common.{◌≡◌, ◌≤◌, bytes_eq, map, vec_capacity, vec_len}
use Rattle.nvme_model.specs.Array.{blocks_from}
use Rattle.nvme_model.specs.Operations.{compare_data}
use Rattle.history_check.specs.Contents.{contents_in}
use Rattle.history_check.proofs.unit.answers_at.Given as goal

abbrev pub invariant-loop-place : goal.invariant-loop-place
invariant-loop-place l = record {
  items : l.answers.items ≡ map (λ b. bytes_eq (contents_in l.volume b) (compare_data l.ticket b))
      (blocks_from l.range.slba l.place);
  count : vec_len l.answers ≡ l.place;
  room : l.range.blocks ≤ vec_capacity l.answers;
}
