-- What is kept of a ticket in flight, and what a Block makes of it.
use Rattle.std.specs.Prelude.{Bool, List, drop, if◌then◌else◌, length, true, ℕ, ◌+◌, ◌<◌, ◌≡◌, ◌≤◌}
use Rattle.nvme_model.specs.Open.{is_read_found}
use Rattle.nvme_model.specs.declared.array.Range.{Range}
use Rattle.nvme_model.specs.declared.operation.Found.{Found}
use Rattle.nvme_model.specs.declared.operation.Op.{Op}
use Rattle.block_exec.specs.Bytes.{compare_length, needs_box, next_equal, read_after, takes_box}
use Rattle.block_exec.specs.Progress.{UnitProgress}
use Rattle.job_table.specs.Stages.{Ticking, noted_in, opened_in, posted_in}
use Rattle.job_table.specs.Parts.{HasPart, part_end, part_of, with_part}

-- a ticket: its queue, how far it has come, and its data, which is for the blocks from `slba` on: what it compares
-- with, the blocks that it still writes, and what it reads
pub record Keeping : Type 0 where
  pub queue : ℕ
  pub progress : Ticking
  pub slba : ℕ
  pub compare : List ℕ
  pub write : List (List ℕ)
  pub read : List ℕ

-- with this unit opened
abbrev pub opened_job : Keeping → Range → Keeping
opened_job j r = record j { progress = record j.progress { stage = opened_in j.progress.stage r } }

-- with its next completion posted
abbrev pub posted_job : Keeping → Keeping
posted_job j = record j { progress = posted_in j.progress }

-- the next Block of this unit of the ticket can be made
pub record CanMake (j : Keeping) (p : UnitProgress) (v : List (List ℕ)) : Type 0 where
  pub within : p.range.slba + p.range.blocks ≤ length v
  pub start : j.slba ≤ p.range.slba
  pub has_compare : HasPart j.compare j.slba p.range
  pub compare : length (part_of j.compare j.slba p.range) ≡ compare_length p.op p.range.blocks
  pub write : needs_box p ≡ true → 0 < length j.write
  pub read : p.op ≡ Op.Read → part_end j.slba p.range ≤ length j.read

-- whether the block that is due is the Compare's data
abbrev pub finds_equal : Keeping → UnitProgress → List (List ℕ) → Bool
finds_equal j p v = next_equal p v (part_of j.compare j.slba p.range)

-- what is read so far of the blocks from s on, after a Block that found this
abbrev pub read_of : List ℕ → ℕ → UnitProgress → List (List ℕ) → Found → List ℕ
read_of bytes s p v f =
    if is_read_found f then with_part bytes s p.range (read_after p v (part_of bytes s p.range) f) else bytes

-- what is still to be written, after it
abbrev pub written_on : Op → Found → List (List ℕ) → List (List ℕ)
written_on o f blocks = if takes_box o f then drop 1 blocks else blocks

-- the ticket after a Block that found this
abbrev pub noted_job : Keeping → UnitProgress → List (List ℕ) → Found → Keeping
noted_job j p v f =
    record j {
      progress = record j.progress { stage = noted_in j.progress.stage f };
      write = written_on p.op f j.write;
      read = read_of j.read j.slba p v f;
    }
