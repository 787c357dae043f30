-- What is kept of the tickets in flight of a history.
use Rattle.std.specs.Prelude.{List, None, Option, Some, [], drop, if◌then◌else◌, length, replicate, ℕ, ◌*◌, ◌++◌, ◌-◌}
use Rattle.nvme_model.specs.EntryBytes.{block_count, slba}
use Rattle.nvme_model.specs.History.{Past}
use Rattle.nvme_model.specs.Operations.{has_compare, op}
use Rattle.nvme_model.specs.Tickets.{Ticket, cids, command, first_fields}
use Rattle.nvme_model.specs.declared.config.ConfigNumbers.{ConfigNumbers}
use Rattle.nvme_model.specs.declared.operation.Op.{Op}
use Rattle.nvme_model.specs.declared.submission.Submission.{Submission}
use Rattle.ticket_laws.specs.Standing.{OpenUnit, Standing, flying, had, standing}
use Rattle.block_exec.specs.Bytes.{first_blocks}
use Rattle.job_table.specs.Shown.{standing_stage}
use Rattle.job_table.specs.Jobs.{JobTable, jobs_by}
use Rattle.job_table.specs.Keeping.{Keeping}

-- the Compare's data, by the operation
abbrev pub compare_by : Option Op → Submission → List ℕ
compare_by o first = if has_compare o then first.payload else []

-- that of a ticket
abbrev pub compare_bytes : Ticket → List ℕ
compare_bytes k = compare_by (op k) (command k 0)

-- the blocks that it writes from its data, by the operation
abbrev pub write_blocks_by : Option Op → Ticket → List (List ℕ)
write_blocks_by (Some Op.Write) k = first_blocks (block_count (first_fields k)) (command k 0).payload
write_blocks_by (Some Op.Pair) k = first_blocks (block_count (first_fields k)) (command k 1).payload
write_blocks_by _ k = []

abbrev pub write_blocks : Ticket → List (List ℕ)
write_blocks k = write_blocks_by (op k) k

-- how many blocks of the open unit aren't made yet
abbrev pub left_in : Option OpenUnit → ℕ
left_in None = 0
left_in (Some u) = u.line.range.blocks - u.made

-- how many blocks a pair has written: none before all are compared
abbrev pub pair_written : ConfigNumbers → Standing → Option OpenUnit → ℕ
pair_written c s None = if s.differs then 0 else had c s
pair_written c s (Some u) = u.made - u.line.range.blocks

-- how many a ticket that stands so has written from its data
abbrev pub written_so_far : ConfigNumbers → Standing → Option Op → ℕ
written_so_far c s (Some Op.Write) = had c s - left_in s.unit
written_so_far c s (Some Op.Pair) = pair_written c s s.unit
written_so_far c s _ = 0

-- those that it still writes
abbrev pub still_written : ConfigNumbers → Standing → List (List ℕ)
still_written c s = drop (written_so_far c s (op s.ticket)) (write_blocks s.ticket)

-- what a Read has read so far, and zeros for the rest
abbrev pub read_bytes_by : Option Op → Ticket → List ℕ → List ℕ
read_bytes_by (Some Op.Read) k read = read ++ replicate (512 * block_count (first_fields k) - length read) 0
read_bytes_by _ k read = []

-- what is kept of a ticket that stands so
unfoldable pub job_by : ConfigNumbers → Standing → Keeping
job_by c s =
    record {
      queue = s.ticket.queue;
      progress = record { stage = standing_stage c s; cids = drop s.posts (cids s.ticket) };
      slba = slba (first_fields s.ticket);
      compare = compare_bytes s.ticket;
      write = still_written c s;
      read = read_bytes_by (op s.ticket) s.ticket s.read;
    }

-- of ticket t
abbrev pub job_at : ConfigNumbers → Past → ℕ → Keeping
job_at c past t = job_by c (standing past t)

-- all tickets in flight
abbrev pub job_table : ConfigNumbers → Past → JobTable
job_table c past = record { limit = c.jobs; jobs = jobs_by (job_at c past) (flying past) }
