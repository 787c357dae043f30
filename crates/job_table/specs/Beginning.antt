-- The data of a ticket that begins, out of the entries that wait.
use Rattle.std.specs.Prelude.{List, [], get_or, length, replicate, ℕ, ◌*◌, ◌<◌, ◌≤◌}
use Rattle.nvme_model.specs.declared.operation.Op.{Op}
use Rattle.nvme_model.specs.declared.submission.Submission.{Submission}
use Rattle.fused_match.specs.declared.judged.Judged.{Judged}
use Rattle.fused_match.specs.declared.judged.Judged.TheVariants as judged
use Rattle.block_exec.specs.Bytes.{first_blocks}

-- zeros for what a Read will read
abbrev pub read_first : Judged → List ℕ
read_first (judged.Single Op.Read r) = replicate (512 * r.blocks) 0
read_first _ = []

-- the data beside the i-th of these entries
abbrev pub payload_at : List Submission → ℕ → List ℕ
payload_at ws i = (get_or ws i (record { entry = []; payload = [] })).payload

-- the blocks that a ticket writes from its data, where these entries wait
abbrev pub write_first : Judged → List Submission → List (List ℕ)
write_first (judged.Single Op.Write r) ws = first_blocks r.blocks (payload_at ws 0)
write_first (judged.Pair r) ws = first_blocks r.blocks (payload_at ws 1)
write_first _ ws = []

-- and they have them
abbrev pub HasBlocks : Judged → List Submission → Type 0
HasBlocks (judged.Single Op.Write r) ws = (0 < length ws) × (512 * r.blocks ≤ length (payload_at ws 0))
HasBlocks (judged.Pair r) ws = (1 < length ws) × (512 * r.blocks ≤ length (payload_at ws 1))
HasBlocks _ ws = Unit {0}
