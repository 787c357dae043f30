-- Of each two neighbouring rows of each table one input that both hold of: the first of them gives the answer.
use Rattle.std.specs.Prelude.{[], Option, Some, length, refl, replicate, take, ℕ, ◌++◌, ◌∷◌, ◌≡◌}
use Rattle.nvme_model.specs.Config.{config_fault}
use Rattle.nvme_model.specs.EntryBytes.{two_bytes}
use Rattle.nvme_model.specs.Examples.{default, fetch, one, pair_on_3, submit}
use Rattle.nvme_model.specs.History.{Past}
use Rattle.nvme_model.specs.Refusals.{refusal}
use Rattle.nvme_model.specs.Statuses.{cid_conflict, data_transfer_error, failed_fused, invalid_field, invalid_namespace}
use Rattle.nvme_model.specs.Statuses.{invalid_opcode, out_of_range, unit_exceeded}
use Rattle.nvme_model.specs.Steps.{run}
use Rattle.nvme_model.specs.declared.config.ConfigFault.{ConfigFault}
use Rattle.nvme_model.specs.declared.entry.Entry.{Entry}
use Rattle.nvme_model.specs.declared.refusal.Why.{Why}
use Rattle.nvme_model.specs.declared.status.Status.{Status}
use Rattle.nvme_model.specs.declared.status.Verdict.{Verdict}
use Rattle.nvme_model.specs.declared.step.Step.{Step}
use Rattle.nvme_model.specs.declared.submission.Submission.{Submission}

-- an entry of any namespace, and of any number of blocks
abbrev raw : (opcode fuse cid nsid slba nlb : ℕ) → (length : ℕ) → Submission
raw opcode fuse cid nsid slba nlb length =
    record {
      entry = opcode ∷ fuse ∷ (two_bytes cid
          ++ (nsid ∷ 0 ∷ 0 ∷ 0 ∷ (replicate 32 0 ++ (slba ∷ replicate 7 0 ++ (two_bytes nlb ++ replicate 14 0)))));
      payload = replicate length 0xa1;
    }

-- ---- checks of one command, on a queue where CID 1 is in use

-- what the newest entry of queue 1 is, where a Write with CID 1 was fetched before
abbrev after_cid_1 : Submission → Past
after_cid_1 s =
    take 1 (run default [] (Step.Publish 1 (submit 1 0 1 0 0 (one 0xa1) ∷ []) ∷ Step.Fetch 1 ∷ Step.Publish 1 (s ∷ [])
    ∷ Step.Fetch 1 ∷ []))

abbrev failed_with : Status → Past
failed_with s = fetch 1 2 (Verdict.SingleFailed s) ∷ []

-- an unknown opcode, and FUSE 11b
pub opcode_before_field : after_cid_1 (raw 3 3 2 1 0 0 512) ≡ failed_with invalid_opcode
opcode_before_field = refl

-- FUSE 11b, and a CID in use
pub field_before_cid : after_cid_1 (raw 1 3 1 1 0 0 512) ≡ failed_with invalid_field
field_before_cid = refl

-- a CID in use, and namespace 2
pub cid_before_namespace : after_cid_1 (raw 1 0 1 2 0 0 512) ≡ failed_with cid_conflict
cid_before_namespace = refl

-- namespace 2, and 257 blocks
pub namespace_before_length : after_cid_1 (raw 1 0 2 2 0 256 512) ≡ failed_with invalid_namespace
namespace_before_length = refl

-- 257 blocks, which are past the end too
pub length_before_end : after_cid_1 (raw 1 0 2 1 0 256 512) ≡ failed_with invalid_field
length_before_end = refl

-- a block past the end, and no data
pub end_before_data : after_cid_1 (raw 1 0 2 1 8 0 0) ≡ failed_with out_of_range
end_before_data = refl

-- ---- checks of a pair

abbrev pair_fetched : Submission → Submission → Past
pair_fetched first second = take 1 (run default [] (Step.Publish 1 (first ∷ second ∷ []) ∷ Step.Fetch 1 ∷ []))

abbrev pair_failed_with : Status → Status → Past
pair_failed_with s r = fetch 1 1 (Verdict.PairFailed s r) ∷ []

-- two Writes with one CID
pub operations_before_cids : pair_fetched (raw 1 1 7 1 3 0 512) (raw 1 2 7 1 3 0 512)
    ≡ pair_failed_with invalid_field invalid_field
operations_before_cids = refl

-- one CID, and the first has no data
pub cids_before_first : pair_fetched (raw 5 1 7 1 3 0 0) (raw 1 2 7 1 3 0 512)
    ≡ pair_failed_with cid_conflict cid_conflict
cids_before_first = refl

-- neither has data
pub first_before_second : pair_fetched (raw 5 1 7 1 3 0 0) (raw 1 2 8 1 3 0 0)
    ≡ pair_failed_with data_transfer_error failed_fused
first_before_second = refl

-- the second is past the end, and so on another block than the first
pub second_before_ranges : pair_fetched (raw 5 1 7 1 3 0 512) (raw 1 2 8 1 8 0 512)
    ≡ pair_failed_with failed_fused out_of_range
second_before_ranges = refl

-- three blocks each, where two may be fused, and not the same three
pub ranges_before_unit : pair_fetched (raw 5 1 7 1 0 2 1536) (raw 1 2 8 1 1 2 1536)
    ≡ pair_failed_with invalid_field invalid_field
ranges_before_unit = refl

-- three blocks, which differ from the Compare's data
pub unit_before_difference : pair_fetched (raw 5 1 7 1 0 2 1536) (raw 1 2 8 1 0 2 1536)
    ≡ pair_failed_with unit_exceeded unit_exceeded
unit_before_difference = refl

-- ---- the CIDs of a pair between its two Posts

-- a pair with CIDs 7 and 8 of which the first is posted, and then Writes with these CIDs
abbrev half_posted : Past
half_posted =
    run default []
    (Step.Publish 1 (pair_on_3 7 8 0 0xa1) ∷ Step.Fetch 1 ∷ Step.Grant 1 ∷ Step.Block 1 ∷ Step.Block 1 ∷ Step.Post 1
    ∷ Step.Publish 1 (submit 1 0 7 0 0 (one 0xa1) ∷ submit 1 0 8 1 0 (one 0xa1) ∷ []) ∷ [])

pub posted_cid_is_free : take 1 (run default half_posted (Step.Fetch 1 ∷ [])) ≡ fetch 1 2 Verdict.Single ∷ []
posted_cid_is_free = refl

pub unposted_cid_is_not : take 1 (run default half_posted (Step.Fetch 1 ∷ Step.Fetch 1 ∷ []))
    ≡ fetch 1 3 (Verdict.SingleFailed cid_conflict) ∷ []
unposted_cid_is_not = refl

-- ---- refusals

-- nothing to a queue that isn't there
pub queue_before_batch : refusal default [] (Step.Publish 3 []) ≡ Some Why.NoQueue
queue_before_batch = refl

-- a ring of two slots, and three entries in it: no run comes here, since a batch that has entries is refused before
abbrev overfull : Past
overfull =
    Entry.Publish (record { queue = 1; batch = submit 0 0 1 0 0 [] ∷ submit 0 0 2 0 0 [] ∷ submit 0 0 3 0 0 [] ∷ [] })
    ∷ []

pub batch_before_room : refusal (record default { sq_size = 2 }) overfull (Step.Publish 1 []) ≡ Some Why.BadBatch
batch_before_room = refl

pub queue_before_entry : refusal default [] (Step.Fetch 3) ≡ Some Why.NoQueue
queue_before_entry = refl

-- the one ticket that may be in flight, and nothing that waits
pub entry_before_jobs : refusal (record default { jobs = 1 })
    (run default [] (Step.Publish 1 (submit 0 0 1 0 0 [] ∷ []) ∷ Step.Fetch 1 ∷ [])) (Step.Fetch 1) ≡ Some Why.NoEntry
entry_before_jobs = refl

-- a Write of two units whose first is open, and whose second lies in the open unit of another Write
abbrev between : Past
between =
    run default []
    (Step.Publish 1 (raw 1 0 1 1 0 3 2048 ∷ raw 1 0 2 1 2 1 1024 ∷ []) ∷ Step.Fetch 1 ∷ Step.Fetch 1 ∷ Step.Grant 1
    ∷ Step.Grant 2 ∷ [])

pub both_are_open : length between ≡ 5
both_are_open = refl

pub unit_before_conflict : refusal default between (Step.Grant 1) ≡ Some Why.WrongState
unit_before_conflict = refl

pub ticket_before_block : refusal default [] (Step.Block 1) ≡ Some Why.NoTicket
ticket_before_block = refl

-- A ticket that isn't in flight owes no completion, so the first two rows of a Post hold of no ticket at once. Here a
-- completion that isn't reaped fills
-- the queue, and a Write has no unit yet.
abbrev one_posted : Past
one_posted =
    run (record default { cq_size = 2 }) []
    (Step.Publish 1 (submit 0 0 1 0 0 [] ∷ submit 1 0 2 0 0 (one 0xa1) ∷ []) ∷ Step.Fetch 1 ∷ Step.Fetch 1 ∷ Step.Post 1
    ∷ [])

pub nothing_owed_before_full : refusal (record default { cq_size = 2 }) one_posted (Step.Post 2) ≡ Some Why.WrongState
nothing_owed_before_full = refl

pub queue_before_completion : refusal default [] (Step.Reap 3) ≡ Some Why.NoQueue
queue_before_completion = refl

-- ---- configurations

-- blocks, the four numbers of the cut, queues, slots, tickets, completion queues
abbrev fault_of : (blocks awun acwu nabsn nabo pairs sq cq jobs cqs : ℕ) → Option ConfigFault
fault_of blocks awun acwu nabsn nabo pairs sq cq jobs cqs =
    config_fault (record {
      blocks = blocks;
      atomic = record { awun = awun; acwu = acwu; nabsn = nabsn; nabo = nabo };
      pairs = pairs;
      sq_size = sq;
      cq_size = cq;
      jobs = jobs;
      cqs = cqs;
    })

pub awun_before_acwu : fault_of 8 256 256 0 0 2 4 4 8 2 ≡ Some ConfigFault.AwunTooLarge
awun_before_acwu = refl

pub acwu_before_boundary : fault_of 8 1 256 3 0 2 4 4 8 2 ≡ Some ConfigFault.AcwuTooLarge
acwu_before_boundary = refl

pub boundary_before_offset : fault_of 8 3 1 1 2 2 4 4 8 2 ≡ Some ConfigFault.BoundaryBelowUnit
boundary_before_offset = refl

pub offset_before_blocks : fault_of 0 1 1 0 1 2 4 4 8 2 ≡ Some ConfigFault.OffsetPastBoundary
offset_before_blocks = refl

pub blocks_before_pairs : fault_of 0 1 1 0 0 0 4 4 8 2 ≡ Some ConfigFault.Blocks
blocks_before_pairs = refl

pub pairs_before_sq_size : fault_of 8 1 1 0 0 17 1 4 8 2 ≡ Some ConfigFault.Pairs
pairs_before_sq_size = refl

pub sq_size_before_cq_size : fault_of 8 1 1 0 0 2 1 1 8 2 ≡ Some ConfigFault.SqSize
sq_size_before_cq_size = refl

pub cq_size_before_jobs : fault_of 8 1 1 0 0 2 4 1025 0 2 ≡ Some ConfigFault.CqSize
cq_size_before_jobs = refl

pub jobs_before_cqs : fault_of 8 1 1 0 0 2 4 4 257 3 ≡ Some ConfigFault.Jobs
jobs_before_cqs = refl
