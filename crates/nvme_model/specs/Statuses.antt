-- The statuses of completions (Base 2.0, Status Code; NVM 1.0, Command Specific Status Values).
use Rattle.std.specs.Prelude.{Bool, ℕ, ◌&&◌, ◌==◌}
use Rattle.nvme_model.specs.declared.status.Status.{Status}

-- a status by its type and its code
abbrev pub status : ℕ → ℕ → Status
status sct sc = record { sct = sct; sc = sc }

-- Successful Completion (Base 2.0, Generic Command Status)
abbrev pub success : Status
success = status 0 0x00

-- Invalid Command Opcode (Base 2.0, Generic Command Status)
abbrev pub invalid_opcode : Status
invalid_opcode = status 0 0x01

-- Invalid Field in Command (Base 2.0, Generic Command Status)
abbrev pub invalid_field : Status
invalid_field = status 0 0x02

-- Command ID Conflict (Base 2.0, Generic Command Status)
abbrev pub cid_conflict : Status
cid_conflict = status 0 0x03

-- Data Transfer Error (Base 2.0, Generic Command Status)
abbrev pub data_transfer_error : Status
data_transfer_error = status 0 0x04

-- Command Aborted due to Failed Fused Command (Base 2.0, Generic Command Status)
abbrev pub failed_fused : Status
failed_fused = status 0 0x09

-- Command Aborted due to Missing Fused Command (Base 2.0, Generic Command Status)
abbrev pub missing_fused : Status
missing_fused = status 0 0x0a

-- Invalid Namespace or Format (Base 2.0, Generic Command Status)
abbrev pub invalid_namespace : Status
invalid_namespace = status 0 0x0b

-- Atomic Write Unit Exceeded (Base 2.0, Generic Command Status)
abbrev pub unit_exceeded : Status
unit_exceeded = status 0 0x14

-- LBA Out of Range (NVM 1.0, Generic Command Status Values)
abbrev pub out_of_range : Status
out_of_range = status 0 0x80

-- Compare Failure (NVM 1.0, Compare command)
abbrev pub compare_failure : Status
compare_failure = status 2 0x85

-- it is Successful Completion
abbrev pub is_success : Status → Bool
is_success s = (s.sct == 0) && (s.sc == 0)

-- the same status
abbrev pub same_status : Status → Status → Bool
same_status s r = (s.sct == r.sct) && (s.sc == r.sc)
