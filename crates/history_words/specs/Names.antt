-- The names of statuses (Base 2.0, Status Code; NVM 1.0, Command Specific Status Values).
use Rattle.std.specs.Prelude.{List, [], codes, decimal, if◌then◌else◌, ℕ, ◌∷◌}
use Rattle.std.specs.List.{concat}
use Rattle.hex.specs.Hex.{encode_upper}
use Rattle.nvme_model.specs.Statuses.{cid_conflict, compare_failure, data_transfer_error, failed_fused, invalid_field}
use Rattle.nvme_model.specs.Statuses.{invalid_namespace, invalid_opcode, missing_fused, out_of_range, same_status}
use Rattle.nvme_model.specs.Statuses.{success, unit_exceeded}
use Rattle.nvme_model.specs.declared.status.Status.{Status}

-- the name of a status of any command
abbrev pub generic_name : Status → List ℕ
generic_name s =
    if same_status s success then codes "Successful Completion"
    else if same_status s invalid_opcode then codes "Invalid Command Opcode"
    else if same_status s invalid_field then codes "Invalid Field in Command"
    else if same_status s cid_conflict then codes "Command ID Conflict"
    else if same_status s data_transfer_error then codes "Data Transfer Error"
    else if same_status s failed_fused then codes "Command Aborted due to Failed Fused Command"
    else if same_status s missing_fused then codes "Command Aborted due to Missing Fused Command"
    else if same_status s invalid_namespace then codes "Invalid Namespace or Format"
    else if same_status s unit_exceeded then codes "Atomic Write Unit Exceeded"
    else if same_status s out_of_range then codes "LBA Out of Range"
    else codes "another status"

-- the name of a status
abbrev pub status_name : Status → List ℕ
status_name s = if same_status s compare_failure then codes "Compare Failure" else generic_name s

-- its name and its numbers: `Compare Failure (2/85)`
abbrev pub status_told : Status → List ℕ
status_told s =
    concat (status_name s ∷ codes " (" ∷ decimal s.sct ∷ codes "/" ∷ encode_upper (s.sc ∷ []) ∷ codes ")" ∷ [])
