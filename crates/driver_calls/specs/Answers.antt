-- What a call is answered by the statuses of its completions (NVM 1.0, Compare command; Base 2.0, Fused Operations).
use Rattle.std.specs.Prelude.{Bool, Err, List, Ok, Result, if◌then◌else◌, false, true, ℕ, ◌&&◌}
use Rattle.nvme_model.specs.Statuses.{compare_failure, is_success, same_status}
use Rattle.nvme_model.specs.declared.operation.Op.{Op}
use Rattle.nvme_model.specs.declared.status.Status.{Status}
use Rattle.driver_calls.specs.declared.reply.Reply.{Reply}

-- the answer where all of it succeeded
abbrev pub reply_of : Op → List ℕ → Reply
reply_of Op.Read payload = Reply.Read payload
reply_of Op.Compare payload = Reply.Equal
reply_of Op.Write payload = Reply.Written
reply_of Op.WriteZeroes payload = Reply.Written
reply_of Op.Pair payload = Reply.Swapped

-- it is a Compare
abbrev pub is_compare_op : Op → Bool
is_compare_op Op.Compare = true
is_compare_op _ = false

-- the answer to a command by itself
abbrev pub command_answer : Op → Status → List ℕ → Result Reply Status
command_answer o s payload =
    if is_success s then Ok (reply_of o payload)
    else (if same_status s compare_failure && is_compare_op o then Ok Reply.Differs else Err s)

-- the answer to a fused pair, by the status of its first command and of its second
abbrev pub pair_answer_of : Status → Status → Result Reply Status
pair_answer_of s r =
    if is_success s then (if is_success r then Ok Reply.Swapped else Err r)
    else (if same_status s compare_failure then Ok Reply.Differs else Err s)
