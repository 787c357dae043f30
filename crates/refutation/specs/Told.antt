-- What a trace tells of its commands: what they do, and how they were answered. A command is named by its submission
-- queue and the number there, from 0, of its first entry; its units by their numbers, from 0.
use Rattle.std.specs.Prelude.{Bool, List, None, Option, Some, [], false, get_or, if◌then◌else◌, length, nat_le, nat_lt}
use Rattle.std.specs.Prelude.{suc, ℕ, ◌+◌}
use Rattle.std.specs.Prelude.{◌&&◌, ◌==◌, ◌||◌, ◌∷◌}
use Rattle.nvme_model.specs.EntryBytes.{block_count, slba, sqe_fields}
use Rattle.nvme_model.specs.Operations.{units}
use Rattle.nvme_model.specs.Statuses.{compare_failure, is_success, missing_fused, same_status}
use Rattle.nvme_model.specs.Tickets.{Ticket, first_fields}
use Rattle.nvme_model.specs.declared.array.Range.{Range}
use Rattle.nvme_model.specs.declared.config.ConfigNumbers.{ConfigNumbers}
use Rattle.nvme_model.specs.declared.status.Verdict.{Verdict}
use Rattle.nvme_model.specs.declared.submission.Submission.{Submission}
use Rattle.host_laws.specs.Calls.{cqe_status}
use Rattle.trace.specs.declared.seen.ReapedLine.{ReapedLine}
use Rattle.trace.specs.declared.seen.Seen.{Seen}
use Rattle.refutation.specs.Lines.{answer_in, published_in}

-- The verdict of an entry with this FUSE where nothing is wrong with it: the first of a pair takes its second along,
-- and a second isn't taken by itself.
abbrev pub told_verdict : ℕ → Verdict
told_verdict fuse =
    if fuse == 1 then Verdict.Pair
    else (if fuse == 2 then Verdict.SingleFailed missing_fused else Verdict.Single)

-- The ticket that takes entry j of submission queue q, with the next entry, where nothing is wrong with it.
abbrev pub told_ticket : List Seen → ℕ → ℕ → Ticket
told_ticket trace q j =
    let none : Submission = record { entry = []; payload = [] } in
    let first = get_or (published_in trace q) j none in
    record {
      queue = q;
      commands = first ∷ get_or (published_in trace q) (suc j) none ∷ [];
      verdict = told_verdict (sqe_fields first.entry).fuse;
    }

-- The volume has all blocks of a ticket's command.
abbrev pub is_inside : ConfigNumbers → Ticket → Bool
is_inside c k = nat_le (slba (first_fields k) + block_count (first_fields k)) c.blocks

-- The units of a command, as its entry has them; none where the volume doesn't have all its blocks.
abbrev pub told_units : ConfigNumbers → List Seen → ℕ → ℕ → List Range
told_units c trace q j =
    let k = told_ticket trace q j in
    if is_inside c k then units c k else []

-- success was seen
abbrev pub says_done : Option ReapedLine → Bool
says_done None = false
says_done (Some r) = is_success (cqe_status r.cqe)

-- Compare Failure was seen
abbrev pub says_differs : Option ReapedLine → Bool
says_differs None = false
says_differs (Some r) = same_status (cqe_status r.cqe) compare_failure

-- The effect of unit u of the command stands in each history of the trace: the command was answered by success, or it
-- has one unit and was answered by Compare Failure.
abbrev pub is_sure : ConfigNumbers → List Seen → ℕ → ℕ → ℕ → Bool
is_sure c trace q j u =
    let n = length (told_units c trace q j) in
    let a = answer_in trace q j in
    nat_lt u n && (says_done a || (says_differs a && (n == 1)))
