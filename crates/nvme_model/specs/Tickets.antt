-- What each Fetch took.
use Rattle.std.specs.List.{flat_map}
use Rattle.std.specs.Prelude.{Bool, List, [], drop, get_or, if◌then◌else◌, length, map, nat_lt, suc, take, zero, ℕ, ◌+◌}
use Rattle.std.specs.Prelude.{◌==◌, ◌∷◌}
use Rattle.nvme_model.specs.EntryBytes.{Sqe, sqe_fields}
use Rattle.nvme_model.specs.History.{Past}
use Rattle.nvme_model.specs.Queues.{waiting}
use Rattle.nvme_model.specs.Verdict.{item_of, taken_entries, verdict_of}
use Rattle.nvme_model.specs.declared.config.ConfigNumbers.{ConfigNumbers}
use Rattle.nvme_model.specs.declared.entry.Entry.{Entry}
use Rattle.nvme_model.specs.declared.submission.Submission.{Submission}
use Rattle.nvme_model.specs.declared.status.Verdict.{Verdict}

-- how many tickets there are
abbrev pub tickets : Past → ℕ
tickets [] = 0
tickets (Entry.Fetch f ∷ past) = tickets past + 1
tickets (_ ∷ past) = tickets past

-- from n down to 1
abbrev pub numbers_down : ℕ → List ℕ
numbers_down zero = []
numbers_down (suc n) = suc n ∷ numbers_down n

-- what one Fetch took
pub record Ticket : Type 0 where
  pub queue : ℕ
  pub commands : List Submission
  pub verdict : Verdict

-- the ticket that a Fetch makes
abbrev pub fetched_ticket : Past → ℕ → Verdict → Ticket
fetched_ticket past q v = record { queue = q; commands = take (taken_entries v) (waiting past q); verdict = v }

-- ticket t; one without a command where t wasn't fetched
abbrev pub ticket : Past → ℕ → Ticket
ticket [] t = record { queue = 0; commands = []; verdict = Verdict.Single }
ticket (Entry.Fetch f ∷ past) t = if f.ticket == t then fetched_ticket past f.queue f.verdict else ticket past t
ticket (_ ∷ past) t = ticket past t

-- the CIDs of a ticket's commands
abbrev pub cids : Ticket → List ℕ
cids k = map (λ s. (sqe_fields s.entry).cid) k.commands

-- the i-th command of a ticket
abbrev pub command : Ticket → ℕ → Submission
command k i = get_or k.commands i (record { entry = []; payload = [] })

-- the fields of a ticket's first command
abbrev pub first_fields : Ticket → Sqe
first_fields k = sqe_fields (command k 0).entry

-- the completions that were posted of ticket t
abbrev pub posts_of : Past → ℕ → ℕ
posts_of [] t = 0
posts_of (Entry.Post p ∷ past) t = posts_of past t + (if p.ticket == t then 1 else 0)
posts_of (_ ∷ past) t = posts_of past t

-- a ticket is in flight from its Fetch until its last completion is posted
abbrev pub in_flight : Past → ℕ → Bool
in_flight past t = nat_lt (posts_of past t) (length (ticket past t).commands)

-- the CIDs on queue q that were fetched and whose completion wasn't posted yet
abbrev pub cids_in_use : Past → ℕ → List ℕ
cids_in_use past q =
    flat_map (λ t. if (ticket past t).queue == q then drop (posts_of past t) (cids (ticket past t)) else [])
    (numbers_down (tickets past))

-- what a Fetch of queue q says now
abbrev pub next_verdict : ConfigNumbers → Past → ℕ → Verdict
next_verdict c past q = verdict_of c.atomic c.blocks (cids_in_use past q) (map item_of (waiting past q))
