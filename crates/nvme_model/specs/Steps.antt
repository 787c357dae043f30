-- The entry that an accepted step of this engine adds, and a run of steps.
use Rattle.std.specs.Prelude.{ℕ, zero, suc, is_none, reverse, ◌+◌, ◌%◌, Bool, false, ◌||◌, if◌then◌else◌, ◌==◌, nat_lt}
use Rattle.std.specs.Prelude.{Option, Some, None, List, [], ◌∷◌, length, slice_get, bytes_eq}
use Rattle.std.specs.List.{find, flat_map}
use Rattle.nvme_model.specs.declared.config.ConfigNumbers.{ConfigNumbers}
use Rattle.nvme_model.specs.History.{Past}
use Rattle.nvme_model.specs.Tickets.{Ticket, ticket, tickets, numbers_down, next_verdict, posts_of}
use Rattle.nvme_model.specs.Operations.{op, mode, compare_data}
use Rattle.nvme_model.specs.Open.{grants_of, blocks_made, open_units, is_differs}
use Rattle.nvme_model.specs.Completions.{posted_completions, reaped_count, completion}
use Rattle.nvme_model.specs.Medium.{medium}
use Rattle.nvme_model.specs.Owed.{owed, completion_data}
use Rattle.nvme_model.specs.Refusals.{refusal, next_unit}
use Rattle.nvme_model.specs.declared.array.Range.{Range}
use Rattle.nvme_model.specs.declared.operation.Op.{Op}
use Rattle.nvme_model.specs.declared.operation.Found.{Found}
use Rattle.nvme_model.specs.declared.status.Status.{Status}
use Rattle.nvme_model.specs.declared.entry.GrantLine.{GrantLine}
use Rattle.nvme_model.specs.declared.entry.PostLine.{PostLine}
use Rattle.nvme_model.specs.declared.entry.Entry.{Entry}
use Rattle.nvme_model.specs.declared.step.Step.{Step}
use Rattle.nvme_model.specs.declared.refusal.Why.{Why}

-- the block that the j-th Block of a unit names
abbrev pub due : Range → ℕ → ℕ
due r j = r.slba + j % r.blocks

-- a compare of this block, as the volume is now
abbrev pub compared : Past → Ticket → ℕ → Found
compared past k l = if bytes_eq (medium past l) (compare_data k l) then Found.Equal else Found.Differs

-- what the j-th Block of a unit of n blocks finds at block l
abbrev pub word : Past → Ticket → Option Op → ℕ → ℕ → ℕ → Found
word past k (Some Op.Read) n j l = Found.Read
word past k (Some Op.Compare) n j l = compared past k l
word past k (Some Op.Pair) n j l = if nat_lt j n then compared past k l else Found.Written
word past k _ n j l = Found.Written

-- where this engine puts the mark: a Write's or a Write Zeroes' first Block, and otherwise the last that reads or
-- compares
abbrev pub marked : Option Op → ℕ → ℕ → Found → Bool
marked (Some Op.Write) n j f = j == 0
marked (Some Op.WriteZeroes) n j f = j == 0
marked _ n j f = (suc j == n) || is_differs f

-- the next Block of ticket t, of its open unit
abbrev pub block_entry : Past → ℕ → Option GrantLine → Entry
block_entry past t None = Entry.Block (record { ticket = t; unit = 0; lba = 0; found = Found.Read; effect = false })
block_entry past t (Some g) =
    let k = ticket past t in
    let j = length (blocks_made past t g.unit) in
    let l = due g.range j in
    let f = word past k (op k) g.range.blocks j l in
    Entry.Block (record { ticket = t; unit = g.unit; lba = l; found = f; effect = marked (op k) g.range.blocks j f })

-- the next Grant of ticket t, of this range
abbrev pub grant_entry : Past → ℕ → Option Range → Entry
grant_entry past t None =
    Entry.Grant (record { ticket = t; unit = 0; range = record { slba = 0; blocks = 0 }; mode = mode (ticket past t) })
grant_entry past t (Some r) =
    Entry.Grant (record { ticket = t; unit = grants_of past t; range = r; mode = mode (ticket past t) })

-- the next Post of ticket t, with this status
abbrev pub post_entry : ConfigNumbers → Past → ℕ → Option Status → Entry
post_entry c past t None = Entry.Post (record { ticket = t; cqe = []; payload = [] })
post_entry c past t (Some s) =
    Entry.Post (record { ticket = t; cqe = completion c past t s; payload = completion_data c past t s })

-- the next Reap of queue q, of this Post
abbrev pub reap_entry : ℕ → Option PostLine → Entry
reap_entry q None = Entry.Reap (record { queue = q; cqe = [] })
reap_entry q (Some p) = Entry.Reap (record { queue = q; cqe = p.cqe })

-- the entry that an accepted step adds
abbrev pub next_entry : ConfigNumbers → Past → Step → Entry
next_entry c past (Step.Publish q batch) = Entry.Publish (record { queue = q; batch = batch })
next_entry c past (Step.Fetch q) =
    Entry.Fetch (record { queue = q; ticket = tickets past + 1; verdict = next_verdict c past q })
next_entry c past (Step.Grant t) = grant_entry past t (next_unit c past t)
next_entry c past (Step.Block t) = block_entry past t (find (λ g. g.ticket == t) (open_units past))
next_entry c past (Step.Post t) = post_entry c past t (slice_get (owed c past t) (posts_of past t))
next_entry c past (Step.Reap q) = reap_entry q (slice_get (posted_completions c past q) (reaped_count past q))

-- the history after a step that was accepted or refused so
abbrev pub after_by : ConfigNumbers → Past → Step → Option Why → Past
after_by c past step None = next_entry c past step ∷ past
after_by c past step (Some why) = past

-- the history after a step, memory aside
abbrev pub after : ConfigNumbers → Past → Step → Past
after c past step = after_by c past step (refusal c past step)

-- and after these steps, one by one
abbrev pub run : ConfigNumbers → Past → List Step → Past
run c past [] = past
run c past (step ∷ steps) = run c (after c past step) steps

-- the step isn't refused
abbrev pub is_ready : ConfigNumbers → Past → Step → Bool
is_ready c past step = is_none (refusal c past step)

-- a Grant, a Block and a Post of each ticket, in order of tickets
abbrev pub next_steps : Past → List Step
next_steps past = flat_map (λ t. Step.Grant t ∷ Step.Block t ∷ Step.Post t ∷ []) (reverse (numbers_down (tickets past)))

-- the first of them that isn't refused
abbrev pub ready : ConfigNumbers → Past → Option Step
ready c past = find (is_ready c past) (next_steps past)

-- the history after it, if there is one
abbrev pub after_ready : ConfigNumbers → Past → Option Step → Past
after_ready c past None = past
after_ready c past (Some step) = after c past step

-- at most n such steps
abbrev pub settle : ℕ → ConfigNumbers → Past → Past
settle zero c past = past
settle (suc n) c past = settle n c (after_ready c past (ready c past))
