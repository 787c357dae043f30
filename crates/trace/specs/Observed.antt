-- What hosts see of a history: what was published, and what was reaped with the data beside it.
use Rattle.std.specs.Prelude.{Bool, List, None, Option, Some, [], false, slice_get, true, ℕ, ◌∷◌}
use Rattle.nvme_model.specs.Completions.{posted_completions, reaped_count, reaped_payload}
use Rattle.nvme_model.specs.History.{Past}
use Rattle.nvme_model.specs.Legal.{IsLegal}
use Rattle.nvme_model.specs.declared.config.ConfigNumbers.{ConfigNumbers}
use Rattle.nvme_model.specs.declared.entry.Entry.{Entry}
use Rattle.trace.specs.Aside.{ReadsTrace, aside_pair}
use Rattle.trace.specs.declared.options.TraceOptions.{TraceOptions}
use Rattle.trace.specs.declared.seen.Seen.{Seen}

-- the data of the completion of queue q that is reaped next: its number is how many were reaped
abbrev pub next_payload : ConfigNumbers → Past → ℕ → List ℕ
next_payload c past q = reaped_payload (slice_get (posted_completions c past q) (reaped_count past q))

-- hosts see an entry of this kind
abbrev pub is_seen : Entry → Bool
is_seen (Entry.Publish p) = true
is_seen (Entry.Reap r) = true
is_seen _ = false

-- what hosts see of one more entry behind this history
abbrev pub shown : ConfigNumbers → Past → Entry → Option Seen
shown c past (Entry.Publish p) = Some (Seen.Published p)
shown c past (Entry.Reap r) =
    Some (Seen.Reaped (record { queue = r.queue; cqe = r.cqe; payload = next_payload c past r.queue }))
shown c past _ = None

-- one thing more, where there is one
abbrev pub with_shown : Option Seen → List Seen → List Seen
with_shown None seen = seen
with_shown (Some s) seen = s ∷ seen

-- what hosts saw of a history, the newest first
abbrev pub observed : ConfigNumbers → Past → List Seen
observed c [] = []
observed c (e ∷ past) = with_shown (shown c past e) (observed c past)

-- The history is legal, and what hosts saw of it is this trace, the newest first, as these options read it. Where
-- contents are unknown the configuration is the history's, whose last queue pair the trace doesn't have.
abbrev pub Explains : TraceOptions → ConfigNumbers → Past → List Seen → Type 0
Explains o c past trace = IsLegal c past × ReadsTrace o (aside_pair o c) (observed c past) trace
