-- Which entry may follow which history.
use Rattle.std.specs.Bool.{beq}
use Rattle.std.specs.List.{find}
use Rattle.std.specs.Prelude.{Bool, IsTrue, List, None, Option, Some, [], bytes_eq, false, is_none, length, not}
use Rattle.std.specs.Prelude.{reverse, slice_get, true, ℕ, ◌%◌, ◌&&◌, ◌+◌, ◌==◌, ◌||◌, ◌∷◌}
use Rattle.nvme_model.specs.Answered.{may_find, right_answers}
use Rattle.nvme_model.specs.Completions.{completion, posted_completions, reaped_count}
use Rattle.nvme_model.specs.declared.config.ConfigNumbers.{ConfigNumbers}
use Rattle.nvme_model.specs.History.{Past, step_of}
use Rattle.nvme_model.specs.Open.{blocks_made, grants_of, open_units}
use Rattle.nvme_model.specs.Operations.{is_exclusive, mode, op}
use Rattle.nvme_model.specs.Owed.{completion_data, owed}
use Rattle.nvme_model.specs.Placed.{effect, may_be_effect}
use Rattle.nvme_model.specs.Refusals.{next_unit, refusal}
use Rattle.nvme_model.specs.Tickets.{next_verdict, posts_of, ticket, tickets}
use Rattle.nvme_model.specs.Verdict.{same_verdict}
use Rattle.nvme_model.specs.declared.entry.BlockLine.{BlockLine}
use Rattle.nvme_model.specs.declared.entry.Entry.{Entry}
use Rattle.nvme_model.specs.declared.entry.GrantLine.{GrantLine}
use Rattle.nvme_model.specs.declared.entry.PostLine.{PostLine}
use Rattle.nvme_model.specs.declared.array.Range.{Range}
use Rattle.nvme_model.specs.declared.status.Status.{Status}

-- there is such a range, and it is this one
abbrev pub is_range : Option Range → Range → Bool
is_range None r = false
is_range (Some s) r = (s.slba == r.slba) && (s.blocks == r.blocks)

-- a Block of the open unit g
abbrev pub block_fits : Past → BlockLine → Option GrantLine → Bool
block_fits past b None = false
block_fits past b (Some g) =
    let k = ticket past b.ticket in
    let j = length (blocks_made past g.ticket g.unit) in
    let after = Entry.Block b ∷ past in
    (b.unit == g.unit)
    && (b.lba == g.range.slba + j % g.range.blocks)
    && may_find (op k) g.range.blocks j b.found
    && (not b.effect || may_be_effect past b.ticket b.unit)
    && right_answers (effect after b.ticket b.unit) k (blocks_made after b.ticket b.unit)

-- the Post gives this status, which is owed
abbrev pub post_fits : ConfigNumbers → Past → PostLine → Option Status → Bool
post_fits c past p None = false
post_fits c past p (Some s) =
    bytes_eq p.cqe (completion c past p.ticket s) && bytes_eq p.payload (completion_data c past p.ticket s)

-- there is such a Post, and its completion is this one
abbrev pub is_cqe : Option PostLine → List ℕ → Bool
is_cqe None cqe = false
is_cqe (Some p) cqe = bytes_eq p.cqe cqe

-- the entry says what its step does
abbrev pub fits : ConfigNumbers → Past → Entry → Bool
fits c past (Entry.Publish p) = true
fits c past (Entry.Fetch f) =
    (f.ticket == tickets past + 1) && same_verdict f.verdict (next_verdict c past f.queue)
fits c past (Entry.Grant g) =
    (g.unit == grants_of past g.ticket) && is_range (next_unit c past g.ticket) g.range
    && beq (is_exclusive g.mode) (is_exclusive (mode (ticket past g.ticket)))
fits c past (Entry.Block b) = block_fits past b (find (λ g. g.ticket == b.ticket) (open_units past))
fits c past (Entry.Post p) = post_fits c past p (slice_get (owed c past p.ticket) (posts_of past p.ticket))
fits c past (Entry.Reap r) = is_cqe (slice_get (posted_completions c past r.queue) (reaped_count past r.queue)) r.cqe

-- the step isn't refused, and the entry says what it does
abbrev pub may_follow : ConfigNumbers → Past → Entry → Bool
may_follow c past e = is_none (refusal c past (step_of e)) && fits c past e

-- each entry may follow those before it
abbrev pub legal : ConfigNumbers → Past → Bool
legal c [] = true
legal c (e ∷ past) = legal c past && may_follow c past e

-- the history is legal
abbrev pub IsLegal : ConfigNumbers → Past → Type 0
IsLegal c past = IsTrue (legal c past)

-- the same for the entries in the order of a file, the oldest first
abbrev pub IsLegalFile : ConfigNumbers → List Entry → Type 0
IsLegalFile c entries = IsLegal c (reverse entries)
