-- What is wrong with an entry, by what is due: the first row that holds.
use Rattle.std.specs.Bool.{beq}
use Rattle.std.specs.Prelude.{Bool, List, None, Option, Some, [], bytes_eq, false, get_or, if◌then◌else◌, length}
use Rattle.std.specs.Prelude.{nat_lt, not, option_map, ℕ, ◌&&◌, ◌+◌, ◌==◌, ◌||◌, ◌∷◌}
use Rattle.nvme_model.specs.Open.{is_differs, is_equal, is_read_found, is_written}
use Rattle.nvme_model.specs.Operations.{is_exclusive}
use Rattle.nvme_model.specs.Tables.{first_row}
use Rattle.nvme_model.specs.Verdict.{same_verdict}
use Rattle.nvme_model.specs.declared.array.Mode.{Mode}
use Rattle.nvme_model.specs.declared.array.Range.{Range}
use Rattle.nvme_model.specs.declared.entry.BlockLine.{BlockLine}
use Rattle.nvme_model.specs.declared.entry.FetchLine.{FetchLine}
use Rattle.nvme_model.specs.declared.entry.GrantLine.{GrantLine}
use Rattle.nvme_model.specs.declared.entry.PostLine.{PostLine}
use Rattle.nvme_model.specs.declared.entry.ReapLine.{ReapLine}
use Rattle.nvme_model.specs.declared.operation.Found.{Found}
use Rattle.nvme_model.specs.declared.operation.Op.{Op}
use Rattle.nvme_model.specs.declared.refusal.Why.{Why}
use Rattle.nvme_model.specs.declared.status.Verdict.{Verdict}
use Rattle.broken_rules.specs.Unlike.{cqe_unlike, first_apart}
use Rattle.broken_rules.specs.declared.broken.Broken.{Broken}
use Rattle.broken_rules.specs.declared.rows.BlockDue.{BlockDue}
use Rattle.broken_rules.specs.declared.unlike.Unlike.{Unlike}
use Rattle.broken_rules.specs.declared.words.Words.{Words}

-- a Fetch behind `last` tickets, of commands that are judged so
abbrev pub fetch_broken : FetchLine → ℕ → Verdict → Option Broken
fetch_broken f last due = first_row (
    (not (f.ticket == last + 1), Broken.Ticket f.ticket last)
    ∷ (not (same_verdict f.verdict due), Broken.Verdict f.verdict due)
    ∷ [])

-- a Grant of a ticket of which so many units were opened, with this next unit and mode
abbrev pub grant_broken : GrantLine → ℕ → Option Range → Mode → Option Broken
grant_broken g opened None mode = Some (Broken.Refused Why.WrongState)
grant_broken g opened (Some due) mode = first_row (
    (not (g.unit == opened), Broken.Unit g.unit opened)
    ∷ (not ((due.slba == g.range.slba) && (due.blocks == g.range.blocks)), Broken.Range g.range due)
    ∷ (not (beq (is_exclusive g.mode) (is_exclusive mode)), Broken.Mode g.mode mode)
    ∷ [])

-- the word of the `made`th Block, from 0, of a unit of n blocks
abbrev pub word_due : Option Op → ℕ → ℕ → Words
word_due None n made = Words.Nothing
word_due (Some Op.Read) n made = Words.Read
word_due (Some Op.Compare) n made = Words.Compared
word_due (Some Op.Write) n made = Words.Written
word_due (Some Op.WriteZeroes) n made = Words.Written
word_due (Some Op.Pair) n made = if nat_lt made n then Words.Compared else Words.Written

-- it is this word
abbrev pub is_word : Words → Found → Bool
is_word Words.Nothing f = false
is_word Words.Read f = is_read_found f
is_word Words.Compared f = is_equal f || is_differs f
is_word Words.Written f = is_written f

-- a Block where this is due
abbrev pub block_broken : BlockLine → BlockDue → Option Broken
block_broken b due = first_row (
    (not (b.unit == due.unit), Broken.Unit b.unit due.unit)
    ∷ (not (b.lba == due.lba), Broken.Block b.lba due.lba)
    ∷ (not (is_word due.word b.found), Broken.Word b.found due.word)
    ∷ (b.effect && due.marked, Broken.SecondMark b.unit)
    ∷ (b.effect && not due.may_mark, Broken.EarlyMark b.unit)
    ∷ (not due.earlier, Broken.Mark b.unit)
    ∷ (not due.answers, Broken.Answer b.lba b.found)
    ∷ [])

-- the data of a Post
abbrev pub data_broken : List ℕ → List ℕ → Option Broken
data_broken found due =
    let place = first_apart found due in
    if bytes_eq found due then None
    else (if length found == length due then Some (Broken.Data place (get_or found place 0) (get_or due place 0))
    else Some (Broken.Length (length found) (length due)))

-- a fault of the completion, or of the data
abbrev pub completion_or : Option Unlike → Option Broken → Option Broken
completion_or None more = more
completion_or (Some fault) more = Some (Broken.Completion fault)

-- a Post where this completion and this data are due
abbrev pub post_broken : PostLine → List ℕ → List ℕ → Option Broken
post_broken p cqe bytes = completion_or (cqe_unlike p.cqe cqe) (data_broken p.payload bytes)

-- a Reap of a queue whose oldest completion is this
abbrev pub reap_broken : ReapLine → Option (List ℕ) → Option Broken
reap_broken r None = Some (Broken.Refused Why.NoCompletion)
reap_broken r (Some due) = option_map Broken.Reaped (cqe_unlike r.cqe due)
