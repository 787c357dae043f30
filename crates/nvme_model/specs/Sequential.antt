-- An array of blocks that serves one operation at a time, each done whole, and what it is asked by a history.
use Rattle.std.specs.Prelude.{◌≡◌, slice_get, ℕ, ◌+◌, Bool, true, false, not, ◌&&◌, if◌then◌else◌, ◌==◌, Option, Some}
use Rattle.std.specs.Prelude.{None, List, [], ◌∷◌, ◌++◌, length, take, drop, map, replicate, bytes_eq}
use Rattle.std.specs.List.{find, list_any, flat_map}
use Rattle.nvme_model.specs.declared.config.ConfigNumbers.{ConfigNumbers}
use Rattle.nvme_model.specs.Array.{zeros, blocks_from}
use Rattle.nvme_model.specs.Statuses.{success, compare_failure, failed_fused, is_success}
use Rattle.nvme_model.specs.History.{Past}
use Rattle.nvme_model.specs.Tickets.{Ticket, ticket, posts_of}
use Rattle.nvme_model.specs.Operations.{op, compare_data, write_data}
use Rattle.nvme_model.specs.Completions.{completion, posted_completions, reaped_count}
use Rattle.nvme_model.specs.Open.{unit_range}
use Rattle.nvme_model.specs.Value.{all_equal, value}
use Rattle.nvme_model.specs.Owed.{units_of}
use Rattle.nvme_model.specs.declared.array.Range.{Range}
use Rattle.nvme_model.specs.declared.operation.Op.{Op}
use Rattle.nvme_model.specs.declared.status.Status.{Status}
use Rattle.nvme_model.specs.declared.status.Verdict.{Verdict}
use Rattle.nvme_model.specs.declared.entry.PostLine.{PostLine}
use Rattle.nvme_model.specs.declared.entry.ReapLine.{ReapLine}
use Rattle.nvme_model.specs.declared.entry.Entry.{Entry}

-- the blocks, the first first
abbrev pub Array : Type 0
Array = List (List ℕ)

-- what it can be asked: each begins at a block; a Read names how many, the others bring their blocks
pub data Operation : Type 0 where
  read : (first count : ℕ) → Operation
  compare : (first : ℕ) → (old : Array) → Operation
  write : (first : ℕ) → (new : Array) → Operation
  compare_and_write : (first : ℕ) → (old new : Array) → Operation

-- what it answers: the blocks that it read, whether all compared blocks are equal, or nothing
pub data ArrayAnswer : Type 0 where
  holds : Array → ArrayAnswer
  says : Bool → ArrayAnswer
  done : ArrayAnswer

-- the same blocks
abbrev pub same_blocks : Array → Array → Bool
same_blocks [] [] = true
same_blocks (a ∷ rest) (b ∷ others) = bytes_eq a b && same_blocks rest others
same_blocks _ _ = false

-- the array with these blocks from `first` on
abbrev pub overwrite : ℕ → Array → Array → Array
overwrite first new array = take first array ++ (new ++ drop (first + length new) array)

-- the array after one operation, and its answer
abbrev pub serve : Operation → Array → Array × ArrayAnswer
serve (read first count) array = (array, holds (take count (drop first array)))
serve (compare first old) array = (array, says (same_blocks (take (length old) (drop first array)) old))
serve (write first new) array = (overwrite first new array, done)
serve (compare_and_write first old new) array =
    let same = same_blocks (take (length old) (drop first array)) old in
    (if same then overwrite first new array else array, says same)

-- An operation that was asked, with the ticket and the unit that it is of.
pub record ArrayRequest : Type 0 where
  pub ticket : ℕ
  pub unit : ℕ
  pub operation : Operation

-- An answer, with the ticket and the unit that it is for.
pub record ArrayReply : Type 0 where
  pub ticket : ℕ
  pub unit : ℕ
  pub answer : ArrayAnswer

-- The blocks as they are now, and the answers so far.
pub record ArrayMachine : Type 0 where
  pub contents : Array
  pub replies : List ArrayReply  -- the newest first

-- the machine after a request that was served so
abbrev pub machine_after : ArrayRequest → Array × ArrayAnswer → List ArrayReply → ArrayMachine
machine_after q served replies =
    record { contents = served.0; replies = record { ticket = q.ticket; unit = q.unit; answer = served.1 } ∷ replies }

-- n blocks of zeros, and then these requests one by one, the newest first
abbrev pub machine : ℕ → List ArrayRequest → ArrayMachine
machine n [] = record { contents = replicate n zeros; replies = [] }
machine n (q ∷ qs) = machine_after q (serve q.operation (machine n qs).contents) (machine n qs).replies

-- what a unit of a ticket asks: its range, and the data that came with its commands
abbrev pub operation : Option Op → Ticket → Range → Operation
operation (Some Op.Compare) k r = compare r.slba (map (compare_data k) (blocks_from r.slba r.blocks))
operation (Some Op.Write) k r = write r.slba (map (write_data k) (blocks_from r.slba r.blocks))
operation (Some Op.WriteZeroes) k r = write r.slba (replicate r.blocks zeros)
operation (Some Op.Pair) k r =
    compare_and_write r.slba (map (compare_data k) (blocks_from r.slba r.blocks))
    (map (write_data k) (blocks_from r.slba r.blocks))
operation _ k r = read r.slba r.blocks

-- the effects alone, in the order of the history, the newest first
abbrev pub requests : Past → List ArrayRequest
requests [] = []
requests (Entry.Block b ∷ past) =
    let k = ticket past b.ticket in
    if b.effect
    then record { ticket = b.ticket; unit = b.unit; operation = operation (op k) k (unit_range past b.ticket b.unit) }
    ∷ requests past
    else requests past
requests (_ ∷ past) = requests past

-- the machine that was asked them
abbrev pub sequential : ConfigNumbers → Past → ArrayMachine
sequential c past = machine c.blocks (requests past)

-- at these contents: the blocks of the range, or whether all are the Compare's data
abbrev pub answer_by : (ℕ → List ℕ) → Option Op → Ticket → Range → ArrayAnswer
answer_by contents (Some Op.Compare) k r = says (all_equal contents k r)
answer_by contents (Some Op.Pair) k r = says (all_equal contents k r)
answer_by contents (Some Op.Write) k r = done
answer_by contents (Some Op.WriteZeroes) k r = done
answer_by contents _ k r = holds (map contents (blocks_from r.slba r.blocks))

-- the answer of each effect at its place, the newest first
abbrev pub effect_answers : Past → List ArrayReply
effect_answers [] = []
effect_answers (Entry.Block b ∷ past) =
    let k = ticket past b.ticket in
    if b.effect
    then record {
      ticket = b.ticket;
      unit = b.unit;
      answer = answer_by (value past) (op k) k (unit_range past b.ticket b.unit);
    } ∷ effect_answers past
    else effect_answers past
effect_answers (_ ∷ past) = effect_answers past

-- the answer for unit u of ticket t
abbrev pub array_answer : Option ArrayReply → Option ArrayAnswer
array_answer None = None
array_answer (Some a) = Some a.answer

-- the answer for unit u of ticket t
abbrev pub answer_for : List ArrayReply → ℕ → ℕ → Option ArrayAnswer
answer_for replies t u = array_answer (find (λ a. (a.ticket == t) && (a.unit == u)) replies)

-- it says no
abbrev pub is_no : Option ArrayAnswer → Bool
is_no (Some (says equal)) = not equal
is_no _ = false

-- the bytes that were read
abbrev pub bytes_of : Option ArrayAnswer → List ℕ
bytes_of (Some (holds blocks)) = flat_map (λ b. b) blocks
bytes_of _ = []

-- it said no of a unit of ticket t
abbrev pub said_no : ConfigNumbers → Past → ℕ → Bool
said_no c past t = list_any (λ u. is_no (answer_for (sequential c past).replies t u.0)) (units_of c past t)

-- the statuses of a ticket that passed its checks, its last answer given
abbrev pub statuses_by : Option Op → Bool → List Status
statuses_by None differs = success ∷ []
statuses_by (Some Op.Pair) differs = if differs then compare_failure ∷ failed_fused ∷ [] else success ∷ success ∷ []
statuses_by (Some o) differs = if differs then compare_failure ∷ [] else success ∷ []

-- the statuses by the verdict
abbrev pub statuses_after : Verdict → Option Op → Bool → List Status
statuses_after (Verdict.SingleFailed s) o differs = s ∷ []
statuses_after (Verdict.PairFailed s r) o differs = s ∷ r ∷ []
statuses_after _ o differs = statuses_by o differs

-- the statuses that ticket t gets by the machine's answers, the first first
abbrev pub sequential_statuses : ConfigNumbers → Past → ℕ → List Status
sequential_statuses c past t = statuses_after (ticket past t).verdict (op (ticket past t)) (said_no c past t)

-- the bytes that were read of each unit
abbrev pub data_by : ConfigNumbers → Past → ℕ → Option Op → List ℕ
data_by c past t (Some Op.Read) =
    flat_map (λ u. bytes_of (answer_for (sequential c past).replies t u.0)) (units_of c past t)
data_by c past t _ = []

-- the data beside a completion of ticket t with this status: what a successful Read read, unit after unit
abbrev pub sequential_data : ConfigNumbers → Past → ℕ → Status → List ℕ
sequential_data c past t s = if is_success s then data_by c past t (op (ticket past t)) else []

-- This Post gives the next of these statuses, as its bytes, and these data.
abbrev pub IsPosted : ConfigNumbers → Past → PostLine → Type 0
IsPosted c past p =
    (s : Status) × (slice_get (sequential_statuses c past p.ticket) (posts_of past p.ticket) ≡ Some s)
    × (p.cqe ≡ completion c past p.ticket s) × (p.payload ≡ sequential_data c past p.ticket s)

-- This Reap gives the bytes of the Post of the same number on its queue.
abbrev pub IsReaped : ConfigNumbers → Past → ReapLine → Type 0
IsReaped c past r =
    (p : PostLine)
    × (slice_get (posted_completions c past r.queue) (reaped_count past r.queue) ≡ Some p) × (r.cqe ≡ p.cqe)
