-- Slots that are claimed and released by fused pairs.
use Rattle.std.specs.Prelude.{ℕ, suc, ◌+◌, ◌/◌, ◌^◌, Bool, true, false, not, ◌&&◌, ◌||◌, if◌then◌else◌, ◌==◌, nat_lt}
use Rattle.std.specs.Prelude.{Option, Some, None, List, [], ◌∷◌, ◌++◌, length, replicate, bytes_eq, slice_get}
use Rattle.std.specs.List.{filter, list_any}
use Rattle.nvme_model.specs.Config.{completion_queue}
use Rattle.nvme_model.specs.declared.config.ConfigNumbers.{ConfigNumbers}
use Rattle.nvme_model.specs.EntryBytes.{field, two_bytes, sqe_fields, slba, block_count}
use Rattle.nvme_model.specs.Commands.{is_write, is_compare, is_write_zeroes}
use Rattle.nvme_model.specs.History.{Past}
use Rattle.nvme_model.specs.Array.{has_block, overlap, zeros}
use Rattle.nvme_model.specs.Tickets.{ticket, posts_of}
use Rattle.nvme_model.specs.Queues.{fetched_count, published_entries}
use Rattle.nvme_model.specs.Completions.{reaped_count}
use Rattle.nvme_model.specs.Value.{value}
use Rattle.nvme_model.specs.declared.array.Range.{Range}
use Rattle.nvme_model.specs.declared.submission.Submission.{Submission}
use Rattle.nvme_model.specs.declared.entry.PostLine.{PostLine}
use Rattle.nvme_model.specs.declared.entry.PublishLine.{PublishLine}
use Rattle.nvme_model.specs.declared.entry.Entry.{Entry}

-- The name of a claim: its host number and its serial, both at least 1.
pub record Name : Type 0 where
  pub host : ℕ
  pub serial : ℕ

-- the number as four bytes
abbrev pub four_bytes : ℕ → List ℕ
four_bytes n = two_bytes n ++ two_bytes (n / 2 ^ 16)

-- the block of a held slot
abbrev pub slot_block : Name → List ℕ
slot_block n =
    four_bytes n.host ++ (replicate 4 0 ++ (four_bytes n.serial ++ (four_bytes (n.serial / 2 ^ 32) ++ replicate 496 0)))

-- the same name
abbrev pub same_name : Name → Name → Bool
same_name n m = (n.host == m.host) && (n.serial == m.serial)

-- the name that a block spells
abbrev pub name_of : List ℕ → Option Name
name_of bytes =
    let n : Name = record { host = field 0 4 bytes; serial = field 8 8 bytes } in
    if nat_lt 0 n.host && nat_lt 0 n.serial && bytes_eq bytes (slot_block n) then Some n else None

-- who holds the slot at block l
abbrev pub holder : Past → ℕ → Option Name
holder past l = name_of (value past l)

-- A claim or a release: its queue, the number of its first entry there, its block and its name.
pub record Swap : Type 0 where
  pub claims : Bool
  pub queue : ℕ
  pub number : ℕ
  pub lba : ℕ
  pub name : Name

-- the entries are a pair on one block
abbrev pub is_pair_on_one : Submission → Submission → Bool
is_pair_on_one a b =
    let e = sqe_fields a.entry in
    let d = sqe_fields b.entry in
    is_compare e && is_write d && (e.fuse == 1) && (d.fuse == 2) && (slba e == slba d) && (block_count e == 1)
    && (block_count d == 1)

-- a claim of this name or a release of it, if there is one
abbrev pub swap_by : Bool → ℕ → ℕ → ℕ → Option Name → List Swap
swap_by claims q j l None = []
swap_by claims q j l (Some n) = record { claims = claims; queue = q; number = j; lba = l; name = n } ∷ []

-- the claim or release that two entries are, if they are one
abbrev pub swap_of : ℕ → ℕ → Submission → Submission → List Swap
swap_of q j a b =
    if is_pair_on_one a b
    then (let l = slba (sqe_fields a.entry) in
    (if bytes_eq a.payload zeros then swap_by true q j l (name_of b.payload) else [])
    ++ (if bytes_eq b.payload zeros then swap_by false q j l (name_of a.payload) else []))
    else []

-- the claims and releases of a batch whose first entry has number j on queue q
abbrev pub swaps_in : ℕ → ℕ → List Submission → List Swap
swaps_in q j [] = []
swaps_in q j (a ∷ []) = []
swaps_in q j (a ∷ b ∷ rest) = swap_of q j a b ++ swaps_in q (suc j) (b ∷ rest)

-- all that were published, the newest Publish first
abbrev pub swaps : Past → List Swap
swaps [] = []
swaps (Entry.Publish p ∷ past) = swaps_in p.queue (length (published_entries past p.queue)) p.batch ++ swaps past
swaps (_ ∷ past) = swaps past

-- how many entries were fetched from its queue before ticket t
abbrev pub fetched_before : Past → ℕ → ℕ
fetched_before [] t = 0
fetched_before (Entry.Fetch f ∷ past) t = if f.ticket == t then fetched_count past f.queue else fetched_before past t
fetched_before (_ ∷ past) t = fetched_before past t

-- the number of the entry, on its queue, that the next completion of ticket t is for
abbrev pub next_number : Past → ℕ → ℕ
next_number past t = fetched_before past t + posts_of past t

-- A completion: the submission queue and the number there of the entry that it is for, and its bytes.
pub record EntryCompletion : Type 0 where
  pub queue : ℕ
  pub number : ℕ
  pub cqe : List ℕ

-- the one that a Post gives
abbrev pub entry_completion : Past → PostLine → EntryCompletion
entry_completion past p =
    record { queue = (ticket past p.ticket).queue; number = next_number past p.ticket; cqe = p.cqe }

-- those posted to completion queue q, in order
abbrev pub entry_completions : ConfigNumbers → Past → ℕ → List EntryCompletion
entry_completions c [] q = []
entry_completions c (Entry.Post p ∷ past) q = entry_completions c past q
    ++ (if completion_queue c (ticket past p.ticket).queue == q then entry_completion past p ∷ [] else [])
entry_completions c (_ ∷ past) q = entry_completions c past q

-- the completion says success
abbrev pub says_success : List ℕ → Bool
says_success cqe = field 14 2 cqe / 2 == 0

-- it says success of entry j of submission queue q
abbrev pub is_success_of : ℕ → ℕ → Option EntryCompletion → Bool
is_success_of q j None = false
is_success_of q j (Some r) = (r.queue == q) && (r.number == j) && says_success r.cqe

-- success was reaped for entry j of submission queue q
abbrev pub reaped_success : ConfigNumbers → Past → ℕ → ℕ → Bool
reaped_success c [] q j = false
reaped_success c (Entry.Reap r ∷ past) q j =
    is_success_of q j (slice_get (entry_completions c past r.queue) (reaped_count past r.queue))
    || reaped_success c past q j
reaped_success c (_ ∷ past) q j = reaped_success c past q j

-- this name is released, of the slot at block l
abbrev pub releases : Swap → ℕ → Name → Bool
releases s l n = not s.claims && (s.lba == l) && same_name s.name n

-- the name is believed of the slot at block l: its claim's success was reaped, and its release wasn't published
abbrev pub believed : ConfigNumbers → Past → ℕ → Name → Bool
believed c past l n =
    list_any (λ s. s.claims && (s.lba == l) && same_name s.name n && reaped_success c past s.queue (suc s.number))
    (swaps past)
    && not (list_any (λ s. releases s l n) (swaps past))

-- the entry writes in the slot area; an area without a block is touched by nothing
abbrev pub touches : Range → Submission → Bool
touches slots s =
    let e = sqe_fields s.entry in
    (is_write e || is_write_zeroes e) && overlap (record { slba = slba e; blocks = block_count e }) slots

-- the claims and releases of slots of this area
abbrev pub in_area : Range → List Swap → List Swap
in_area slots of = filter (λ s. has_block slots s.lba) of

-- each Write of the batch that touches the area is the second of a claim or a release
abbrev pub only_swaps : Range → ℕ → ℕ → List Submission → List Swap → Bool
only_swaps slots q j [] of = true
only_swaps slots q j (s ∷ batch) of =
    (not (touches slots s) || list_any (λ w. suc w.number == j) of) && only_swaps slots q (suc j) batch of

-- no name is in two claims
abbrev pub fresh_names : List Swap → List Swap → Bool
fresh_names [] before = true
fresh_names (s ∷ later) before =
    (not s.claims || not (list_any (λ w. w.claims && same_name w.name s.name) (later ++ before)))
    && fresh_names later before

-- the claim of the release's name on its slot stands on a queue that has the same completion queue
abbrev pub on_its_queue : ConfigNumbers → Past → Swap → Bool
on_its_queue c past s =
    list_any (λ w. w.claims && (w.lba == s.lba) && same_name w.name s.name
    && (completion_queue c w.queue == completion_queue c s.queue)) (swaps past)

-- Each release of a batch is of a name that is believed of its slot just before the release's own entry, and stands on
-- its claim's completion queue.
abbrev pub released_right : ConfigNumbers → Past → List Swap → List Swap → Bool
released_right c past earlier [] = true
released_right c past earlier (s ∷ later) =
    (s.claims || (believed c past s.lba s.name && not (list_any (λ w. releases w s.lba s.name) earlier)
    && on_its_queue c past s))
    && released_right c past (s ∷ earlier) later

-- This Publish keeps the discipline of the slot area, where those before it did: in the area only claims and releases
-- write, each claim has a name of its own, and each release is of a believed name.
abbrev pub keeps_discipline : ConfigNumbers → Range → Past → PublishLine → Bool
keeps_discipline c slots past p =
    let j = length (published_entries past p.queue) in
    let of = in_area slots (swaps_in p.queue j p.batch) in
    only_swaps slots p.queue j p.batch of && fresh_names of (in_area slots (swaps past)) && released_right c past [] of

-- Every Publish does.
abbrev pub disciplined : ConfigNumbers → Range → Past → Bool
disciplined c slots [] = true
disciplined c slots (Entry.Publish p ∷ past) = disciplined c slots past && keeps_discipline c slots past p
disciplined c slots (_ ∷ past) = disciplined c slots past
