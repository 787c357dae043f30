-- Traces that slices refute, and their neighbours that they don't.
use Rattle.std.specs.Prelude.{List, [], false, refl, true, ℕ, ◌++◌, ◌∷◌, ◌≡◌}
use Rattle.nvme_model.specs.Examples.{cqe, default, one, pair_on_3, submit}
use Rattle.nvme_model.specs.declared.config.ConfigNumbers.{ConfigNumbers}
use Rattle.nvme_model.specs.declared.submission.Submission.{Submission}
use Rattle.trace.specs.Options.{no_options}
use Rattle.trace.specs.declared.seen.Seen.{Seen}
use Rattle.refutation.specs.Refuted.{lacks_order}

-- a Publish of these entries to queue q
abbrev published : ℕ → List Submission → Seen
published q batch = Seen.Published (record { queue = q; batch = batch })

-- the completion of queue q for this CID, by its SQHD and the two bytes of its status, with data or without
abbrev reaped : ℕ → ℕ → ℕ → ℕ → ℕ → List ℕ → Seen
reaped q head cid low high bytes =
    Seen.Reaped (record { queue = q; cqe = cqe head 0 q 0 cid 0 low high; payload = bytes })

-- success
abbrev done : ℕ → ℕ → ℕ → List ℕ → Seen
done q head cid bytes = reaped q head cid 1 0 bytes

-- Compare Failure
abbrev differs : ℕ → ℕ → ℕ → Seen
differs q head cid = reaped q head cid 0x0b 5 []

-- entries at block 3
abbrev write : ℕ → ℕ → Submission
write cid byte = submit 1 0 cid 3 0 (one byte)

abbrev read : ℕ → Submission
read cid = submit 2 0 cid 3 0 []

abbrev compare : ℕ → ℕ → Submission
compare cid byte = submit 5 0 cid 3 0 (one byte)

-- ---- one command

-- two Writes one behind the other, and a Read
abbrev read_behind : ℕ → List Seen
read_behind byte =
    done 1 3 3 (one byte) ∷ published 1 (read 3 ∷ [])
    ∷ done 1 2 2 [] ∷ published 1 (write 2 0x0b ∷ [])
    ∷ done 1 1 1 [] ∷ published 1 (write 1 0x0a ∷ []) ∷ []

-- it finds what was overwritten, what nobody wrote, what was there at first, or what was written
pub overwritten : lacks_order no_options default (read_behind 0x0a) ((1, 2) ∷ []) (3 ∷ []) ≡ true
overwritten = refl

pub unwritten : lacks_order no_options default (read_behind 0x0c) ((1, 2) ∷ []) (3 ∷ []) ≡ true
unwritten = refl

pub right : lacks_order no_options default (read_behind 0x0b) ((1, 0) ∷ (1, 1) ∷ (1, 2) ∷ []) (3 ∷ []) ≡ false
right = refl

-- a Write that is out may have come at any time, and isn't found before it is published
abbrev one_out : ℕ → List Seen
one_out byte =
    done 1 1 1 (one byte) ∷ published 2 (write 5 0x0b ∷ []) ∷ published 1 (read 1 ∷ []) ∷ []

abbrev out_later : List Seen
out_later = published 2 (write 5 0x0b ∷ []) ∷ done 1 1 1 (one 0x0b) ∷ published 1 (read 1 ∷ []) ∷ []

pub found_out : lacks_order no_options default (one_out 0x0b) ((1, 0) ∷ (2, 0) ∷ []) (3 ∷ []) ≡ false
found_out = refl

pub not_yet_out : lacks_order no_options default (one_out 0) ((1, 0) ∷ (2, 0) ∷ []) (3 ∷ []) ≡ false
not_yet_out = refl

pub found_too_early : lacks_order no_options default out_later ((1, 0) ∷ []) (3 ∷ []) ≡ true
found_too_early = refl

-- ---- two Reads

-- two Writes at once, and two Reads one behind the other; then a third
abbrev two_reads : ℕ → ℕ → List Seen
two_reads first second =
    done 1 3 4 (one second) ∷ published 1 (read 4 ∷ [])
    ∷ done 1 2 3 (one first) ∷ published 1 (read 3 ∷ [])
    ∷ done 2 1 2 [] ∷ done 1 1 1 [] ∷ published 2 (write 2 0x0b ∷ []) ∷ published 1 (write 1 0x0a ∷ []) ∷ []

abbrev all_four : List (ℕ × ℕ)
all_four = (1, 0) ∷ (1, 1) ∷ (1, 2) ∷ (2, 0) ∷ []

pub reads_agree : lacks_order no_options default (two_reads 0x0a 0x0a) all_four (3 ∷ []) ≡ false
reads_agree = refl

pub reads_disagree : lacks_order no_options default (two_reads 0x0a 0x0b) all_four (3 ∷ []) ≡ true
reads_disagree = refl

-- of each Read alone nothing is refuted
pub one_read : lacks_order no_options default (two_reads 0x0a 0x0b) ((1, 2) ∷ []) (3 ∷ []) ≡ false
one_read = refl

-- ---- pairs

-- two pairs that both wait for zeros; the second succeeds too, or differs
abbrev two_pairs : List Seen → List Seen
two_pairs second =
    second ++ (done 1 2 2 [] ∷ done 1 2 1 [] ∷ published 2 (pair_on_3 5 6 0 0xb2)
    ∷ published 1 (pair_on_3 1 2 0 0xa1) ∷ [])

pub both_swap : lacks_order no_options default (two_pairs (done 2 2 6 [] ∷ done 2 2 5 [] ∷ [])) ((1, 0) ∷ (2, 0) ∷ [])
    (3 ∷ [])
    ≡ true
both_swap = refl

pub one_swaps : lacks_order no_options default (two_pairs (differs 2 2 5 ∷ [])) ((1, 0) ∷ (2, 0) ∷ []) (3 ∷ []) ≡ false
one_swaps = refl

-- a pair that is out may have swapped, or not
pub other_is_out : lacks_order no_options default (two_pairs []) ((1, 0) ∷ (2, 0) ∷ []) (3 ∷ []) ≡ false
other_is_out = refl

-- ---- Compare Failure

abbrev compare_behind : ℕ → List Seen
compare_behind byte =
    differs 1 2 2 ∷ published 1 (compare 2 byte ∷ []) ∷ done 1 1 1 [] ∷ published 1 (write 1 0x0a ∷ []) ∷ []

pub nothing_differed : lacks_order no_options default (compare_behind 0x0a) ((1, 0) ∷ (1, 1) ∷ []) (3 ∷ []) ≡ true
nothing_differed = refl

pub it_differed : lacks_order no_options default (compare_behind 0x0b) ((1, 0) ∷ (1, 1) ∷ []) (3 ∷ []) ≡ false
it_differed = refl

-- all of its blocks have to be looked at
pub not_looked_at : lacks_order no_options default (compare_behind 0x0a) ((1, 0) ∷ (1, 1) ∷ []) (2 ∷ []) ≡ false
not_looked_at = refl

-- ---- units

-- block 5 is written before block 3, and a Read of two units finds the later Write in its first, and not the earlier
-- Write in its second
abbrev two_units : ℕ → ℕ → List Seen
two_units first second =
    done 2 1 9 (one 0 ++ one first ++ one 0 ++ one second)
    ∷ done 1 2 2 [] ∷ published 1 (write 2 0x0b ∷ [])
    ∷ done 1 1 1 [] ∷ published 1 (submit 1 0 1 5 0 (one 0x0a) ∷ [])
    ∷ published 2 (submit 2 0 9 2 3 [] ∷ []) ∷ []

abbrev all_three : List (ℕ × ℕ)
all_three = (1, 0) ∷ (1, 1) ∷ (2, 0) ∷ []

pub second_first : lacks_order no_options default (two_units 0x0b 0) all_three (3 ∷ 5 ∷ []) ≡ true
second_first = refl

pub first_first : lacks_order no_options default (two_units 0 0x0a) all_three (3 ∷ 5 ∷ []) ≡ false
first_first = refl

-- ---- SQHD

-- a Read and the Write behind it; its completion says that the Write wasn't fetched then, or was
abbrev read_before : ℕ → List Seen
read_before head = done 1 head 1 (one 0x0b) ∷ published 1 (read 1 ∷ write 2 0x0b ∷ []) ∷ []

pub not_fetched : lacks_order no_options default (read_before 1) ((1, 0) ∷ []) (3 ∷ []) ≡ true
not_fetched = refl

pub fetched : lacks_order no_options default (read_before 2) ((1, 0) ∷ (1, 1) ∷ []) (3 ∷ []) ≡ false
fetched = refl

-- a completion queue with one place: the second completion was posted behind the first one's Reap, so behind the Read
-- that was reaped before that
abbrev one_place : ConfigNumbers
one_place = record default { cq_size = 2 }

abbrev room_behind : ℕ → List Seen
room_behind head =
    reaped 1 head 2 1 0 [] ∷ reaped 1 1 1 1 0 [] ∷ done 2 1 9 (one 0x0b)
    ∷ published 1 (submit 0 0 1 0 0 [] ∷ submit 0 0 2 0 0 [] ∷ write 3 0x0b ∷ []) ∷ published 2 (read 9 ∷ []) ∷ []

pub no_room_before : lacks_order no_options one_place (room_behind 2) ((2, 0) ∷ []) (3 ∷ []) ≡ true
no_room_before = refl

pub fetched_in_time : lacks_order no_options one_place (room_behind 3) ((1, 2) ∷ (2, 0) ∷ []) (3 ∷ []) ≡ false
fetched_in_time = refl
