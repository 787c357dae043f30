-- Slices worked out by hand, each decided by computing. What a block holds is written as one byte.
use Rattle.std.specs.Prelude.{Bool, List, [], false, refl, true, ℕ, ◌∷◌, ◌≡◌}
use Rattle.refutation.specs.Layers.{has_no_order}
use Rattle.refutation.specs.Orders.{IsOrder, may_follow}
use Rattle.refutation.specs.Pieces.{Held, Piece, Slice}

-- block b holds this byte
abbrev at : ℕ → ℕ → Held
at b byte = (b, byte ∷ [])

-- what a block holds that nothing wrote
abbrev blank : List ℕ
blank = 0 ∷ []

-- a Read behind these pieces that found a byte on block 3
abbrev read : List ℕ → ℕ → Piece
read behind byte = record { sure = true; behind = behind; finds = at 3 byte ∷ []; differs = []; writes = [] }

-- a Write behind these pieces
abbrev write : List ℕ → ℕ → Piece
write behind byte = record { sure = true; behind = behind; finds = []; differs = []; writes = at 3 byte ∷ [] }

-- a pair behind these pieces that found a byte and left another
abbrev swap : Bool → List ℕ → ℕ → ℕ → Piece
swap sure behind old new =
    record { sure = sure; behind = behind; finds = at 3 old ∷ []; differs = []; writes = at 3 new ∷ [] }

-- a Compare behind these pieces that found something else than this in one of these blocks
abbrev failed : List ℕ → List Held → Piece
failed behind blocks = record { sure = true; behind = behind; finds = []; differs = blocks ∷ []; writes = [] }

-- ---- what a Read found

-- one Write, a later one, and a Read behind both
abbrev two_writes : ℕ → Slice
two_writes byte = write [] 0x0a ∷ write (0 ∷ []) 0x0b ∷ read (0 ∷ 1 ∷ []) byte ∷ []

pub stale_read : has_no_order blank (two_writes 0x0a) ≡ true
stale_read = refl

pub read_of_what_none_wrote : has_no_order blank (two_writes 0x0c) ≡ true
read_of_what_none_wrote = refl

pub read_of_the_blank : has_no_order blank (two_writes 0) ≡ true
read_of_the_blank = refl

pub right_read : has_no_order blank (two_writes 0x0b) ≡ false
right_read = refl

pub order_of_a_right_read : IsOrder blank (two_writes 0x0b) (2 ∷ 1 ∷ 0 ∷ [])
order_of_a_right_read = ((refl, (refl, (refl, tt))), refl)

pub blank_at_first : has_no_order blank (read [] 0 ∷ []) ≡ false
blank_at_first = refl

pub something_at_first : has_no_order blank (read [] 1 ∷ []) ≡ true
something_at_first = refl

pub another_blank : has_no_order (1 ∷ []) (read [] 1 ∷ []) ≡ false
another_blank = refl

-- ---- where it isn't known what blocks held

pub first_found : has_no_order [] (read [] 1 ∷ []) ≡ false
first_found = refl

pub found_again : has_no_order [] (read [] 1 ∷ read [] 1 ∷ []) ≡ false
found_again = refl

pub found_otherwise : has_no_order [] (read [] 1 ∷ read [] 2 ∷ []) ≡ true
found_otherwise = refl

pub found_and_written : has_no_order [] (read [] 1 ∷ write [] 2 ∷ read [] 2 ∷ []) ≡ false
found_and_written = refl

pub found_behind_a_write : has_no_order [] (write [] 2 ∷ read (0 ∷ []) 1 ∷ []) ≡ true
found_behind_a_write = refl

pub differed_at_first : has_no_order [] (failed [] (at 3 1 ∷ []) ∷ []) ≡ false
differed_at_first = refl

pub differed_from_what_was_found : has_no_order [] (read [] 1 ∷ failed (0 ∷ []) (at 3 1 ∷ []) ∷ []) ≡ true
differed_from_what_was_found = refl

-- ---- two Writes in either order

-- two Writes of which none comes before the other, and a Read behind both
abbrev either : ℕ → Slice
either byte = write [] 0x0a ∷ write [] 0x0b ∷ read (0 ∷ 1 ∷ []) byte ∷ []

pub first_write_last : has_no_order blank (either 0x0a) ≡ false
first_write_last = refl

pub second_write_last : has_no_order blank (either 0x0b) ≡ false
second_write_last = refl

-- a second Read behind the first: both Writes are over, so it finds the same
abbrev two_reads : List ℕ → Slice
two_reads behind_first = write [] 0x0a ∷ write [] 0x0b ∷ read behind_first 0x0a ∷ read (2 ∷ []) 0x0b ∷ []

pub reads_that_disagree : has_no_order blank (two_reads (0 ∷ 1 ∷ [])) ≡ true
reads_that_disagree = refl

-- where the second Write isn't over at the first Read, it may come between the Reads
pub write_between_reads : has_no_order blank (two_reads (0 ∷ [])) ≡ false
write_between_reads = refl

pub order_of_a_write_between : IsOrder blank (two_reads (0 ∷ [])) (3 ∷ 1 ∷ 2 ∷ 0 ∷ [])
order_of_a_write_between = ((refl, (refl, (refl, (refl, tt)))), refl)

-- ---- pairs

-- two pairs that both found the blank: one update is lost
pub lost_update : has_no_order blank (swap true [] 0 1 ∷ swap true [] 0 2 ∷ []) ≡ true
lost_update = refl

pub updates_in_a_row : has_no_order blank (swap true [] 0 1 ∷ swap true [] 1 2 ∷ []) ≡ false
updates_in_a_row = refl

-- both ways round, whatever their numbers are
pub updates_in_the_other_row : has_no_order blank (swap true [] 1 2 ∷ swap true [] 0 1 ∷ []) ≡ false
updates_in_the_other_row = refl

-- the second is over before the first begins
pub updates_out_of_order : has_no_order blank (swap true (1 ∷ []) 0 1 ∷ swap true [] 1 2 ∷ []) ≡ true
updates_out_of_order = refl

-- a pair that may be, whose data was read
pub read_of_a_pair_that_may_be : has_no_order blank (swap false [] 0 1 ∷ read [] 1 ∷ []) ≡ false
read_of_a_pair_that_may_be = refl

-- and whose data wasn't: it wasn't made, or later
pub pair_that_may_be_left_out : has_no_order blank (swap false [] 0 1 ∷ read [] 0 ∷ []) ≡ false
pair_that_may_be_left_out = refl

-- it can't be what a Read found that came before it
pub pair_that_comes_later : has_no_order blank (swap false (1 ∷ []) 0 1 ∷ read [] 1 ∷ []) ≡ true
pair_that_comes_later = refl

-- it found something that never was there: so it wasn't made
pub pair_that_finds_nothing : has_no_order blank (swap false [] 5 1 ∷ read [] 1 ∷ []) ≡ true
pair_that_finds_nothing = refl

-- one that may be and comes before a Read hinders nothing where it wasn't made, and can't follow where the Read stands
pub left_out_before : has_no_order blank (swap false [] 0 1 ∷ read (0 ∷ []) 0 ∷ []) ≡ false
left_out_before = refl

pub too_late : may_follow blank (swap false [] 0 1 ∷ read (0 ∷ []) 0 ∷ []) (1 ∷ []) 0 ≡ false
too_late = refl

-- ---- Compares that failed

pub failed_on_what_is_there : has_no_order blank (write [] 0x0a ∷ failed (0 ∷ []) (at 3 0x0a ∷ []) ∷ []) ≡ true
failed_on_what_is_there = refl

pub failed_before_the_write : has_no_order blank (write [] 0x0a ∷ failed [] (at 3 0x0a ∷ []) ∷ []) ≡ false
failed_before_the_write = refl

-- one of two blocks held something else
pub failed_on_one_of_two : has_no_order blank (write [] 0x0a ∷ failed (0 ∷ []) (at 3 0x0a ∷ at 4 1 ∷ []) ∷ []) ≡ false
failed_on_one_of_two = refl

pub failed_on_none_of_two : has_no_order blank (write [] 0x0a ∷ failed (0 ∷ []) (at 3 0x0a ∷ at 4 0 ∷ []) ∷ []) ≡ true
failed_on_none_of_two = refl

-- ---- what isn't a matter of data

-- a slice of nothing has the empty order
pub nothing : has_no_order blank [] ≡ false
nothing = refl

-- two that come before each other
pub a_circle : has_no_order blank (write (1 ∷ []) 1 ∷ write (0 ∷ []) 2 ∷ []) ≡ true
a_circle = refl

-- numbers of no piece, and a piece's own, order nothing
pub numbers_of_no_piece : has_no_order blank (write (0 ∷ 7 ∷ []) 1 ∷ []) ≡ false
numbers_of_no_piece = refl
