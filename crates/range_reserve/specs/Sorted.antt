-- What tickets hold, in an order that a search can use.
use Rattle.std.specs.List.{filter, insert, list_all, list_any, prefix_len, take_while}
use Rattle.std.specs.Prelude.{Bool, List, None, Option, Some, [], false, nat_le, nat_lt, not, slice_get, true, ℕ}
use Rattle.std.specs.Prelude.{◌*◌, ◌+◌, ◌&&◌, ◌==◌, ◌∷◌, ◌≡◌}
use Rattle.nvme_model.specs.declared.array.Mode.{Mode}
use Rattle.nvme_model.specs.declared.array.Range.{Range}
use Rattle.range_reserve.specs.Reserved.{AreApart, by_ticket, has_conflict}
use Rattle.range_reserve.specs.declared.held.HeldRange.{HeldRange}

-- a start and a ticket as one number, the start first; a ticket is below the factor, 2 to the 64
abbrev pub start_key : ℕ → ℕ → ℕ
start_key start t = start * 18446744073709551616 + t

-- where what is held stands in the order by start
abbrev pub held_key : HeldRange → ℕ
held_key h = start_key h.range.slba h.ticket

-- it holds blocks; what was let go stays in its place with none
abbrev pub is_living : HeldRange → Bool
is_living h = nat_lt 0 h.range.blocks

-- those that hold blocks, in their order
abbrev pub living : List HeldRange → List HeldRange
living held = filter is_living held

-- the same without its blocks
abbrev pub let_go : HeldRange → HeldRange
let_go h = record h { range = record h.range { blocks = 0 } }

-- one is there, and holds no blocks
abbrev pub is_dead : Option HeldRange → Bool
is_dead None = false
is_dead (Some h) = not (is_living h)

-- one stands at place i that holds no blocks
abbrev pub dead_at : List HeldRange → ℕ → Bool
dead_at held i = is_dead (slice_get held i)

-- the numbers rise
abbrev pub IsRisingBy : (HeldRange → ℕ) → List HeldRange → Type 0
IsRisingBy n [] = Unit {0}
IsRisingBy n (h ∷ hs) = (list_all (λ y. nat_lt (n h) (n y)) hs ≡ true) × IsRisingBy n hs

-- none that holds blocks has the number
abbrev pub is_free : (HeldRange → ℕ) → ℕ → List HeldRange → Bool
is_free n k held = not (list_any (λ h. n h == k) (living held))

-- how many stand before the number
abbrev pub place_by : (HeldRange → ℕ) → ℕ → List HeldRange → ℕ
place_by n k held = prefix_len (λ h. nat_lt (n h) k) held

-- the range is no longer, and the ticket has 64 bits
abbrev pub holder_fits : ℕ → HeldRange → Bool
holder_fits longest h = nat_le h.range.blocks longest && nat_lt h.ticket 18446744073709551616

-- h holds blocks besides those that did, at the place of its number, and the numbers rise
pub record HasPut (n : HeldRange → ℕ) (h : HeldRange) (old new : List HeldRange) : Type 0 where
  pub rising : IsRisingBy n new
  pub added : living new ≡ insert (living old) (place_by n (n h) (living old)) h

-- those that hold blocks are apart; by rising start and then by ticket, none longer than the longest
abbrev pub AreByStart : ℕ → List HeldRange → Type 0
AreByStart longest held =
    AreApart (living held) × IsRisingBy held_key held × (list_all (holder_fits longest) held ≡ true)

-- the same hold blocks by start and by rising ticket
abbrev pub AreBoth : ℕ → List HeldRange → List HeldRange → Type 0
AreBoth longest starts tickets =
    (by_ticket (living starts) ≡ living tickets) × AreByStart longest starts
    × IsRisingBy (λ (h : HeldRange). h.ticket) tickets

-- it starts before the end of the range
abbrev pub starts_before_end : Range → HeldRange → Bool
starts_before_end r h = nat_lt h.range.slba (r.slba + r.blocks)

-- the range conflicts with one of those that stand before the first that starts behind it
abbrev pub has_conflict_before_end : List HeldRange → Range → Mode → Bool
has_conflict_before_end held r m = has_conflict (take_while (starts_before_end r) held) r m
