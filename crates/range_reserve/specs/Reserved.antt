-- What tickets hold.
use Rattle.std.specs.List.{filter, find, list_all, list_any}
use Rattle.std.specs.Option.{option_map}
use Rattle.std.specs.Prelude.{Bool, List, Option, Some, [], false, if◌then◌else◌, nat_le, nat_lt, not, slice_get, true}
use Rattle.std.specs.Prelude.{ℕ, ◌==◌, ◌∷◌, ◌≡◌, ◌≢◌}
use Rattle.nvme_model.specs.Array.{IsRange}
use Rattle.nvme_model.specs.Open.{conflict}
use Rattle.nvme_model.specs.declared.array.Mode.{Mode}
use Rattle.nvme_model.specs.declared.array.Range.{Range}
use Rattle.nvme_model.specs.declared.entry.GrantLine.{GrantLine}
use Rattle.range_reserve.specs.declared.held.HeldRange.{HeldRange}

-- what is held, by rising ticket, and how many grants need no memory
pub record Reserved : Type 0 where
  pub held : List HeldRange
  pub room : ℕ

-- the ticket holds a range
abbrev pub holds_range : List HeldRange → ℕ → Bool
holds_range held t = list_any (λ h. h.ticket == t) held

-- the range conflicts with one that is held
abbrev pub has_conflict : List HeldRange → Range → Mode → Bool
has_conflict held r m = list_any (λ h. conflict r m h.range h.mode) held

-- what the ticket holds
abbrev pub held_by : List HeldRange → ℕ → Option (Range × Mode)
held_by held t = option_map (λ h. (h.range, h.mode)) (find (λ h. h.ticket == t) held)

-- what others hold
abbrev pub held_beside : List HeldRange → ℕ → List HeldRange
held_beside held t = filter (λ h. not (h.ticket == t)) held

-- with one more, by rising ticket
abbrev pub insert_held : HeldRange → List HeldRange → List HeldRange
insert_held h [] = h ∷ []
insert_held h (x ∷ xs) = if nat_lt h.ticket x.ticket then h ∷ x ∷ xs else x ∷ insert_held h xs

-- the same, by rising ticket, whatever their order was
abbrev pub by_ticket : List HeldRange → List HeldRange
by_ticket [] = []
by_ticket (h ∷ hs) = insert_held h (by_ticket hs)

-- no ticket is below n
abbrev pub none_below : ℕ → List HeldRange → Bool
none_below n held = list_all (λ h. nat_le n h.ticket) held

-- the tickets rise
abbrev pub AreHoldersRising : List HeldRange → Type 0
AreHoldersRising [] = Unit {0}
AreHoldersRising (h ∷ hs) = (none_below h.ticket hs ≡ true) × AreHoldersRising hs

-- each ticket holds one range, and no range conflicts with another
abbrev pub AreApart : List HeldRange → Type 0
AreApart [] = Unit {0}
AreApart (h ∷ hs) =
    IsRange h.range × (holds_range hs h.ticket ≡ false) × (has_conflict hs h.range h.mode ≡ false) × AreApart hs

-- g and h are held, at two places of the list
abbrev pub AreTwo : List HeldRange → ℕ → ℕ → HeldRange → HeldRange → Type 0
AreTwo held i j g h = (i ≢ j) × (slice_get held i ≡ Some g) × (slice_get held j ≡ Some h)

-- what the grant of a unit holds
abbrev pub held_of : GrantLine → HeldRange
held_of g = record { ticket = g.ticket; range = g.range; mode = g.mode }
