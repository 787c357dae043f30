-- Who is believed to hold a slot.
use Rattle.std.specs.Prelude.{Bool, List, None, Option, Some, [], if◌then◌else◌, nat_le, remove, slice_get, ℕ, ◌&&◌}
use Rattle.std.specs.Prelude.{◌++◌, ◌==◌, ◌∷◌}
use Rattle.std.specs.List.{position}
use Rattle.nvme_model.specs.Slots.{same_name}
use Rattle.picture_shapes.specs.declared.belief.Belief.{Belief}
use Rattle.picture_shapes.specs.declared.lane_entry.SlotName.{SlotName}

-- Those who believe that they hold a slot, and those who believed it.
pub record BeliefsState : Type 0 where
  pub lasting : List Belief
  pub done : List Belief

-- nobody
abbrev pub no_beliefs : BeliefsState
no_beliefs = record { lasting = []; done = [] }

-- a belief that begins at this place
abbrev pub new_belief : ℕ → SlotName → Belief
new_belief place x = record { slot = x; begun = place; ended = None }

-- A Reap that tells of a claim's success begins a belief.
abbrev pub beliefs_reaped : ℕ → Option SlotName → BeliefsState → BeliefsState
beliefs_reaped place None s = s
beliefs_reaped place (Some x) s = record s { lasting = s.lasting ++ new_belief place x ∷ [] }

-- whether a belief is of this slot and this name
abbrev pub is_of : SlotName → Belief → Bool
is_of x b = (b.slot.lba == x.lba) && same_name b.slot.name x.name

-- where the belief of this slot and this name is
abbrev pub belief_place : SlotName → List Belief → Option ℕ
belief_place x lasting = position (is_of x) lasting

-- the belief at an index ends
abbrev pub ended_there : (from place i : ℕ) → BeliefsState → Option Belief → BeliefsState
ended_there from place i s None = s
ended_there from place i s (Some b) =
    record {
      lasting = remove s.lasting i;
      done = if nat_le from place then s.done ++ (record b { ended = Some place }) ∷ [] else s.done;
    }

-- the same, where there is a place
abbrev pub ended_at : (from place : ℕ) → BeliefsState → Option ℕ → BeliefsState
ended_at from place s None = s
ended_at from place s (Some i) = ended_there from place i s (slice_get s.lasting i)

-- The Publish of a release ends the belief of its slot and its name.
abbrev pub beliefs_released : (from place : ℕ) → Option SlotName → BeliefsState → BeliefsState
beliefs_released from place None s = s
beliefs_released from place (Some x) s = ended_at from place s (belief_place x s.lasting)
