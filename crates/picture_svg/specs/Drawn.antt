-- What was drawn of a list of entries.
use Rattle.std.specs.Prelude.{Bool, List, None, Option, Some, false, if◌then◌else◌, is_none, length, min, nat_le}
use Rattle.std.specs.Prelude.{nat_lt, true, unwrap_or, ℕ, ◌+◌, ◌-◌, ◌==◌, ◌||◌, ◌≡◌, ◌≤◌}
use Rattle.nvme_model.specs.FirstBad.{first_bad_of}
use Rattle.nvme_model.specs.History.{Past}
use Rattle.nvme_model.specs.declared.array.Range.{Range}
use Rattle.nvme_model.specs.declared.config.ConfigNumbers.{ConfigNumbers}
use Rattle.nvme_model.specs.declared.entry.Entry.{Entry}
use Rattle.casdisk_texts.specs.Judged.{HasJudged}
use Rattle.casdisk_texts.specs.declared.judging.FirstBad.{FirstBad}
use Rattle.history_check.specs.Kept.{CheckerRun}
use Rattle.picture_shapes.specs.Picture.{PictureState, picture_of, picture_step}
use Rattle.picture_svg.specs.declared.drawer.DrawOptions.{DrawOptions}

-- whether there is an area of slots that has no block
abbrev pub has_no_slot : Option Range → Bool
has_no_slot None = false
has_no_slot (Some slots) = slots.blocks == 0

-- whether a volume of so many blocks has all blocks of an area of slots, where there is one
abbrev pub is_within : Option Range → ℕ → Bool
is_within None blocks = true
is_within (Some slots) blocks = nat_le (slots.slba + slots.blocks) blocks

-- how many places there are from `from` to `to` that aren't behind this one
abbrev pub steps_to : (from to place : ℕ) → ℕ
steps_to from to place = min place to - (from - 1)

-- a picture may begin with this step, where this is the last that there is
abbrev pub has_step : (from last : ℕ) → Bool
has_step from last = nat_le from 1 || nat_le from last

-- The last place of a history that is drawn: that of its first bad entry, or else of its last one.
abbrev pub end_of : ConfigNumbers → Past → ℕ
end_of c past = unwrap_or (first_bad_of c past) (length past)

-- How many steps of a history are to be drawn: none behind its first bad one.
abbrev pub steps_drawn : ConfigNumbers → DrawOptions → Past → ℕ
steps_drawn c o past = steps_to o.from o.to (end_of c past)

-- the picture with the entry at this place, which is the first bad one or may follow, where there aren't too many steps
abbrev pub drawn_next : ConfigNumbers → (from to : ℕ) → List ℕ → Option ℕ → ℕ → Entry → PictureState → PictureState
drawn_next c from to words bad place e s =
    if nat_lt 10000 (steps_to from to place) then s else picture_step c words None bad place e s

-- The entries were judged, and where there are at most 10,000 steps to draw the picture has them, with some words for
-- the first bad one.
pub record HasDrawn (c : ConfigNumbers) (o : DrawOptions) (past : Past) (config : ConfigNumbers) (x : CheckerRun)
    (count : ℕ) (bad : FirstBad) (picture : PictureState) : Type 0 where
  pub same : config ≡ c
  pub judged : HasJudged true c past x count bad
  pub words : List ℕ
  pub drawn : steps_drawn c o past ≤ 10000 → picture ≡ picture_of c o.from o.to o.aspect words past

-- This was found of a whole history, whose volume has the area of slots, where there is one: its first bad place, how
-- many entries it has, and its picture.
pub record HasDrawing (c : ConfigNumbers) (o : DrawOptions) (past : Past) (bad : Option ℕ) (count : ℕ)
    (picture : PictureState) : Type 0 where
  pub slots : has_no_slot o.aspect.lanes.slots ≡ false
  pub within : is_within o.aspect.lanes.slots c.blocks ≡ true
  pub last : unwrap_or bad count ≡ end_of c past
  pub steps : steps_to o.from o.to (unwrap_or bad count) ≡ steps_drawn c o past
  pub legal : is_none bad ≡ is_none (first_bad_of c past)
  pub words : List ℕ
  pub drawn : steps_drawn c o past ≤ 10000 → picture ≡ picture_of c o.from o.to o.aspect words past
