-- What is drawn of a file of entries.
use Rattle.std.specs.Prelude.{Bool, Err, IfSome, List, Ok, Option, Result, Some, false, is_none, true, unwrap_or}
use Rattle.std.specs.Prelude.{ℕ, ◌<◌, ◌≡◌, ◌≤◌}
use Rattle.std.specs.Io.KnownBytes.{Appends, IsAtEnd, Keeps}
use Rattle.line_text.specs.Known.{AppendsFront}
use Rattle.line_text.specs.Lines.{whole_lines}
use Rattle.nvme_model.specs.FirstBad.{first_bad_of}
use Rattle.nvme_model.specs.History.{Past}
use Rattle.nvme_model.specs.declared.config.ConfigNumbers.{ConfigNumbers}
use Rattle.casdisk_texts.specs.Fault.{exit_status}
use Rattle.casdisk_texts.specs.Files.{HasHistory, IsUnread}
use Rattle.casdisk_texts.specs.Script.{first_config}
use Rattle.casdisk_texts.specs.declared.fault.RunFault.{RunFault}
use Rattle.casdisk_texts.specs.declared.fault.RunFault.TheVariants.{BadLine, NoMemory, Output}
use Rattle.picture_shapes.specs.Picture.{PictureState, picture_of}
use Rattle.picture_svg.specs.Page.{picture_svg}
use Rattle.picture_svg.specs.Drawn.{end_of, has_no_slot, has_step, is_within, steps_drawn, steps_to}
use Rattle.picture_svg.specs.declared.drawer.DrawOptions.{DrawOptions}
use Rattle.picture_svg.specs.declared.fault.DrawFault.{DrawFault}
use Rattle.picture_svg.specs.declared.fault.DrawFault.TheVariants.{Beyond, NoSlots, NoStep, Run, TooLong}

-- The text is the picture of a history from one place to another, up to and with its first bad step, with some words
-- for that; it has the first of these steps, if that isn't 1, and at most 10,000 to draw; the volume has the area of
-- slots, where there is one, which has a block; and this is whether the history is legal.
pub record IsDrawn (c : ConfigNumbers) (o : DrawOptions) (past : Past) (answer : Bool) (text : List ℕ) : Type 0 where
  pub there : has_step o.from (end_of c past) ≡ true
  pub few : steps_drawn c o past ≤ 10000
  pub slots : has_no_slot o.aspect.lanes.slots ≡ false
  pub within : is_within o.aspect.lanes.slots c.blocks ≡ true
  pub legal : answer ≡ is_none (first_bad_of c past)
  pub words : List ℕ
  pub picture : text ≡ picture_svg (picture_of c o.from o.to o.aspect words past)

-- The history of a file has more steps to draw, and so many; an area of slots has a block, and the volume has the area.
pub record IsTooLong (c : ConfigNumbers) (o : DrawOptions) (past : Past) (steps : ℕ) : Type 0 where
  pub count : steps ≡ steps_drawn c o past
  pub many : 10000 < steps
  pub slots : has_no_slot o.aspect.lanes.slots ≡ false
  pub within : is_within o.aspect.lanes.slots c.blocks ≡ true

-- The history of a file ends before the first step to draw; an area of slots has a block, and the volume has the area.
pub record IsNoStep (c : ConfigNumbers) (o : DrawOptions) (past : Past) (from last : ℕ) : Type 0 where
  pub first : from ≡ o.from
  pub end : last ≡ end_of c past
  pub behind : has_step from last ≡ false
  pub slots : has_no_slot o.aspect.lanes.slots ≡ false
  pub within : is_within o.aspect.lanes.slots c.blocks ≡ true

-- the volume of a file's configuration, of so many blocks, lacks blocks of an area of slots
abbrev pub IsBeyond : DrawOptions → ℕ → List ℕ → Type 0
IsBeyond o blocks bytes =
    (c : ConfigNumbers) × (first_config (whole_lines bytes) ≡ Some c) × (c.blocks ≡ blocks)
    × (is_within o.aspect.lanes.slots blocks ≡ false)

-- the volume of a file's configuration has the area of slots, where there is one
abbrev pub HasArea : DrawOptions → List ℕ → Type 0
HasArea o bytes =
    (c : ConfigNumbers) × (first_config (whole_lines bytes) ≡ Some c)
    × (is_within o.aspect.lanes.slots c.blocks ≡ true)

-- where a line behind the first is told to be bad, the volume has the area
abbrev pub HasAreaByThen : DrawOptions → RunFault → Option (List ℕ) → Type 0
HasAreaByThen o (BadLine n) input = 1 < n → IfSome input (HasArea o)
HasAreaByThen o fault input = Unit {0}

-- By why nothing was drawn of a file: the area of slots has no block, and nothing was read; or it has one, and the file
-- wasn't read; or the volume lacks blocks of it.
abbrev pub IsUndrawn : DrawOptions → DrawFault → Option (List ℕ) → Option (List ℕ) → Type 0
IsUndrawn o (Run fault) input left =
    (has_no_slot o.aspect.lanes.slots ≡ false) × HasAreaByThen o fault input × IsUnread fault input left
IsUndrawn o NoSlots input left = (has_no_slot o.aspect.lanes.slots ≡ true) × (left ≡ input)
IsUndrawn o (Beyond blocks) input left =
    (has_no_slot o.aspect.lanes.slots ≡ false) × IfSome input (IsBeyond o blocks)
IsUndrawn o (TooLong steps) input left = ⊥
IsUndrawn o (NoStep from last) input left = ⊥

-- By what a drawing of a file answered: its whole picture, and the reader at its end; nothing; or a beginning of it.
abbrev pub DrawsText : DrawOptions → Result Bool DrawFault → (input left old new : Option (List ℕ)) → Type 0
DrawsText o (Ok answer) input left old new =
    IsAtEnd left × IfSome input
    (λ bytes. (text : List ℕ) × HasHistory (λ c past. IsDrawn c o past answer text) bytes × Appends old new text)
DrawsText o (Err (Run Output)) input left old new =
    IsAtEnd left × IfSome input (λ bytes. (answer : Bool) × (text : List ℕ)
    × HasHistory (λ c past. IsDrawn c o past answer text) bytes × AppendsFront old new text)
DrawsText o (Err (TooLong steps)) input left old new =
    IsAtEnd left × IfSome input (HasHistory (λ c past. IsTooLong c o past steps)) × Keeps old new
DrawsText o (Err (NoStep from last)) input left old new =
    IsAtEnd left × IfSome input (HasHistory (λ c past. IsNoStep c o past from last)) × Keeps old new
DrawsText o (Err fault) input left old new = IsUndrawn o fault input left × Keeps old new

-- the status with which the program ends
abbrev pub draw_status : DrawFault → ℕ
draw_status (Run fault) = exit_status fault
draw_status (TooLong steps) = 2
draw_status (NoStep from last) = 2
draw_status NoSlots = 2
draw_status (Beyond blocks) = 2

-- ---- on the way there

-- a picture was written, or a beginning of it, or nothing
abbrev pub WritesPicture : PictureState → Bool → Result Bool DrawFault → Option (List ℕ) → Option (List ℕ) → Type 0
WritesPicture s legal (Ok answer) old new = (answer ≡ legal) × Appends old new (picture_svg s)
WritesPicture s legal (Err (Run Output)) old new = AppendsFront old new (picture_svg s)
WritesPicture s legal (Err (Run NoMemory)) old new = Keeps old new
WritesPicture s legal (Err fault) old new = ⊥

-- what was drawn was written, or there are too many steps, or not the first of them
abbrev pub WritesDrawn : DrawOptions → Option ℕ → ℕ → PictureState → Result Bool DrawFault →
    (old new : Option (List ℕ)) → Type 0
WritesDrawn o bad count s (Err (TooLong steps)) old new =
    (steps ≡ steps_to o.from o.to (unwrap_or bad count)) × (10000 < steps) × Keeps old new
WritesDrawn o bad count s (Err (NoStep from last)) old new =
    (from ≡ o.from) × (last ≡ unwrap_or bad count) × (has_step from last ≡ false) × Keeps old new
WritesDrawn o bad count s result old new =
    (has_step o.from (unwrap_or bad count) ≡ true) × (steps_to o.from o.to (unwrap_or bad count) ≤ 10000)
    × WritesPicture s (is_none bad) result old new
