-- Boxes in lanes, each with words in it and words under the pointer.
use Rattle.std.specs.Prelude.{List, None, Option, Some, [], codes, decimal, if◌then◌else◌, nat_lt, ℕ, ◌%◌, ◌*◌, ◌+◌}
use Rattle.std.specs.Prelude.{◌-◌, ◌/◌, ◌∷◌}
use Rattle.std.specs.List.{concat}
use Rattle.nvme_model.specs.Slots.{Name}
use Rattle.picture_shapes.specs.declared.content.Content.{Content}
use Rattle.picture_svg.specs.Columns.{room}
use Rattle.picture_svg.specs.declared.boxes.Frame.{Frame}

-- the character of a hexadecimal digit
abbrev pub hex_digit : ℕ → ℕ
hex_digit n = if nat_lt n 10 then 48 + n else 55 + n

-- two digits
abbrev pub two_digits : ℕ → List ℕ
two_digits n = hex_digit (n / 16) ∷ hex_digit (n % 16) ∷ []

-- the hue of a value, in degrees: from yellow to violet, so that none is the red of a fault
abbrev pub value_hue : ℕ → ℕ
value_hue digits = 60 + digits * 15 / 16

-- the hue of a host, in degrees, in the same range: hosts with numbers that are near have hues that aren't
abbrev pub host_hue : ℕ → ℕ
host_hue host = 60 + host * 137 % 240

-- the beginning of a box of a class and a hue
abbrev pub hue_svg : List ℕ → ℕ → List ℕ
hue_svg class hue =
    concat (codes "<rect class='" ∷ class ∷ codes "' style='fill:hsl(" ∷ decimal hue ∷ codes ",75%,50%)" ∷ [])

-- where a box lies, to its end
abbrev pub extent_svg : Frame → List ℕ
extent_svg f =
    concat (codes "' x='" ∷ decimal f.left ∷ codes "' y='" ∷ decimal f.top ∷ codes "' width='"
    ∷ decimal (f.right - f.left) ∷ codes "' height='" ∷ decimal f.height ∷ codes "' rx='4'/>" ∷ [])

-- a box of a class and a hue
abbrev pub hued_svg : List ℕ → ℕ → Frame → List ℕ
hued_svg class hue f = concat (hue_svg class hue ∷ extent_svg f ∷ [])

-- who wrote a value, in words
abbrev pub writer_told : Option ℕ → List ℕ
writer_told None = codes ", as the volume begins"
writer_told (Some ticket) = concat (codes ", written by ticket " ∷ decimal ticket ∷ [])

-- a name in words
abbrev pub name_told : Name → List ℕ
name_told n = concat (codes "host " ∷ decimal n.host ∷ codes ", claim " ∷ decimal n.serial ∷ [])

-- the words in a box begin here
abbrev pub label_open : Frame → List ℕ
label_open f =
    concat (codes "<text x='" ∷ decimal (f.left + 8) ∷ codes "' y='" ∷ decimal (f.top + 14) ∷ codes "'>" ∷ [])

-- how many characters a box has room for
abbrev pub room_in : Frame → ℕ
room_in f = room (f.right - f.left)

-- the ticket that wrote a value, where there is room for it
abbrev pub writer_label : ℕ → Option ℕ → List ℕ
writer_label places None = []
writer_label places (Some ticket) =
    if nat_lt places 18 then [] else concat (codes " by ticket " ∷ decimal ticket ∷ [])

-- The words in the box of a value: its two digits, and its ticket where there is room.
abbrev pub value_label : Frame → Content → List ℕ
value_label f x =
    concat (label_open f ∷ two_digits x.digits ∷ writer_label (room_in f) x.ticket ∷ codes "</text>" ∷ [])

-- the claim of a name, where there is room for it
abbrev pub claim_label : ℕ → ℕ → List ℕ
claim_label places serial =
    if nat_lt places 18 then [] else concat (codes ", claim " ∷ decimal serial ∷ [])

-- the host of a name
abbrev pub host_label : ℕ → List ℕ
host_label host = concat (codes "host " ∷ decimal host ∷ [])

-- The words in the box of a name: its host, and its claim where there is room.
abbrev pub name_label : Frame → Name → List ℕ
name_label f n =
    concat (label_open f ∷ host_label n.host ∷ claim_label (room_in f) n.serial ∷ codes "</text>" ∷ [])
