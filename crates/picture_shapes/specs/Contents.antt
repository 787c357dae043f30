-- What lies in a block, as much of it as a picture shows.
use Rattle.std.specs.Prelude.{List, None, Some, [], bytes_eq, true, ℕ, ◌%◌, ◌+◌, ◌∷◌}
use Rattle.nvme_model.specs.Array.{zeros}
use Rattle.nvme_model.specs.Slots.{name_of}
use Rattle.picture_shapes.specs.declared.content.Content.{Content}

-- the sum of the sums of the bytes, where these are the two sums of those before them
abbrev pub sums : (sum all : ℕ) → List ℕ → ℕ
sums sum all [] = all
sums sum all (b ∷ bytes) = sums ((sum + b) % 256) ((all + (sum + b) % 256) % 256) bytes

-- the first byte, where there is one
abbrev pub first_byte : List ℕ → ℕ
first_byte [] = 0
first_byte (b ∷ bytes) = b

-- The two digits that stand for a block's bytes: of 512 equal bytes it is that byte.
abbrev pub digits_of : List ℕ → ℕ
digits_of bytes = (first_byte bytes + sums 0 0 bytes) % 256

-- What a ticket wrote: its number, the digits of the bytes, whether they are zeros, and the name that they spell.
abbrev pub content_of : ℕ → List ℕ → Content
content_of ticket bytes =
    record {
      ticket = Some ticket;
      digits = digits_of bytes;
      zeros = bytes_eq bytes zeros;
      name = name_of bytes;
    }

-- the zeros that a volume begins with
abbrev pub unwritten : Content
unwritten = record { ticket = None; digits = 0; zeros = true; name = None }
