-- The two bits of FUSE.
use Rattle.std.specs.Prelude.{ℕ}
use Rattle.entry_codec.specs.declared.fuse.Fuse.{Fuse}
use Rattle.entry_codec.specs.declared.fuse.Fuse.TheVariants.{Normal, First, Second, Reserved}

-- the number of the two bits (Base 2.0, Submission Queue Entry)
abbrev pub fuse_number : Fuse → ℕ
fuse_number Normal = 0
fuse_number First = 1
fuse_number Second = 2
fuse_number Reserved = 3
