-- The words that a seed gives.
use Rattle.std.specs.Prelude.{ℕ}
use Rattle.rand_pcg.specs.Lcg.{Lcg, increment_of, started}
use Rattle.rand_pcg.specs.Pcg.{multiplier_64, pcg32}

-- The generator of a seed, as PCG's reference code makes it: the seed is its state, and stream 54 is that of all seeds.
unfoldable pub seeded : ℕ → Lcg
seeded seed = started 64 multiplier_64 seed (increment_of 64 54)

-- The next word of a generator, 32 bits.
unfoldable pub drawn_word : Lcg → ℕ
drawn_word g = (pcg32 g).0

-- The generator behind its next word.
unfoldable pub moved_on : Lcg → Lcg
moved_on g = (pcg32 g).1
