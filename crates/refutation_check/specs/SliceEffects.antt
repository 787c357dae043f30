-- What an effect of a slice tells of blocks.
use Rattle.std.specs.Prelude.{Bool, List, map, not, ℕ, ◌&&◌}
use Rattle.std.specs.Str.{bytes_eq}
use Rattle.nvme_model.specs.Operations.{compare_data, op}
use Rattle.nvme_model.specs.Verdict.{is_in}
use Rattle.refutation.specs.Pieces.{Held}
use Rattle.refutation.specs.EffectOrders.{EffectName}
use Rattle.refutation.specs.Slices.{answer_data, answer_of, found_block, none_else, ticket_of}
use Rattle.refutation_check.specs.Commands.{name_of}
use Rattle.refutation_check.specs.Known.{config_of, options_of, trace_of}
use Rattle.refutation_check.specs.declared.known.Chosen.{Chosen}
use Rattle.refutation_check.specs.declared.known.Known.{Known}

-- the effects of a slice
abbrev pub names_of : Chosen → List EffectName
names_of s = map name_of s.names.now

-- what block l was where effect n says yes
abbrev pub found_of : Known → EffectName → ℕ → List ℕ
found_of x n l =
    let k = ticket_of (trace_of x) n in found_block (op k) k (answer_data (answer_of (trace_of x) n)) l

-- No effect outside a slice can have left this on a block before effect n.
abbrev pub is_left_inside : Chosen → EffectName → Held → Bool
is_left_inside s n h =
    none_else (options_of s.known) (config_of s.known) (trace_of s.known) (names_of s) n h.0 (λ d. bytes_eq d h.1)

-- A slice looks at block l, and no effect outside can have left anything else there than what effect n compares.
abbrev pub differs_inside : Chosen → EffectName → ℕ → Bool
differs_inside s n l =
    is_in l s.blocks.now
    && none_else (options_of s.known) (config_of s.known) (trace_of s.known) (names_of s) n l
    (λ d. not (bytes_eq d (compare_data (ticket_of (trace_of s.known) n) l)))
