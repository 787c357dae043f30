-- Effects that are collected by their commands.
use Rattle.std.specs.Prelude.{Bool, List, None, Option, Some, [], false, if◌then◌else◌, is_none, true, ℕ, ◌&&◌, ◌+◌}
use Rattle.std.specs.Prelude.{◌==◌, ◌||◌}
use Rattle.std.specs.Prelude.{◌∷◌}
use Rattle.nvme_model.specs.Array.{has_block}
use Rattle.nvme_model.specs.EntryBytes.{block_count, slba, sqe_fields}
use Rattle.nvme_model.specs.Operations.{has_write}
use Rattle.nvme_model.specs.declared.array.Range.{Range}
use Rattle.nvme_model.specs.declared.operation.Op.{Op}
use Rattle.nvme_model.specs.declared.submission.Submission.{Submission}
use Rattle.trace.specs.declared.seen.ReapedLine.{ReapedLine}
use Rattle.refutation.specs.EffectOrders.{EffectName}
use Rattle.refutation.specs.Told.{says_differs, says_done}

-- the range has the block, where one is asked for
abbrev pub has_asked : Option ℕ → Range → Bool
has_asked None r = true
has_asked (Some l) r = has_block r l

-- The effects of a command's units, of which the first has number u: of those that have the block, where one is asked
-- for.
abbrev pub effects_from : ℕ → ℕ → ℕ → Option ℕ → List Range → List EffectName
effects_from q j u block [] = []
effects_from q j u block (r ∷ units) =
    if has_asked block r then record { queue = q; number = j; unit = u } ∷ effects_from q j (u + 1) block units
    else effects_from q j (u + 1) block units

-- A slice has the effects of a command that was answered so, does this and has n units.
abbrev pub are_pieces : Option ReapedLine → Option Op → ℕ → Bool
are_pieces answer o n =
    (says_done answer || (says_differs answer && (n == 1))) || (is_none answer && has_write o)

-- A command with this entry has the block, whether the volume does or not.
abbrev pub has_blocks : Option Submission → ℕ → Bool
has_blocks None l = false
has_blocks (Some s) l =
    let e = sqe_fields s.entry in
    has_block (record { slba = slba e; blocks = block_count e }) l
