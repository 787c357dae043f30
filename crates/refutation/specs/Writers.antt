-- Only what writes a block can have left something there: what `none_else` asks, of the block's writers alone.
use Rattle.std.specs.List.{filter, list_all, list_any}
use Rattle.std.specs.Prelude.{Bool, List, not, ℕ, ◌&&◌, ◌||◌}
use Rattle.nvme_model.specs.Operations.{write_data}
use Rattle.nvme_model.specs.declared.config.ConfigNumbers.{ConfigNumbers}
use Rattle.trace.specs.declared.options.TraceOptions.{TraceOptions}
use Rattle.trace.specs.declared.seen.Seen.{Seen}
use Rattle.refutation.specs.EffectOrders.{EffectName, comes_before}
use Rattle.refutation.specs.Slices.{answer_of, effects_in, is_named, may_write, ticket_of}
use Rattle.refutation.specs.Told.{says_done}

-- The effects of a trace that may write block l.
abbrev pub writers_in : ConfigNumbers → List Seen → ℕ → List EffectName
writers_in c trace l = filter (λ y. may_write c trace y l) (effects_in c trace)

-- One of these writers of a block, answered by success, stands between y and r.
abbrev pub is_covered_by : TraceOptions → ConfigNumbers → List Seen → List EffectName → EffectName → EffectName → Bool
is_covered_by o c trace writers y r =
    list_any (λ x. says_done (answer_of trace x) && comes_before o c trace y x && comes_before o c trace x r) writers

-- What `fits` says of holds of nothing that these writers of block l, without the named ones, may have left there
-- before r.
abbrev pub none_by : TraceOptions → ConfigNumbers → List Seen → List EffectName → List EffectName → EffectName → ℕ
    → (List ℕ → Bool) → Bool
none_by o c trace writers names r l fits =
    list_all
    (λ y. is_named names y || not (not (comes_before o c trace r y) && not (is_covered_by o c trace writers y r)
    && fits (write_data (ticket_of trace y) l)))
    writers
