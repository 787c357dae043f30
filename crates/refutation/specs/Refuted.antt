-- What refutes a trace. A trace is the list of its lines, the newest first.
use Rattle.std.specs.Prelude.{Bool, List, drop, length, nat_le, ℕ, ◌&&◌, ◌-◌, ◌||◌}
use Rattle.nvme_model.specs.declared.config.ConfigNumbers.{ConfigNumbers}
use Rattle.trace.specs.declared.options.TraceOptions.{TraceOptions}
use Rattle.trace.specs.declared.seen.Seen.{Seen}
use Rattle.refutation.specs.Layers.{has_no_order}
use Rattle.refutation.specs.Apart.{held_at_first}
use Rattle.refutation.specs.Lines.{is_tidy}
use Rattle.refutation.specs.ReadRules.{is_bad_read_line}
use Rattle.refutation.specs.Slices.{slice_of}

-- The first n lines of a trace.
abbrev pub first_lines : ℕ → List Seen → List Seen
first_lines n trace = drop (length trace - n) trace

-- The effects of these commands, each a submission queue and a number there, had no order in which each found on these
-- blocks what it found: what was written or found there before, or what blocks held at first, where that is known. Who
-- answers whom is asked of traces that publish no CID again while it waits.
abbrev pub lacks_order : TraceOptions → ConfigNumbers → List Seen → List (ℕ × ℕ) → List ℕ → Bool
lacks_order o c trace commands blocks =
    is_tidy trace && has_no_order (held_at_first o) (slice_of o c trace commands blocks)

-- The first so many lines of a trace are refuted, as options read it: the last of them is bad, or the slice
-- of these commands that looks at these blocks lacks an order.
abbrev pub is_refuted : TraceOptions → ConfigNumbers → List Seen → ℕ → List (ℕ × ℕ) → List ℕ → Bool
is_refuted o c trace lines commands blocks =
    let first = first_lines lines trace in
    nat_le lines (length trace)
    && (is_bad_read_line o c first || lacks_order o c first commands blocks)
