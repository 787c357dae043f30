use Rattle.std.proofs.Common.{take}
use mathlib.Core.List.{reverse}
use Rattle.std.specs.Io.KnownBytes.{Appends}
use Rattle.witness_check.specs.TraceText.{trace_text}
use Rattle.witness_check.specs.Seeing.{AreWaitingPayloads}
use Rattle.witness_check.proofs.printing.print_trace.Given as goal

abbrev pub invariant-loop-k : goal.invariant-loop-k
invariant-loop-k g l =
    Appends (g.W.Write.contents l.fn.writer) (g.W.Write.contents l.writer)
    (trace_text l.config (reverse (take l.k l.entries)))
    × AreWaitingPayloads l.config (reverse (take l.k l.entries)) l.observer
