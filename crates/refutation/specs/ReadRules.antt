-- Which rules of lines hold where options leave something of a trace out.
use Rattle.std.specs.Prelude.{Bool, List, [], false, not, ◌&&◌, ◌||◌, ◌∷◌}
use Rattle.nvme_model.specs.declared.config.ConfigNumbers.{ConfigNumbers}
use Rattle.host_laws.specs.Calls.{is_clean}
use Rattle.trace.specs.Options.{read_completion}
use Rattle.trace.specs.declared.options.TraceOptions.{TraceOptions}
use Rattle.trace.specs.declared.seen.ReapedLine.{ReapedLine}
use Rattle.trace.specs.declared.seen.Seen.{Seen}
use Rattle.refutation.specs.Apart.{is_apart, is_lacked}
use Rattle.refutation.specs.LineRules.{has_early_second, has_wrong_batch, has_wrong_data, has_wrong_head}
use Rattle.refutation.specs.LineRules.{has_wrong_phase}
use Rattle.refutation.specs.LineRules.{has_wrong_second, has_wrong_status, names_no_entry, names_wrong_queue}
use Rattle.refutation.specs.Lines.{is_tidy}

-- The completion, as options read it, sets a bit that this profile leaves zero.
abbrev pub sets_read_bits : TraceOptions → ReapedLine → Bool
sets_read_bits o r = not (is_clean (read_completion o r.cqe))

-- Its status, or the data that goes with it, isn't what its entry may be answered.
abbrev pub has_wrong_answer : ConfigNumbers → List Seen → ReapedLine → Bool
has_wrong_answer c trace r =
    has_wrong_status c trace r || has_wrong_second trace r || has_early_second trace r || has_wrong_data trace r

-- It breaks one of the rules that ask which entry it answers: SQHD is asked where it isn't ignored, the status and the
-- data where not any status will do.
abbrev pub breaks_read_rules : TraceOptions → ConfigNumbers → List Seen → ReapedLine → Bool
breaks_read_rules o c trace r =
    names_no_entry trace r || (not o.ignored.sqhd && has_wrong_head c trace r)
    || (not o.statuses_any && has_wrong_answer c trace r)

-- The newest line of a trace is bad, as options read it. Where the trace lacks a queue pair, no line is one of that
-- pair; and the phase tag is asked where it lacks no completion of its own queues.
abbrev pub is_bad_read_line : TraceOptions → ConfigNumbers → List Seen → Bool
is_bad_read_line o c [] = false
is_bad_read_line o c (Seen.Published p ∷ trace) = is_lacked o c (Seen.Published p) || has_wrong_batch c p
is_bad_read_line o c (Seen.Reaped r ∷ trace) =
    is_lacked o c (Seen.Reaped r) || sets_read_bits o r || (is_apart o c && has_wrong_phase c trace r)
    || names_wrong_queue c r || (is_tidy trace && breaks_read_rules o c trace r)
