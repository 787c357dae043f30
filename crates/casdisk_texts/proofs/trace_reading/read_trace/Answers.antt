use Rattle.std.proofs.Common.{[], Err, List, None, Ok, Option, Some, is_some, subst, sym, ℕ}
use Rattle.std.proofs.lemmas.Result.{err_from_is_err_and}
use Rattle.trace.specs.Options.{no_options}
use Rattle.trace.specs.declared.options.TraceOptions.{TraceOptions}
use Rattle.casdisk_texts.specs.Script.{script_outcome}
use Rattle.casdisk_texts.specs.Traces.{HasCollected, has_room, line_kept}
use Rattle.casdisk_texts.proofs.Collected.{begins_so, none_collected, room_is, same_in_memory, trace_unread}
use Rattle.casdisk_texts.proofs.Collected.{whole_trace}
use Rattle.casdisk_texts.proofs.Reaching.{makes_after, runs_after}
use Rattle.casdisk_texts.proofs.trace_reading.read_trace.Goals as goal

pub returns-in_err-config : goal.returns-in_err-config
returns-in_err-config g c =
    let p = err_from_is_err_and c.from_residual.result c.from_residual.ensures.1 in
    let none : Option (List ℕ) = None in
    let f = c.in_err-config.field-0.0 in
    let stops = trace_unread f _ _ none none (c.in_err-config.ensures.stopped (λ c'. line_kept (has_room c')) none) in
    rw (p.1, p.2) (record { whole = tt; unread = rw (same_in_memory f c.in_err-config.ensures.read) at stops })

pub returns-in-Ok-run_lines-clause-whole : goal.returns-in-Ok-run_lines-clause-whole
returns-in-Ok-run_lines-clause-whole g c =
    let none = Some c.new-unprinted.result.items in
    let some = Some c.run_lines.new.writer.items in
    let n = c.in_ok-config.config in
    let room = room_is n c.unknown_config.result c.unknown_config.ensures.value in
    let start : HasCollected n c.unknown_config.result n no_options 0 c.new-2.result.items [] =
    rw (c.new-2.ensures.items) (none_collected n c.unknown_config.result c.unknown_config.ensures.value) in
    let first = subst (λ (o : TraceOptions). HasCollected n c.unknown_config.result n o 0 c.new-2.result.items [])
    (sym c.none.ensures.value) start in
    let begun = c.in_ok-config.ensures.begun (λ c'. line_kept (has_room c')) None none tt in
    let ran = rw room at c.in-Ok-run_lines.ensures.runs n [] first in
    let made = rw room at c.in-Ok-run_lines.ensures.makes n [] first in
    let all = runs_after (script_outcome (λ c'. line_kept (has_room c'))) (line_kept (has_room n)) [] 2 _ _ _ None none
    some _ (Ok tt) begun ran in
    let last = c.run_lines.new.actor in
    let makes = makes_after (script_outcome (λ c'. line_kept (has_room c'))) (line_kept (has_room n)) [] 2 _ _ None
    none _ (Ok tt) (HasCollected n last.wide last.history last.options last.rank last.things.items) begun made in
    whole_trace n last.wide last.history last.options last.rank last.things.items _ _ None some all makes
    c.in_ok-config.ensures.config

pub returns-clause-unread : goal.returns-clause-unread
returns-clause-unread g c =
    let none = Some c.new-unprinted.result.items in
    let some = Some c.run_lines.new.writer.items in
    let n = c.in_ok-config.config in
    let room = room_is n c.unknown_config.result c.unknown_config.ensures.value in
    let start : HasCollected n c.unknown_config.result n no_options 0 c.new-2.result.items [] =
    rw (c.new-2.ensures.items) (none_collected n c.unknown_config.result c.unknown_config.ensures.value) in
    let first = subst (λ (o : TraceOptions). HasCollected n c.unknown_config.result n o 0 c.new-2.result.items [])
    (sym c.none.ensures.value) start in
    let begun = c.in_ok-config.ensures.begun (λ c'. line_kept (has_room c')) None none tt in
    let outcome = script_outcome (λ c'. line_kept (has_room c')) in
    let here = begins_so outcome (is_some c.unknown_config.result) (has_room n) _ _ _ _ _ room begun in
    let all = runs_after outcome (line_kept (is_some c.unknown_config.result)) [] 2 _ _ _ None none some _
    (Err c.in-Err.fault) here (c.in-Err.ensures.runs n [] first) in
    rw c.in_memory.ensures.value (trace_unread c.in-Err.fault _ _ None some all)
