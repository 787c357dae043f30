use Rattle.std.proofs.lemmas.Result.{err_from_is_err_and}
use Rattle.casdisk_texts.proofs.TraceWritten.{traced, untraced}
use Rattle.casdisk_texts.proofs.tracing.trace_text.Goals as goal

pub returns-in_err-told : goal.returns-in_err-told
returns-in_err-told g c =
    let p = err_from_is_err_and c.from_residual.result c.from_residual.ensures.1 in
    rw (p.1, p.2) (record { traces = untraced c.in_err-told.field-0.0 _ _ _ c.in_err-told.ensures.unread })

pub returns : goal.returns
returns g c = record {
  traces =
      let told = c.in_ok-told.told in let whole = c.in_ok-told.ensures.whole in
      traced c.write_trace.result told.config told.entries.items _ _ _ _ whole.0 whole.1 c.write_trace.ensures.writes;
}
