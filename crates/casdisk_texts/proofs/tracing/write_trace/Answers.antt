use Rattle.std.proofs.Common.{List, subst}
use Rattle.nvme_model.specs.FirstBad.{IsFirstBad}
use Rattle.nvme_model.specs.declared.entry.Entry.{Entry}
use Rattle.casdisk_texts.proofs.TraceWritten.{unwritten}
use Rattle.casdisk_texts.proofs.tracing.write_trace.Goals as goal

pub returns-in-Err-BadAt : goal.returns-in-Err-BadAt
returns-in-Err-BadAt g c =
    let n = c.args.told.now.config in
    let place = c.in-Err-BadAt.field-0-0 in
    let first : IsFirstBad n c.as_slice.result.now place =
    rw c.in-Err-BadAt.field-0-is at c.in-Err-BadAt.ensures.value in
    let bad = subst (λ (l : List Entry). IsFirstBad n l place) c.as_slice.ensures.value first in
    record { writes = unwritten n c.args.told.now.entries.items place _ bad }
