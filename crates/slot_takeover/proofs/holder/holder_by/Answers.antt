use Rattle.std.proofs.Common.{ap, sym, ◌∙◌}
use Rattle.driver_calls.specs.declared.reply.Reply.{Reply}
use Rattle.slot_takeover.specs.Holders.{payload_of_read, holder_in}
use Rattle.slot_takeover.proofs.holder.holder_by.Goals as goal

pub returns : goal.returns
returns c = record {
  value = c.holder_of.ensures.value
      ∙ (ap holder_in c.as_slice.ensures ∙ ap (λ (r : Reply). holder_in (payload_of_read r)) (sym c.in-Read.is));
}
