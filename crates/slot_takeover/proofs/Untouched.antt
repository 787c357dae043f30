-- What was begun and what is held, where the driver did nothing.
use Rattle.std.proofs.Common.{ap, inl, subst, sym, ◌<◌}
use Rattle.nvme_model.specs.declared.array.Range.{Range}
use Rattle.driver_cas.specs.Cids.{QueueCids, held}
use Rattle.driver_cas.proofs.Drivers.{reaped_calls}
use Rattle.driver_cas.specs.Drivers.{IsCallOf}
use Rattle.driver_cas.specs.Starts.{IsUntouched}
use Rattle.driver_cas.specs.Tables.{is_free}
use Rattle.driver_cas.specs.declared.call.Call.{Call}
use Rattle.driver_cas.specs.declared.driver.Driver.{Driver}
use Rattle.driver_cas.specs.declared.port.Port.{Ghosts}
use Rattle.slot_alloc.specs.Progresses.{IsQuiet}
use Rattle.slot_takeover.specs.Holders.{IsReadingOf}
use Rattle.slot_takeover.specs.Takeovers.{HoldsTaken, IsTakingOverOf}
use Rattle.slot_takeover.specs.declared.held.HeldSlot.{HeldSlot}
use Rattle.slot_takeover.specs.declared.holder.ReadingHolder.{ReadingHolder}
use Rattle.slot_takeover.specs.declared.taking.TakingOver.{TakingOver}
use Rattle.slot_takeover.proofs.Answering.{held_more, taking_polled}
use Rattle.slot_takeover.proofs.Reading.{read_there}

module _ {P : Type 0} (g : Ghosts P) where
  quiet : (d e : Driver P g) → IsUntouched d e → IsQuiet d e
  quiet d e u = record { same = u.same; one = inl u.as_before.0 }

  call_kept : ((a b c : P) → g.follows a b → g.follows b c → g.follows a c) → (d e : Driver P g) → IsUntouched d e
      → (k : Call P) → IsCallOf d k → IsCallOf e k
  call_kept on d e u k of =
      reaped_calls g on d e k u.same u.later (inl u.as_before.0)
      (λ q i. ap (λ (c : QueueCids). is_free (held c q i)) u.as_before.1) of

  pub taking_kept : ((a b c : P) → g.follows a b → g.follows b c → g.follows a c)
      → (d e : Driver P g) (k : TakingOver P) → IsUntouched d e → IsTakingOverOf d k → IsTakingOverOf e k
  taking_kept on d e k u of = taking_polled g d e k of (quiet d e u) (call_kept on d e u k.call of.of)

  pub reading_kept : ((a b c : P) → g.follows a b → g.follows b c → g.follows a c)
      → (d e : Driver P g) (k : ReadingHolder P) → IsUntouched d e → IsReadingOf d k → IsReadingOf e k
  reading_kept on d e k u of =
      record {
        of = call_kept on d e u k.call of.of;
        does = of.does;
        inside = subst (λ (r : Range). k.slot < r.blocks) (sym u.same.slots) of.inside;
        reads = read_there g d e k of.reads (quiet d e u);
      }

  pub held_kept : (d e : Driver P g) (h : HeldSlot) → IsUntouched d e → HoldsTaken d h → HoldsTaken e h
  held_kept d e h u of = held_more g d e h of (quiet d e u)
