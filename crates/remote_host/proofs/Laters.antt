-- A port at a later time.
use Rattle.std.proofs.Common.{List, [], ◌∷◌, ◌++◌, ◌∙◌, ◌≡◌, ap, append_assoc, sym}
use Rattle.driver_calls.specs.declared.event.PortEvent.{PortEvent}
use Rattle.remote_host.specs.Events.{events_of}
use Rattle.remote_host.specs.Queues.{IsLater}
use Rattle.remote_host.specs.declared.port.RemotePort.{RemotePort}

pub later_by_one : (a b : RemotePort) (e : PortEvent) → events_of b ≡ e ∷ events_of a → IsLater a b
later_by_one a b e h = record { more = e ∷ []; is = h }

pub later_than_later : (a b c : RemotePort) → IsLater a b → IsLater b c → IsLater a c
later_than_later a b c x y =
    record {
      more = y.more ++ x.more;
      is = y.is ∙ ap (λ (log : List PortEvent). y.more ++ log) x.is ∙ sym (append_assoc y.more x.more (events_of a));
    }
