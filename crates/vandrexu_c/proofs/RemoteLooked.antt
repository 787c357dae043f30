-- A host of which nothing is to be carried.
use Rattle.std.proofs.Common.{List, None, Option, Some, [], arith, inr, refl, sym, ℕ, ◌∙◌, ◌∷◌, ◌≡◌}
use Rattle.std.specs.Prelude.{slice_get}
use Rattle.driver_cas.specs.Starts.{IsUntouched}
use Rattle.driver_cas.specs.declared.driver.Driver.{Driver}
use Rattle.remote_host.specs.Queues.{to_carry}
use Rattle.remote_host.specs.contracts.port.RemotePortPort.TheImpl.{ghosts}
use Rattle.remote_host.specs.declared.port.Outgoing.{Outgoing}
use Rattle.remote_host.specs.declared.port.RemotePort.{RemotePort}
use Rattle.vandrexu_c.specs.Remotes.{GivesNext}
use Rattle.vandrexu_c.specs.declared.carrying.OutgoingEntry.{OutgoingEntry}

none_first : {A : Type 0} (xs : List A) → None ≡ slice_get xs 0 → xs ≡ []
none_first [] h = refl
none_first (x ∷ xs) h = absurd (let a : None ≡ Some x = h in cc)

-- what is told then
pub given_none : (a : RemotePort) (o : Option Outgoing) (entry : OutgoingEntry) (room : List ℕ)
    → o ≡ slice_get (to_carry a) 0 → o ≡ None → GivesNext a a 105 entry entry room room
given_none a o entry room first none =
    record {
      gives = λ e. absurd (omega (arith, e));
      short = λ e. absurd (omega (arith, e));
      none = λ e. (
        (none_first (to_carry a) (sym none ∙ first), record { to_carry_is = refl; brought_is = refl }),
        refl,
        refl,
      );
      other = inr (inr refl);
    }

-- nothing was done
pub untouched_here : (d : Driver RemotePort ghosts) → IsUntouched d d
untouched_here d =
    record {
      same = record { began = refl; host = refl; acwu = refl; slots = refl; serial = refl; queues = refl };
      later = record { more = []; is = refl };
      as_before = (refl, refl);
    }
