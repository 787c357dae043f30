-- What a handle of a controller owns.
use Rattle.std.specs.Prelude.{List, None, Option, Some, [], length, max, min, ℕ, ◌-◌, ◌≡◌, ◌⊎◌}
use Rattle.c_handles.specs.Owned.{Keeps, mark}
use Rattle.nvme_model.specs.Config.{config_fault, config_fault_number}
use Rattle.nvme_model.specs.declared.config.ConfigFault.{ConfigFault}
use Rattle.nvme_model.specs.declared.config.ConfigNumbers.{ConfigNumbers}
use Rattle.controller_interface.specs.State.{ControllerState, KeepsRoom, LacksRoom}

-- a controller, and the data of the completion that was reaped last
pub record OwnedState : Type 0 where
  pub core : ControllerState
  pub payload : List ℕ

-- a handle owns a controller of this configuration that has no history, which the configuration's faults don't refuse
abbrev pub IsNewController : ConfigNumbers → Option OwnedState → Type 0
IsNewController c o = Keeps o (λ m.
    (m.core ≡ record { config = c; past = []; forgotten = 0; promised = 0; room = m.core.room })
    × (m.payload ≡ []) × (config_fault c ≡ None))

-- why no controller was made: the handle owns one, this is the first fault of the configuration, or memory was refused
abbrev pub MayRefuse : ConfigNumbers → Option OwnedState → ℕ → Type 0
MayRefuse c o number =
    ((number ≡ 102) × (mark o ≡ 1))
    ⊎ ((fault : ConfigFault) × (config_fault c ≡ Some fault) × (number ≡ config_fault_number fault))
    ⊎ ((number ≡ 11) × (config_fault c ≡ None))

-- what is promised is so much, or it is as before where there was no room and memory was refused
abbrev pub Reserves : OwnedState → ℕ → ℕ → OwnedState → Type 0
Reserves old more number new =
    (new.payload ≡ old.payload) × KeepsRoom old.core.room new.core.room
    × (((number ≡ 0) × (new.core ≡ record old.core { promised = max old.core.promised more; room = new.core.room }))
    ⊎ ((number ≡ 11) × (new.core ≡ record old.core { room = new.core.room }) × LacksRoom old.core.room more))

-- the entries of the places before this one, from 1, are forgotten
abbrev pub Forgets : OwnedState → ℕ → OwnedState → Type 0
Forgets old place new =
    (new.payload ≡ old.payload) × KeepsRoom old.core.room new.core.room
    × (new.core ≡ record old.core {
      forgotten = max old.core.forgotten (min (place - 1) (length old.core.past));
      room = new.core.room;
    })
