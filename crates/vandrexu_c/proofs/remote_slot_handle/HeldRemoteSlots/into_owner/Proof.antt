-- `into_owner` keeps the pointer, with what it owns.
use Rattle.std.proofs.Common.{refl}
use Rattle.std.proofs.alloc.Calls.{Goes-blank}
use base.Logic.{id⊢}
use denote.Exit.{yes}
use denote.RattleType.{RattleType}
use denote.Signature.{plain}
use Rattle.std.specs.Prelude.{◌≡◌}
use Rattle.c_handles.proofs.Moving.{moved}
use Rattle.c_handles.specs.Owned.{owned}
use Rattle.c_handles.specs.contracts.owner.Owner as owner
use Rattle.vandrexu_c.specs.contracts.remote_slots.RemoteSlotHost as value
use Rattle.vandrexu_c.specs.contracts.remote_slot_handle.HeldRemoteSlots as held
use Rattle.vandrexu_c.specs.contracts.remote_slot_handle.HeldRemoteSlots.into_owner as f
use Rattle.vandrexu_c.proofs.remote_slot_handle.HeldRemoteSlots.into_owner.Statement.{statement}
use Rattle.vandrexu_c.proofs.remote_slot_handle.HeldRemoteSlots.into_owner.Code as code

abbrev From : RattleType
From = held.the_row

abbrev To : RattleType
To = owner.the_row value.the_row

pub into_owner_spec : {M : Type 1} → statement M
into_owner_spec 𝓤 𝓛 𝓜 𝓡 wired =
    moved 𝓛 𝓜 𝓡 From To (λ d. d.at) (λ d. owned value.the_row d.at d.host) (λ d. record { at = d.at; value = d.host })
    (λ d r. r.value ≡ d.host) (λ d vs. id⊢ 𝓤 _) (λ d. id⊢ 𝓤 _) (λ d. tt)
    (Goes-blank 𝓛 0 (plain (λ _. From)) yes (λ κs x w. tt), tt) (λ d. refl) held.the_type.name
    (owner.the_type value.the_row).name
    f.Key.name (code.unfolded 𝓤 𝓛.H 𝓜 𝓡 wired)
