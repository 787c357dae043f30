-- `of` keeps the pointer, with what it owns.
use Rattle.std.proofs.Common.{refl}
use Rattle.std.proofs.alloc.Calls.{Goes-blank}
use base.Logic.{id⊢}
use denote.Exit.{yes}
use denote.RattleType.{RattleType}
use denote.Signature.{plain}
use Rattle.std.specs.Prelude.{◌≡◌}
use Rattle.c_handles.proofs.Moving.{moved}
use Rattle.c_handles.specs.Owned.{owned}
use Rattle.c_handles.specs.contracts.owner.Owner as owner
use Rattle.vandrexu_c.specs.contracts.remote.DrivenRemote as value
use Rattle.vandrexu_c.specs.contracts.remote_handle.HeldRemote as held
use Rattle.vandrexu_c.specs.contracts.remote_handle.HeldRemote.of as f
use Rattle.vandrexu_c.proofs.remote_handle.HeldRemote.of.Statement.{statement}
use Rattle.vandrexu_c.proofs.remote_handle.HeldRemote.of.Code as code

abbrev From : RattleType
From = owner.the_row value.the_row

abbrev To : RattleType
To = held.the_row

pub of_spec : {M : Type 1} → statement M
of_spec 𝓤 𝓛 𝓜 𝓡 wired =
    moved 𝓛 𝓜 𝓡 From To (λ d. d.at) (λ d. owned value.the_row d.at d.value)
    (λ d. record { at = d.at; remote = d.value })
    (λ d r. r.remote ≡ d.value) (λ d vs. id⊢ 𝓤 _) (λ d. id⊢ 𝓤 _) (λ d. tt)
    (Goes-blank 𝓛 0 (plain (λ _. From)) yes (λ κs x w. tt), tt) (λ d. refl)
    (owner.the_type value.the_row).name held.the_type.name
    f.Key.name (code.unfolded 𝓤 𝓛.H 𝓜 𝓡 wired)
