-- How many claims of a slot a driver published, and which ones a claim of slots adds.
use Rattle.std.specs.Prelude.{Err, Ok, Result, if◌then◌else◌, suc, ℕ, ◌<◌, ◌==◌, ◌≡◌, ◌≤◌}
use Rattle.driver_cas.specs.Drivers.{area_of, made}
use Rattle.driver_cas.specs.declared.driver.Driver.{Driver}
use Rattle.driver_cas.specs.declared.fault.Fault.{Fault}
use Rattle.driver_cas.specs.declared.port.Port.{Ghosts}
use Rattle.slot_alloc.specs.Areas.{block_of}
use Rattle.slot_alloc.specs.declared.claiming.Claiming.{Claiming}
use Rattle.slot_alloc.specs.declared.claiming.ClaimStage.{ClaimStage}
use Rattle.slot_alloc.specs.declared.progress.Progress.{Progress}
use Rattle.slot_log_laws.specs.Counts.{log_claims}

module _ {P : Type 0} where
  -- slot i is the one at hand and its claim is begun, or it is below that one
  abbrev pub IsBehind : ℕ → ℕ → ClaimStage P → Type 0
  IsBehind i slot (ClaimStage.Asked call serial) = i ≤ slot
  IsBehind i slot ClaimStage.Due = i < slot

module _ {P : Type 0} {g : Ghosts P} where
  -- how many claims of slot i the driver published since it was made
  abbrev pub claims_made : Driver P g → ℕ → ℕ
  claims_made d i = log_claims (made d) (block_of (area_of d) i)

  -- no claim of any slot was published
  abbrev pub AddsNoClaim : Driver P g → Driver P g → Type 0
  AddsNoClaim d e = (j : ℕ) → claims_made e j ≡ claims_made d j

  -- where it was begun, one claim of slot i was published, and none of any other
  abbrev pub AddsClaim : Driver P g → Driver P g → ℕ → Result (Claiming P g) Fault → Type 0
  AddsClaim d e i (Ok k) = (j : ℕ) → claims_made e j ≡ (if i == j then suc (claims_made d j) else claims_made d j)
  AddsClaim d e i (Err f) = AddsNoClaim d e

  -- the claim of slot i isn't to be begun any more: where any slot will do, the next one begun is of a higher slot
  abbrev pub IsPast : Claiming P g → ℕ → Type 0
  IsPast k i = IsBehind i k.slot k.stage

  -- so it is for the claim that goes on
  abbrev pub IsPastOn : Progress P g → ℕ → Type 0
  IsPastOn (Progress.Pending j) i = IsPast j i
  IsPastOn (Progress.Later f j) i = IsPast j i
  IsPastOn _ i = Unit {0}
