-- What contracts say of what polling gives.
use Rattle.std.specs.Prelude.{Err, None, Ok, Option, Result, Some, [], ℕ, ◌++◌, ◌+◌, ◌<◌, ◌∷◌, ◌≡◌, ◌⊎◌}
use Rattle.nvme_model.specs.declared.status.Status.{Status}
use Rattle.driver_calls.specs.declared.reply.Reply.{Reply}
use Rattle.driver_cas.specs.Drivers.{AsksPort, SharesNoCid, IsOneMore, IsSameDriver, answer_to, area_of, made}
use Rattle.driver_cas.specs.SlotStarts.{IsClaimStart}
use Rattle.driver_cas.specs.declared.call.Call.{Call}
use Rattle.driver_cas.specs.declared.driver.Driver.{Driver}
use Rattle.driver_cas.specs.declared.fault.Fault.{Fault}
use Rattle.driver_cas.specs.declared.port.Port.{Ghosts}
use Rattle.slot_alloc.specs.Areas.{area, block_of, claim_serial, slot_of}
use Rattle.slot_alloc.specs.Claims.{AreTaken, ClaimSays, IsClaimingOf, IsHeldBy, IsUnreleased, IsWonBy, lower_of}
use Rattle.slot_alloc.specs.declared.claiming.Claiming.{Claiming}
use Rattle.slot_alloc.specs.declared.claiming.Reach.{Reach}
use Rattle.slot_alloc.specs.declared.claiming.ClaimStage.{ClaimStage}
use Rattle.slot_alloc.specs.declared.progress.Progress.{Progress}
use Rattle.slot_alloc.specs.declared.slots.Slots.{Slots}

module _ {P : Type 0} where
  -- the call has no CID in common with that of the claim, if one is begun
  abbrev pub IsBesideClaim : ClaimStage P → Call P → Type 0
  IsBesideClaim (ClaimStage.Asked call serial) other = SharesNoCid call other
  IsBesideClaim ClaimStage.Due other = Unit {0}

module _ {P : Type 0} {g : Ghosts P} where
  -- the claim of slot i is begun
  abbrev pub IsAskedFirst : Driver P g → Driver P g → ℕ → ClaimStage P → Type 0
  IsAskedFirst d e i (ClaimStage.Asked call serial) = IsClaimStart d e (block_of (area_of d) i) (Ok (call, serial))
  IsAskedFirst d e i ClaimStage.Due = ⊥

  -- what `claim` and `claim_any` give: the claim of slot i is begun, or nothing has changed and it is told why
  abbrev pub IsFirstClaim : Driver P g → Driver P g → Slots → Reach → ℕ → Result (Claiming P g) Fault → Type 0
  IsFirstClaim d e slots reach i (Ok k) =
      (k.slots ≡ slots) × (k.reach ≡ reach) × (k.slot ≡ i) × (k.began.value ≡ d) × (lower_of k ≡ [])
      × IsAskedFirst d e i k.stage
  IsFirstClaim d e slots reach i (Err f) = IsClaimStart d e (block_of (area_of d) i) (Err f)

  -- what is told of the start of the claim at hand: it goes on as it was begun, or is due. The faults that come last
  -- are Busy and NoMemory, since a start answers no others.
  abbrev pub told_of : Claiming P g → Result (Call P × ℕ) Fault → Progress P g
  told_of k (Ok c) = Progress.Pending (record k { stage = ClaimStage.Asked c.0 c.1 })
  told_of k (Err Fault.RingFull) = Progress.Pending (record k { stage = ClaimStage.Due })
  told_of k (Err Fault.NoSerial) = Progress.Failed Fault.NoSerial
  told_of k (Err f) = Progress.Later f (record k { stage = ClaimStage.Due })

  -- The pair of the slot at hand is published, or nothing is, and just that is told.
  pub record IsClaimAsked (d e : Driver P g) (k : Claiming P g) (r : Progress P g) : Type 0 where
    pub start : Result (Call P × ℕ) Fault
    pub is : IsClaimStart d e (block_of (area_of d) k.slot) start
    pub told : r ≡ told_of k start

  -- Nothing was published, and at most one completion was reaped.
  pub record IsQuiet (d e : Driver P g) : Type 0 where
    pub same : IsSameDriver d e
    pub one : IsOneMore (made d) (made e)

  -- Nothing was published, the call isn't answered, and the claim goes on as it is; the poll is put off for this fault,
  -- if for one, as the port answered.
  pub record IsClaimWaiting (d e : Driver P g) (k : Claiming P g) (call : Call P) (later : Option Fault)
      (j : Claiming P g)
      : Type 0 where
    pub quiet : IsQuiet d e
    pub asks : AsksPort d e call later
    pub waits : answer_to e call ≡ None
    pub same : j ≡ k

  -- Nothing was published, and the call, which claims the slot at hand under this serial, is answered so.
  pub record IsEnded (d e : Driver P g) (k : Claiming P g) (call : Call P) (serial : ℕ) (r : Result Reply Status)
      : Type 0 where
    pub quiet : IsQuiet d e
    pub asks : AsksPort d e call None
    pub answer : answer_to e call ≡ Some r
    pub says : ClaimSays e k.began.value (block_of (area_of e) k.slot) call serial r

  -- It is the same claim of any slot at the next slot, if there is one; that of the one before was this.
  pub record IsNextClaim (k next : Claiming P g) (call : Call P) (serial : ℕ) : Type 0 where
    pub any : k.reach ≡ Reach.Any
    pub slots : next.slots ≡ k.slots
    pub reach : next.reach ≡ k.reach
    pub slot : next.slot ≡ k.slot + 1
    pub inside : next.slot < k.slots.count
    pub began : next.began.value ≡ k.began.value
    pub lower : lower_of next ≡ lower_of k ++ (call, serial) ∷ []

  -- where any slot will do the next one's claim is tried, and just that is told
  abbrev pub TriesNext : Driver P g → Driver P g → Claiming P g → Call P → ℕ → Progress P g → Type 0
  TriesNext d e k call serial r = (next : Claiming P g) × IsNextClaim k next call serial × IsClaimAsked d e next r

  -- The call was answered that somebody else has the slot at hand, and then the next one's claim was tried.
  pub record GoesToNext (d e : Driver P g) (k : Claiming P g) (call : Call P) (serial : ℕ) (r : Progress P g)
      : Type 0 where
    pub at : Driver P g
    pub lost : IsEnded d at k call serial (Ok Reply.Differs)
    pub tries : TriesNext at e k call serial r

  -- each slot was had by somebody else: those below the one at hand, which is the last, and that one
  abbrev pub AreAllTaken : Driver P g → Claiming P g → Call P → ℕ → Type 0
  AreAllTaken d k call serial =
      (k.reach ≡ Reach.Any) × AreTaken d k.began.value (area_of d).blocks (lower_of k ++ (call, serial) ∷ [])

  -- what a poll gives while the call claims the slot at hand, under this serial
  abbrev pub IsPolled : Driver P g → Driver P g → Claiming P g → Call P → ℕ → Progress P g → Type 0
  IsPolled d e k call serial (Progress.Pending j) =
      IsClaimWaiting d e k call None j ⊎ GoesToNext d e k call serial (Progress.Pending j)
  IsPolled d e k call serial (Progress.Later f j) =
      (IsClaimWaiting d e k call (Some f) j × ((f ≡ Fault.Busy) ⊎ (f ≡ Fault.NoMemory)))
      ⊎ GoesToNext d e k call serial (Progress.Later f j)
  IsPolled d e k call serial (Progress.Held c) =
      (slot_of c ≡ k.slot) × (claim_serial c ≡ serial) × IsEnded d e k call serial (Ok Reply.Swapped) × IsWonBy e c
  IsPolled d e k call serial Progress.Taken =
      (k.reach ≡ Reach.One) × IsEnded d e k call serial (Ok Reply.Differs)
  IsPolled d e k call serial Progress.AllTaken =
      IsEnded d e k call serial (Ok Reply.Differs) × AreAllTaken e k call serial
  IsPolled d e k call serial (Progress.Failed (Fault.Status s)) = IsEnded d e k call serial (Err s)
  IsPolled d e k call serial (Progress.Failed Fault.NoSerial) =
      GoesToNext d e k call serial (Progress.Failed Fault.NoSerial)
  IsPolled d e k call serial (Progress.Failed _) = ⊥

  -- what `poll_claim` gives: while the slot at hand is claimed, by what that call is answered; where its claim is due,
  -- that is tried
  abbrev pub IsProgress : Driver P g → Driver P g → Claiming P g → ClaimStage P → Progress P g → Type 0
  IsProgress d e k (ClaimStage.Asked call serial) r = IsPolled d e k call serial r
  IsProgress d e k ClaimStage.Due r = IsClaimAsked d e k r

  -- The claim of the slot at hand was answered: somebody else has it.
  pub record IsLost (d : Driver P g) (k : Claiming P g) (call : Call P) (serial : ℕ) : Type 0 where
    pub area_is : area_of d ≡ area k.slots
    pub inside : k.slot < k.slots.count
    pub since : g.follows k.began.value.port d.port
    pub taken : ClaimSays d k.began.value (block_of (area_of d) k.slot) call serial (Ok Reply.Differs)
    pub lower : k.reach ≡ Reach.Any → AreTaken d k.began.value k.slot (lower_of k)

  -- what is told then: nothing has changed where the slot was the only one or the last, else the next one's is tried
  abbrev pub IsLostOn : Driver P g → Driver P g → Claiming P g → Call P → ℕ → Progress P g → Type 0
  IsLostOn d e k call serial r =
      ((r ≡ Progress.Taken) × (e ≡ d) × (k.reach ≡ Reach.One))
      ⊎ (((r ≡ Progress.AllTaken) × (e ≡ d) × AreAllTaken d k call serial) ⊎ TriesNext d e k call serial r)

  -- the claim that goes on is the driver's
  abbrev pub IsClaimingOn : Driver P g → Progress P g → Type 0
  IsClaimingOn e (Progress.Pending j) = IsClaimingOf e j
  IsClaimingOn e (Progress.Later f j) = IsClaimingOf e j
  IsClaimingOn e _ = Unit {0}

  -- a slot that is held is believed by the driver's log
  abbrev pub IsHeldOn : Driver P g → Progress P g → Type 0
  IsHeldOn e (Progress.Held c) = IsHeldBy e c
  IsHeldOn e _ = Unit {0}

  -- no release of the name of the claim that goes on was published
  abbrev pub IsUnreleasedOn : Driver P g → Progress P g → Type 0
  IsUnreleasedOn e (Progress.Pending j) = IsUnreleased e j
  IsUnreleasedOn e (Progress.Later f j) = IsUnreleased e j
  IsUnreleasedOn e _ = Unit {0}

  -- the call has no CID in common with that of the claim that goes on
  abbrev pub IsBesideOn : Progress P g → Call P → Type 0
  IsBesideOn (Progress.Pending j) other = IsBesideClaim j.stage other
  IsBesideOn (Progress.Later f j) other = IsBesideClaim j.stage other
  IsBesideOn _ other = Unit {0}
