-- Three hosts with a queue pair each, and one slot: host 1 claims it and dies, and hosts 2 and 3 take it over.
use Rattle.std.specs.Prelude.{List, None, Option, Some, [], false, option_map, refl, true, ℕ, ◌∷◌, ◌≡◌}
use Rattle.nvme_model.specs.Array.{zeros}
use Rattle.nvme_model.specs.Examples.{publish, submit}
use Rattle.nvme_model.specs.History.{Past}
use Rattle.nvme_model.specs.Legal.{legal}
use Rattle.nvme_model.specs.Slots.{Name, disciplined, holder, slot_block}
use Rattle.nvme_model.specs.Statuses.{compare_failure, success}
use Rattle.nvme_model.specs.Steps.{run, settle}
use Rattle.nvme_model.specs.declared.array.Range.{Range}
use Rattle.nvme_model.specs.declared.config.ConfigNumbers.{ConfigNumbers}
use Rattle.nvme_model.specs.declared.entry.PostLine.{PostLine}
use Rattle.nvme_model.specs.declared.status.Status.{Status}
use Rattle.nvme_model.specs.declared.step.Step.{Step}
use Rattle.nvme_model.specs.declared.submission.Submission.{Submission}
use Rattle.host_laws.specs.Calls.{cqe_status, reaped_post}
use Rattle.host_laws.specs.Rules.{is_cut_off, takeover_disciplined}
use Rattle.host_laws.specs.Takeovers.{is_kept, is_taken, still_believed}

abbrev three : ConfigNumbers
three = record {
  blocks = 8;
  atomic = record { awun = 1; acwu = 1; nabsn = 0; nabo = 0 };
  pairs = 3;
  sq_size = 8;
  cq_size = 8;
  jobs = 8;
  cqs = 3;
}

abbrev area : Range
area = record { slba = 0; blocks = 1 }

abbrev name : ℕ → ℕ → Name
name h s = record { host = h; serial = s }

abbrev swap : List ℕ → List ℕ → List Submission
swap old new = submit 5 1 0 0 0 old ∷ submit 1 2 1 0 0 new ∷ []

-- a batch of host h, served and reaped
abbrev served : ℕ → List Submission → Past → Past
served h batch past = run three (settle 20 three (run three past (Step.Publish h batch ∷ Step.Fetch h ∷ [])))
    (Step.Reap h ∷ Step.Reap h ∷ [])

abbrev claimed : Past
claimed = served 1 (swap zeros (slot_block (name 1 1))) []

-- host 2 takes the slot over, and then host 3 tries to
abbrev taken : Past
taken = served 2 (swap (slot_block (name 1 1)) (slot_block (name 2 1))) claimed

abbrev late : Past
late = served 3 (swap (slot_block (name 1 1)) (slot_block (name 3 1))) taken

-- host 2 releases it
abbrev free : Past
free = served 2 (swap (slot_block (name 2 1)) zeros) late

-- the status that was reaped for entry j of submission queue q
abbrev status_for : Past → ℕ → ℕ → Option Status
status_for past q j = option_map (λ (p : PostLine). cqe_status p.cqe) (reaped_post three past q j)

pub free_legal : legal three free ≡ true
free_legal = refl

pub takeover_won : status_for late 2 1 ≡ Some success
takeover_won = refl

pub takeover_lost : status_for late 3 0 ≡ Some compare_failure
takeover_lost = refl

pub release_done : status_for free 2 2 ≡ Some success
release_done = refl

pub keeps : takeover_disciplined three area free ≡ true
keeps = refl

pub dead_cut_off : is_cut_off three area late 1 ≡ true
dead_cut_off = refl

pub survivor_not_cut_off : is_cut_off three area late 2 ≡ false
survivor_not_cut_off = refl

pub dead_taken : is_taken late 0 (name 1 1) ≡ true
dead_taken = refl

pub dead_not_believed : still_believed three late 0 (name 1 1) ≡ false
dead_not_believed = refl

pub survivor_believed : still_believed three late 0 (name 2 1) ≡ true
survivor_believed = refl

pub survivor_holds : holder late 0 ≡ Some (name 2 1)
survivor_holds = refl

pub late_not_believed : still_believed three late 0 (name 3 1) ≡ false
late_not_believed = refl

pub then_free : holder free 0 ≡ None
then_free = refl

-- by the rules of claims and releases alone a takeover is a Write that nobody may make
pub takeover_is_no_claim : disciplined three area taken ≡ false
takeover_is_no_claim = refl

-- ---- a host that wasn't fenced: both hosts believe the slot by what they did themselves, and both act

pub slow_believes : is_kept three taken 0 (name 1 1) ≡ true
slow_believes = refl

pub survivor_believes : is_kept three taken 0 (name 2 1) ≡ true
survivor_believes = refl

-- once the slow host publishes its release, the rules are broken
pub slow_breaks : takeover_disciplined three area (publish 1 (swap (slot_block (name 1 1)) zeros) ∷ taken) ≡ false
slow_breaks = refl

-- and so they are by whatever else it publishes
pub slow_breaks_by_a_read : takeover_disciplined three area (publish 1 (submit 2 0 2 1 0 [] ∷ []) ∷ taken) ≡ false
slow_breaks_by_a_read = refl

-- ---- takeovers that break the rules where they are published

-- to the dead host's own number
pub own_number_breaks :
    takeover_disciplined three area (publish 2 (swap (slot_block (name 1 1)) (slot_block (name 1 2))) ∷ claimed)
    ≡ false
own_number_breaks = refl

-- of a name that was never given the slot
pub unknown_breaks :
    takeover_disciplined three area (publish 2 (swap (slot_block (name 3 1)) (slot_block (name 2 1))) ∷ claimed)
    ≡ false
unknown_breaks = refl

-- by the dead host's own queue
pub own_queue_breaks :
    takeover_disciplined three area (publish 1 (swap (slot_block (name 1 1)) (slot_block (name 2 1))) ∷ claimed)
    ≡ false
own_queue_breaks = refl

-- under a name that is used already
pub used_name_breaks :
    takeover_disciplined three area (publish 3 (swap (slot_block (name 1 1)) (slot_block (name 2 1))) ∷ taken)
    ≡ false
used_name_breaks = refl
