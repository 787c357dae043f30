-- Two hosts, each with two submission queues on one completion queue, and one slot.
use Rattle.std.specs.Prelude.{◌≡◌, refl, ℕ, true, false, None, Option, Some, List, [], ◌∷◌, map, option_map}
use Rattle.nvme_model.specs.Array.{zeros}
use Rattle.nvme_model.specs.Examples.{publish, submit}
use Rattle.nvme_model.specs.History.{Past}
use Rattle.nvme_model.specs.Legal.{legal}
use Rattle.nvme_model.specs.Passes.{SharedPast}
use Rattle.nvme_model.specs.Slots.{Name, believed, disciplined, holder, slot_block}
use Rattle.nvme_model.specs.Statuses.{compare_failure, failed_fused, success}
use Rattle.nvme_model.specs.Steps.{run, settle}
use Rattle.nvme_model.specs.declared.array.Range.{Range}
use Rattle.nvme_model.specs.declared.config.ConfigNumbers.{ConfigNumbers}
use Rattle.nvme_model.specs.declared.entry.Entry.{Entry}
use Rattle.nvme_model.specs.declared.entry.PostLine.{PostLine}
use Rattle.nvme_model.specs.declared.status.Status.{Status}
use Rattle.nvme_model.specs.declared.step.Step.{Step}
use Rattle.nvme_model.specs.declared.submission.Submission.{Submission}
use Rattle.host_laws.specs.Beside.{is_beside}
use Rattle.host_laws.specs.Calls.{reaped_post, says_yes, cqe_status, takes}
use Rattle.host_laws.specs.Discipline.{others_keep, pass_keeps}
use Rattle.host_laws.specs.Claims.{all_drawn, claims_only_on, is_released_on}

-- submission queues 1 and 3 use completion queue 1, the others completion queue 2
abbrev four : ConfigNumbers
four = record {
  blocks = 8;
  atomic = record { awun = 1; acwu = 1; nabsn = 0; nabo = 0 };
  pairs = 4;
  sq_size = 4;
  cq_size = 8;
  jobs = 8;
  cqs = 2;
}

abbrev area : Range
area = record { slba = 0; blocks = 1 }

abbrev name : ℕ → ℕ → Name
name h s = record { host = h; serial = s }

abbrev swap : List ℕ → List ℕ → List Submission
swap old new = submit 5 1 0 0 0 old ∷ submit 1 2 1 0 0 new ∷ []

-- a batch on a submission queue, served and reaped from completion queue n
abbrev served : ℕ → ℕ → List Submission → Past → Past
served q n batch past = run four (settle 20 four (run four past (Step.Publish q batch ∷ Step.Fetch q ∷ [])))
    (Step.Reap n ∷ Step.Reap n ∷ [])

-- host 1 claims on queue 1, and host 2 loses on queue 4
abbrev held : Past
held = served 4 2 (swap zeros (slot_block (name 2 1))) (served 1 1 (swap zeros (slot_block (name 1 1))) [])

-- host 1 releases on queue 3
abbrev free : Past
free = served 3 1 (swap (slot_block (name 1 1)) zeros) held

-- the status that was reaped for entry j of submission queue q
abbrev status_for : Past → ℕ → ℕ → Option Status
status_for past q j = option_map (λ (p : PostLine). cqe_status p.cqe) (reaped_post four past q j)

pub free_legal : legal four free ≡ true
free_legal = refl

pub claim_won : status_for free 1 1 ≡ Some success
claim_won = refl

pub claim_lost : status_for free 4 0 ≡ Some compare_failure
claim_lost = refl

pub claim_lost_second : status_for free 4 1 ≡ Some failed_fused
claim_lost_second = refl

pub released : status_for free 3 0 ≡ Some success
released = refl

-- a completion queue's number names no entry of its own
pub none_reaped : reaped_post four free 2 0 ≡ None
none_reaped = refl

-- ticket 3 took both entries of queue 3, and its effect says yes
pub release_taken : takes free 3 3 1 ≡ true
release_taken = refl

pub release_yes : says_yes free 3 0 ≡ true
release_yes = refl

pub claim_believed : believed four held 0 (name 1 1) ≡ true
claim_believed = refl

pub claim_held : holder held 0 ≡ Some (name 1 1)
claim_held = refl

pub unreleased : is_released_on four held 1 0 (name 1 1) ≡ false
unreleased = refl

pub is_released : is_released_on four free 1 0 (name 1 1) ≡ true
is_released = refl

-- a release on another queue of the claim's completion queue keeps the discipline, one on another completion queue
-- breaks it
pub release_keeps : disciplined four area free ≡ true
release_keeps = refl

pub release_elsewhere_breaks : disciplined four area (publish 2 (swap (slot_block (name 1 1)) zeros) ∷ held) ≡ false
release_elsewhere_breaks = refl

-- where host 2, as pass 2, made such a release, the others than pass 1 don't keep the discipline, and those than pass 2
-- do
abbrev broken : SharedPast
broken = (2, publish 2 (swap (slot_block (name 1 1)) zeros)) ∷ map (λ (e : Entry). (1, e)) held

pub others_than_1_break : others_keep four area 1 broken ≡ false
others_than_1_break = refl

pub others_than_2_keep : others_keep four area 2 broken ≡ true
others_than_2_keep = refl

pub pass_1_keeps : pass_keeps four area 1 broken ≡ true
pass_1_keeps = refl

-- what one host adds is beside the other's queues
pub other_host_beside : is_beside four 2 (publish 3 (swap (slot_block (name 1 1)) zeros)) ≡ true
other_host_beside = refl

pub same_host_not_beside : is_beside four 1 (publish 3 (swap (slot_block (name 1 1)) zeros)) ≡ false
same_host_not_beside = refl

pub serials : all_drawn area free 1 1 ≡ true
serials = refl

pub serials_below : all_drawn area free 1 0 ≡ false
serials_below = refl

pub host_on_its_queue : claims_only_on four area free 2 2 ≡ true
host_on_its_queue = refl
