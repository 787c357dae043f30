-- Two hosts that claim one slot in one history: the premises hold of both, and what each one's log says.
use Rattle.std.specs.Prelude.{List, [], false, map, refl, true, ℕ, ◌∷◌, ◌≡◌}
use Rattle.nvme_model.specs.Array.{zeros}
use Rattle.nvme_model.specs.Config.{completion_queue}
use Rattle.nvme_model.specs.Examples.{submit}
use Rattle.nvme_model.specs.History.{Past}
use Rattle.nvme_model.specs.Passes.{SharedPast}
use Rattle.nvme_model.specs.Slots.{Name, slot_block}
use Rattle.nvme_model.specs.Steps.{run, settle}
use Rattle.nvme_model.specs.declared.array.Range.{Range}
use Rattle.nvme_model.specs.declared.config.ConfigNumbers.{ConfigNumbers}
use Rattle.nvme_model.specs.declared.entry.Entry.{Entry}
use Rattle.nvme_model.specs.declared.step.Step.{Step}
use Rattle.nvme_model.specs.declared.submission.Submission.{Submission}
use Rattle.driver_calls.specs.Views.{PortView, log_of}
use Rattle.slot_log_laws.specs.Hosts.{IsSlotView}
use Rattle.slot_log_laws.specs.Swaps.{log_believed, log_released}

-- submission queues 1 and 3 use completion queue 1, the others completion queue 2
abbrev four : ConfigNumbers
four = record {
  blocks = 8;
  atomic = record { awun = 1; acwu = 1; nabsn = 0; nabo = 0 };
  pairs = 4;
  sq_size = 4;
  cq_size = 8;
  jobs = 8;
  cqs = 2;
}

abbrev area : Range
area = record { slba = 0; blocks = 1 }

abbrev name : ℕ → ℕ → Name
name h s = record { host = h; serial = s }

abbrev swap : List ℕ → List ℕ → List Submission
swap old new = submit 5 1 0 0 0 old ∷ submit 1 2 1 0 0 new ∷ []

-- a batch on a submission queue, served and reaped from completion queue n
abbrev served : ℕ → ℕ → List Submission → Past → Past
served q n batch past = run four (settle 20 four (run four past (Step.Publish q batch ∷ Step.Fetch q ∷ [])))
    (Step.Reap n ∷ Step.Reap n ∷ [])

-- host 1 claims on queue 1, and host 2 loses on queue 4
abbrev held : Past
held = served 4 2 (swap zeros (slot_block (name 2 1))) (served 1 1 (swap zeros (slot_block (name 1 1))) [])

-- host 1 releases on queue 3, and host 2 claims again
abbrev passed_on : Past
passed_on = served 2 2 (swap zeros (slot_block (name 2 2))) (served 3 1 (swap (slot_block (name 1 1)) zeros) held)

-- the pass that made an entry: 1 and 2 are the hosts', 3 is the controller's
abbrev made_by : Entry → ℕ
made_by (Entry.Publish p) = completion_queue four p.queue
made_by (Entry.Reap r) = r.queue
made_by _ = 3

abbrev shared : Past → SharedPast
shared past = map (λ (e : Entry). (made_by e, e)) past

-- what host h sees
abbrev view : ℕ → Past → PortView
view h past = record { config = four; queue = h; pass = h; seen = shared past }

-- ---- the premises hold of both

pub first_held : IsSlotView [] area 1 1 (view 1 held)
first_held = record {
  legal = refl;
  premises = record { alone = record { none = refl; sole = refl }; elsewhere = refl; own_number = refl };
  tidy = refl;
  slot_rules = refl;
}

pub first_passed_on : IsSlotView [] area 1 1 (view 1 passed_on)
first_passed_on = record {
  legal = refl;
  premises = record { alone = record { none = refl; sole = refl }; elsewhere = refl; own_number = refl };
  tidy = refl;
  slot_rules = refl;
}

pub second_passed_on : IsSlotView [] area 2 2 (view 2 passed_on)
second_passed_on = record {
  legal = refl;
  premises = record { alone = record { none = refl; sole = refl }; elsewhere = refl; own_number = refl };
  tidy = refl;
  slot_rules = refl;
}

-- ---- what the logs say

pub first_believes : log_believed (log_of (view 1 held)) 0 (name 1 1) ≡ true
first_believes = refl

pub second_lost : log_believed (log_of (view 2 held)) 0 (name 2 1) ≡ false
second_lost = refl

-- a log says nothing of another host's claim
pub second_sees_no_other : log_believed (log_of (view 2 held)) 0 (name 1 1) ≡ false
second_sees_no_other = refl

pub first_released : log_released (log_of (view 1 passed_on)) 0 (name 1 1) ≡ true
first_released = refl

pub first_believes_no_more : log_believed (log_of (view 1 passed_on)) 0 (name 1 1) ≡ false
first_believes_no_more = refl

pub second_believes : log_believed (log_of (view 2 passed_on)) 0 (name 2 2) ≡ true
second_believes = refl
