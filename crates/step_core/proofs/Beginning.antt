-- A controller without a history, and its volume.
use Rattle.std.proofs.Common.{◌≡◌, ℕ, suc, ◌%◌, ◌*◌, ◌==◌, ◌<◌, false, List, [], replicate, slice_get, Some, None}
use Rattle.std.proofs.Common.{refl, sym, ap, ◌∙◌, subst}
use Rattle.std.proofs.Math.Nat.{zero-div, zero-mod}
use Rattle.std.proofs.lemmas.Option.{get_or_from_slice_get}
use Rattle.nvme_model.specs.Array.{zeros}
use Rattle.nvme_model.specs.Config.{config_fault}
use Rattle.nvme_model.specs.History.{Past}
use Rattle.nvme_model.specs.Laws.{is_held}
use Rattle.nvme_model.specs.Medium.{medium}
use Rattle.nvme_model.specs.Tickets.{cids_in_use}
use Rattle.nvme_model.specs.Value.{value}
use Rattle.nvme_model.specs.declared.config.ConfigNumbers.{ConfigNumbers}
use Rattle.nvme_model.proofs.Medium.{medium_is_value}
use Rattle.nvme_model.proofs.Accepted.{accepted}
use Rattle.rings.specs.Queues.{completion_ring, submission_ring}
use Rattle.rings.proofs.CidCounts.{none_used}
use Rattle.step_core.specs.Kept.{CoreFields, IsCoreOf}
use Rattle.rings.proofs.Tables.{IsTable-replicate}
use Rattle.rings.proofs.Beginnings.{completion_empty, submission_empty}

-- ---- no history

-- the rings of the queues
submission_begins : (c : ConfigNumbers) (k : ℕ) → submission_ring c [] k ≡ submission_empty c.sq_size
unfolding submission_ring
submission_begins c k = ap (λ n. record (submission_empty c.sq_size) { head = n }) (zero-mod c.sq_size)

completion_begins : (c : ConfigNumbers) (k : ℕ) → completion_ring c [] k ≡ completion_empty c.cq_size
unfolding completion_ring
completion_begins c k = (λ i. record (completion_empty c.cq_size) {
  tail = zero-mod c.cq_size i;
  phase = zero-div c.cq_size i % 2 == 0;
})

-- the fields of a controller that is just made
pub begins : (c m : ConfigNumbers) (p : Past) (f : CoreFields) → m ≡ c → config_fault m ≡ None → p ≡ []
    → f.volume ≡ replicate m.blocks zeros
    → f.submission ≡ replicate m.pairs (submission_empty m.sq_size)
    → f.in_use ≡ replicate m.pairs (record { room = 2 * m.jobs; cids = [] })
    → f.completion ≡ replicate m.cqs (completion_empty m.cq_size) → f.jobs ≡ record { limit = m.jobs; jobs = [] }
    → f.held ≡ [] → f.tickets ≡ 0
    → IsCoreOf c p f
begins c m p f same accepted none vs ss us qs js rs ns =
    subst (λ (x : ConfigNumbers). IsCoreOf x p f) same (subst (λ (x : Past). IsCoreOf m x f) (sym none) (record {
      accepted = accepted;
      volume = IsTable-replicate (medium []) m.blocks zeros f.volume vs (λ k. refl);
      submission = IsTable-replicate _ m.pairs _ f.submission ss (λ k. submission_begins m (suc k));
      in_use = none_used m.pairs (2 * m.jobs) (cids_in_use []) f.in_use (λ q. refl) us;
      completion = IsTable-replicate _ m.cqs _ f.completion qs (λ k. completion_begins m (suc k));
      jobs = js;
      held = rs;
      count = ns;
      run = record { legal = refl; marks = tt; words = tt };
    }))

-- ---- the volume

-- a block is its value where no open Exclusive unit has it
pub block_is_value : (c : ConfigNumbers) (past : Past) (fields : CoreFields) → IsCoreOf c past fields
    → (l : ℕ) (b : List ℕ) → l < c.blocks → slice_get fields.volume l ≡ Some b → is_held past l ≡ false
    → b ≡ value past l
block_is_value c past fields k l b within at free =
    sym (get_or_from_slice_get fields.volume l b b at) ∙ k.volume.at l b within
    ∙ medium_is_value c past l k.run.legal k.run.marks free
