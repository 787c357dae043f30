-- A slot that was taken over is held.
use Rattle.std.proofs.Common.{List, ap, eqb, false, subst, suc, sym, true, ℕ, ◌∙◌, ◌≡◌}
use Rattle.nvme_model.specs.Array.{has_block}
use Rattle.nvme_model.specs.Config.{completion_queue}
use Rattle.nvme_model.specs.Legal.{IsLegal}
use Rattle.nvme_model.specs.Passes.{SharedPast, entries}
use Rattle.nvme_model.specs.Slots.{Name}
use Rattle.nvme_model.specs.declared.array.Range.{Range}
use Rattle.nvme_model.specs.declared.config.ConfigNumbers.{ConfigNumbers}
use Rattle.nvme_model.specs.declared.submission.Submission.{Submission}
use Rattle.host_laws.specs.Beside.{IsSole}
use Rattle.host_laws.specs.Claims.{is_released_on}
use Rattle.host_laws.proofs.Successes.{reaped_is_success}
use Rattle.driver_calls.specs.Events.{events}
use Rattle.driver_calls.specs.Log.{is_tidy}
use Rattle.driver_calls.specs.Views.{IsAlone, PortView, log_of, since}
use Rattle.driver_calls.proofs.Views.{since_none}
use Rattle.driver_calls.specs.declared.event.PortEvent.{PortEvent}
use Rattle.slot_log_laws.specs.Calls.{IsName, IsSentAs}
use Rattle.slot_log_laws.specs.Swaps.{log_released, log_success}
use Rattle.slot_log_laws.proofs.Knowing.{log_knows}
use Rattle.slot_log_laws.proofs.Believing.{unreleased_on}
use Rattle.host_laws.specs.Rules.{is_cut_off, takeover_disciplined}
use Rattle.host_laws.specs.Takeovers.{Takeover, is_given_on, still_believed}
use Rattle.host_laws.proofs.Fencing.{unfenced_believed}
use Rattle.host_laws.proofs.Winning.{taker_given, taker_kept}
use Rattle.slot_takeover.specs.Takeovers.{IsTakeoverBatch}
use Rattle.slot_takeover.proofs.Knowing.{batch_takes, log_own, log_there, takeover_sent}

-- what a log says of a slot that it took over
pub record Took (log : List PortEvent) (l : ℕ) (n : Name) : Type 0 where
  pub queue : ℕ
  pub first : ℕ
  pub second : ℕ
  pub number : ℕ
  pub dead : Name
  pub batch : List Submission
  pub name : IsName n
  pub dead_name : IsName dead
  pub apart : eqb dead.host n.host ≡ false
  pub is : IsTakeoverBatch l first second dead n batch
  pub sent_as : IsSentAs log queue number batch
  pub success : log_success log queue (suc number) ≡ true

pub took_believed : (c : ConfigNumbers) (slots : Range) (q p : ℕ) (shared : SharedPast) (l : ℕ) (n : Name)
    → IsLegal c (entries shared) → IsSole c q p shared → is_tidy (events c q p shared) ≡ true
    → takeover_disciplined c slots (entries shared) ≡ true → has_block slots l ≡ true
    → is_cut_off c slots (entries shared) q ≡ false → log_released (events c q p shared) l n ≡ false
    → Took (events c q p shared) l n → still_believed c (entries shared) l n ≡ true
took_believed c slots q p shared l n h o tidy d v u free t =
    let past = entries shared in
    let log = events c q p shared in
    let k = log_knows c q p shared h o tidy in
    let w : Takeover = record { queue = t.queue; number = t.number; lba = l; dead = t.dead; name = n } in
    let sent = takeover_sent log t.queue t.number t.batch w t.sent_as
    (batch_takes t.queue t.number l t.first t.second t.dead n t.batch t.dead_name t.name t.apart t.is) in
    let there = log_there c q p shared w h o tidy sent in
    let own : completion_queue c t.queue ≡ q = log_own c q p shared w sent in
    let s = k.success t.queue (suc t.number) own t.success in
    let reaped = reaped_is_success c past t.queue (suc t.number) s.post h s.reaped s.says in
    let unreleased = ap (λ (x : ℕ). is_released_on c past x l n) own ∙ unreleased_on c past q log l n k free in
    unfenced_believed c slots past q l n v (taker_kept c slots past w d v there reaped unreleased)
    (subst (λ (x : ℕ). is_given_on c past x l n ≡ true) own (taker_given c past w there)) u

-- by what a driver's port did since the driver was made
pub view_believed : (before : List PortEvent) (slots : Range) (v : PortView) (l : ℕ) (n : Name)
    → IsLegal v.config (entries v.seen) → IsAlone before v → is_tidy (since before (log_of v)) ≡ true
    → takeover_disciplined v.config slots (entries v.seen) ≡ true → has_block slots l ≡ true
    → is_cut_off v.config slots (entries v.seen) v.queue ≡ false → log_released (since before (log_of v)) l n ≡ false
    → Took (since before (log_of v)) l n → still_believed v.config (entries v.seen) l n ≡ true
view_believed before slots v l n h alone tidy d inside u free t =
    let whole : since before (log_of v) ≡ log_of v =
    ap (λ (b : List PortEvent). since b (log_of v)) alone.none ∙ since_none (log_of v) in
    took_believed v.config slots v.queue v.pass v.seen l n h alone.sole (ap is_tidy (sym whole) ∙ tidy) d inside u
    (ap (λ (log : List PortEvent). log_released log l n) (sym whole) ∙ free)
    (subst (λ (log : List PortEvent). Took log l n) whole t)
