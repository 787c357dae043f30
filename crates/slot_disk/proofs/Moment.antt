-- What the hosts of a disk and its server made, and who holds what then.
use Rattle.std.proofs.Common.{Bool, List, None, Option, Some, [], ap, arith, eq-eqb, eqb, false, inl, inr, le-leb}
use Rattle.std.proofs.Common.{leb, leb-false, leb-true, length, refl, subst, sym, true, ℕ, ◌&&◌, ◌+◌, ◌-◌, ◌<◌, ◌∙◌}
use Rattle.std.proofs.Common.{◌≡◌, ◌≤◌}
use Rattle.std.specs.Prelude.{slice_get}
use Rattle.std.proofs.lemmas.Option.{slice_get_within}
use Rattle.std.proofs.lemmas.Bool.{and_from, and_parts, cases_Bool}
use Rattle.plain_lemmas.proofs.Options.{some_one}
use Rattle.nvme_model.specs.Array.{has_block}
use Rattle.nvme_model.specs.Legal.{IsLegal}
use Rattle.nvme_model.specs.Passes.{IsBeginning, SharedPast, entries, places}
use Rattle.nvme_model.specs.Slots.{Name, believed, disciplined, holder}
use Rattle.nvme_model.specs.declared.array.Range.{Range}
use Rattle.nvme_model.specs.declared.config.ConfigNumbers.{ConfigNumbers}
use Rattle.nvme_model.proofs.Cut.{clash}
use Rattle.host_laws.proofs.Discipline.{has_area}
use Rattle.meet_lock.specs.Lock.{AreOfPasses}
use Rattle.meet_lock.specs.Passes.{mine, number, seen}
use Rattle.driver_calls.proofs.Views.{since_none}
use Rattle.driver_calls.specs.Events.{events}
use Rattle.driver_calls.specs.Log.{is_tidy}
use Rattle.driver_cas.specs.Drivers.{area_of, host_of, made, serial_of}
use Rattle.driver_cas.specs.declared.driver.Driver.{Driver}
use Rattle.driver_cas.specs.contracts.shared_port.SharedPortPort.TheImpl.{ghosts}
use Rattle.driver_cas.specs.declared.shared_port.SharedPort.{SharedPort}
use Rattle.slot_log_laws.specs.Hosts.{IsSlotView, log_since}
use Rattle.slot_log_laws.specs.SlotRules.{keeps_slot_rules}
use Rattle.slot_log_laws.specs.Swaps.{log_believed}
use Rattle.slot_alloc.specs.Areas.{block_of, claim_serial, slot_of}
use Rattle.slot_alloc.specs.Claims.{IsHeldBy}
use Rattle.slot_alloc.specs.declared.claim.Claim.{Claim}
use Rattle.slot_alloc.specs.SlotRules.{KeepsSlotRules}
use Rattle.many_host_laws.specs.Hosts.{IsHost}
use Rattle.many_host_laws.specs.Rosters.{IsRosterOf, PassKeepsSlotRules, Roster, all_in_place, keeps_to, view_of_pass}
use Rattle.many_host_laws.proofs.Hosts.{PortIn, made_log, met_legal, met_own, met_slot_rules, met_tidy}
use Rattle.shared_system.specs.Servers.{serves}
use Rattle.slot_host.specs.Begins.{is_hold}
use Rattle.slot_host.specs.SlotHosts.{slot_state}
use Rattle.slot_host.specs.declared.hold.Hold.{Hold}
use Rattle.slot_host.specs.declared.slot_host.SlotHost.{SlotHost}
use Rattle.work_queue.specs.declared.engine.Engine.{Engine}
use Rattle.slot_disk.specs.Hosts.{AreHosts, IsDiskHost, host_pass, views}
use Rattle.slot_disk.specs.Moments.{HoldsSlot, IsMoment}
use Rattle.slot_disk.specs.Views.{disk_of, has}
use Rattle.slot_disk.proofs.Looks.{Has, there, what_has}

-- What the pass of host h did, by the history of the meeting.
pub record Did (c : ConfigNumbers) (slots : Range) (h last : ℕ) (met : SharedPast) : Type 0 where
  pub keeps : keeps_to c h h met ≡ true
  pub tidy : is_tidy (events c h h met) ≡ true
  pub rules : keeps_slot_rules slots h last (events c h h met) ≡ true

-- the last serial of a host's driver, if there is such a host
abbrev pub last_in : Option (SlotHost SharedPort ghosts) → ℕ
last_in None = 0
last_in (Some s) = serial_of (slot_state s).driver

-- each pass but the last is that of the host of its number
abbrev pub roster : ConfigNumbers → List (SlotHost SharedPort ghosts) → Roster
roster c hs =
    record {
      drives = λ p. leb 1 p && leb p c.cqs;
      queue = λ p. p;
      host = λ p. p;
      last = λ p. last_in (slice_get hs (p - 1));
    }

-- What is known of a host, and of a history in which all stands that its pass did.
pub record IsThere (c : ConfigNumbers) (slots : Range) (h : ℕ) (s : SlotHost SharedPort ghosts) (met : SharedPast)
    : Type 0 where
  pub host : IsHost c slots h h h (slot_state s).driver
  pub begins : IsBeginning met (seen (host_pass s))
  pub whole : places (number (host_pass s)) met ≡ mine (host_pass s)

module _ (c : ConfigNumbers) (slots : Range) (h : ℕ) (s : SlotHost SharedPort ghosts) (met : SharedPast)
    (x : IsThere c slots h s met) where
  port_in : PortIn (area_of (slot_state s).driver) (host_of (slot_state s).driver) (serial_of (slot_state s).driver)
      (slot_state s).driver.began.value (slot_state s).driver.port met
  port_in =
      let d = (slot_state s).driver in
      record {
        legal = d.port.legal;
        first = x.host.first;
        counted = d.sole;
        tidy = d.tidy;
        slot_rules = x.host.slot_rules;
        begins = x.begins;
        whole = x.whole;
      }

  pub did : Did c slots h (serial_of (slot_state s).driver) met
  did =
      let d = (slot_state s).driver in
      let y = x.host in
      let own = met_own (area_of d) (host_of d) (serial_of d) d.began.value d.port met port_in in
      let tidy = met_tidy (area_of d) (host_of d) (serial_of d) d.began.value d.port met port_in in
      let rules = met_slot_rules (area_of d) (host_of d) (serial_of d) d.began.value d.port met port_in in
      record {
        keeps = (λ i. keeps_to (sym y.config i) (sym y.queue_is i) (sym y.pass_is i) met) ∙ own;
        tidy = (λ i. is_tidy (events (sym y.config i) (sym y.queue_is i) (sym y.pass_is i) met)) ∙ tidy;
        rules = (λ i. keeps_slot_rules (sym y.area i) (sym y.host_is i) (serial_of d)
            (events (sym y.config i) (sym y.queue_is i) (sym y.pass_is i) met)) ∙ rules;
      }

  pub legal : IsLegal c (entries met)
  legal =
      let d = (slot_state s).driver in
      subst (λ (k : ConfigNumbers). IsLegal k (entries met)) x.host.config
      (met_legal (area_of d) (host_of d) (serial_of d) d.began.value d.port met port_in)

  pub log : made (slot_state s).driver ≡ events c h h met
  log =
      let d = (slot_state s).driver in
      let y = x.host in
      made_log (area_of d) (host_of d) (serial_of d) d.began.value d.port met port_in
      ∙ (λ i. events (y.config i) (y.queue_is i) (y.pass_is i) met)

  -- a slot that its driver's log believes it holds, where whoever is believed of a slot holds it
  pub holds_at : (r : Roster) (claim : Claim) (i : ℕ) → r.queue h ≡ h → slot_of claim ≡ i
      → IsHeldBy (slot_state s).driver claim
      → ((l : ℕ) (m : Name) → has_block slots l ≡ true
      → log_believed (log_since [] (view_of_pass c r met h)) l m ≡ true → holder (entries met) l ≡ Some m)
      → ((l : ℕ) (m : Name) → has_block slots l ≡ true → believed c (entries met) l m ≡ true
      → holder (entries met) l ≡ Some m)
      → HoldsSlot c (entries met) h (block_of slots i)
  holds_at r claim i queue slot held by_log by_history =
      record {
        name = record { host = h; serial = claim_serial claim };
        own = refl;
        holds = holds;
        alone = λ m believes. some_one m (record { host = h; serial = claim_serial claim })
            (sym (by_history (block_of slots i) m inside believes) ∙ holds);
      }
    where
      inside : has_block slots (block_of slots i) ≡ true
      inside =
          let within = held.inside in
          let blocks = ap (λ (z : Range). z.blocks) x.host.area in
          has_area slots (block_of slots i)
          (record { from = omega arith; to = omega (arith, within, blocks, slot) })

      place : block_of (area_of (slot_state s).driver) (slot_of claim) ≡ block_of slots i
      place = λ k. block_of (x.host.area k) (slot k)

      log_is : log_since [] (view_of_pass c r met h) ≡ made (slot_state s).driver
      log_is =
          since_none (events c (r.queue h) h met)
          ∙ (ap (λ (q : ℕ). events c q h met) queue ∙ sym log)

      holds : holder (entries met) (block_of slots i) ≡ Some (record { host = h; serial = claim_serial claim })
      holds =
          by_log (block_of slots i) (record { host = h; serial = claim_serial claim }) inside
          ((λ k. log_believed (log_is k) (sym place k)
          (record { host = sym x.host.host_is k; serial = claim_serial claim })) ∙ held.believed)

-- ---- all hosts

module _ (eng : Engine) (c : ConfigNumbers) (slots : Range) (hs : List (SlotHost SharedPort ghosts)) (met : SharedPast)
    (all : AreHosts eng c slots hs) (count : length hs ≡ c.cqs) (some : 1 ≤ c.cqs)
    (known : (k : ℕ) (s : SlotHost SharedPort ghosts) → slice_get hs k ≡ Some s
    → IsBeginning met (seen (host_pass s)) × (places (number (host_pass s)) met ≡ mine (host_pass s)))
    (serving : serves (c.cqs + 1) met ≡ true) (of_passes : AreOfPasses (c.cqs + 1) met) where
  is_there : (k : ℕ) (s : SlotHost SharedPort ghosts) → slice_get hs k ≡ Some s → IsThere c slots (k + 1) s met
  is_there k s e =
      record { host = (all k s e).state.host; begins = (known k s e).0; whole = (known k s e).1 }

  -- a pass that drives is the host's of its number
  drives_low : (p : ℕ) → (leb 1 p && leb p c.cqs) ≡ true → (1 ≤ p) × (p ≤ c.cqs)
  drives_low p e =
      let b = and_parts (leb 1 p) (leb p c.cqs) e in
      (leb-true 1 p b.0, leb-true p c.cqs b.1)

  host_at : (p : ℕ) → (leb 1 p && leb p c.cqs) ≡ true
      → Did c slots p (last_in (slice_get hs (p - 1))) met
  host_at p e =
      let b = drives_low p e in
      let low = b.0 in
      let high = b.1 in
      let s = there hs (p - 1) (omega (arith, low, high, count)) in
      let is : p - 1 + 1 ≡ p = omega (arith, low) in
      let y = did c slots (p - 1 + 1) s.0 met (is_there (p - 1) s.0 s.1) in
      subst (λ (z : ℕ × Option (SlotHost SharedPort ghosts)). Did c slots z.0 (last_in z.1) met)
      (λ i. (is i, sym s.1 i)) y

  serves_last : (p : ℕ) → 0 < p → p ≤ c.cqs + 1 → (leb 1 p && leb p c.cqs) ≡ false → serves p met ≡ true
  serves_last p low high e = elim (cases_Bool (leb p c.cqs)) [
    | inl f ↦ clash (leb 1 p && leb p c.cqs) (and_from (leb 1 p) (leb p c.cqs) (le-leb 1 p (omega (arith, low))) f) e
    | inr f ↦
        let above : c.cqs < p = leb-false p c.cqs f in
        let is : c.cqs + 1 ≡ p = omega (arith, above, high) in
        subst (λ (n : ℕ). serves n met ≡ true) is serving
  ]

  pub first_legal : IsLegal c (entries met)
  first_legal =
      let s = there hs 0 (omega (arith, count, some)) in
      legal c slots 1 s.0 met (is_there 0 s.0 s.1)

  pub rostered : (((p : ℕ) → 0 < p → p ≤ c.cqs + 1 → (leb 1 p && leb p c.cqs) ≡ true → keeps_to c p p met ≡ true)
      → ((p : ℕ) → 0 < p → p ≤ c.cqs + 1 → (leb 1 p && leb p c.cqs) ≡ false → serves p met ≡ true)
      → all_in_place c (roster c hs) met ≡ true) → IsRosterOf c slots (roster c hs) met
  rostered place =
      record {
        legal = first_legal;
        in_place = place (λ p low high e. (host_at p e).keeps) serves_last;
        drivers = λ p e. record { tidy = (host_at p e).tidy; slot_rules = (host_at p e).rules };
        queues = λ p q d e same. same;
        hosts = λ p q d e same. same;
      }

  pub moment : IsRosterOf c slots (roster c hs) met
      → ((p : ℕ) (l : ℕ) (m : Name) → (leb 1 p && leb p c.cqs) ≡ true → has_block slots l ≡ true
      → log_believed (log_since [] (view_of_pass c (roster c hs) met p)) l m ≡ true → holder (entries met) l ≡ Some m)
      → ((l : ℕ) (m : Name) → has_block slots l ≡ true → believed c (entries met) l m ≡ true
      → holder (entries met) l ≡ Some m)
      → IsMoment (disk_of c slots (views hs))
  moment theirs by_log by_history =
      record { past = entries met; legal = first_legal; each = λ h i e. held h i (what_has c slots hs h i e) }
    where
      claimed : (k : ℕ) (s : SlotHost SharedPort ghosts) (i : ℕ) (hold : Hold) → IsDiskHost eng c slots (k + 1) s
          → slice_get (slot_state s).holds i ≡ Some hold → is_hold hold ≡ true
          → (claim : Claim) × (slot_of claim ≡ i) × IsHeldBy (slot_state s).driver claim
      claimed k s i Hold.Nothing x f had = clash false had refl
      claimed k s i (Hold.Claimed w) x f had =
          let y = x.kept.holds_are i (Hold.Claimed w) f in (w.claim, y.0, y.1)
      claimed k s i (Hold.TakenOver w) x f had =
          clash (slot_state s).took_over (x.kept.holds_are i (Hold.TakenOver w) f).1 x.state.fresh

      held : (h i : ℕ) → Has hs h i → HoldsSlot c (entries met) h (block_of slots i)
      held h i x =
          let some_h = x.some in
          let within : h - 1 < length hs = slice_get_within hs (h - 1) x.host x.host_is in
          let is : h - 1 + 1 ≡ h = omega (arith, some_h) in
          let high : h ≤ c.cqs = omega (arith, within, count, some_h) in
          let k = claimed (h - 1) x.host i x.hold (all (h - 1) x.host x.host_is) x.hold_is x.held in
          let drives : (leb 1 h && leb h c.cqs) ≡ true =
          and_from (leb 1 h) (leb h c.cqs) (le-leb 1 h some_h) (le-leb h c.cqs high) in
          let known_host : IsThere c slots h x.host met =
          subst (λ (n : ℕ). IsThere c slots n x.host met) is (is_there (h - 1) x.host x.host_is) in
          holds_at c slots h x.host met known_host (roster c hs) k.0 i refl k.1 k.2
          (λ l m inside b. by_log h l m drives inside b) by_history
