-- Two drivers that have met.
use Rattle.std.proofs.Common.{Bool, List, [], ap, arith, cond, eq-eqb, eqb, false, inl, inr, length, length-append, not}
use Rattle.std.proofs.Common.{refl, subst, suc, sym, true, ℕ, ◌&&◌, ◌+◌, ◌++◌, ◌<◌, ◌||◌, ◌∙◌, ◌∷◌, ◌≡◌, ◌≤◌}
use Rattle.std.specs.List.{list_all}
use Rattle.nvme_model.specs.Config.{completion_queue}
use Rattle.nvme_model.specs.History.{Past}
use Rattle.nvme_model.specs.Legal.{IsLegal}
use Rattle.nvme_model.specs.Passes.{IsBeginning, SharedPast, entries, places}
use Rattle.nvme_model.specs.declared.array.Range.{Range}
use Rattle.nvme_model.specs.declared.config.ConfigNumbers.{ConfigNumbers}
use Rattle.nvme_model.specs.declared.entry.Entry.{Entry}
use Rattle.nvme_model.proofs.Beginnings.{earlier}
use Rattle.host_laws.specs.Beside.{is_beside}
use Rattle.host_laws.proofs.Elements.{In, all_from, all_in}
use Rattle.driver_calls.specs.Events.{event_at, events}
use Rattle.driver_calls.specs.Log.{is_tidy}
use Rattle.driver_calls.specs.Views.{log_of, since}
use Rattle.driver_calls.specs.declared.event.PortEvent.{PortEvent}
use Rattle.driver_calls.proofs.Following.{beside_no_event}
use Rattle.driver_calls.proofs.Views.{events_declined, since_none}
use Rattle.driver_cas.specs.Ports.{steps_of, view_of}
use Rattle.driver_cas.specs.declared.shared_port.SharedPort.{SharedPort}
use Rattle.meet_lock.specs.Lock.{AreOfPasses}
use Rattle.meet_lock.specs.Passes.{config_of, mine, number, seen}
use Rattle.slot_log_laws.specs.SlotRules.{keeps_slot_rules}
use Rattle.many_host_laws.specs.Rosters.{Roster, all_in_place, is_in_place, keeps_to}
use Rattle.shared_system.specs.Servers.{is_serving, serves}

-- ---- elements of a shared history

pub numbered : (n : ℕ) (shared : SharedPast) (m : ℕ × Entry) → AreOfPasses n shared → In m shared
    → (0 < m.0) × (m.0 ≤ n)
numbered n [] m a i = absurd i
numbered n (x ∷ shared) m a (inl e) = subst (λ (k : ℕ × Entry). (0 < k.0) × (k.0 ≤ n)) (sym e) a.0
numbered n (x ∷ shared) m a (inr i) = numbered n shared m a.1 i

-- ---- a pass whose every entry is an event of its port

-- an entry is one event at most
one_event : (c : ConfigNumbers) (n : ℕ) (past : Past) (e : Entry) → length (event_at c n past e) ≤ 1
one_event c n past (Entry.Publish p) = go (eqb (completion_queue c p.queue) n)
  where
    go : (b : Bool) → length (cond b (PortEvent.Sent p.queue p.batch ∷ []) []) ≤ 1
    go true = omega arith
    go false = omega arith
one_event c n past (Entry.Reap p) = go (eqb p.queue n) _
  where
    go : (b : Bool) (x : PortEvent) → length (cond b (x ∷ []) []) ≤ 1
    go true x = omega arith
    go false x = omega arith
one_event c n past (Entry.Fetch p) = omega arith
one_event c n past (Entry.Grant p) = omega arith
one_event c n past (Entry.Block p) = omega arith
one_event c n past (Entry.Post p) = omega arith

few_events : (c : ConfigNumbers) (n p : ℕ) (shared : SharedPast)
    → length (events c n p shared) ≤ length (places p shared)
few_events c n p [] = omega arith
few_events c n p (m ∷ shared) = go (eqb m.0 p) (one_event c n (entries shared) m.1) (few_events c n p shared)
  where
    go : (b : Bool) → length (event_at c n (entries shared) m.1) ≤ 1
        → length (events c n p shared) ≤ length (places p shared)
        → length (cond b (event_at c n (entries shared) m.1) [] ++ events c n p shared)
        ≤ length (cond b (suc (length shared) ∷ places p shared) (places p shared))
    go true one ih = let sum = length-append (event_at c n (entries shared) m.1) (events c n p shared) in
        omega (arith, one, ih, sum)
    go false one ih = ih

-- made by pass p, the entry is an event of completion queue n
abbrev pub is_own : ConfigNumbers → ℕ → ℕ → ℕ × Entry → Bool
is_own c n p m = not (eqb m.0 p) || not (is_beside c n m.1)

own_entries : (c : ConfigNumbers) (n p : ℕ) (shared : SharedPast)
    → length (places p shared) ≡ length (events c n p shared) → list_all (is_own c n p) shared ≡ true
own_entries c n p [] e = refl
own_entries c n p (m ∷ shared) e =
    go (eqb m.0 p) (is_beside c n m.1) refl (one_event c n (entries shared) m.1) (few_events c n p shared) e
    (own_entries c n p shared)
  where
    go : (b beside : Bool) → is_beside c n m.1 ≡ beside → length (event_at c n (entries shared) m.1) ≤ 1
        → length (events c n p shared) ≤ length (places p shared)
        → length (cond b (suc (length shared) ∷ places p shared) (places p shared))
        ≡ length (cond b (event_at c n (entries shared) m.1) [] ++ events c n p shared)
        → (length (places p shared) ≡ length (events c n p shared) → list_all (is_own c n p) shared ≡ true)
        → ((not b || not beside) && list_all (is_own c n p) shared) ≡ true
    go false beside z one few f ih = ih f
    go true false z one few f ih =
        let sum = length-append (event_at c n (entries shared) m.1) (events c n p shared) in
        ih (omega (arith, one, few, f, sum))
    go true true z one few f ih =
        let none = ap length (beside_no_event c n (entries shared) m.1 z) in
        let sum = length-append (event_at c n (entries shared) m.1) (events c n p shared) in
        absurd (omega (arith, few, f, sum, none))

-- ---- one driver

-- What is known of the port of a driver that keeps the rules of slots and was made when it had seen nothing, and of a
-- beginning of what it has seen in which all stands that its pass did.
pub record PortIn (slots : Range) (host last : ℕ) (began now : SharedPort) (met : SharedPast) : Type 0 where
  pub legal : IsLegal (config_of now.pass) (entries (seen now.pass))
  pub first : seen began.pass ≡ []
  pub counted : steps_of now + length (log_of (view_of began)) ≡ steps_of began + length (log_of (view_of now))
  pub tidy : is_tidy (since (log_of (view_of began)) (log_of (view_of now))) ≡ true
  pub slot_rules : keeps_slot_rules slots host last (since (log_of (view_of began)) (log_of (view_of now))) ≡ true
  pub begins : IsBeginning met (seen now.pass)
  pub whole : places (number now.pass) met ≡ mine now.pass

-- its events in that beginning
abbrev pub events_in : SharedPort → SharedPast → List PortEvent
events_in p met = events (config_of p.pass) p.queue (number p.pass) met

module _ (slots : Range) (host last : ℕ) (began now : SharedPort) (met : SharedPast)
    (x : PortIn slots host last began now met) where
  first_log : log_of (view_of began) ≡ []
  first_log = ap (events (config_of began.pass) began.queue (number began.pass)) x.first

  met_log : log_of (view_of now) ≡ events_in now met
  met_log = events_declined (config_of now.pass) now.queue (number now.pass) met (seen now.pass) (sym x.whole) x.begins

  pub made_log : since (log_of (view_of began)) (log_of (view_of now)) ≡ events_in now met
  made_log = ap (λ (b : List PortEvent). since b (log_of (view_of now))) first_log
      ∙ (since_none (log_of (view_of now)) ∙ met_log)

  pub met_legal : IsLegal (config_of now.pass) (entries met)
  met_legal = subst_legal x.begins.0 (seen now.pass) x.begins.1 x.legal
    where
      apart : (later : SharedPast) → entries (later ++ met) ≡ entries later ++ entries met
      apart [] = refl
      apart (m ∷ later) = ap (λ (p : Past). m.1 ∷ p) (apart later)

      subst_legal : (later all : SharedPast) → later ++ met ≡ all → IsLegal (config_of now.pass) (entries all)
          → IsLegal (config_of now.pass) (entries met)
      subst_legal later all e h =
          earlier (config_of now.pass) (entries later) (entries met)
          (subst (λ (p : Past). IsLegal (config_of now.pass) p) (ap entries (sym e) ∙ apart later) h)

  pub met_own : list_all (is_own (config_of now.pass) now.queue (number now.pass)) met ≡ true
  met_own =
      let none = ap length first_log in
      let began_none = ap (λ (s : SharedPast). length (places (number began.pass) s)) x.first in
      let here = ap length x.whole in
      let logs = ap length met_log in
      let count = x.counted in
      own_entries (config_of now.pass) now.queue (number now.pass) met
      (omega (arith, none, began_none, here, logs, count))

  pub met_tidy : is_tidy (events_in now met) ≡ true
  met_tidy = ap is_tidy (sym made_log) ∙ x.tidy

  pub met_slot_rules : keeps_slot_rules slots host last (events_in now met) ≡ true
  met_slot_rules = ap (keeps_slot_rules slots host last) (sym made_log) ∙ x.slot_rules

-- ---- many passes

-- each entry of a pass that drives or serves is in its place
place_of : (c : ConfigNumbers) (r : Roster) (met : SharedPast) (m : ℕ × Entry) → In m met
    → (r.drives m.0 ≡ true → keeps_to c (r.queue m.0) m.0 met ≡ true) → (r.drives m.0 ≡ false → serves m.0 met ≡ true)
    → is_in_place c r m.0 m.1 ≡ true
place_of c r met m i own serve = go (r.drives m.0) refl
  where
    mine : (k : ℕ) (x : Bool) → (not (eqb k k) || x) ≡ true → x ≡ true
    mine k x h = subst (λ (b : Bool). (not b || x) ≡ true) (eq-eqb k k refl) h

    go : (b : Bool) → r.drives m.0 ≡ b → cond b (not (is_beside c (r.queue m.0) m.1)) (is_serving m.1) ≡ true
    go true e = mine m.0 (not (is_beside c (r.queue m.0) m.1)) (all_in (is_own c (r.queue m.0) m.0) met m (own e) i)
    go false e = mine m.0 (is_serving m.1) (all_in (λ k. not (eqb k.0 m.0) || is_serving k.1) met m (serve e) i)

pub all_placed : (c : ConfigNumbers) (r : Roster) (passes : ℕ) (met : SharedPast) → AreOfPasses passes met
    → ((p : ℕ) → 0 < p → p ≤ passes → r.drives p ≡ true → keeps_to c (r.queue p) p met ≡ true)
    → ((p : ℕ) → 0 < p → p ≤ passes → r.drives p ≡ false → serves p met ≡ true) → all_in_place c r met ≡ true
all_placed c r passes met a own serve =
    all_from (λ m. is_in_place c r m.0 m.1) met (λ m i.
    let n = numbered passes met m a i in
    place_of c r met m i (own m.0 n.0 n.1) (serve m.0 n.0 n.1))
