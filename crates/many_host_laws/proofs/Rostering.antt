-- Where all passes are those of drivers and servers, the history keeps the slots.
use Rattle.std.proofs.Common.{Bool, List, [], ap, arith, cond, eqb, false, inl, inr, leb, length, ltb, not, refl}
use Rattle.std.proofs.Common.{subst, suc, sym, true, ℕ, ◌&&◌, ◌+◌, ◌-◌, ◌++◌, ◌<◌, ◌||◌, ◌∙◌, ◌∷◌, ◌≡◌, ◌≤◌}
use Rattle.std.specs.List.{Contains, list_all}
use Rattle.std.proofs.lemmas.Bool.{and_from, and_parts, cases_Bool, leb-true, le-leb, lt-ltb, ltb-false, ltb-true}
use Rattle.nvme_model.specs.History.{Past}
use Rattle.nvme_model.specs.Legal.{IsLegal}
use Rattle.nvme_model.specs.Passes.{IsBeginning, SharedPast, entries, places}
use Rattle.nvme_model.specs.Array.{has_block}
use Rattle.nvme_model.specs.Config.{completion_queue}
use Rattle.nvme_model.specs.Slots.{Swap, disciplined, swaps}
use Rattle.nvme_model.specs.declared.array.Range.{Range}
use Rattle.nvme_model.specs.declared.config.ConfigNumbers.{ConfigNumbers}
use Rattle.nvme_model.specs.declared.entry.Entry.{Entry}
use Rattle.nvme_model.proofs.Beginnings.{earlier}
use Rattle.host_laws.specs.Beside.{is_beside}
use Rattle.host_laws.specs.Claims.{claims_only_on}
use Rattle.host_laws.proofs.Beliefs.{believed_holds, one_believed}
use Rattle.host_laws.proofs.Beside.{places_grow}
use Rattle.host_laws.proofs.Discipline.{area_has, kept_earlier}
use Rattle.driver_calls.specs.Events.{events}
use Rattle.driver_calls.specs.Log.{is_tidy}
use Rattle.driver_calls.specs.declared.event.PortEvent.{PortEvent}
use Rattle.driver_calls.proofs.Views.{events_declined}
use Rattle.meet_lock.specs.Lock.{AreOfPasses, ExtendsByPasses}
use Rattle.meet_lock.specs.Passes.{IsSeenWhole, mine, number, seen}
use Rattle.meet_lock.proofs.Wholes.{some_at}
use Rattle.meet_lock.proofs.Beginnings.{both}
use Rattle.shared_system.specs.Servers.{is_serving, serves}
use Rattle.host_laws.proofs.Elements.{In, contains_in}
use Rattle.slot_log_laws.proofs.Claiming.{claimed_host}
use Rattle.slot_log_laws.proofs.Counting.{own_claims}
use Rattle.slot_log_laws.proofs.Knowing.{log_knows}
use Rattle.slot_log_laws.proofs.SlotRules.{slot_rules_parts}
use Rattle.slot_log_laws.specs.Counts.{claims_on, log_claims}
use Rattle.slot_log_laws.specs.SlotRules.{keeps_slot_rules}
use Rattle.many_host_laws.specs.Rosters.{IsRosterOf, Roster, all_in_place, keeps_to}
use Rattle.many_host_laws.proofs.Hosts.{all_placed}
use Rattle.many_host_laws.proofs.Rosters.{all_keep, slot_view}
use Rattle.work_queue.specs.Engines.{EnginePass}
use Rattle.many_host_laws.specs.Closing.{AreClosing, HasDone, HasRounds, HaveClaimed, IsClosing, KeepsSlots}

-- ---- others add nothing of a pass's own

keeps_later : (k : ℕ) (P : Entry → Bool) (later old : SharedPast) → places k (later ++ old) ≡ places k old
    → list_all (λ m. not (eqb m.0 k) || P m.1) old ≡ true
    → list_all (λ m. not (eqb m.0 k) || P m.1) (later ++ old) ≡ true
keeps_later k P [] old e h = h
keeps_later k P (m ∷ later) old e h = go (eqb m.0 k) e (λ f. keeps_later k P later old f h)
  where
    go : (b : Bool) → cond b (suc (length (later ++ old)) ∷ places k (later ++ old)) (places k (later ++ old))
        ≡ places k old
        → (places k (later ++ old) ≡ places k old → list_all (λ x. not (eqb x.0 k) || P x.1) (later ++ old) ≡ true)
        → ((not b || P m.1) && list_all (λ x. not (eqb x.0 k) || P x.1) (later ++ old)) ≡ true
    go true f ih = absurd (omega (arith, places_grow k later old, ap length f))
    go false f ih = ih f

keeps_on : (k : ℕ) (P : Entry → Bool) (old new : SharedPast) → IsBeginning old new → places k new ≡ places k old
    → list_all (λ m. not (eqb m.0 k) || P m.1) old ≡ true → list_all (λ m. not (eqb m.0 k) || P m.1) new ≡ true
keeps_on k P old new b same h =
    subst (λ (s : SharedPast). list_all (λ m. not (eqb m.0 k) || P m.1) s ≡ true) b.1
    (keeps_later k P b.0 old (ap (places k) b.1 ∙ same) h)

-- ---- one host

-- what a pass did in the whole history: on its own queues alone, under free CIDs, and by the rules of slots
record Did (c : ConfigNumbers) (slots : Range) (queue p : ℕ) (shared : SharedPast) : Type 0 where
  last : ℕ
  keeps : keeps_to c queue p shared ≡ true
  tidy : is_tidy (events c queue p shared) ≡ true
  slot_rules : keeps_slot_rules slots queue last (events c queue p shared) ≡ true

did_by : (c : ConfigNumbers) (slots : Range) (queue p : ℕ) (q : EnginePass) (shared : SharedPast) → number q ≡ p
    → HasDone c slots queue queue q → IsBeginning (seen q) shared → places (number q) shared ≡ mine q
    → Did c slots queue p shared
did_by c slots queue p q shared n h begins own =
    let pl : places p shared ≡ places p (seen q) = subst (λ (k : ℕ). places k shared ≡ places k (seen q)) n own in
    let ev : events c queue p shared ≡ events c queue (number q) (seen q) =
    events_declined c queue p (seen q) shared pl begins ∙ (λ i. events c queue (sym n i) (seen q)) in
    record {
      last = h.last;
      keeps = keeps_on p (λ e. not (is_beside c queue e)) (seen q) shared begins pl
          (subst (λ (k : ℕ). keeps_to c queue k (seen q) ≡ true) n h.own);
      tidy = ap is_tidy ev ∙ h.tidy;
      slot_rules = ap (keeps_slot_rules slots queue h.last) ev ∙ h.slot_rules;
    }

-- ---- all passes

module _ (c : ConfigNumbers) (slots : Range) (servers : ℕ) (ps : List EnginePass) (past : Past) (some : 0 < servers)
    (count : length ps ≡ servers + c.cqs) (ended : AreClosing c slots servers ps) (whole : IsSeenWhole ps past)
    (legal : IsLegal c past) where
  abbrev shared : SharedPast
  shared = seen whole.pass

  -- the pass with this number
  record Nth (p : ℕ) : Type 0 where
    pass : EnginePass
    numbered : number pass ≡ p
    has : IsClosing c slots servers pass
    goes : ExtendsByPasses (length ps) (seen pass) shared
    own : places (number pass) shared ≡ mine pass

  nth : (p : ℕ) → 0 < p → p ≤ servers + c.cqs → Nth p
  nth p low high =
      let a = some_at ps (p - 1) (omega (arith, low, high, count)) in
      let x = ended (p - 1) a.0 a.1 in
      let w = whole.all (p - 1) a.0 a.1 in
      let n = x.0 in
      record { pass = a.0; numbered = omega (arith, n, low); has = x.1; goes = w.0; own = w.1 }

  abbrev drives : ℕ → Bool
  drives p = ltb servers p && leb p (servers + c.cqs)

  in_range : (p : ℕ) → drives p ≡ true → (servers < p) × (p ≤ servers + c.cqs)
  in_range p d = let b = and_parts (ltb servers p) (leb p (servers + c.cqs)) d in
      (ltb-true servers p b.0, leb-true p (servers + c.cqs) b.1)

  did : (p : ℕ) → drives p ≡ true → Did c slots (p - servers) p shared
  did p d =
      let r = in_range p d in
      let low = r.0 in
      let q = nth p (omega (arith, low)) r.1 in
      let n = q.numbered in
      let h = q.has.hosted (omega (arith, low, n)) in
      did_by c slots (p - servers) p q.pass shared n
      (subst (λ (k : ℕ). HasDone c slots (k - servers) (k - servers) q.pass) n h) q.goes.0 q.own

  last_at : (p : ℕ) (b : Bool) → drives p ≡ b → ℕ
  last_at p true d = (did p d).last
  last_at p false d = 0

  roster : Roster
  roster = record {
    drives = drives;
    queue = λ p. p - servers;
    host = λ p. p - servers;
    last = λ p. last_at p (drives p) refl;
  }

  slot_rules_at : (p : ℕ) (b : Bool) (d : drives p ≡ b) → b ≡ true
      → keeps_slot_rules slots (p - servers) (last_at p b d) (events c (p - servers) p shared) ≡ true
  unfolding last_at
  slot_rules_at p true d t = (did p d).slot_rules
  slot_rules_at p false d t = absurd cc

  serves_at : (p : ℕ) → 0 < p → p ≤ servers → serves p shared ≡ true
  serves_at p low high =
      let q = nth p low (omega (arith, high)) in
      let n = q.numbered in
      let s = q.has.served (omega (arith, high, n)) in
      subst (λ (k : ℕ). serves k shared ≡ true) n
      (keeps_on (number q.pass) is_serving (seen q.pass) shared q.goes.0 q.own s.serves)

  of_passes : AreOfPasses (servers + c.cqs) shared
  of_passes =
      let q = nth 1 (omega arith) (omega (arith, some)) in
      let n = q.numbered in
      let s = q.has.served (omega (arith, some, n)) in
      let g : ExtendsByPasses (servers + c.cqs) (seen q.pass) shared =
      subst (λ (k : ℕ). ExtendsByPasses k (seen q.pass) shared) count q.goes in
      subst (AreOfPasses (servers + c.cqs)) g.0.1
      (both (servers + c.cqs) g.0.0 (seen q.pass) g.1
      (subst (λ (k : ℕ). AreOfPasses k (seen q.pass)) q.has.all s.of_passes))

  in_place : all_in_place c roster shared ≡ true
  unfolding roster
  in_place =
      all_placed c roster (servers + c.cqs) shared of_passes (λ p low high d. (did p d).keeps)
      (λ p low high d. serves_at p low (elim (cases_Bool (ltb servers p)) [
        | inl t ↦ absurd (clash_at p high d t)
        | inr f ↦ ltb_false_le p f
      ]))
    where
      clash_at : (p : ℕ) → p ≤ servers + c.cqs → drives p ≡ false → ltb servers p ≡ true → ⊥
      clash_at p high d t =
          let e : drives p ≡ true =
          and_from (ltb servers p) (leb p (servers + c.cqs)) t (le-leb p (servers + c.cqs) high) in
          absurd (let f : true ≡ false = sym e ∙ d in cc)

      ltb_false_le : (p : ℕ) → ltb servers p ≡ false → p ≤ servers
      ltb_false_le p f = ltb-false servers p f

  rostered : IsRosterOf c slots roster shared
  unfolding roster
  rostered =
      record {
        legal = subst (IsLegal c) whole.whole legal;
        in_place = in_place;
        drivers = λ p d. record { tidy = (did p d).tidy; slot_rules = slot_rules_at p (drives p) refl d };
        queues = λ p q d f same. apart_numbers p q d f same;
        hosts = λ p q d f same. apart_numbers p q d f same;
      }
    where
      apart_numbers : (p q : ℕ) → drives p ≡ true → drives q ≡ true → p - servers ≡ q - servers → p ≡ q
      apart_numbers p q d f same =
          let a = (in_range p d).0 in
          let b = (in_range q f).0 in
          omega (arith, a, b, same)

  keeps : disciplined c slots past ≡ true
  unfolding roster
  keeps = subst (λ (p : Past). disciplined c slots p ≡ true) (sym whole.whole) (all_keep c slots roster shared rostered)

  claims : (h : ℕ) → 1 ≤ h → h ≤ c.cqs → claims_only_on c slots past h h ≡ true
  unfolding roster
  claims h low high =
      let p = servers + h in
      let d : drives p ≡ true =
      and_from (ltb servers p) (leb p (servers + c.cqs)) (lt-ltb servers p (omega (arith, low)))
      (le-leb p (servers + c.cqs) (omega (arith, high))) in
      let is : p - servers ≡ h = omega arith in
      subst (λ (z : Past × ℕ). claims_only_on c slots z.0 z.1 z.1 ≡ true) (λ i. (sym whole.whole i, is i))
      (slot_view c slots roster shared p rostered d).premises.own_number

  own_host : (h : ℕ) (s : Swap) → 1 ≤ h → h ≤ c.cqs → Contains (swaps past) s → has_block slots s.lba ≡ true
      → s.claims ≡ true → completion_queue c s.queue ≡ h → s.name.host ≡ h
  unfolding roster
  own_host h s low high there inside claims on =
      let p = servers + h in
      let d : drives p ≡ true =
      and_from (ltb servers p) (leb p (servers + c.cqs)) (lt-ltb servers p (omega (arith, low)))
      (le-leb p (servers + c.cqs) (omega (arith, high))) in
      let is : p - servers ≡ h = omega arith in
      let v = slot_view c slots roster shared p rostered d in
      let log = events c (p - servers) p shared in
      let k = log_knows c (p - servers) p shared v.legal v.premises.alone.sole (did p d).tidy in
      let each = (slot_rules_parts slots (p - servers) (did p d).last log (did p d).slot_rules).each in
      let here : In s (swaps (entries shared)) =
      contains_in (swaps (entries shared)) s (subst (λ (x : Past). Contains (swaps x) s) whole.whole there) in
      claimed_host slots (p - servers) log s each (k.known s here (on ∙ sym is)) claims inside ∙ is

  pub race_keeps : KeepsSlots c slots past
  race_keeps =
      record {
        disciplined = keeps;
        holds = λ later before l n is area believes.
            believed_holds c slots before l n (legal_before later before is) (kept_before later before is)
            (area_has slots l area) believes;
        one = λ later before l n m is area a b.
            one_believed c slots before l n m (legal_before later before is) (kept_before later before is)
            (area_has slots l area) a b;
        numbers = claims;
        own = own_host;
      }
    where
      legal_before : (later before : Past) → later ++ before ≡ past → IsLegal c before
      legal_before later before is = earlier c later before (subst (IsLegal c) (sym is) legal)

      kept_before : (later before : Past) → later ++ before ≡ past → disciplined c slots before ≡ true
      kept_before later before is =
          kept_earlier c slots later before (subst (λ (p : Past). disciplined c slots p ≡ true) (sym is) keeps)

  -- the host of completion queue h claimed the first slot as often as its pass
  pub race_rounds : (rounds : ℕ) → HaveClaimed c slots servers rounds ps → HasRounds c slots rounds past
  unfolding roster
  race_rounds rounds claimed = λ h low high.
      let p = servers + h in
      let d : drives p ≡ true =
      and_from (ltb servers p) (leb p (servers + c.cqs)) (lt-ltb servers p (omega (arith, low)))
      (le-leb p (servers + c.cqs) (omega (arith, high))) in
      let is : p - servers ≡ h = omega arith in
      let a = some_at ps (p - 1) (omega (arith, low, high, count)) in
      let x = ended (p - 1) a.0 a.1 in
      let w = whole.all (p - 1) a.0 a.1 in
      let place = x.0 in
      let n : number a.0 ≡ p = omega (arith, place, low) in
      let did_it : log_claims (events c (number a.0 - servers) (number a.0) (seen a.0)) slots.slba ≡ rounds =
      claimed (p - 1) a.0 a.1 (omega (arith, n, low)) in
      let pl : places p shared ≡ places p (seen a.0) =
      subst (λ (k : ℕ). places k shared ≡ places k (seen a.0)) n w.1 in
      let ev : events c (p - servers) p shared ≡ events c (number a.0 - servers) (number a.0) (seen a.0) =
      events_declined c (p - servers) p (seen a.0) shared pl w.0.0
      ∙ (λ i. events c (sym n i - servers) (sym n i) (seen a.0)) in
      let v = slot_view c slots roster shared p rostered d in
      let own : claims_on c (entries shared) (p - servers) slots.slba
      ≡ log_claims (events c (p - servers) p shared) slots.slba =
      own_claims c (p - servers) p slots.slba shared v.legal v.premises.alone.sole (did p d).tidy in
      (λ i. claims_on c (whole.whole i) (sym is i) slots.slba)
      ∙ (own ∙ (ap (λ (log : List PortEvent). log_claims log slots.slba) ev ∙ did_it))
