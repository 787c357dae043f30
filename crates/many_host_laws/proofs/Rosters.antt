-- Drivers that share a history, each of which keeps the rules of slots by what it did itself, keep the discipline
-- together.
use Rattle.std.proofs.Common.{Bool, List, [], ap, cond, eq-eqb, eqb, eqb-true, false, inl, inr, length, not, refl, sym}
use Rattle.std.proofs.Common.{true, ℕ, ◌+◌, ◌++◌, ◌||◌, ◌∙◌, ◌∷◌, ◌≡◌}
use Rattle.std.specs.List.{list_all}
use Rattle.std.proofs.lemmas.Bool.{and_from, and_parts, cases_Bool, eqb-false, ne_eqb, not-false, or_left, or_right}
use Rattle.std.proofs.lemmas.List.Folds.{list_all-append}
use Rattle.std.proofs.lemmas.Bool.{not-true}
use Rattle.nvme_model.specs.Array.{has_block}
use Rattle.nvme_model.specs.Config.{completion_queue}
use Rattle.nvme_model.specs.History.{Past}
use Rattle.nvme_model.specs.Passes.{SharedPast, entries}
use Rattle.nvme_model.specs.Queues.{published_entries}
use Rattle.nvme_model.specs.Slots.{Name, Swap, disciplined, in_area, swaps, swaps_in}
use Rattle.nvme_model.specs.declared.array.Range.{Range}
use Rattle.nvme_model.specs.declared.config.ConfigNumbers.{ConfigNumbers}
use Rattle.nvme_model.specs.declared.entry.Entry.{Entry}
use Rattle.nvme_model.proofs.Beginnings.{earlier}
use Rattle.nvme_model.proofs.Cut.{clash}
use Rattle.host_laws.specs.Beside.{IsSole, is_beside}
use Rattle.host_laws.specs.Claims.{claims_only_on}
use Rattle.host_laws.specs.Discipline.{keeps_at}
use Rattle.host_laws.proofs.Claims.{all_from}
use Rattle.host_laws.proofs.Discipline.{kept_before}
use Rattle.host_laws.proofs.Elements.{In, in_cases, of_filter}
use Rattle.host_laws.proofs.Publishing.{filter_append}
use Rattle.host_laws.proofs.SwapEntries.{swaps_in_queue}
use Rattle.host_laws.proofs.Sharing.{entry_kept}
use Rattle.driver_calls.specs.Events.{event_at, events}
use Rattle.driver_calls.specs.Log.{is_tidy, sent}
use Rattle.driver_calls.specs.Views.{log_of}
use Rattle.driver_calls.specs.declared.event.PortEvent.{PortEvent}
use Rattle.driver_calls.proofs.Logs.{tidy_before}
use Rattle.driver_calls.proofs.Views.{since_none}
use Rattle.slot_log_laws.specs.SlotRules.{each_keeps_slot_rules, keeps_slot_rules, serials_below}
use Rattle.slot_log_laws.specs.Hosts.{IsSlotView, elsewhere_keeps}
use Rattle.slot_log_laws.specs.Swaps.{log_believed, log_swaps}
use Rattle.slot_log_laws.proofs.SlotRules.{slot_rules_parts, is_below}
use Rattle.slot_log_laws.proofs.Claiming.{claimed_host}
use Rattle.slot_log_laws.proofs.Keeping.{filtered, slot_rules_before, slot_rules_disciplined}
use Rattle.slot_log_laws.proofs.Knowing.{Knows, log_knows}
use Rattle.slot_log_laws.proofs.Meeting.{other_queues}
use Rattle.shared_system.specs.Servers.{is_serving}
use Rattle.many_host_laws.specs.Rosters.{IsRosterOf, Roster, all_in_place, is_in_place, view_of_pass}

-- ---- a log that keeps the rules, without its newest events

serials_before : (slots : Range) (serial : ℕ) (xs log : List PortEvent) → serials_below slots serial (xs ++ log) ≡ true
    → serials_below slots serial log ≡ true
serials_before slots serial [] log h = h
serials_before slots serial (PortEvent.Sent q batch ∷ xs) log h =
    let of = swaps_in q (length (sent (xs ++ log) q)) batch in
    let all = log_swaps (xs ++ log) in
    let parted = ap (list_all (is_below serial)) (filter_append (λ s. has_block slots s.lba) of all)
    ∙ list_all-append (is_below serial) (in_area slots of) (in_area slots all) in
    serials_before slots serial xs log
    (and_parts (list_all (is_below serial) (in_area slots of)) (list_all (is_below serial) (in_area slots all))
    (sym parted ∙ h)).1
serials_before slots serial (PortEvent.Got cqe payload ∷ xs) log h = serials_before slots serial xs log h

pub slot_rules_back : (slots : Range) (host last : ℕ) (xs log : List PortEvent)
    → keeps_slot_rules slots host last (xs ++ log) ≡ true → keeps_slot_rules slots host last log ≡ true
slot_rules_back slots host last xs log h =
    let a = slot_rules_parts slots host last (xs ++ log) h in
    and_from (each_keeps_slot_rules slots host log) (serials_below slots (last + 1) log)
    (slot_rules_before slots host xs log a.each)
    (serials_before slots (last + 1) xs log a.below)

-- so the roster of a history is that of each beginning
pub shorter : (c : ConfigNumbers) (slots : Range) (r : Roster) (m : ℕ × Entry) (shared : SharedPast)
    → IsRosterOf c slots r (m ∷ shared) → IsRosterOf c slots r shared
shorter c slots r m shared x =
    record {
      legal = earlier c (m.1 ∷ []) (entries shared) x.legal;
      in_place = (and_parts (is_in_place c r m.0 m.1) (all_in_place c r shared) x.in_place).1;
      drivers = λ p d.
          let new = cond (eqb m.0 p) (event_at c (r.queue p) (entries shared) m.1) [] in
          let log = events c (r.queue p) p shared in
          let a = x.drivers p d in
          record {
            tidy = tidy_before new log a.tidy;
            slot_rules = slot_rules_back slots (r.host p) (r.last p) new log a.slot_rules;
          };
      queues = x.queues;
      hosts = x.hosts;
    }

-- ---- a driver alone uses its queues

beside_other : (c : ConfigNumbers) (n k : ℕ) (e : Entry) → (n ≡ k → ⊥) → not (is_beside c n e) ≡ true
    → is_beside c k e ≡ true
beside_other c n k (Entry.Publish p) u h =
    let on = eqb-true (completion_queue c p.queue) n (not-false _ (not-true _ h)) in
    ap not (ne_eqb (completion_queue c p.queue) k (λ f. u (sym on ∙ f)))
beside_other c n k (Entry.Reap p) u h = let on = eqb-true p.queue n (not-false _ (not-true _ h)) in
    ap not (ne_eqb p.queue k (λ f. u (sym on ∙ f)))
beside_other c n k (Entry.Fetch p) u h = refl
beside_other c n k (Entry.Grant p) u h = refl
beside_other c n k (Entry.Block p) u h = refl
beside_other c n k (Entry.Post p) u h = refl

serving_beside : (c : ConfigNumbers) (n : ℕ) (e : Entry) → is_serving e ≡ true → is_beside c n e ≡ true
serving_beside c n (Entry.Publish p) h = clash false h refl
serving_beside c n (Entry.Reap p) h = clash false h refl
serving_beside c n (Entry.Fetch p) h = refl
serving_beside c n (Entry.Grant p) h = refl
serving_beside c n (Entry.Block p) h = refl
serving_beside c n (Entry.Post p) h = refl

-- no two drivers have one completion queue
abbrev QueuesApart : Roster → Type 0
QueuesApart r = (p q : ℕ) → r.drives p ≡ true → r.drives q ≡ true → r.queue p ≡ r.queue q → p ≡ q

sole_at : (c : ConfigNumbers) (r : Roster) (p : ℕ) (m : ℕ × Entry) → r.drives p ≡ true → QueuesApart r
    → is_in_place c r m.0 m.1 ≡ true → (is_beside c (r.queue p) m.1 || eqb m.0 p) ≡ true
sole_at c r p m d u h = elim (cases_Bool (eqb m.0 p)) [
  | inl e ↦ or_right (is_beside c (r.queue p) m.1) (eqb m.0 p) e
  | inr e ↦ or_left (is_beside c (r.queue p) m.1) (eqb m.0 p) (go e (r.drives m.0) refl h)
]
  where
    go : eqb m.0 p ≡ false → (b : Bool) → r.drives m.0 ≡ b
        → cond b (not (is_beside c (r.queue m.0) m.1)) (is_serving m.1) ≡ true → is_beside c (r.queue p) m.1 ≡ true
    go e true z k = beside_other c (r.queue m.0) (r.queue p) m.1 (λ f. eqb-false m.0 p e (u m.0 p z d f)) k
    go e false z k = serving_beside c (r.queue p) m.1 k

pub sole : (c : ConfigNumbers) (r : Roster) (p : ℕ) (shared : SharedPast) → r.drives p ≡ true → QueuesApart r
    → all_in_place c r shared ≡ true → IsSole c (r.queue p) p shared
sole c r p [] d u h = refl
sole c r p (m ∷ shared) d u h =
    let a = and_parts (is_in_place c r m.0 m.1) (all_in_place c r shared) h in
    and_from _ _ (sole_at c r p m d u a.0) (sole c r p shared d u a.1)

-- ---- whose a claim is

record IsOwned (c : ConfigNumbers) (r : Roster) (s : Swap) : Type 0 where
  pass : ℕ
  drives : r.drives pass ≡ true
  queue : completion_queue c s.queue ≡ r.queue pass

owned_at : (c : ConfigNumbers) (r : Roster) (k : ℕ) (e : Entry) (past : Past) (s : Swap) → is_in_place c r k e ≡ true
    → In s (swaps (e ∷ past)) → (In s (swaps past) → IsOwned c r s) → IsOwned c r s
owned_at c r k (Entry.Fetch p) past s h i ih = ih i
owned_at c r k (Entry.Grant p) past s h i ih = ih i
owned_at c r k (Entry.Block p) past s h i ih = ih i
owned_at c r k (Entry.Post p) past s h i ih = ih i
owned_at c r k (Entry.Reap p) past s h i ih = ih i
owned_at c r k (Entry.Publish p) past s h i ih =
    elim (in_cases s (swaps_in p.queue (length (published_entries past p.queue)) p.batch) (swaps past) i) [
      | inl j ↦ go (r.drives k) refl h (swaps_in_queue past p s j)
      | inr j ↦ ih j
    ]
  where
    go : (b : Bool) → r.drives k ≡ b → cond b (not (is_beside c (r.queue k) (Entry.Publish p))) false ≡ true
        → s.queue ≡ p.queue → IsOwned c r s
    go true z x y = record {
      pass = k;
      drives = z;
      queue = ap (completion_queue c) y
          ∙ eqb-true (completion_queue c p.queue) (r.queue k) (not-false _ (not-true _ x));
    }
    go false z x y = clash false x refl

owned : (c : ConfigNumbers) (r : Roster) (shared : SharedPast) (s : Swap) → all_in_place c r shared ≡ true
    → In s (swaps (entries shared)) → IsOwned c r s
owned c r [] s h i = absurd i
owned c r (m ∷ shared) s h i =
    let a = and_parts (is_in_place c r m.0 m.1) (all_in_place c r shared) h in
    owned_at c r m.0 m.1 (entries shared) s a.0 i (λ j. owned c r shared s a.1 j)

knows : (c : ConfigNumbers) (slots : Range) (r : Roster) (p : ℕ) (shared : SharedPast) → r.drives p ≡ true
    → IsRosterOf c slots r shared → Knows c (entries shared) (r.queue p) (events c (r.queue p) p shared)
knows c slots r p shared d x =
    log_knows c (r.queue p) p shared x.legal (sole c r p shared d x.queues x.in_place) (x.drivers p d).tidy

-- a driver alone claims under its host's number
own_number : (c : ConfigNumbers) (slots : Range) (r : Roster) (p : ℕ) (shared : SharedPast) → r.drives p ≡ true
    → IsRosterOf c slots r shared → claims_only_on c slots (entries shared) (r.host p) (r.queue p) ≡ true
own_number c slots r p shared d x =
    all_from (λ w. not w.claims || not (eqb w.name.host (r.host p)) || eqb (completion_queue c w.queue) (r.queue p))
    (in_area slots (swaps (entries shared))) (λ w i.
    by w (of_filter (λ s. has_block slots s.lba) (swaps (entries shared)) w i)
    (filtered (λ s. has_block slots s.lba) (swaps (entries shared)) w i))
  where
    on : (w : Swap) → In w (swaps (entries shared)) → has_block slots w.lba ≡ true → w.claims ≡ true
        → w.name.host ≡ r.host p → completion_queue c w.queue ≡ r.queue p
    on w there inside claims e =
        let o = owned c r shared w x.in_place there in
        let log = events c (r.queue o.pass) o.pass shared in
        let here = (knows c slots r o.pass shared o.drives x).known w there o.queue in
        let each = (slot_rules_parts slots (r.host o.pass) (r.last o.pass) log
        (x.drivers o.pass o.drives).slot_rules).each in
        o.queue ∙ ap r.queue (x.hosts o.pass p o.drives d
        (sym (claimed_host slots (r.host o.pass) log w each here claims inside) ∙ e))

    by : (w : Swap) → In w (swaps (entries shared)) → has_block slots w.lba ≡ true
        → (not w.claims || not (eqb w.name.host (r.host p)) || eqb (completion_queue c w.queue) (r.queue p)) ≡ true
    by w there inside = elim (cases_Bool w.claims) [
      | inr a ↦ or_left (not w.claims || not (eqb w.name.host (r.host p))) _
          (or_left (not w.claims) (not (eqb w.name.host (r.host p))) (ap not a))
      | inl a ↦ elim (cases_Bool (eqb w.name.host (r.host p))) [
        | inr e ↦ or_left (not w.claims || not (eqb w.name.host (r.host p))) _
            (or_right (not w.claims) (not (eqb w.name.host (r.host p))) (ap not e))
        | inl e ↦ or_right (not w.claims || not (eqb w.name.host (r.host p)))
            (eqb (completion_queue c w.queue) (r.queue p))
            (eq-eqb (completion_queue c w.queue) (r.queue p) (on w there inside a (eqb-true w.name.host (r.host p) e)))
      ]
    ]

-- ---- the discipline

elsewhere : (c : ConfigNumbers) (slots : Range) (n : ℕ) (past : Past) → disciplined c slots past ≡ true
    → elsewhere_keeps c slots n past ≡ true
elsewhere c slots n [] h = refl
elsewhere c slots n (e ∷ past) h =
    and_from (elsewhere_keeps c slots n past) _ (elsewhere c slots n past (kept_before c slots e past h))
    (or_right (not (is_beside c n e)) (keeps_at c slots past e) (entry_kept c slots e past h))

serving_keeps : (c : ConfigNumbers) (slots : Range) (e : Entry) (past : Past) → is_serving e ≡ true
    → disciplined c slots past ≡ true → disciplined c slots (e ∷ past) ≡ true
serving_keeps c slots (Entry.Publish p) past s h = clash false s refl
serving_keeps c slots (Entry.Reap p) past s h = h
serving_keeps c slots (Entry.Fetch p) past s h = h
serving_keeps c slots (Entry.Grant p) past s h = h
serving_keeps c slots (Entry.Block p) past s h = h
serving_keeps c slots (Entry.Post p) past s h = h

-- the newest entry keeps it, where all before do
newest_keeps : (c : ConfigNumbers) (slots : Range) (r : Roster) (m : ℕ × Entry) (shared : SharedPast)
    → IsRosterOf c slots r (m ∷ shared) → disciplined c slots (entries shared) ≡ true
    → disciplined c slots (m.1 ∷ entries shared) ≡ true
newest_keeps c slots r m shared x kept =
    go (r.drives m.0) refl (and_parts (is_in_place c r m.0 m.1) (all_in_place c r shared) x.in_place).0
  where
    go : (b : Bool) → r.drives m.0 ≡ b → cond b (not (is_beside c (r.queue m.0) m.1)) (is_serving m.1) ≡ true
        → disciplined c slots (m.1 ∷ entries shared) ≡ true
    go true z h =
        let log = events c (r.queue m.0) m.0 (m ∷ shared) in
        slot_rules_disciplined c (r.queue m.0) m.0 slots (r.host m.0) (m ∷ shared) x.legal
        (sole c r m.0 (m ∷ shared) z x.queues x.in_place) (x.drivers m.0 z).tidy
        (and_from (elsewhere_keeps c slots (r.queue m.0) (entries shared)) _
        (elsewhere c slots (r.queue m.0) (entries shared) kept)
        (or_left (not (is_beside c (r.queue m.0) m.1)) (keeps_at c slots (entries shared) m.1) h))
        (own_number c slots r m.0 (m ∷ shared) z x)
        (slot_rules_parts slots (r.host m.0) (r.last m.0) log (x.drivers m.0 z).slot_rules).each
    go false z h = serving_keeps c slots m.1 (entries shared) h kept

pub all_keep : (c : ConfigNumbers) (slots : Range) (r : Roster) (shared : SharedPast) → IsRosterOf c slots r shared
    → disciplined c slots (entries shared) ≡ true
all_keep c slots r [] x = refl
all_keep c slots r (m ∷ shared) x =
    newest_keeps c slots r m shared x (all_keep c slots r shared (shorter c slots r m shared x))

-- ---- the premises of a host

pub slot_view : (c : ConfigNumbers) (slots : Range) (r : Roster) (shared : SharedPast) (p : ℕ)
    → IsRosterOf c slots r shared → r.drives p ≡ true
    → IsSlotView [] slots (r.host p) (r.last p) (view_of_pass c r shared p)
slot_view c slots r shared p x d =
    let log = events c (r.queue p) p shared in
    record {
      legal = x.legal;
      premises = record {
        alone = record { none = refl; sole = sole c r p shared d x.queues x.in_place };
        elsewhere = elsewhere c slots (r.queue p) (entries shared) (all_keep c slots r shared x);
        own_number = own_number c slots r p shared d x;
      };
      tidy = ap is_tidy (since_none log) ∙ (x.drivers p d).tidy;
      slot_rules = ap (keeps_slot_rules slots (r.host p) (r.last p)) (since_none log) ∙ (x.drivers p d).slot_rules;
    }

-- no two drivers believe one slot
pub one_believes : (c : ConfigNumbers) (slots : Range) (r : Roster) (shared : SharedPast) (p q l : ℕ) (n m : Name)
    → IsRosterOf c slots r shared → r.drives p ≡ true → r.drives q ≡ true → has_block slots l ≡ true
    → log_believed (log_of (view_of_pass c r shared p)) l n ≡ true
    → log_believed (log_of (view_of_pass c r shared q)) l m ≡ true
    → p ≡ q
one_believes c slots r shared p q l n m x d e v b k = elim (cases_Bool (eqb p q)) [
  | inl same ↦ eqb-true p q same
  | inr apart ↦ absurd (other_queues [] [] slots (r.host p) (r.last p) (r.host q) (r.last q) (view_of_pass c r shared p)
      (view_of_pass c r shared q) l n m
      (slot_view c slots r shared p x d) (slot_view c slots r shared q x e) refl refl v
      (ap (λ (log : List PortEvent). log_believed log l n) (since_none (log_of (view_of_pass c r shared p))) ∙ b)
      (ap (λ (log : List PortEvent). log_believed log l m) (since_none (log_of (view_of_pass c r shared q))) ∙ k)
      (λ f. eqb-false p q apart (x.queues p q d e f)))
]
