-- Two drivers that have met never both believe one slot.
use Rattle.std.proofs.Common.{Bool, List, ap, cond, eq-eqb, eqb, eqb-true, false, inl, inr, not, refl, subst, sym, true}
use Rattle.std.proofs.Common.{ℕ, ◌<◌, ◌||◌, ◌∙◌, ◌≡◌, ◌≤◌, ◌⊎◌}
use Rattle.std.specs.List.{list_all}
use Rattle.std.proofs.lemmas.Bool.{ne_eqb, or_left, or_right}
use Rattle.nvme_model.specs.Array.{has_block}
use Rattle.nvme_model.specs.Legal.{IsLegal}
use Rattle.nvme_model.specs.Passes.{SharedPast, entries}
use Rattle.nvme_model.specs.Slots.{Name}
use Rattle.nvme_model.specs.declared.array.Range.{Range}
use Rattle.nvme_model.specs.declared.config.ConfigNumbers.{ConfigNumbers}
use Rattle.nvme_model.specs.declared.entry.Entry.{Entry}
use Rattle.host_laws.specs.Beside.{is_beside}
use Rattle.host_laws.proofs.Elements.{In, all_from, all_in}
use Rattle.driver_calls.specs.Events.{events}
use Rattle.driver_calls.specs.Log.{is_tidy}
use Rattle.driver_calls.specs.Views.{log_of, since}
use Rattle.driver_calls.specs.declared.event.PortEvent.{PortEvent}
use Rattle.driver_cas.specs.Ports.{view_of}
use Rattle.driver_cas.specs.declared.shared_port.SharedPort.{SharedPort}
use Rattle.meet_lock.specs.Lock.{AreOfPasses}
use Rattle.meet_lock.specs.Passes.{config_of, number}
use Rattle.slot_log_laws.specs.SlotRules.{keeps_slot_rules}
use Rattle.slot_log_laws.specs.Swaps.{log_believed}
use Rattle.many_host_laws.specs.Rosters.{IsRosterOf, Roster, is_in_place}
use Rattle.shared_system.specs.Servers.{is_serving, serves}
use Rattle.many_host_laws.proofs.Hosts.{PortIn, is_own, made_log, met_slot_rules, met_legal}
use Rattle.many_host_laws.proofs.Hosts.{met_own}
use Rattle.many_host_laws.proofs.Hosts.{met_tidy, numbered}
use Rattle.many_host_laws.proofs.Rosters.{one_believes}

-- ---- two of many

-- of unlike numbers each is one's alone
picks_apart : (p q x y : ℕ) → (x ≡ y → ⊥) → (j k : ℕ) → (eqb j p || eqb j q) ≡ true → (eqb k p || eqb k q) ≡ true
    → cond (eqb j p) x y ≡ cond (eqb k p) x y → j ≡ k
picks_apart p q x y unlike j k = go (eqb j p) (eqb k p) refl refl
  where
    go : (a b : Bool) → eqb j p ≡ a → eqb k p ≡ b → (a || eqb j q) ≡ true → (b || eqb k q) ≡ true
        → cond a x y ≡ cond b x y → j ≡ k
    go true true z w h i e = eqb-true j p z ∙ sym (eqb-true k p w)
    go false false z w h i e = eqb-true j q h ∙ sym (eqb-true k q i)
    go true false z w h i e = absurd (unlike e)
    go false true z w h i e = absurd (unlike (sym e))

-- an entry of the first, of the second, or of a server
in_place_at : (c : ConfigNumbers) (n m : ℕ) (e : Entry) (a b : Bool) → (not a || not (is_beside c n e)) ≡ true
    → (not b || not (is_beside c m e)) ≡ true → (a || b || is_serving e) ≡ true
    → cond (a || b) (not (is_beside c (cond a n m) e)) (is_serving e) ≡ true
in_place_at c n m e true b h k s = h
in_place_at c n m e false true h k s = k
in_place_at c n m e false false h k s = s

-- whose an entry is
one_of : (k p q : ℕ) (e : Entry) → (k ≡ p) ⊎ ((k ≡ q) ⊎ (is_serving e ≡ true))
    → (eqb k p || eqb k q || is_serving e) ≡ true
one_of k p q e (inl z) = or_left (eqb k p || eqb k q) (is_serving e) (or_left (eqb k p) (eqb k q) (eq-eqb k p z))
one_of k p q e (inr (inl z)) = or_left (eqb k p || eqb k q) (is_serving e) (or_right (eqb k p) (eqb k q) (eq-eqb k q z))
one_of k p q e (inr (inr z)) = or_right (eqb k p || eqb k q) (is_serving e) z

-- ---- their roster

-- What is known of two passes, p of the driver of completion queue n and q of that of m.
record Two (c : ConfigNumbers) (slots : Range) (p q n m ha hb la lb : ℕ) (met : SharedPast) : Type 0 where
  legal : IsLegal c (entries met)
  own : list_all (is_own c n p) met ≡ true
  own_too : list_all (is_own c m q) met ≡ true
  tidy : is_tidy (events c n p met) ≡ true
  tidy_too : is_tidy (events c m q met) ≡ true
  slot_rules : keeps_slot_rules slots ha la (events c n p met) ≡ true
  slot_rules_too : keeps_slot_rules slots hb lb (events c m q met) ≡ true
  hosts : ha ≡ hb → ⊥
  queues : n ≡ m → ⊥
  others : (x : ℕ × Entry) → In x met → (eqb x.0 p || eqb x.0 q || is_serving x.1) ≡ true

abbrev roster : ℕ → ℕ → ℕ → ℕ → ℕ → ℕ → ℕ → ℕ → Roster
roster p q n m ha hb la lb =
    record {
      drives = λ k. eqb k p || eqb k q;
      queue = λ k. cond (eqb k p) n m;
      host = λ k. cond (eqb k p) ha hb;
      last = λ k. cond (eqb k p) la lb;
    }

is_roster : (c : ConfigNumbers) (slots : Range) (p q n m ha hb la lb : ℕ) (met : SharedPast)
    → Two c slots p q n m ha hb la lb met → IsRosterOf c slots (roster p q n m ha hb la lb) met
is_roster c slots p q n m ha hb la lb met x =
    record {
      legal = x.legal;
      in_place = all_from (λ e. is_in_place c (roster p q n m ha hb la lb) e.0 e.1) met (λ e i.
          in_place_at c n m e.1 (eqb e.0 p) (eqb e.0 q) (all_in (is_own c n p) met e x.own i)
          (all_in (is_own c m q) met e x.own_too i) (x.others e i));
      drivers = λ k d. let t = each k (eqb k p) refl d in record { tidy = t.0; slot_rules = t.1 };
      queues = picks_apart p q n m x.queues;
      hosts = picks_apart p q ha hb x.hosts;
    }
  where
    each : (k : ℕ) (b : Bool) → eqb k p ≡ b → (b || eqb k q) ≡ true
        → (is_tidy (events c (cond b n m) k met) ≡ true)
        × (keeps_slot_rules slots (cond b ha hb) (cond b la lb) (events c (cond b n m) k met) ≡ true)
    each k true z d =
        let e = sym (eqb-true k p z) in (
          subst (λ (j : ℕ). is_tidy (events c n j met) ≡ true) e x.tidy,
          subst (λ (j : ℕ). keeps_slot_rules slots ha la (events c n j met) ≡ true) e x.slot_rules,
        )
    each k false z d =
        let e = sym (eqb-true k q d) in (
          subst (λ (j : ℕ). is_tidy (events c m j met) ≡ true) e x.tidy_too,
          subst (λ (j : ℕ). keeps_slot_rules slots hb lb (events c m j met) ≡ true) e x.slot_rules_too,
        )

-- they never both believe one slot
one_alone : (c : ConfigNumbers) (slots : Range) (p q n m ha hb la lb : ℕ) (met : SharedPast) (l : ℕ) (name other : Name)
    → Two c slots p q n m ha hb la lb met → (p ≡ q → ⊥) → has_block slots l ≡ true
    → log_believed (events c n p met) l name ≡ true → log_believed (events c m q met) l other ≡ true → ⊥
one_alone c slots p q n m ha hb la lb met l name other x apart v h k =
    let r = roster p q n m ha hb la lb in
    let first = eq-eqb p p refl in
    let second = ne_eqb q p (λ f. apart (sym f)) in
    apart (one_believes c slots r met p q l name other (is_roster c slots p q n m ha hb la lb met x)
    (or_left (eqb p p) (eqb p q) first) (or_right (eqb q p) (eqb q q) (eq-eqb q q refl)) v
    (subst (λ (b : Bool). log_believed (events c (cond b n m) p met) l name ≡ true) (sym first) h)
    (subst (λ (b : Bool). log_believed (events c (cond b n m) q met) l other ≡ true) (sym second) k))

-- ---- by their ports

serves_at : (k : ℕ) (e : Entry) → (not (eqb k k) || is_serving e) ≡ true → is_serving e ≡ true
serves_at k e h = subst (λ (b : Bool). (not b || is_serving e) ≡ true) (eq-eqb k k refl) h

whose : (p q : ℕ) (met : SharedPast) (e : ℕ × Entry) → In e met → (e.0 ≡ p) ⊎ ((e.0 ≡ q) ⊎ (serves e.0 met ≡ true))
    → (e.0 ≡ p) ⊎ ((e.0 ≡ q) ⊎ (is_serving e.1 ≡ true))
whose p q met e i (inl z) = inl z
whose p q met e i (inr (inl z)) = inr (inl z)
whose p q met e i (inr (inr s)) =
    inr (inr (serves_at e.0 e.1 (all_in (λ k. not (eqb k.0 e.0) || is_serving k.1) met e s i)))

-- what two ports know that have met
pub record PortsMet (passes : ℕ) (a b : SharedPort) (met : SharedPast) : Type 0 where
  pub config : config_of b.pass ≡ config_of a.pass
  pub apart : number a.pass ≡ number b.pass → ⊥
  pub queues : a.queue ≡ b.queue → ⊥
  pub of_passes : AreOfPasses passes met
  pub others : (k : ℕ) → 0 < k → k ≤ passes → (k ≡ number a.pass) ⊎ ((k ≡ number b.pass) ⊎ (serves k met ≡ true))

pub never_both : (slots : Range) (passes ha hb la lb : ℕ) (began a start b : SharedPort) (met : SharedPast) (l : ℕ)
    (name other : Name) → PortIn slots ha la began a met → PortIn slots hb lb start b met → PortsMet passes a b met
    → (ha ≡ hb → ⊥) → has_block slots l ≡ true
    → log_believed (since (log_of (view_of began)) (log_of (view_of a))) l name ≡ true
    → log_believed (since (log_of (view_of start)) (log_of (view_of b))) l other ≡ true → ⊥
never_both slots passes ha hb la lb began a start b met l name other x y z hosts v h k =
    let c = config_of a.pass in
    let n = b.queue in
    let q = number b.pass in
    one_alone c slots (number a.pass) q a.queue n ha hb la lb met l name other
    (record {
      legal = met_legal slots ha la began a met x;
      own = met_own slots ha la began a met x;
      own_too = subst (λ (d : ConfigNumbers). list_all (is_own d n q) met ≡ true) z.config
          (met_own slots hb lb start b met y);
      tidy = met_tidy slots ha la began a met x;
      tidy_too = subst (λ (d : ConfigNumbers). is_tidy (events d n q met) ≡ true) z.config
          (met_tidy slots hb lb start b met y);
      slot_rules = met_slot_rules slots ha la began a met x;
      slot_rules_too = subst (λ (d : ConfigNumbers). keeps_slot_rules slots hb lb (events d n q met) ≡ true) z.config
          (met_slot_rules slots hb lb start b met y);
      hosts = hosts;
      queues = z.queues;
      others = λ e i. let bounds = numbered passes met e z.of_passes i in
          one_of e.0 (number a.pass) q e.1 (whose (number a.pass) q met e i (z.others e.0 bounds.0 bounds.1));
    })
    z.apart v (ap (λ (log : List PortEvent). log_believed log l name) (sym (made_log slots ha la began a met x)) ∙ h)
    (subst (λ (d : ConfigNumbers). log_believed (events d n q met) l other ≡ true) z.config
    (ap (λ (log : List PortEvent). log_believed log l other) (sym (made_log slots hb lb start b met y)) ∙ k))
