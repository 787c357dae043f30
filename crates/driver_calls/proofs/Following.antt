-- The events of a pass follow the entries that it made.
use Rattle.std.proofs.Common.{◌≡◌, ℕ, suc, Bool, true, false, cond, List, [], ◌∷◌, ◌++◌, length, refl, sym, ap, ap₂}
use Rattle.std.proofs.Common.{◌∙◌, arith, eq-eqb, eqb, append_assoc}
use Rattle.std.specs.List.{list_all}
use Rattle.std.proofs.lemmas.Bool.{and_parts, cond-false, cond-true, not-true}
use Rattle.nvme_model.specs.Config.{completion_queue}
use Rattle.nvme_model.specs.History.{Past}
use Rattle.nvme_model.specs.Passes.{SharedPast, entries, places}
use Rattle.nvme_model.specs.declared.config.ConfigNumbers.{ConfigNumbers}
use Rattle.nvme_model.specs.declared.entry.Entry.{Entry}
use Rattle.host_laws.specs.Beside.{IsBeside, is_beside}
use Rattle.host_laws.proofs.Beside.{places_grow}
use Rattle.driver_calls.specs.Events.{event_at, events}
use Rattle.driver_calls.specs.declared.event.PortEvent.{PortEvent}

-- what others add is no event of pass p
pub others_add_none : (c : ConfigNumbers) (n p : ℕ) (later seen : SharedPast) → places p (later ++ seen) ≡ places p seen
    → events c n p (later ++ seen) ≡ events c n p seen
others_add_none c n p [] seen e = refl
others_add_none c n p (m ∷ later) seen e = go (eqb m.0 p) e (others_add_none c n p later seen)
  where
    go : (b : Bool) → cond b (suc (length (later ++ seen)) ∷ places p (later ++ seen)) (places p (later ++ seen))
        ≡ places p seen
        → (places p (later ++ seen) ≡ places p seen → events c n p (later ++ seen) ≡ events c n p seen)
        → cond b (event_at c n (entries (later ++ seen)) m.1) [] ++ events c n p (later ++ seen) ≡ events c n p seen
    go true f ih = absurd (omega (arith, places_grow p later seen, ap length f))
    go false f ih = ih f

-- an entry of its own, behind what others added, is the one event more
pub own_comes_first : (c : ConfigNumbers) (n p m : ℕ) (e : Entry) (later seen : SharedPast)
    → places p ((p, e) ∷ (later ++ seen)) ≡ m ∷ places p seen
    → events c n p ((p, e) ∷ (later ++ seen)) ≡ event_at c n (entries (later ++ seen)) e ++ events c n p seen
own_comes_first c n p m e later seen o =
    ap₂ (λ (xs ys : List PortEvent). xs ++ ys)
    (cond-true (eqb p p) (event_at c n (entries (later ++ seen)) e) [] (eq-eqb p p refl))
    (others_add_none c n p later seen
    (rest (sym (cond-true (eqb p p) (suc (length (later ++ seen)) ∷ places p (later ++ seen))
    (places p (later ++ seen)) (eq-eqb p p refl)) ∙ o)))
  where
    rest : suc (length (later ++ seen)) ∷ places p (later ++ seen) ≡ m ∷ places p seen
        → places p (later ++ seen) ≡ places p seen
    rest e = cc

-- an entry beside a completion queue is no event there
pub beside_no_event : (c : ConfigNumbers) (n : ℕ) (past : Past) (e : Entry) → is_beside c n e ≡ true
    → event_at c n past e ≡ []
beside_no_event c n past (Entry.Publish p) h = cond-false (eqb (completion_queue c p.queue) n) _ [] (not-true _ h)
beside_no_event c n past (Entry.Reap r) h = cond-false (eqb r.queue n) _ [] (not-true _ h)
beside_no_event c n past (Entry.Fetch p) h = refl
beside_no_event c n past (Entry.Grant p) h = refl
beside_no_event c n past (Entry.Block p) h = refl
beside_no_event c n past (Entry.Post p) h = refl

-- nor are more of them
pub all_beside_no_events : (c : ConfigNumbers) (n p : ℕ) (seen : SharedPast) → IsBeside c n (entries seen)
    → events c n p seen ≡ []
all_beside_no_events c n p [] h = refl
all_beside_no_events c n p (m ∷ seen) h =
    let a = and_parts (is_beside c n m.1) (list_all (is_beside c n) (entries seen)) h in
    go (eqb m.0 p) (beside_no_event c n (entries seen) m.1 a.0) (all_beside_no_events c n p seen a.1)
  where
    go : (b : Bool) → event_at c n (entries seen) m.1 ≡ [] → events c n p seen ≡ []
        → cond b (event_at c n (entries seen) m.1) [] ++ events c n p seen ≡ []
    go true e ih = ap₂ (λ (xs ys : List PortEvent). xs ++ ys) e ih
    go false e ih = ih

-- the events of a history end with those of its beginning
pub events_end : (c : ConfigNumbers) (n p : ℕ) (later start : SharedPast)
    → (xs : List PortEvent) × (events c n p (later ++ start) ≡ xs ++ events c n p start)
events_end c n p [] start = ([], refl)
events_end c n p (m ∷ later) start =
    let r = events_end c n p later start in
    let new = cond (eqb m.0 p) (event_at c n (entries (later ++ start)) m.1) [] in
    (new ++ r.0, ap (λ (xs : List PortEvent). new ++ xs) r.1 ∙ sym (append_assoc new r.0 (events c n p start)))
