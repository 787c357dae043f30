-- Passes of a system that is being made.
use Rattle.std.proofs.Common.{All, Global, List, None, Some, [], ap, arith, get_or, length, refl}
use Rattle.std.proofs.Common.{slice_get, subst, suc, sym, Vec, zero, ℕ, ◌+◌, ◌-◌, ◌++◌, ◌<◌, ◌∙◌, ◌≡◌, ◌≤◌, ◌∷◌}
use Rattle.std.proofs.lemmas.Option.{slice_get-get_or}
use Rattle.plain_lemmas.proofs.Lists.{at_front, at_last, snoc_each}
use Rattle.nvme_model.specs.Config.{config_fault}
use Rattle.nvme_model.specs.declared.config.ConfigNumbers.{ConfigNumbers}
use Rattle.meet_lock.specs.Passes.{number}
use Rattle.work_queue.specs.Engines as engine
use Rattle.work_queue.specs.QueuePasses as queue
use Rattle.work_queue.specs.declared.engine.Engine.{Engine}
use Rattle.work_queue.specs.declared.notice.Notice.{Notice}
use Rattle.work_queue.specs.declared.queue.MessageQueue.{MessageQueue}
use Rattle.work_queue.specs.declared.queue.QueuePass.{QueuePass}
use Rattle.work_queue.specs.declared.work.Work.{Work}
use Rattle.shared_system.specs.Callers.{AreFirstPasses, AreFirstPlaces, AreCallersOf, AreHostsOf, AreLastHosts}
use Rattle.shared_system.specs.Callers.{AreLastWorkers}
use Rattle.shared_system.specs.Callers.{AreNoticesOf, ArePlaces, IsHostOf, IsLastPass, IsCallerOf, IsOneOf, IsPlaceAt}
use Rattle.shared_system.specs.Callers.{IsWorkerOf}
use Rattle.shared_system.specs.declared.system.System.{System}
use Rattle.shared_system.specs.declared.system.Callers.{Callers}
use Rattle.shared_system.specs.declared.system.HostPasses.{HostPasses}
use Rattle.shared_system.specs.declared.system.WorkerPasses.{WorkerPasses}
use Rattle.nvme_model.proofs.Accepted.{accepted}

-- ---- the configuration

-- a completion queue has slots
pub some_slots : (c : ConfigNumbers) → config_fault c ≡ None → 0 < c.cq_size
some_slots c e = omega (arith, (accepted c e).least_cq_slots)

-- there are completion queues
pub some_queues : (c : ConfigNumbers) → config_fault c ≡ None → 1 ≤ c.cqs
some_queues c e = (accepted c e).some_cqs

-- ---- the passes of queues of notices

-- a queue and its pass more
pub places_more : (e : Engine) (qs : List (MessageQueue Notice)) (ps : List (QueuePass Notice))
    (q : MessageQueue Notice) (p : QueuePass Notice) → ArePlaces e qs ps → queue.IsPlaceOf e q p
    → ArePlaces e (qs ++ q ∷ []) (ps ++ p ∷ [])
places_more e [] [] q p a b = (b, tt)
places_more e [] (y ∷ ps) q p a b = absurd a
places_more e (x ∷ qs) [] q p a b = absurd a
places_more e (x ∷ qs) (y ∷ ps) q p a b = (a.0, places_more e qs ps q p a.1 b)

pub places_count : (e : Engine) (qs : List (MessageQueue Notice)) (ps : List (QueuePass Notice)) → ArePlaces e qs ps
    → length ps ≡ length qs
places_count e [] [] a = refl
places_count e [] (y ∷ ps) a = absurd a
places_count e (x ∷ qs) [] a = absurd a
places_count e (x ∷ qs) (y ∷ ps) a = ap suc (places_count e qs ps a.1)

place_at : (e : Engine) (qs : List (MessageQueue Notice)) (ps : List (QueuePass Notice)) → ArePlaces e qs ps
    → (k : ℕ) (p : QueuePass Notice) (q : MessageQueue Notice) → slice_get ps k ≡ Some p → slice_get qs k ≡ Some q
    → queue.IsPlaceOf e q p
place_at e [] [] a k p q f g = absurd (let h : None ≡ Some p = f in cc)
place_at e [] (y ∷ ps) a k p q f g = absurd a
place_at e (x ∷ qs) [] a k p q f g = absurd a
place_at e (x ∷ qs) (y ∷ ps) a zero p q f g =
    let h : Some y ≡ Some p = f in
    let i : Some x ≡ Some q = g in
    let same : y ≡ p = cc in
    let like : x ≡ q = cc in
    subst (λ z. queue.IsPlaceOf e z p) like (subst (queue.IsPlaceOf e x) same a.0)
place_at e (x ∷ qs) (y ∷ ps) a (suc k) p q f g = place_at e qs ps a.1 k p q f g

-- what holds of all holds of the last
pub all_last : {A : Type 0} (P : A → Type 0) (xs ys : List A) (x : A) → All P ys → ys ≡ xs ++ x ∷ [] → P x
all_last {A} P xs ys x a e = go xs (subst (All P) e a)
  where
    go : (zs : List A) → All P (zs ++ x ∷ []) → P x
    go [] h = h 0 x (omega arith)
    go (z ∷ zs) h = go zs (λ k d within. h (suc k) d (omega (arith, within)))

module _ {G : Type 0} where
  pub places_rest : (system : System G) (xs ys : List (QueuePass Notice)) → AreFirstPlaces system (xs ++ ys)
      → AreFirstPlaces system xs
  places_rest system xs ys h = λ k p g. h k p (at_front xs ys k p g)

  pub place_last : (system : System G) (xs : List (QueuePass Notice)) (p : QueuePass Notice)
      → AreFirstPlaces system (xs ++ p ∷ []) → IsPlaceAt system (length xs) p
  place_last system xs p h = h (length xs) p (at_last xs p)

  pub passes_rest : (system : System G) (c : ConfigNumbers) (all : ℕ) (xs ys : List engine.EnginePass)
      → AreFirstPasses system c all (xs ++ ys) → AreFirstPasses system c all xs
  passes_rest system c all xs ys h = λ k p g. h k p (at_front xs ys k p g)

  pub pass_last : (system : System G) (c : ConfigNumbers) (all : ℕ) (xs : List engine.EnginePass)
      (p : engine.EnginePass)
      → AreFirstPasses system c all (xs ++ p ∷ []) → IsOneOf system c all p × (number p ≡ length xs + 1)
  pass_last system c all xs p h = h (length xs) p (at_last xs p)

  pub hosts_more : (system : System G) (c : ConfigNumbers) (all : ℕ) (hs : List HostPasses) (d : HostPasses)
      → AreLastHosts system c all hs → IsHostOf system c d → IsLastPass c all d → d.queue + length hs ≡ c.cqs
      → AreLastHosts system c all (hs ++ d ∷ [])
  hosts_more system c all hs d h own last e =
      snoc_each (λ k x. IsHostOf system c x × (x.queue + k ≡ c.cqs) × IsLastPass c all x) hs d h (own, e, last)

  pub workers_more : (system : System G) (c : ConfigNumbers) (all n : ℕ) (ws : List WorkerPasses) (d : WorkerPasses)
      → AreLastWorkers system c all n ws → IsWorkerOf system d → IsOneOf system c all d.caller.pass
      → number d.caller.pass + length ws ≡ n → AreLastWorkers system c all n (ws ++ d ∷ [])
  workers_more system c all n ws d h own one e =
      snoc_each (λ k x. IsWorkerOf system x × IsOneOf system c all x.caller.pass
      × (number x.caller.pass + k ≡ n)) ws d h
      (own, one, e)

  pub workers_all : (system : System G) (c : ConfigNumbers) (all n : ℕ) (ws : List WorkerPasses)
      → AreLastWorkers system c all n ws → All (IsWorkerOf system) ws
  workers_all system c all n ws h = λ k x within. (h k (get_or ws k x) (slice_get-get_or ws k x within)).0

  pub callers_are : (system : System G) (c : ConfigNumbers) (all rows : ℕ) (h : Callers) → 0 < rows → all ≡ rows + c.cqs
      → IsCallerOf system h.fetcher → IsOneOf system c all h.fetcher.pass → number h.fetcher.pass ≡ rows
      → AreLastWorkers system c all (rows - 1) h.workers.items → length h.workers.items ≡ rows - 1
      → AreHostsOf system c all h.hosts.items → AreCallersOf system c (rows - 1) h
  callers_are system c all rows h some sum of one n workers count hosts =
      let e : all ≡ rows - 1 + 1 + c.cqs = omega (arith, some, sum) in
      record {
        fetcher = of;
        fetches = (subst (λ k. IsOneOf system c k h.fetcher.pass) e one, omega (arith, n, some));
        workers = workers_all system c all (rows - 1) h.workers.items workers;
        count = count;
        each = subst (λ k. AreLastWorkers system c k (rows - 1) h.workers.items) e workers;
        hosts = subst (λ k. AreHostsOf system c k h.hosts.items) e hosts;
      }

  pub hosts_are : (system : System G) (c : ConfigNumbers) (all : ℕ) (hs : List HostPasses)
      → AreLastHosts system c all hs
      → length hs ≡ c.cqs → AreHostsOf system c all hs
  hosts_are system c all hs h count =
      record { count = count; own = λ k x within. (h k (get_or hs k x) (slice_get-get_or hs k x within)).0; each = h }

  notices_are : (system : System G) (c : ConfigNumbers) (ps : List (QueuePass Notice)) → 1 ≤ c.cqs
      → length system.notices.items ≡ c.cqs → ArePlaces system.engine system.notices.items ps
      → AreNoticesOf system c.cqs ps
  notices_are system c ps some count a =
      record {
        some = some;
        queues = count;
        count = places_count system.engine system.notices.items ps a ∙ count;
        each = λ k p f q g. place_at system.engine system.notices.items ps a k p q f g;
      }

  pub first_places : (system : System G) (ps : List (QueuePass Notice))
      → ArePlaces system.engine system.notices.items ps
      → AreFirstPlaces system ps
  first_places system ps a = λ k p f q g. place_at system.engine system.notices.items ps a k p q f g

  pub worker_is : (system : System G) (c : ConfigNumbers) (p : engine.EnginePass) (q : QueuePass Work)
      (row : Vec (QueuePass Notice) Global) → engine.IsFreshPass system.engine c p
      → queue.IsPlaceOf system.engine system.works q → 1 ≤ c.cqs → length system.notices.items ≡ c.cqs
      → ArePlaces system.engine system.notices.items row.items
      → IsWorkerOf system (record { caller = record { pass = p; works = q }; notices = row })
  worker_is system c p q row fresh place some count are =
      record {
        caller = (fresh.of, place);
        notices = subst (λ (n : ConfigNumbers). AreNoticesOf system n.cqs row.items) (sym fresh.config)
            (notices_are system c row.items some count are);
      }
