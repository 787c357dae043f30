-- What a queue with one pass answers.
use Rattle.std.proofs.Common.{Err, List, MatchOption, MatchResult, None, Ok, Option, Result, Some, [], ap, arith}
use Rattle.std.proofs.Common.{length, length-append, ◌++◌, ◌<◌, ◌∙◌, ◌≡◌, ◌∷◌}
use Rattle.std.proofs.lemmas.List.{append-nil, length-map}
use Rattle.atomic_table.specs.Seated.{TableId}
use Rattle.crossbeam_queue.specs.Fifo.{Held}
use Rattle.work_queue.specs.QueuePasses.{PushesAlone, capacity_of, known, queue_passes}
use Rattle.work_queue.specs.QueueSteps.{Pops, PopsOwn}
use Rattle.work_queue.specs.Queues.{IsMoment, after_push, popped_entry, messages}
use Rattle.work_queue.specs.declared.message.Popped.{Popped}
use Rattle.work_queue.specs.declared.message.QueueView.{QueueView}
use Rattle.work_queue.specs.declared.queue.MessageQueue.{MessageQueue}
use Rattle.work_queue.specs.declared.queue.QueuePass.{QueuePass}
use Rattle.work_queue.proofs.Balancing.{one_moment}

no_items : {A : Type 0} (xs ys items : List A) → length items ≡ 0 → xs ≡ ys ++ items → xs ≡ ys
no_items xs ys [] none is = is ∙ append-nil ys
no_items xs ys (x ∷ items) none is = absurd (omega arith)

module _ {T : Type 0} (lock : T → TableId) (ready : T → Type 0) where
  pub pops_own : (v w : QueueView T) → 0 < v.number → v.passes ≡ 1 → (r : Option T)
      → MatchOption r ((w ≡ v) × Held 0 (IsMoment lock ready v)) (λ x. Pops lock ready v x w) → PopsOwn v w r
  pops_own v w named one None told = let m = told.1 in
      no_items v.put (messages v.got) m.0 m.1 (one_moment lock ready m.0 v named one m.2)
  pops_own v w named one (Some x) told =
      let by = told.alone one in (
        told.front.0,
        one_moment lock ready (x ∷ told.front.0) v named one told.front.1,
        ap (λ (u : QueueView T). u.got) told.after ∙ (λ i. v.got ++ popped_entry (by.0 i) (by.1 i) x ∷ []),
      )

  pub pushes_alone : (s : MessageQueue T) (p : QueuePass T) (w : QueueView T) (m : T) → queue_passes p ≡ 1
      → (r : Result Unit T) → MatchResult r (λ _. w ≡ after_push (known p) m)
      (λ x. (x ≡ m) × (w ≡ known p) × Held (capacity_of s) (IsMoment lock ready (known p))) → PushesAlone s p r
  pushes_alone s p w m one (Ok u) told = tt
  pushes_alone s p w m one (Err x) told =
      let h = told.2 in
      let put = ap length (one_moment lock ready h.0 (known p) p.numbered one h.2) in
      let long = length-append (messages (known p).got) h.0 in
      let popped = length-map (known p).got (λ (e : Popped T). e.item) in
      let full = h.1 in
      omega arith
