-- How the passes of a queue come, and what one is told of another.
use Rattle.std.proofs.Common.{List, Some, [], ap, arith, cond, eq-eqb, eqb, false, inl, inr, le_refl, length}
use Rattle.std.proofs.Common.{length-set, map, ne_eqb, refl, set, subst, sym, true, ⊎_elim, ℕ, ◌+◌, ◌++◌, ◌<◌, ◌∙◌, ◌≡◌}
use Rattle.std.proofs.Common.{◌≢◌, ◌≤◌, ◌⊎◌, ◌∷◌}
use Rattle.std.specs.List.{slice_get}
use mathlib.Core.Option.{some, some-ne-none}
use lib.ListN.{get_elem?}
use Rattle.atomic_table.specs.Seated.{TableId}
use Rattle.atomic_table.proofs.Lists.{at_longer, set_again, set_else}
use Rattle.crossbeam_queue.specs.Fifo.{Forks, Learns, Merges}
use Rattle.meet_lock.proofs.Views.{only_view, views_come, views_stay}
use Rattle.work_queue.specs.Nowhere.{nowhere}
use Rattle.work_queue.specs.QueueSteps.{HasOwn, HearsPopped, IsNth}
use Rattle.work_queue.specs.Queues.{Balanced, IsSeat, bound, by_popper, gives_left, gives_right, hearing, lock_of}
use Rattle.work_queue.specs.Queues.{numbered_messages, of_pusher, spent, telling, unbound}
use Rattle.work_queue.specs.declared.message.Popped.{Popped}
use Rattle.work_queue.specs.declared.message.QueueView.{QueueView}
use Rattle.work_queue.proofs.Balancing.{bound_too, unlike}
use Rattle.work_queue.proofs.Pushes.{at_slice, is_nth, popped_among, pushed_among, unpushed, untaken, within}

-- what a pass heard is what the other popped
pub agrees : {T : Type 0} (v p u w : QueueView T) → u ≡ hearing p (telling v) → HearsPopped u → w ≡ v → HasOwn v
    → (k : ℕ) (e : Popped T) → slice_get w.got k ≡ Some e
    → ((0 < e.pusher) × (e.pusher ≤ u.passes)) × (e.pusher ≡ u.number → IsNth u.put e.number e.item)
    × (e.pusher ≡ w.number → IsNth w.put e.number e.item)
agrees {T} v p u w is heard same own k e a =
    let there : get_elem? v.got k ≡ some e =
    subst (λ (x : QueueView T). get_elem? x.got k ≡ some e) same (at_slice w.got k e a) in
    let h = heard k e (subst (λ (x : QueueView T). get_elem? x.told k ≡ some e) (sym is) there) in (
      h.0,
      h.1,
      λ mine. subst (λ (x : QueueView T). IsNth x.put e.number e.item) (sym same)
          (own k e there (mine ∙ ap (λ (x : QueueView T). x.number) same)),
    )

module _ {T : Type 0} (lock : T → TableId) (ready : T → Type 0) where
  abbrev Rule : List T → List (QueueView T) → Type 0
  Rule = Balanced lock ready

  pub begins : Rule [] (unbound ∷ [])
  begins =
      let only : (K : ℕ → QueueView T → Type 0) → K 0 unbound → (j : ℕ) (u : QueueView T)
      → get_elem? (unbound ∷ []) j ≡ some u → K j u = λ K k. only_view K unbound k in
      record {
        popped = [];
        queued = [];
        z = nowhere;
        passes = 1;
        top = 0;
        seat_of = λ n. 0;
        put_of = λ n. [];
        items_are = refl;
        all_of = λ k m e. absurd (some-ne-none m (sym e));
        ordered = λ n. refl;
        pushers = λ k e a. absurd (some-ne-none e (sym a));
        poppers = λ k p a. absurd (some-ne-none p (sym a));
        below = omega arith;
        each = only (λ j u. 0 < u.number → IsSeat [] nowhere 1 0 (λ n. 0) (λ n. []) j u) (λ n. absurd (omega arith));
        told = only (λ j u. (k : ℕ) (e : Popped T) → get_elem? u.told k ≡ some e → (i : ℕ) × (get_elem? [] i ≡ some e))
            (λ k e a. absurd (some-ne-none e (sym a)));
        alone = only (λ j u. u.is_bound ≡ false → ([] ≡ []) × ([] ≡ []) × (1 ≡ 1)) (λ _. (refl, refl, refl));
      }

  -- the first pass is told the engine, and how many passes there will be
  pub binds : (pass : ℕ) (z : TableId) (passes : ℕ) → 0 < passes
      → Forks Rule pass unbound (bound z passes 0 passes) spent
  binds pass z passes some_passes items views h at =
      let alone = h.alone pass unbound at refl in
      let here = within views pass unbound at in
      let one = alone.2 in
      let none_queued : items ≡ [] = h.items_are ∙ ap (map (λ (e : Popped T). e.item)) alone.1 in
      let b : QueueView T = bound z passes 0 passes in
      let cases : (K : ℕ → QueueView T → Type 0) → K pass b → K (length (set views pass b)) spent
      → (j : ℕ) (u : QueueView T) → get_elem? (set views pass b ++ spent ∷ []) j ≡ some u → K j u = λ K k l.
      views_come K (set views pass b) spent
      (views_stay K views pass b k
      (λ j u ne a. let there = within views j u a in absurd (ne (omega (arith, there, here, one))))) l in
      record {
        popped = [];
        queued = [];
        z = z;
        passes = passes;
        top = 0;
        seat_of = λ n. pass;
        put_of = λ n. [];
        items_are = none_queued;
        all_of = λ k m e. absurd (some-ne-none m (sym (ap (λ l. get_elem? l k) (sym none_queued) ∙ e)));
        ordered = λ n. refl;
        pushers = λ k e a. absurd (some-ne-none e (sym a));
        poppers = λ k p a. absurd (some-ne-none p (sym a));
        below = some_passes;
        each = cases (λ j u. 0 < u.number → IsSeat [] z passes 0 (λ n. pass) (λ n. []) j u)
            (λ _. record {
              of = refl;
              many = refl;
              seat = refl;
              given = inr refl;
              last = λ _. refl;
              put = refl;
              got = refl;
            }) (λ n. absurd (omega arith));
        told = cases (λ j u. (k : ℕ) (e : Popped T) → get_elem? u.told k ≡ some e → (i : ℕ) × (get_elem? [] i ≡ some e))
            (λ k e a. absurd (some-ne-none e (sym a))) (λ k e a. absurd (some-ne-none e (sym a)));
        alone = cases (λ j u. u.is_bound ≡ false
            → ([] ≡ []) × ([] ≡ []) × (length (set views pass b ++ spent ∷ []) ≡ 1))
            (λ not. let clash : true ≡ false = not in cc) (λ not. let clash : true ≡ false = not in cc);
      }

  -- one pass more comes, of the next number
  pub gives : (pass : ℕ) (v : QueueView T) → v.is_bound ≡ true → 0 < v.number → v.number ≡ v.passes
      → v.top + 1 < v.passes → Forks Rule pass v (gives_left v) (gives_right v)
  gives pass v is_bound named own room items views h at =
      let s = h.each pass v at named in
      let many = s.many in
      let top_is = s.last (own ∙ many) in
      let l : QueueView T = gives_left v in
      let w : QueueView T = gives_right v in
      let n : ℕ = v.top + 1 in
      let seats : ℕ → ℕ = λ k. cond (eqb k n) (length views) (h.seat_of k) in
      -- a number that was given out before
      let apart : (k : ℕ) → (k ≤ h.top) ⊎ (k ≡ h.passes) → k ≢ n =
      λ k c e. ⊎_elim (λ (le : k ≤ h.top). absurd (omega arith)) (λ (is : k ≡ h.passes). absurd (omega arith)) c in
      let old : (k : ℕ) → (k ≤ h.top) ⊎ (k ≡ h.passes) → seats k ≡ h.seat_of k =
      λ k c. ap (λ b. cond b (length views) (h.seat_of k)) (ne_eqb k n (apart k c)) in
      let wider : (k : ℕ) → (k ≤ h.top) ⊎ (k ≡ h.passes) → (k ≤ n) ⊎ (k ≡ h.passes) =
      λ k c. ⊎_elim (λ (le : k ≤ h.top). inl (omega arith)) (λ (is : k ≡ h.passes). inr is) c in
      let all : List (Popped T) = map (λ (p : ℕ × Popped T). p.1) h.popped ++ h.queued in
      let none_put : h.put_of n ≡ [] =
      nothing n all (h.put_of n) (h.ordered n) (λ k e a is. apart e.pusher (h.pushers k e a).1 is) in
      let none_got : by_popper n h.popped ≡ [] = untaken n h.popped (λ k p a is. apart p.0 (h.poppers k p a).1 is) in
      let long = length-set views pass l in
      let cases : (K : ℕ → QueueView T → Type 0) → K pass l
      → ((j : ℕ) (u : QueueView T) → j ≢ pass → get_elem? views j ≡ some u → K j u) → K (length views) w
      → (j : ℕ) (u : QueueView T) → get_elem? (set views pass l ++ w ∷ []) j ≡ some u → K j u = λ K a b c.
      views_come K (set views pass l) w (views_stay K views pass l a b) (subst (λ k. K k w) (sym long) c) in
      record {
        popped = h.popped;
        queued = h.queued;
        z = h.z;
        passes = h.passes;
        top = n;
        seat_of = seats;
        put_of = h.put_of;
        items_are = h.items_are;
        all_of = h.all_of;
        ordered = h.ordered;
        pushers = λ k e a. let g = h.pushers k e a in (g.0, wider e.pusher g.1);
        poppers = λ k p a. let g = h.poppers k p a in (g.0, wider p.0 g.1);
        below = omega arith;
        each = cases (λ j u. 0 < u.number → IsSeat h.popped h.z h.passes n seats h.put_of j u)
            (λ _. record {
              of = s.of;
              many = s.many;
              seat = old v.number s.given ∙ s.seat;
              given = inr (own ∙ many);
              last = λ _. refl;
              put = s.put;
              got = s.got;
            })
            (λ j u ne a nu. let t = h.each j u a nu in
            record {
              of = t.of;
              many = t.many;
              seat = old u.number t.given ∙ t.seat;
              given = wider u.number t.given;
              last = λ is. absurd (unlike lock ready items views h pass j v u at a named nu ne
                  (is ∙ (sym many ∙ sym own)));
              put = t.put;
              got = t.got;
            })
            (λ _. record {
              of = s.of;
              many = s.many;
              seat = ap (λ b. cond b (length views) (h.seat_of n)) (eq-eqb n n refl);
              given = inl (le_refl n);
              last = λ is. absurd (omega arith);
              put = sym none_put;
              got = sym none_got;
            });
        told = cases (λ j u. (k : ℕ) (e : Popped T) → get_elem? u.told k ≡ some e
            → (i : ℕ) × (get_elem? (map (λ p. p.1) h.popped) i ≡ some e)) (h.told pass v at) (λ j u _. h.told j u)
            (λ k e a. absurd (some-ne-none e (sym a)));
        alone = cases (λ j u. u.is_bound ≡ false
            → (h.popped ≡ []) × (h.queued ≡ []) × (length (set views pass l ++ w ∷ []) ≡ 1))
            (λ not. let clash : true ≡ false = sym is_bound ∙ not in cc)
            (λ j u ne a not. absurd (bound_too lock ready items views h pass j v u at a is_bound not))
            (λ not. let clash : true ≡ false = not in cc);
      }
    where
      nothing : (n : ℕ) (es : List (Popped T)) (ts : List T) → of_pusher n es ≡ numbered_messages 1 ts
          → ((k : ℕ) (e : Popped T) → get_elem? es k ≡ some e → e.pusher ≢ n) → ts ≡ []
      nothing n es [] is none = refl
      nothing n es (t ∷ ts) is none = let clash : (1, t) ∷ numbered_messages 2 ts ≡ [] = sym is ∙ unpushed n es none in
          cc

  -- ---- what one is told of another

  -- what stays of a view
  record Turns (v w : QueueView T) : Type 0 where
    pub number : w.number ≡ v.number
    pub bound : w.is_bound ≡ true
    pub rest : 0 < v.number → (lock_of w ≡ lock_of v) × (w.passes ≡ v.passes) × (w.top ≡ v.top) × (w.put ≡ v.put)
        × (w.got ≡ v.got)

  turns : (items : List T) (views : List (QueueView T)) (h : Rule items views) (pass : ℕ) (v w : QueueView T)
      → get_elem? views pass ≡ some v → v.is_bound ≡ true → Turns v w
      → ((k : ℕ) (e : Popped T) → get_elem? w.told k ≡ some e
      → (i : ℕ) × (get_elem? (map (λ (p : ℕ × Popped T). p.1) h.popped) i ≡ some e)) → Rule items (set views pass w)
  turns items views h pass v w at is_bound is told =
      record {
        popped = h.popped;
        queued = h.queued;
        z = h.z;
        passes = h.passes;
        top = h.top;
        seat_of = h.seat_of;
        put_of = h.put_of;
        items_are = h.items_are;
        all_of = h.all_of;
        ordered = h.ordered;
        pushers = h.pushers;
        poppers = h.poppers;
        below = h.below;
        each = views_stay (λ j u. 0 < u.number → IsSeat h.popped h.z h.passes h.top h.seat_of h.put_of j u) views pass w
            (λ nw.
            let nv : 0 < v.number = subst (λ n. 0 < n) is.number nw in
            let s = h.each pass v at nv in
            let r = is.rest nv in
            record {
              of = r.0 ∙ s.of;
              many = r.1 ∙ s.many;
              seat = ap h.seat_of is.number ∙ s.seat;
              given = subst (λ n. (n ≤ h.top) ⊎ (n ≡ h.passes)) (sym is.number) s.given;
              last = λ e. r.2 ∙ s.last (sym is.number ∙ e);
              put = r.3 ∙ (s.put ∙ ap h.put_of (sym is.number));
              got = r.4 ∙ (s.got ∙ ap (λ n. by_popper n h.popped) (sym is.number));
            })
            (λ j u _. h.each j u);
        told = views_stay (λ j u. (k : ℕ) (e : Popped T) → get_elem? u.told k ≡ some e
            → (i : ℕ) × (get_elem? (map (λ p. p.1) h.popped) i ≡ some e)) views pass w told (λ j u _. h.told j u);
        alone = views_stay (λ j u. u.is_bound ≡ false
            → (h.popped ≡ []) × (h.queued ≡ []) × (length (set views pass w) ≡ 1)) views pass w
            (λ not. let clash : true ≡ false = sym is.bound ∙ not in cc)
            (λ j u ne a not. absurd (bound_too lock ready items views h pass j v u at a is_bound not));
      }

  -- a message with what a pass popped
  pub tells : (pass : ℕ) (v : QueueView T) → v.is_bound ≡ true → 0 < v.number → Forks Rule pass v v (telling v)
  tells pass v is_bound named items views h at =
      let s = h.each pass v at named in
      let m : QueueView T = telling v in
      subst (λ l. Rule items (l ++ m ∷ [])) (sym (set_again views pass v at)) (record {
        popped = h.popped;
        queued = h.queued;
        z = h.z;
        passes = h.passes;
        top = h.top;
        seat_of = h.seat_of;
        put_of = h.put_of;
        items_are = h.items_are;
        all_of = h.all_of;
        ordered = h.ordered;
        pushers = h.pushers;
        poppers = h.poppers;
        below = h.below;
        each = views_come (λ j u. 0 < u.number → IsSeat h.popped h.z h.passes h.top h.seat_of h.put_of j u) views m
            h.each (λ n. absurd (omega arith));
        told = views_come (λ j u. (k : ℕ) (e : Popped T) → get_elem? u.told k ≡ some e
            → (i : ℕ) × (get_elem? (map (λ p. p.1) h.popped) i ≡ some e)) views m h.told
            (λ k e a. popped_among v.number h.popped k e (subst (λ l. get_elem? l k ≡ some e) s.got a));
        alone = views_come (λ j u. u.is_bound ≡ false
            → (h.popped ≡ []) × (h.queued ≡ []) × (length (views ++ m ∷ []) ≡ 1)) views m
            (λ j u a not. absurd (bound_too lock ready items views h pass j v u at a is_bound not))
            (λ not. let clash : true ≡ false = sym is_bound ∙ not in cc);
      })

  -- a pass takes one in
  pub hears : (pass : ℕ) (v : QueueView T) (other : ℕ) (m : QueueView T) → v.is_bound ≡ true → m.is_bound ≡ true
      → m.number ≡ 0 → Merges Rule pass v other m (hearing v m) spent
  hears pass v other m is_bound m_bound none items views h at ne at' =
      let there : get_elem? views other ≡ some m = sym (set_else views pass other (hearing v m) ne) ∙ at' in
      let h1 = turns items views h pass v (hearing v m) at is_bound
      (record { number = refl; bound = is_bound; rest = λ _. (refl, refl, refl, refl, refl) })
      (h.told other m there) in
      turns items (set views pass (hearing v m)) h1 other m spent at' m_bound
      (record { number = sym none; bound = refl; rest = λ n. absurd (omega arith) })
      (λ k e a. absurd (some-ne-none e (sym a)))

  -- and looks
  pub compares : (pass : ℕ) (v : QueueView T) → 0 < v.number → Learns Rule pass v (λ items. HearsPopped v)
  compares pass v named items views h at k e a =
      let s = h.each pass v at named in
      let old : List (Popped T) = map (λ (p : ℕ × Popped T). p.1) h.popped in
      let t = h.told pass v at k e a in
      let all = at_longer old h.queued t.0 e t.1 in
      let given = h.pushers t.0 e all in
      let below = h.below in
      let small : e.pusher ≤ h.passes =
      ⊎_elim (λ (le : e.pusher ≤ h.top). omega arith) (λ (is : e.pusher ≡ h.passes). omega arith) given.1 in (
        (given.0, subst (λ n. e.pusher ≤ n) (sym s.many) small),
        λ is.
            let p = pushed_among v.number (old ++ h.queued) t.0 e all is in
            subst (λ l. IsNth l e.number e.item) (sym s.put)
            (is_nth (h.put_of v.number) p.0 e.number e.item
            (subst (λ l. get_elem? l p.0 ≡ some (e.number, e.item)) (h.ordered v.number) p.1)),
      )

  -- what a pass popped of its own
  pub owns_popped : (pass : ℕ) (v : QueueView T) → 0 < v.number → Learns Rule pass v (λ items. HasOwn v)
  owns_popped pass v named items views h at k e a is =
      let s = h.each pass v at named in
      let old : List (Popped T) = map (λ (p : ℕ × Popped T). p.1) h.popped in
      let t = popped_among v.number h.popped k e (subst (λ l. get_elem? l k ≡ some e) s.got a) in
      let p = pushed_among v.number (old ++ h.queued) t.0 e (at_longer old h.queued t.0 e t.1) is in
      subst (λ l. IsNth l e.number e.item) (sym s.put)
      (is_nth (h.put_of v.number) p.0 e.number e.item
      (subst (λ l. get_elem? l p.0 ≡ some (e.number, e.item)) (h.ordered v.number) p.1))
