-- A seat takes the lock.
use Rattle.std.proofs.Common.{Bool, List, Option, Some, [], ap, arith, eq-eqb, eqb, false, get_or, get_or-set_same, inl}
use Rattle.std.proofs.Common.{length-set, ne_eqb, refl, set, subst, sym, true, ⊎_elim, ℕ, ◌<◌, ◌∙◌, ◌≡◌, ◌≢◌, ◌≤◌, ◌⊎◌}
use mathlib.Core.Logic.{dite}
use mathlib.Core.Option.{none, some, some-injective}
use native.Mathlib.Decide.{ℕ_discrete}
use lib.ListN.{get_elem?}
use lib.Seq.{set-get_or}
use prog.Atomic.{either}
use Rattle.atomic_table.specs.Table.{Allows, Me, State, keeps, step, stepped, takes}
use Rattle.atomic_table.proofs.Lists.{set_again}
use Rattle.nvme_model.specs.History.{Past}
use Rattle.nvme_model.specs.Passes.{entries}
use Rattle.nvme_model.specs.declared.config.ConfigNumbers.{ConfigNumbers}
use Rattle.meet_lock.specs.Lock.{AreGathered, Fits, ExtendsByPasses, IsOneHistory, OwnsTicket, holding}
use Rattle.meet_lock.specs.SeatSteps.{AllBegin, HasAllPasses, took}
use Rattle.meet_lock.specs.declared.view.View.{View}
use Rattle.meet_lock.proofs.Gathered.{gathered_begin, gathered_seat}
use Rattle.meet_lock.proofs.Views.{set_at, views_stay}

module _ {M : Type 0} (config : M → ConfigNumbers) (history : M → Past) (legal : ConfigNumbers → Past → Type 0)
    (owned : Bool) (c : ConfigNumbers) (passes : ℕ) (before : Past) where
  abbrev St : Type 0
  St = State (Option M) View

  abbrev Rule : St → Type 0
  Rule = IsOneHistory config history legal owned c passes before

  -- where there is one pass, the lock is free but while it holds it
  pub only_one : (s : St) (r : Rule s) (id : ℕ) (v : View) → get_elem? s.views id ≡ some v → v.holds ≡ false
      → 0 < v.number → get_or s.words 0 0 ≢ 0 → passes ≢ 1
  only_one s r id v at idle named busy one =
      let below = r.below in
      let t = r.taken busy in
      let h = r.holding r.holder t.0 t.1 t.2 in
      let nh = r.numbered r.holder t.0 t.1 h.3 in
      let nv = r.numbered id v at named in
      let first : (x : ℕ) → 0 < x → (x ≤ r.top) ⊎ (x ≡ passes) → x ≡ 1 =
      λ x positive c. ⊎_elim (λ (le : x ≤ r.top). absurd (omega arith)) (λ (e : x ≡ passes). e ∙ one) c in
      let a : t.0.number ≡ 1 = first t.0.number h.3 nh.1 in
      let b : v.number ≡ 1 = first v.number named nv.1 in
      let same : r.holder ≡ id = sym nh.0 ∙ (ap r.seat_of (a ∙ sym b) ∙ nv.0) in
      let both : t.0 ≡ v = some-injective t.0 v (sym t.1 ∙ (ap (get_elem? s.views) same ∙ at)) in
      let clash : true ≡ false = sym t.2 ∙ (ap (λ (x : View). x.holds) both ∙ idle) in
      cc

  -- where each other pass was joined to it, too
  pub nobody_else : (s : St) (r : Rule s) (id : ℕ) (v : View) → get_elem? s.views id ≡ some v → v.holds ≡ false
      → 0 < v.number → get_or s.words 0 0 ≢ 0 → v.passes ≡ passes → HasAllPasses v → ⊥
  nobody_else s r id v at idle named busy count all =
      let below = r.below in
      let t = r.taken busy in
      let h = r.holding r.holder t.0 t.1 t.2 in
      let nh = r.numbered r.holder t.0 t.1 h.3 in
      let nv = r.numbered id v at named in
      let le : t.0.number ≤ v.passes =
      ⊎_elim (λ (le : t.0.number ≤ r.top). omega (arith, le, below, count))
      (λ (e : t.0.number ≡ passes). omega (arith, e, count)) nh.1 in
      let same : r.holder ≡ id = dite (ℕ_discrete t.0.number v.number)
      (λ e. sym nh.0 ∙ (ap r.seat_of e ∙ nv.0))
      (λ ne. sym nh.0 ∙ gathered_seat c passes r.top r.seat_of r.log id v.number t.0.number v.gathered
      (all t.0.number h.3 le ne) (r.gathers id v at)) in
      let both : t.0 ≡ v = some-injective t.0 v (sym t.1 ∙ (ap (get_elem? s.views) same ∙ at)) in
      let clash : true ≡ false = sym t.2 ∙ (ap (λ (x : View). x.holds) both ∙ idle) in
      cc

  takes_it : (s : St) (r : Rule s) (slots id : ℕ) (v : View) → get_elem? s.views id ≡ some v → 0 < v.number
      → (e : get_or s.words 0 0 ≡ 0) → Rule (stepped s 0 1 id [] (holding v r.log) (takes 0 (Some (r.free e).0)))
  takes_it s r slots id v at named e =
      let w : View = holding v r.log in
      let narrow = r.narrow in
      let now : get_or (set s.words 0 1) 0 0 ≡ 1 = get_or-set_same s.words 0 1 0 (omega arith) in
      let own = r.each id v at in
      let away : get_or (set s.words 0 1) 0 0 ≢ 0 = λ z. omega arith in
      record {
        log = r.log;
        holder = id;
        top = r.top;
        seat_of = r.seat_of;
        owner = r.owner;
        narrow = length-set s.words 0 1 ∙ narrow;
        right = r.right;
        free = λ z. absurd (away z);
        taken = λ _. (w, set_at s.views id v w at, refl);
        each = views_stay (λ j u. Fits legal c passes before r.log u) s.views id w
            (record {
              of = own.of;
              sees = own.sees;
              right = own.right;
              mine = own.mine;
              heard = own.heard;
              opens = own.opens;
            }) (λ j u _. r.each j u);
        holding = views_stay (λ j u. u.holds ≡ true
            → (j ≡ id) × (get_or (set s.words 0 1) 0 0 ≢ 0) × (u.held ≡ r.log) × (0 < u.number)) s.views id w
            (λ _. (refl, away, refl, named))
            (λ j u ne a h. absurd ((r.holding j u a h).1 e));
        numbered = views_stay (λ j u. 0 < u.number
            → (r.seat_of u.number ≡ j) × ((u.number ≤ r.top) ⊎ (u.number ≡ passes))) s.views id w (r.numbered id v at)
            (λ j u _. r.numbered j u);
        first = λ u a. views_stay (λ j u. j ≡ 0 → (u.top ≡ r.top) × (u.number ≡ passes)) s.views id w
            (λ z. r.first v (subst (λ i. get_elem? s.views i ≡ some v) z at))
            (λ j u _ a z. r.first u (subst (λ i. get_elem? s.views i ≡ some u) z a)) 0 u a refl;
        below = r.below;
        owners = views_stay (OwnsTicket owned r.owner r.log) s.views id w (r.owners id v at) (λ j u _. r.owners j u);
        ungiven = r.ungiven;
        gathers = views_stay (λ j u. AreGathered c passes r.top r.seat_of r.log j u.number u.gathered) s.views id w
            (r.gathers id v at) (λ j u _. r.gathers j u);
      }

  takes_free : (slots id : ℕ) (v : View) → v.holds ≡ false → 0 < v.number
      → Allows Rule slots id (v, []) 0 (λ n. either (eqb n 0) 1 n)
      (took config history legal (step slots 0 0 1 none) (v, []))
  takes_free slots id v idle named s r wide at small =
      let x : ℕ = get_or s.words 0 0 in
      let own = r.each id v at in
      let here = own.right (inl named) in
      let below = r.below in
      let count = own.of named in
      let counted : v.number ≤ v.passes =
      ⊎_elim (λ (le : v.number ≤ r.top). omega arith) (λ (is : v.number ≡ passes). omega arith)
      (r.numbered id v at named).1 in
      dite (ℕ_discrete x 0)
      (λ e. let h = r.free e in (
        holding v r.log,
        takes 0 (Some h.0),
        h.1,
        subst (λ b. Rule (stepped s 0 (either b 1 x) id [] (holding v r.log) (takes 0 (Some h.0)))) (sym (eq-eqb x 0 e))
            (takes_it s r slots id v at named e),
        (
          (λ _. record {
            log = r.log;
            machine = h.0;
            is = refl;
            at = (h.2.0 ∙ sym here.0, h.2.1);
            right = subst (λ x. legal x (entries r.log)) (sym here.0) r.right;
            begins = subst (λ n. ExtendsByPasses n v.seen r.log) (sym (own.of named)) (own.sees (inl named));
            counted = (named, counted);
            mine = own.mine named;
            gathered = subst (λ (x : ConfigNumbers × ℕ). AllBegin x.0 x.1 r.log v.gathered)
                (λ i. (sym here.0 i, sym (own.of named) i))
                (gathered_begin c passes r.top r.seat_of r.log id v.number v.gathered (r.gathers id v at));
          }),
          λ ne. absurd (ne e),
        ),
      ))
      (λ ne. (
        v,
        keeps,
        tt,
        let P : ℕ × List View → Type 0 = λ p. Rule record { words = set s.words 0 p.0; homes = s.homes; views = p.1 } in
            let Q : List ℕ → Type 0 = λ l. Rule record { words = l; homes = s.homes; views = s.views } in
            let back : Q (set s.words 0 x) = subst Q (sym (set-get_or s.words 0 0)) r in
            subst (λ b. Rule (stepped s 0 (either b 1 x) id [] v keeps)) (sym (ne_eqb x 0 ne))
            (subst P (λ i. (x, sym (set_again s.views id v at) i)) back),
        (
          (λ e. absurd (ne e)),
          λ _. record {
            same = refl;
            several = λ one. only_one s r id v at idle named ne (sym (own.of named) ∙ one);
            missing = nobody_else s r id v at idle named ne (own.of named);
            right = subst (λ x. legal x (entries v.seen)) (sym here.0) here.1;
          },
        ),
      ))

  pub takes_lock : (slots id : ℕ) (m : Me (Option M) View) → m.1 ≡ [] → m.0.holds ≡ false → 0 < m.0.number
      → Allows Rule slots id m 0 (λ n. either (eqb n 0) 1 n) (took config history legal (step slots 0 0 1 none) m)
  takes_lock slots id m none_out idle named =
      subst (λ (l : List (ℕ × Option M)).
      Allows Rule slots id (m.0, l) 0 (λ n. either (eqb n 0) 1 n)
      (took config history legal (step slots 0 0 1 none) (m.0, l))) (sym none_out) (takes_free slots id m.0 idle named)
