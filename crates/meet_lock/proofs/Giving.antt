-- The holder gives the lock back.
use Rattle.std.proofs.Common.{Bool, List, None, Option, Some, [], ap, arith, false, get_or, get_or-set_same, inl}
use Rattle.std.proofs.Common.{length, length-set, refl, set, subst, sym, true, ⊎_elim, ℕ, ◌<◌, ◌∙◌, ◌≡◌, ◌≢◌, ◌≤◌, ◌⊎◌}
use Rattle.std.proofs.Common.{◌∷◌}
use mathlib.Core.Option.{none, some}
use lib.ListN.{get_elem?}
use Rattle.atomic_table.specs.Table.{Allows, Me, State, gives, step, stepped}
use Rattle.atomic_table.proofs.Lists.{set_here}
use Rattle.nvme_model.specs.History.{Past}
use Rattle.nvme_model.specs.Passes.{SharedPast, entries, places}
use Rattle.nvme_model.specs.declared.config.ConfigNumbers.{ConfigNumbers}
use Rattle.nvme_model.specs.declared.entry.Entry.{Entry}
use Rattle.meet_lock.specs.Lock.{AreGathered, Fits, ExtendsByPasses, IsMachineAt, IsOneHistory, OwnsTicket, grown}
use Rattle.meet_lock.specs.Lock.{noted, view_given_back, unmade}
use Rattle.meet_lock.specs.SeatSteps.{MayTell, gives_lock_back, wrote}
use Rattle.ticket_laws.specs.Entries.{ticket_in}
use Rattle.meet_lock.specs.declared.view.Gathered.{Gathered}
use Rattle.meet_lock.specs.declared.view.View.{View}
use Rattle.meet_lock.proofs.Beginnings.{begins-more, begins-same}
use Rattle.meet_lock.proofs.Gathered.{gathered_grow}
use Rattle.meet_lock.proofs.Owners.{grown_owns, others_own, with_owner}
use Rattle.meet_lock.proofs.Places.{places-other}
use Rattle.meet_lock.proofs.Views.{views_stay}

abbrev value_or : {M : Type 0} → M → Option M → M
value_or d (Some x) = x
value_or d None = d

abbrev machine_of : {M : Type 0} → M → List (ℕ × Option M) → M
machine_of d [] = d
machine_of d (x ∷ xs) = value_or d x.1

module _ {M : Type 0} (config : M → ConfigNumbers) (history : M → Past) (legal : ConfigNumbers → Past → Type 0)
    (owned : Bool) (c : ConfigNumbers) (passes : ℕ) (before : Past) where
  abbrev St : Type 0
  St = State (Option M) View

  abbrev Rule : St → Type 0
  Rule = IsOneHistory config history legal owned c passes before

  -- two seats have two numbers
  unlike : (s : St) (r : Rule s) (j id : ℕ) (u v : View) → j ≢ id → get_elem? s.views j ≡ some u
      → get_elem? s.views id ≡ some v → 0 < u.number → 0 < v.number → v.number ≢ u.number
  unlike s r j id u v ne a b nu nv e =
      ne (sym (r.numbered j u a nu).0 ∙ (ap r.seat_of (sym e) ∙ (r.numbered id v b nv).0))

  -- what the holder's view becomes
  record Gives (v w : View) (log : SharedPast) : Type 0 where
    pub number : w.number ≡ v.number
    pub count : w.passes ≡ v.passes
    pub configured : w.config ≡ v.config
    pub top : w.top ≡ v.top
    pub idle : w.holds ≡ false
    pub deaf : w.hears ≡ false
    pub seen : w.seen ≡ log
    pub gathered : w.gathered ≡ v.gathered

  -- the history is then more than it was, by entries of the holder's
  gives_back : (s : St) (r : Rule s) (id : ℕ) (v w : View) (machine : M) (log : SharedPast) → length s.homes ≡ 1
      → get_elem? s.views id ≡ some v → v.holds ≡ true → Gives v w log
      → ExtendsByPasses passes r.log log → legal c (entries log) → IsMachineAt config history c (entries log) machine
      → ((by : ℕ) → by ≢ v.number → places by log ≡ places by r.log)
      → (owner : ℕ → ℕ) → OwnsTicket owned owner log id w
      → ((j : ℕ) (u : View) → j ≢ id → get_elem? s.views j ≡ some u → OwnsTicket owned owner log j u)
      → Rule (stepped s 0 0 id ((0, Some machine) ∷ []) w gives)
  gives_back s r id v w machine log wide at holds is more right shows others owner own_ticket other_tickets =
      let narrow = r.narrow in
      let now : get_or (set s.words 0 0) 0 0 ≡ 0 = get_or-set_same s.words 0 0 0 (omega arith) in
      let own = r.each id v at in
      let h = r.holding id v at holds in
      let nv = r.numbered id v at h.3 in
      record {
        log = log;
        holder = id;
        top = r.top;
        seat_of = r.seat_of;
        owner = owner;
        narrow = length-set s.words 0 0 ∙ narrow;
        right = right;
        free = λ _. (machine, set_here s.homes 0 (some (Some machine)) (omega arith), shows);
        taken = λ z. absurd (z now);
        each = views_stay (λ j u. Fits legal c passes before log u) s.views id w
            (record {
              of = λ _. is.count ∙ own.of h.3;
              sees = λ _. subst (λ l. ExtendsByPasses passes l log) (sym is.seen) (begins-same passes log);
              right = λ _. (
                is.configured ∙ (own.right (inl h.3)).0,
                subst (λ l. legal c (entries l)) (sym is.seen) right,
              );
              mine = λ _. ap (places w.number) (sym is.seen);
              heard = λ e. let clash : true ≡ false = sym e ∙ is.deaf in cc;
              opens = λ _. subst (λ l. ExtendsByPasses passes (unmade before) l) (sym is.seen)
                  (begins-more passes (unmade before) v.seen log (own.opens (inl h.3))
                  (begins-more passes v.seen r.log log (own.sees (inl h.3)) more));
            })
            (λ j u ne a. let f = r.each j u a in record {
              of = f.of;
              sees = λ live. begins-more passes u.seen r.log log (f.sees live) more;
              right = f.right;
              mine = λ named. others u.number (λ e. unlike s r j id u v ne a at named h.3 (sym e)) ∙ f.mine named;
              heard = λ e. let t = f.heard e in (begins-more passes u.told r.log log t.0 more, t.1, t.2);
              opens = f.opens;
            });
        holding = views_stay (λ j u. u.holds ≡ true
            → (j ≡ id) × (get_or (set s.words 0 0) 0 0 ≢ 0) × (u.held ≡ log) × (0 < u.number)) s.views id w
            (λ e. let clash : true ≡ false = sym e ∙ is.idle in cc)
            (λ j u ne a e. absurd (ne ((r.holding j u a e).0 ∙ sym h.0)));
        numbered = views_stay (λ j u. 0 < u.number
            → (r.seat_of u.number ≡ j) × ((u.number ≤ r.top) ⊎ (u.number ≡ passes))) s.views id w
            (λ _. subst (λ n. (r.seat_of n ≡ id) × ((n ≤ r.top) ⊎ (n ≡ passes))) (sym is.number) nv)
            (λ j u _. r.numbered j u);
        first = λ u a. views_stay (λ j u. j ≡ 0 → (u.top ≡ r.top) × (u.number ≡ passes)) s.views id w
            (λ z. let t = r.first v (subst (λ i. get_elem? s.views i ≡ some v) z at) in
            (is.top ∙ t.0, is.number ∙ t.1))
            (λ j u _ a z. r.first u (subst (λ i. get_elem? s.views i ≡ some u) z a)) 0 u a refl;
        below = r.below;
        owners = views_stay (OwnsTicket owned owner log) s.views id w own_ticket other_tickets;
        ungiven = λ by above not.
            others by (λ e. ⊎_elim (λ (le : v.number ≤ r.top). absurd (omega arith))
            (λ (is : v.number ≡ passes). absurd (not (e ∙ is))) nv.1) ∙ r.ungiven by above not;
        gathers = views_stay (λ j u. AreGathered c passes r.top r.seat_of log j u.number u.gathered) s.views id w
            (subst (λ (x : ℕ × List Gathered). AreGathered c passes r.top r.seat_of log id x.0 x.1)
            (λ i. (sym is.number i, sym is.gathered i))
            (gathered_grow c passes r.top r.seat_of r.log log id v.number v.number more others (λ n _ ne. ne) v.gathered
            (r.gathers id v at)))
            (λ j u ne a. gathered_grow c passes r.top r.seat_of r.log log j u.number v.number more others
            (λ n e _ same. ne (sym e ∙ (ap r.seat_of same ∙ nv.0))) u.gathered (r.gathers j u a));
      }

  pub writes : (slots : ℕ) → slots ≡ 1 → (id : ℕ) (m : Me (Option M) View) (v : View) (machine : M) (e : Entry)
      → m ≡ (v, (0, Some machine) ∷ []) → v.holds ≡ true
      → IsMachineAt config history v.config (e ∷ entries v.held) machine → legal v.config (e ∷ entries v.held)
      → MayTell owned v (entries v.held) e
      → Allows Rule slots id m 0 (λ _. 0) (λ _. wrote history owned (step slots 0 0 0 none) m 0)
  writes slots one id m v machine e is holds shows right may =
      subst (λ (x : Me (Option M) View).
      Allows Rule slots id x 0 (λ _. 0) (λ _. wrote history owned (step slots 0 0 0 none) x 0)) (sym is)
      (λ s r wide at small.
      let h = r.holding id v at holds in
      let here = (r.each id v at).right (inl h.3) in
      let below = r.below in
      let small_number : v.number ≤ passes =
      ⊎_elim (λ (le : v.number ≤ r.top). omega arith) (λ (is : v.number ≡ passes). omega arith)
      (r.numbered id v at h.3).1 in
      let w : View = grown owned v e in
      let log : SharedPast = noted v.number e ∷ v.held in
      let owner : ℕ → ℕ = with_owner r.owner (ticket_in e) id in
      let had : (j : ℕ) (u : View) → get_elem? s.views j ≡ some u → OwnsTicket owned r.owner v.held j u =
      λ j u a. subst (λ l. OwnsTicket owned r.owner l j u) (sym h.2) (r.owners j u a) in
      let own_ticket : OwnsTicket owned owner log id w = grown_owns owned r.owner id v e may (had id v at) in
      let seen : w.seen ≡ log = refl in (
        w,
        gives,
        tt,
        gives_back s r id v w machine log (wide ∙ one) at holds
            (record {
              number = refl;
              count = refl;
              configured = refl;
              top = refl;
              idle = refl;
              deaf = refl;
              seen = refl;
              gathered = refl;
            }) (
              (noted v.number e ∷ [], ap (λ l. noted v.number e ∷ l) (sym h.2)),
              ((h.3, small_number), tt),
            )
            (subst (λ x. legal x (entries log)) here.0 right) (shows.0 ∙ here.0, shows.1)
            (λ by ne. places-other by v.number v.held e (λ z. ne (sym z)) ∙ ap (places by) h.2)
            owner own_ticket (λ j u ne a. others_own owned r.owner id j v u e ne may (had id v at) (had j u a)),
        (
          (λ machine' e' same shows'.
              let same_machine : machine ≡ machine' = ap (machine_of machine) same in
              let lists : e ∷ entries v.held ≡ e' ∷ entries v.held = sym shows.1 ∙ (ap history same_machine ∙ shows') in
              let entry : e ≡ e' = cc in
              ap (λ x. (grown owned v x, [])) entry),
          (λ z. let t = (r.each id v at).heard z in (
            subst (λ l. ExtendsByPasses v.passes v.told l) (sym h.2)
                (subst (λ n. ExtendsByPasses n v.told r.log) (sym ((r.each id v at).of h.3)) t.0),
            t.2 ∙ sym here.0,
          )),
          λ has. (own_ticket.1 has).1,
        ),
      ))

  pub leaves : (slots : ℕ) → slots ≡ 1 → (id : ℕ) (m : Me (Option M) View) (v : View) (machine : M)
      → m ≡ (v, (0, Some machine) ∷ []) → v.holds ≡ true
      → IsMachineAt config history v.config (entries v.held) machine → legal v.config (entries v.held)
      → Allows Rule slots id m 0 (λ _. 0) (λ _. gives_lock_back (step slots 0 0 0 none) m 0)
  leaves slots one id m v machine is holds shows right =
      subst (λ (x : Me (Option M) View).
      Allows Rule slots id x 0 (λ _. 0) (λ _. gives_lock_back (step slots 0 0 0 none) x 0))
      (sym is)
      (λ s r wide at small.
      let h = r.holding id v at holds in
      let here = (r.each id v at).right (inl h.3) in
      let had : (j : ℕ) (u : View) → get_elem? s.views j ≡ some u → OwnsTicket owned r.owner v.held j u =
      λ j u a. subst (λ l. OwnsTicket owned r.owner l j u) (sym h.2) (r.owners j u a) in (
        view_given_back v,
        gives,
        tt,
        gives_back s r id v (view_given_back v) machine v.held (wide ∙ one) at holds
            (record {
              number = refl;
              count = refl;
              configured = refl;
              top = refl;
              idle = refl;
              deaf = refl;
              seen = refl;
              gathered = refl;
            }) (subst (λ l. ExtendsByPasses passes r.log l) (sym h.2) (begins-same passes r.log))
            (subst (λ x. legal x (entries v.held)) here.0 right) (shows.0 ∙ here.0, shows.1)
            (λ by _. ap (places by) h.2) r.owner (had id v at) (λ j u _ a. had j u a),
        (
          refl,
          (λ e. let t = (r.each id v at).heard e in (
            subst (λ l. ExtendsByPasses v.passes v.told l) (sym h.2)
                (subst (λ n. ExtendsByPasses n v.told r.log) (sym ((r.each id v at).of h.3)) t.0),
            t.2 ∙ sym here.0,
          )),
          λ has. ((had id v at).1 has).1,
        ),
      ))
