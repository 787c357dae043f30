-- Messages: a seat makes one, takes one in, and looks.
use Rattle.std.proofs.Common.{Bool, List, Option, [], ap, arith, false, get_or, inl, inr, length, refl, set, subst, sym}
use Rattle.std.proofs.Common.{true}
use Rattle.std.proofs.Common.{⊎_elim, ℕ, ◌++◌, ◌<◌, ◌∙◌, ◌≡◌, ◌≢◌, ◌≤◌, ◌⊎◌, ◌∷◌}
use mathlib.Core.Logic.{dite}
use mathlib.Core.Option.{none, some, some-injective}
use native.Mathlib.Decide.{ℕ_discrete}
use lib.ListN.{get_elem?}
use lib.Seq.{set-get_or}
use Rattle.atomic_table.specs.Table.{Allows, Joins, Me, Splits, State, keeps, step}
use Rattle.atomic_table.proofs.Lists.{at_longer, set_again, set_else}
use Rattle.nvme_model.specs.History.{Past}
use Rattle.nvme_model.specs.Passes.{SharedPast, entries, places}
use Rattle.nvme_model.specs.declared.config.ConfigNumbers.{ConfigNumbers}
use Rattle.meet_lock.specs.Lock.{AreGathered, Fits, ExtendsByPasses, IsLive, IsOneHistory, OwnsTicket, hearing}
use Rattle.meet_lock.specs.Lock.{informed, longer, message, message_held, spent, unmade}
use Rattle.meet_lock.specs.SeatSteps.{looked, recalled}
use Rattle.meet_lock.specs.declared.view.Gathered.{Gathered}
use Rattle.meet_lock.specs.declared.view.View.{View}
use Rattle.meet_lock.proofs.Beginnings.{begins-more, begins-same, longer_is, places_between, shorter}
use Rattle.meet_lock.proofs.Views.{set_at, some_seat, views_come, views_stay}

module _ {M : Type 0} (config : M → ConfigNumbers) (history : M → Past) (legal : ConfigNumbers → Past → Type 0)
    (owned : Bool) (c : ConfigNumbers) (passes : ℕ) (before : Past) where
  abbrev St : Type 0
  St = State (Option M) View

  abbrev Rule : St → Type 0
  Rule = IsOneHistory config history legal owned c passes before

  -- a view that says nothing
  pub spent_fits : (log : SharedPast) → Fits legal c passes before log spent
  spent_fits log =
      record {
        of = λ n. absurd (omega arith);
        sees = λ live. ⊎_elim (λ (n : 0 < 0). absurd (omega arith)) (λ (e : false ≡ true). cc) live;
        right = λ live. ⊎_elim (λ (n : 0 < 0). absurd (omega arith)) (λ (e : false ≡ true). cc) live;
        mine = λ n. absurd (omega arith);
        heard = λ e. cc;
        opens = λ live. ⊎_elim (λ (n : 0 < 0). absurd (omega arith)) (λ (e : false ≡ true). cc) live;
      }

  -- a seat with no number comes
  pub comes : (s : St) (r : Rule s) (m : View) → m.number ≡ 0 → m.holds ≡ false → m.gathered ≡ []
      → Fits legal c passes before r.log m
      → length s.views ≢ 0
      → (owner : ℕ → ℕ) → ((j : ℕ) (u : View) → get_elem? s.views j ≡ some u → OwnsTicket owned owner r.log j u)
      → OwnsTicket owned owner r.log (length s.views) m
      → Rule record { words = s.words; homes = s.homes; views = s.views ++ m ∷ [] }
  comes s r m no_number idle no_passes fits seats owner old_tickets new_ticket =
      record {
        log = r.log;
        holder = r.holder;
        top = r.top;
        seat_of = r.seat_of;
        owner = owner;
        narrow = r.narrow;
        right = r.right;
        free = r.free;
        taken = λ busy. let t = r.taken busy in (t.0, at_longer s.views (m ∷ []) r.holder t.0 t.1, t.2);
        each = views_come (λ j u. Fits legal c passes before r.log u) s.views m r.each fits;
        holding = views_come (λ j u. u.holds ≡ true
            → (j ≡ r.holder) × (get_or s.words 0 0 ≢ 0) × (u.held ≡ r.log) × (0 < u.number)) s.views m r.holding
            (λ e. let clash : true ≡ false = sym e ∙ idle in cc);
        numbered = views_come (λ j u. 0 < u.number
            → (r.seat_of u.number ≡ j) × ((u.number ≤ r.top) ⊎ (u.number ≡ passes))) s.views m r.numbered
            (λ named. absurd (omega arith));
        first = λ u a. views_come (λ j u. j ≡ 0 → (u.top ≡ r.top) × (u.number ≡ passes)) s.views m
            (λ j u b z. r.first u (subst (λ i. get_elem? s.views i ≡ some u) z b)) (λ z. absurd (seats z)) 0 u a refl;
        below = r.below;
        owners = views_come (OwnsTicket owned owner r.log) s.views m old_tickets new_ticket;
        ungiven = r.ungiven;
        gathers = views_come (λ j u. AreGathered c passes r.top r.seat_of r.log j u.number u.gathered) s.views m
            r.gathers (subst (AreGathered c passes r.top r.seat_of r.log (length s.views) m.number) (sym no_passes) tt);
      }

  -- what stays of a view
  pub record Turns (v w : View) : Type 0 where
    pub number : w.number ≡ v.number
    pub holds : w.holds ≡ v.holds
    pub held : v.holds ≡ true → w.held ≡ v.held
    pub top : 0 < v.number → w.top ≡ v.top
    pub gathered : (w.gathered ≡ v.gathered) ⊎ (w.gathered ≡ [])

  -- a view changes in what it has seen and heard
  abbrev pub turns_view : (s : St) (r : Rule s) (id : ℕ) (v w : View) → get_elem? s.views id ≡ some v → Turns v w
      → Fits legal c passes before r.log w
      → (owner : ℕ → ℕ) → OwnsTicket owned owner r.log id w
      → ((j : ℕ) (u : View) → j ≢ id → get_elem? s.views j ≡ some u → OwnsTicket owned owner r.log j u)
      → Rule record { words = s.words; homes = s.homes; views = set s.views id w }
  turns_view s r id v w at is fits owner own_ticket other_tickets =
      record {
        log = r.log;
        holder = r.holder;
        top = r.top;
        seat_of = r.seat_of;
        owner = owner;
        narrow = r.narrow;
        right = r.right;
        free = r.free;
        taken = λ busy. let t = r.taken busy in dite (ℕ_discrete r.holder id)
            (λ e. let same : t.0 ≡ v = some-injective t.0 v (sym t.1 ∙ (ap (get_elem? s.views) e ∙ at)) in (
              w,
              ap (get_elem? (set s.views id w)) e ∙ set_at s.views id v w at,
              is.holds
                  ∙ (ap (λ (x : View). x.holds) (sym same) ∙ t.2),
            ))
            (λ ne. (t.0, set_else s.views id r.holder w ne ∙ t.1, t.2));
        each = views_stay (λ j u. Fits legal c passes before r.log u) s.views id w fits (λ j u _. r.each j u);
        holding = views_stay (λ j u. u.holds ≡ true
            → (j ≡ r.holder) × (get_or s.words 0 0 ≢ 0) × (u.held ≡ r.log) × (0 < u.number)) s.views id w
            (λ e. let was = sym is.holds ∙ e in let h = r.holding id v at was in
            (h.0, h.1, is.held was ∙ h.2, subst (λ n. 0 < n) (sym is.number) h.3)) (λ j u _. r.holding j u);
        numbered = views_stay (λ j u. 0 < u.number
            → (r.seat_of u.number ≡ j) × ((u.number ≤ r.top) ⊎ (u.number ≡ passes))) s.views id w
            (subst (λ n. 0 < n → (r.seat_of n ≡ id) × ((n ≤ r.top) ⊎ (n ≡ passes))) (sym is.number)
            (r.numbered id v at)) (λ j u _. r.numbered j u);
        first = λ u a. views_stay (λ j u. j ≡ 0 → (u.top ≡ r.top) × (u.number ≡ passes)) s.views id w
            (λ z. let t = r.first v (subst (λ i. get_elem? s.views i ≡ some v) z at) in
            let below = r.below in
            let last = t.1 in
            (is.top (omega (arith, last, below)) ∙ t.0, is.number ∙ last))
            (λ j u _ a z. r.first u (subst (λ i. get_elem? s.views i ≡ some u) z a)) 0 u a refl;
        below = r.below;
        owners = views_stay (OwnsTicket owned owner r.log) s.views id w own_ticket other_tickets;
        ungiven = r.ungiven;
        gathers = views_stay (λ j u. AreGathered c passes r.top r.seat_of r.log j u.number u.gathered) s.views id w
            (⊎_elim (λ (e : w.gathered ≡ v.gathered). subst (λ (x : ℕ × List Gathered).
            AreGathered c passes r.top r.seat_of r.log id x.0 x.1) (λ i. (sym is.number i, sym e i))
            (r.gathers id v at))
            (λ (e : w.gathered ≡ []). subst (AreGathered c passes r.top r.seat_of r.log id w.number) (sym e) tt)
            is.gathered) (λ j u _. r.gathers j u);
      }

  splits : (id : ℕ) (v m : View) → m.ticket ≡ 0 → m.number ≡ 0 → m.holds ≡ false → m.gathered ≡ []
      → ((s : St) (r : Rule s) → get_elem? s.views id ≡ some v → Fits legal c passes before r.log m)
      → Splits Rule id v v m
  splits id v m no_ticket no_number idle no_passes fits s r at =
      subst (λ l. Rule record { words = s.words; homes = s.homes; views = l ++ m ∷ [] })
      (sym (set_again s.views id v at))
      (comes s r m no_number idle no_passes (fits s r at) (some_seat s.views id v at) r.owner r.owners
      ((λ _. no_ticket), λ has. absurd (omega arith)))

  -- a message with what the seat has seen
  pub tells : (id : ℕ) (v : View) → IsLive v → Splits Rule id v v (message v)
  tells id v live = splits id v (message v) refl refl refl refl (λ s r at. let f = r.each id v at in
      record {
        of = λ n. absurd (omega arith);
        sees = λ _. f.sees live;
        right = λ _. f.right live;
        mine = λ n. absurd (omega arith);
        heard = λ e. cc;
        opens = λ _. f.opens live;
      })

  -- a message with the history, of the seat that holds the lock
  pub tells_held : (id : ℕ) (v : View) → v.holds ≡ true → Splits Rule id v v (message_held v)
  tells_held id v holds = splits id v (message_held v) refl refl refl refl (λ s r at. let h = r.holding id v at holds in
      let f = r.each id v at in
      let whole : ExtendsByPasses passes v.held r.log =
      subst (λ l. ExtendsByPasses passes l r.log) (sym h.2) (begins-same passes r.log) in
      record {
        of = λ n. absurd (omega arith);
        sees = λ _. whole;
        right = λ _. ((f.right (inl h.3)).0, subst (λ l. legal c (entries l)) (sym h.2) r.right);
        mine = λ n. absurd (omega arith);
        heard = λ e. cc;
        opens = λ _. begins-more passes (unmade before) v.seen v.held (f.opens (inl h.3))
            (subst (λ l. ExtendsByPasses passes v.seen l) (sym h.2) (f.sees (inl h.3)));
      })

  -- a seat takes in a message
  pub hears : (id : ℕ) (v : View) (other : ℕ) (m : View) → m.number ≡ 0 → m.holds ≡ false → m.message ≡ true
      → Joins Rule id v other m (hearing v m) spent
  hears id v other m no_number idle live s r at ne at' =
      let there : get_elem? s.views other ≡ some m = sym (set_else s.views id other (hearing v m) ne) ∙ at' in
      let f = r.each id v at in
      let told = r.each other m there in
      let r1 = turns_view s r id v (hearing v m) at
      (record { number = refl; holds = refl; held = λ _. refl; top = λ _. refl; gathered = inl refl })
      (record {
        of = f.of;
        sees = f.sees;
        right = f.right;
        mine = f.mine;
        heard = λ _. (told.sees (inr live), (told.right (inr live)).1, (told.right (inr live)).0);
        opens = f.opens;
      })
      r.owner (r.owners id v at) (λ j u _. r.owners j u) in
      let s1 : St = record { words = s.words; homes = s.homes; views = set s.views id (hearing v m) } in
      turns_view s1 r1 other m spent at'
      (record {
        number = sym no_number;
        holds = sym idle;
        held = λ e. let clash : true ≡ false = sym e ∙ idle in cc;
        top = λ n. absurd (omega arith);
        gathered = inr refl;
      })
      (spent_fits r1.log) r1.owner ((λ _. refl), λ has. absurd (omega arith)) (λ j u _. r1.owners j u)

  -- a seat that took in a message looks
  pub looks : (slots id : ℕ) (m : Me (Option M) View) → m.0.hears ≡ true → 0 < m.0.number
      → Allows Rule slots id m 0 (λ n. n) (looked legal (step slots 0 0 0 none) m)
  looks slots id m heard named s r wide at small =
      let v : View = m.0 in
      let f = r.each id v at in
      let here = f.right (inl named) in
      let told = f.heard heard in
      let own = f.mine named in
      let l : SharedPast = longer v.seen v.told in
      let had : ExtendsByPasses passes v.seen r.log = f.sees (inl named) in
      let count = sym (f.of named) in
      let sees : ExtendsByPasses passes l r.log =
      longer_is (λ l. ExtendsByPasses passes l r.log) v.seen v.told (λ _. told.0) (λ _. had) in
      let right : legal c (entries l) =
      longer_is (λ l. legal c (entries l)) v.seen v.told (λ _. told.1) (λ _. here.1) in
      let mine : places v.number l ≡ places v.number v.seen =
      longer_is (λ l. places v.number l ≡ places v.number v.seen) v.seen v.told
      (λ le. places_between passes v.number r.log v.seen v.told (shorter passes r.log v.seen v.told had told.0 le)
      told.0 own) (λ _. refl) in
      let later : ExtendsByPasses passes v.seen l =
      longer_is (λ l. ExtendsByPasses passes v.seen l) v.seen v.told (shorter passes r.log v.seen v.told had told.0)
      (λ _. begins-same passes v.seen) in
      let told_too : ExtendsByPasses passes v.told l =
      longer_is (λ l. ExtendsByPasses passes v.told l) v.seen v.told (λ _. begins-same passes v.told)
      (shorter passes r.log v.told v.seen told.0 had) in
      let w : View = informed v in (
        w,
        keeps,
        tt,
        subst (λ ws. Rule record { words = ws; homes = s.homes; views = set s.views id w })
            (sym (set-get_or s.words 0 0))
            (turns_view s r id v w at
            (record { number = refl; holds = refl; held = λ _. refl; top = λ _. refl; gathered = inl refl })
            (record {
              of = f.of;
              sees = λ _. sees;
              right = λ _. (here.0, right);
              mine = λ _. own ∙ sym mine;
              heard = λ e. cc;
              opens = λ _. begins-more passes (unmade before) v.seen l (f.opens (inl named)) later;
            })
            r.owner (r.owners id v at) (λ j u _. r.owners j u)),
        (
          refl,
          mine,
          subst (λ n. ExtendsByPasses n v.seen l) count later,
          subst (λ n. ExtendsByPasses n v.told l) count told_too,
          subst (λ x. legal x (entries l)) (sym here.0) right,
          told.2 ∙ sym here.0,
        ),
      )

  -- a seat looks, and learns what holds of what it has seen
  pub recalls : (slots id : ℕ) (m : Me (Option M) View) (past : Past) → past ≡ before → 0 < m.0.number
      → Allows Rule slots id m 0 (λ n. n) (recalled legal past (step slots 0 0 0 none) m)
  recalls slots id m past is named s r wide at small =
      let v : View = m.0 in
      let f = r.each id v at in
      let here = f.right (inl named) in
      let back : Rule record { words = s.words; homes = s.homes; views = set s.views id v } =
      subst (λ l. Rule record { words = s.words; homes = s.homes; views = l }) (sym (set_again s.views id v at))
      r in (
        v,
        keeps,
        tt,
        subst (λ ws. Rule record { words = ws; homes = s.homes; views = set s.views id v })
            (sym (set-get_or s.words 0 0)) back,
        (
          refl,
          subst (λ x. legal x (entries v.seen)) (sym here.0) here.1,
          subst (λ (z : ℕ × Past). ExtendsByPasses z.0 (unmade z.1) v.seen) (λ i. (sym (f.of named) i, sym is i))
              (f.opens (inl named)),
        ),
      )
