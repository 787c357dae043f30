-- A pass is joined to a seat.
use Rattle.std.proofs.Common.{Bool, List, Option, ap, arith, eq-eqb, eqb, false, get_or, inl, ne_eqb, refl, set, subst}
use Rattle.std.proofs.Common.{sym, true, ℕ, ◌<◌, ◌∙◌, ◌≡◌, ◌≢◌, ◌≤◌, ◌⊎◌}
use Rattle.std.proofs.lemmas.Bool.{cond-false, cond-true}
use mathlib.Core.Option.{some, some-injective}
use lib.ListN.{get_elem?}
use Rattle.atomic_table.specs.Table.{Joins, State}
use Rattle.atomic_table.proofs.Lists.{set_else}
use Rattle.nvme_model.specs.History.{Past}
use Rattle.nvme_model.specs.declared.config.ConfigNumbers.{ConfigNumbers}
use Rattle.meet_lock.specs.Lock.{AreGathered, Fits, IsOneHistory, OwnsTicket, gathering, spent}
use Rattle.meet_lock.specs.declared.view.View.{View}
use Rattle.meet_lock.proofs.Gathered.{gathered_move}
use Rattle.meet_lock.proofs.Owners.{with_owner}
use Rattle.meet_lock.proofs.Telling.{spent_fits}
use Rattle.meet_lock.proofs.Views.{views_stay}

module _ {M : Type 0} (config : M → ConfigNumbers) (history : M → Past) (legal : ConfigNumbers → Past → Type 0)
    (owned : Bool) (c : ConfigNumbers) (passes : ℕ) (before : Past) where
  abbrev Rule : State (Option M) View → Type 0
  Rule = IsOneHistory config history legal owned c passes before

  -- two views of which one changes, and the other is of a seat that is gone
  two_stay : (P : ℕ → View → Type 0) (vs : List View) (id other : ℕ) (w : View) → P id w → P other spent
      → ((j : ℕ) (u : View) → j ≢ id → j ≢ other → get_elem? vs j ≡ some u → P j u)
      → (j : ℕ) (u : View) → get_elem? (set (set vs id w) other spent) j ≡ some u → P j u
  two_stay P vs id other w a b others = views_stay P (set vs id w) other spent b
      (λ j u far e. views_stay (λ i x. i ≢ other → P i x) vs id w (λ _. a)
      (λ i x near there away. others i x near away there) j u e far)

  pub joins_pass : (id : ℕ) (v : View) (other : ℕ) (m : View) → v.holds ≡ false → 0 < v.number → m.holds ≡ false
      → 0 < m.number → m.number < m.passes → Joins Rule id v other m (gathering v m) spent
  joins_pass id v other m idle named idle2 named2 low s r at ne at2 =
      let w : View = gathering v m in
      let there : get_elem? s.views other ≡ some m = sym (set_else s.views id other w ne) ∙ at2 in
      let f = r.each id v at in
      let g = r.each other m there in
      let nv = r.numbered id v at named in
      let nm = r.numbered other m there named2 in
      let count : m.passes ≡ passes = g.of named2 in
      let differ : m.number ≢ v.number = λ e. ne (sym nm.0 ∙ (ap r.seat_of e ∙ nv.0)) in
      let later : other ≢ 0 = λ z. let last : m.number ≡ passes =
      (r.first m (subst (λ i. get_elem? s.views i ≡ some m) z there)).1 in omega (arith, last, low, count) in
      let number : ℕ → ℕ = with_owner r.seat_of m.number id in
      let moved : number m.number ≡ id =
      cond-true (eqb m.number m.number) id (r.seat_of m.number) (eq-eqb m.number m.number refl) in
      let kept : (n : ℕ) → n ≢ m.number → number n ≡ r.seat_of n =
      λ n far. cond-false (eqb n m.number) id (r.seat_of n) (ne_eqb n m.number far) in
      let cases : (P : ℕ → View → Type 0) → P id w → P other spent
      → ((j : ℕ) (u : View) → j ≢ id → j ≢ other → get_elem? s.views j ≡ some u → P j u)
      → (j : ℕ) (u : View) → get_elem? (set (set s.views id w) other spent) j ≡ some u → P j u =
      λ P a b others. two_stay P s.views id other w a b others in
      record {
        log = r.log;
        holder = r.holder;
        top = r.top;
        seat_of = number;
        owner = r.owner;
        narrow = r.narrow;
        right = r.right;
        free = r.free;
        taken = λ busy. let t = r.taken busy in
            let away : (i : ℕ) (u : View) → get_elem? s.views i ≡ some u → u.holds ≡ false → r.holder ≢ i =
            λ i u is free e. let same : t.0 ≡ u =
            some-injective t.0 u (sym t.1 ∙ (ap (get_elem? s.views) e ∙ is)) in
            let clash : true ≡ false = sym t.2 ∙ (ap (λ (x : View). x.holds) same ∙ free) in cc in (
              t.0,
              set_else (set s.views id w) other r.holder spent (away other m there idle2)
                  ∙ (set_else s.views id r.holder w (away id v at idle) ∙ t.1),
              t.2,
            );
        each = cases (λ j u. Fits legal c passes before r.log u)
            (record { of = f.of; sees = f.sees; right = f.right; mine = f.mine; heard = f.heard; opens = f.opens })
            (spent_fits config history legal owned c passes before r.log) (λ j u _ _. r.each j u);
        holding = cases (λ j u. u.holds ≡ true
            → (j ≡ r.holder) × (get_or s.words 0 0 ≢ 0) × (u.held ≡ r.log) × (0 < u.number))
            (λ e. let clash : true ≡ false = sym e ∙ idle in cc) (λ e. cc) (λ j u _ _. r.holding j u);
        numbered = cases (λ j u. 0 < u.number
            → (number u.number ≡ j) × ((u.number ≤ r.top) ⊎ (u.number ≡ passes)))
            (λ _. (kept v.number (λ e. differ (sym e)) ∙ nv.0, nv.1)) (λ none. absurd (omega arith))
            (λ j u _ far a has. let t = r.numbered j u a has in
            (kept u.number (λ e. far (sym t.0 ∙ (ap r.seat_of e ∙ nm.0))) ∙ t.0, t.1));
        first = λ u a. cases (λ j u. j ≡ 0 → (u.top ≡ r.top) × (u.number ≡ passes))
            (λ z. r.first v (subst (λ i. get_elem? s.views i ≡ some v) z at)) (λ z. absurd (later z))
            (λ j u _ _ a z. r.first u (subst (λ i. get_elem? s.views i ≡ some u) z a)) 0 u a refl;
        below = r.below;
        owners = cases (OwnsTicket owned r.owner r.log) (r.owners id v at)
            ((λ _. refl), λ has. absurd (omega arith)) (λ j u _ _. r.owners j u);
        ungiven = r.ungiven;
        gathers = cases (λ j u. AreGathered c passes r.top number r.log j u.number u.gathered) (
          record {
            seat = moved;
            other = differ;
            given = nm.1;
            configured = (g.right (inl named2)).0;
            sees = g.sees (inl named2);
            mine = g.mine named2;
          },
          gathered_move c passes r.top r.top r.seat_of number r.log id v.number (λ n le. le)
              (λ n e _. kept n (λ is. ne (sym nm.0 ∙ (ap r.seat_of (sym is) ∙ e))) ∙ e) v.gathered
              (r.gathers id v at),
        ) tt
            (λ j u _ far a. gathered_move c passes r.top r.top r.seat_of number r.log j u.number (λ n le. le)
            (λ n e _. kept n (λ is. far (sym e ∙ (ap r.seat_of is ∙ nm.0))) ∙ e) u.gathered (r.gathers j u a));
      }
