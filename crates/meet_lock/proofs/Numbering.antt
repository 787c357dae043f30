-- The first seat gives out the next number.
use Rattle.std.proofs.Common.{Bool, List, Option, [], ap, arith, cond, eq-eqb, eqb, false, get_or, inl, inr, le_refl}
use Rattle.std.proofs.Common.{length, length-set, ne_eqb, refl, set, subst, sym, true, ⊎_elim, ℕ, ◌+◌, ◌++◌, ◌<◌, ◌∙◌}
use Rattle.std.proofs.Common.{◌≡◌, ◌≢◌, ◌≤◌, ◌⊎◌, ◌∷◌}
use mathlib.Core.Option.{some, some-injective}
use lib.ListN.{get_elem?}
use Rattle.atomic_table.specs.Table.{Splits, State}
use Rattle.atomic_table.proofs.Lists.{at_longer, set_else}
use Rattle.nvme_model.specs.History.{Past}
use Rattle.nvme_model.specs.Passes.{places}
use Rattle.nvme_model.specs.declared.config.ConfigNumbers.{ConfigNumbers}
use Rattle.meet_lock.specs.Lock.{AreGathered, Fits, IsOneHistory, OwnsTicket, gives_left, gives_right}
use Rattle.meet_lock.specs.declared.view.View.{View}
use Rattle.meet_lock.proofs.Gathered.{gathered_move}
use Rattle.meet_lock.proofs.Places.{places-none}
use Rattle.meet_lock.proofs.Views.{at_snoc_where, some_seat, views_stay}

module _ {M : Type 0} (config : M → ConfigNumbers) (history : M → Past) (legal : ConfigNumbers → Past → Type 0)
    (owned : Bool) (c : ConfigNumbers) (passes : ℕ) (before : Past) where
  abbrev Rule : State (Option M) View → Type 0
  Rule = IsOneHistory config history legal owned c passes before

  pub gives_number : (id : ℕ) (v : View) → id ≡ 0 → v.holds ≡ false → v.number ≡ v.passes → v.top + 1 < v.passes
      → Splits Rule id v (gives_left v) (gives_right v)
  gives_number id v zero_is idle own room s r at =
      let f = r.each id v at in
      let top_is : v.top ≡ r.top = (r.first v (subst (λ i. get_elem? s.views i ≡ some v) zero_is at)).0 in
      let l : View = gives_left v in
      let w : View = gives_right v in
      let n : ℕ = v.top + 1 in
      let last : v.number ≡ passes = (r.first v (subst (λ i. get_elem? s.views i ≡ some v) zero_is at)).1 in
      let below = r.below in
      let some_number : 0 < v.number = omega (arith, last, below) in
      let passes_is : v.passes ≡ passes = f.of some_number in
      let new : places n r.log ≡ [] = r.ungiven n (omega arith) (λ e. omega arith) in
      let number : ℕ → ℕ = λ k. cond (eqb k n) (length s.views) (r.seat_of k) in
      -- a number that was given out before
      let old : (k : ℕ) → (k ≤ r.top) ⊎ (k ≡ passes) → number k ≡ r.seat_of k =
      λ k c. ap (λ b. cond b (length s.views) (r.seat_of k))
      (ne_eqb k n (λ e. ⊎_elim (λ (le : k ≤ r.top). omega arith) (λ (is : k ≡ passes). omega arith) c)) in
      let wider : (k : ℕ) → (k ≤ r.top) ⊎ (k ≡ passes) → (k ≤ n) ⊎ (k ≡ passes) =
      λ k le. ⊎_elim (λ (le : k ≤ r.top). inl (omega (arith, le, top_is))) (λ (is : k ≡ passes). inr is) le in
      let views : List View = set s.views id l in
      let K : (ℕ → View → Type 0) → Type 0 = λ P. (j : ℕ) (u : View) → get_elem? (views ++ w ∷ []) j ≡ some u → P j u in
      let cases : (P : ℕ → View → Type 0) → P id l
      → ((j : ℕ) (u : View) → j ≢ id → get_elem? s.views j ≡ some u → P j u) → P (length s.views) w → K P =
      λ P a b c j u e.
      ⊎_elim (λ (h : get_elem? views j ≡ some u). views_stay P s.views id l a b j u h)
      (λ (h : (j ≡ length views) × (w ≡ u)).
      subst (λ (x : ℕ × View). P x.0 x.1) (λ i. (sym (h.0 ∙ length-set s.views id l) i, h.1 i)) c)
      (at_snoc_where views w u j e) in
      record {
        log = r.log;
        holder = r.holder;
        top = n;
        seat_of = number;
        owner = r.owner;
        narrow = r.narrow;
        right = r.right;
        free = r.free;
        taken = λ busy. let t = r.taken busy in
            let ne : r.holder ≢ id = λ e. let same : t.0 ≡ v =
            some-injective t.0 v (sym t.1 ∙ (ap (get_elem? s.views) e ∙ at)) in
            let clash : true ≡ false = sym t.2 ∙ (ap (λ (x : View). x.holds) same ∙ idle) in cc in
            (t.0, at_longer views (w ∷ []) r.holder t.0 (set_else s.views id r.holder l ne ∙ t.1), t.2);
        each = cases (λ j u. Fits legal c passes before r.log u)
            (record { of = f.of; sees = f.sees; right = f.right; mine = f.mine; heard = f.heard; opens = f.opens })
            (λ j u _. r.each j u)
            (record {
              of = λ _. passes_is;
              sees = λ _. f.sees (inl some_number);
              right = λ _. f.right (inl some_number);
              heard = f.heard;
              mine = λ _. let g = f.sees (inl some_number) in
                  new ∙ sym (places-none n g.0.0 v.seen (ap (places n) g.0.1 ∙ new));
              opens = λ _. f.opens (inl some_number);
            });
        holding = cases (λ j u. u.holds ≡ true
            → (j ≡ r.holder) × (get_or s.words 0 0 ≢ 0) × (u.held ≡ r.log) × (0 < u.number))
            (λ e. let clash : true ≡ false = sym e ∙ idle in cc) (λ j u _. r.holding j u)
            (λ e. let clash : true ≡ false = sym e ∙ idle in cc);
        numbered = cases (λ j u. 0 < u.number → (number u.number ≡ j) × ((u.number ≤ n) ⊎ (u.number ≡ passes)))
            (λ named. let t = r.numbered id v at named in (old v.number t.1 ∙ t.0, inr (own ∙ passes_is)))
            (λ j u _ a named. let t = r.numbered j u a named in (
              old u.number t.1 ∙ t.0,
              ⊎_elim (λ (le : u.number ≤ r.top). inl (omega arith)) (λ (is : u.number ≡ passes). inr is) t.1,
            ))
            (λ _. (ap (λ b. cond b (length s.views) (r.seat_of n)) (eq-eqb n n refl), inl (le_refl n)));
        first = λ u a. cases (λ j u. j ≡ 0 → (u.top ≡ n) × (u.number ≡ passes)) (λ _. (refl, last))
            (λ j u ne _ z. absurd (ne (z ∙ sym zero_is))) (λ z. absurd (some_seat s.views id v at z)) 0 u a refl;
        below = omega arith;
        owners = cases (OwnsTicket owned r.owner r.log) (r.owners id v at) (λ j u _. r.owners j u)
            ((λ _. refl), λ has. absurd (omega arith));
        ungiven = λ by above not. r.ungiven by (omega arith) not;
        gathers = cases (λ j u. AreGathered c passes n number r.log j u.number u.gathered)
            (gathered_move c passes r.top n r.seat_of number r.log id v.number wider (λ k e le. old k le ∙ e) v.gathered
            (r.gathers id v at))
            (λ j u _ a. gathered_move c passes r.top n r.seat_of number r.log j u.number wider (λ k e le. old k le ∙ e)
            u.gathered (r.gathers j u a)) tt;
      }
