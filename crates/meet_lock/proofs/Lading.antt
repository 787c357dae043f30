-- Messages with a ticket: a seat gives its ticket to one, and takes one in.
use Rattle.std.proofs.Common.{Bool, Option, arith, false, inl, inr, length, length-set, refl, set, subst, sym, true}
use Rattle.std.proofs.Common.{⊎_elim}
use Rattle.std.proofs.Common.{ℕ, ◌∙◌, ◌≡◌, ◌≢◌}
use mathlib.Core.Option.{some}
use lib.ListN.{get_elem?}
use lib.Seq.{set_comm}
use Rattle.atomic_table.specs.Table.{Joins, Splits, State}
use Rattle.atomic_table.proofs.Lists.{at_set, set_else}
use Rattle.nvme_model.specs.History.{Past}
use Rattle.nvme_model.specs.declared.config.ConfigNumbers.{ConfigNumbers}
use Rattle.meet_lock.specs.Lock.{IsLive, IsOneHistory, OwnsTicket, laden, lading, spent, unladen}
use Rattle.meet_lock.specs.declared.view.View.{View}
use Rattle.meet_lock.proofs.Owners.{moved_other, moved_to, with_owner}
use Rattle.meet_lock.proofs.Telling.{comes, spent_fits, turns_view}
use Rattle.meet_lock.proofs.Views.{some_seat}

module _ {M : Type 0} (config : M → ConfigNumbers) (history : M → Past) (legal : ConfigNumbers → Past → Type 0)
    (owned : Bool) (c : ConfigNumbers) (passes : ℕ) (before : Past) where
  abbrev St : Type 0
  St = State (Option M) View

  abbrev Rule : St → Type 0
  Rule = IsOneHistory config history legal owned c passes before

  -- a seat gives its ticket to a message
  pub unloads : (id : ℕ) (v : View) → IsLive v → Splits Rule id v (unladen v) (laden v)
  unloads id v live s r at =
      let f = r.each id v at in
      let own = r.owners id v at in
      let n : ℕ = length s.views in
      let owner : ℕ → ℕ = with_owner r.owner v.ticket n in
      let l : View = unladen v in
      let r1 = turns_view config history legal owned c passes before s r id v l at
      (record { number = refl; holds = refl; held = λ _. refl; top = λ _. refl; gathered = inl refl })
      (record { of = f.of; sees = f.sees; right = f.right; mine = f.mine; heard = f.heard; opens = f.opens })
      owner ((λ _. refl), λ has. absurd (omega arith))
      (λ j u ne a. moved_other owned r.owner r.log id j n v u ne own (r.owners j u a)) in
      let s1 : St = record { words = s.words; homes = s.homes; views = set s.views id l } in
      let long : length (set s.views id l) ≡ n = length-set s.views id l in
      comes config history legal owned c passes before s1 r1 (laden v) refl refl refl
      (record {
        of = λ z. absurd (omega arith);
        sees = λ _. f.sees live;
        right = λ _. f.right live;
        mine = λ z. absurd (omega arith);
        heard = λ e. cc;
        opens = λ _. f.opens live;
      })
      (λ z. some_seat s.views id v at (sym long ∙ z)) owner r1.owners
      (subst (λ j. OwnsTicket owned owner r.log j (laden v)) (sym long) (moved_to owned r.owner r.log id n v own))

  -- a seat takes in a message, with its ticket
  pub loads : (id : ℕ) (v : View) (other : ℕ) (m : View) → v.ticket ≡ 0 → m.number ≡ 0 → m.holds ≡ false
      → m.message ≡ true → Joins Rule id v other m (lading v m) spent
  loads id v other m bare no_number idle live s r at ne at' =
      let w : View = lading v m in
      let there : get_elem? s.views other ≡ some m = sym (set_else s.views id other w ne) ∙ at' in
      let f = r.each id v at in
      let told = r.each other m there in
      let its = r.owners other m there in
      let r1 = turns_view config history legal owned c passes before s r other m spent there
      (record {
        number = sym no_number;
        holds = sym idle;
        held = λ e. let clash : true ≡ false = sym e ∙ idle in cc;
        top = λ n. absurd (omega arith);
        gathered = inr refl;
      })
      (spent_fits config history legal owned c passes before r.log) r.owner ((λ _. refl), λ has. absurd (omega arith))
      (λ j u _. r.owners j u) in
      let s1 : St = record { words = s.words; homes = s.homes; views = set s.views other spent } in
      let here : get_elem? (set s.views other spent) id ≡ some v = set_else s.views other id spent (λ e. ne (sym e))
      ∙ at in
      let owner : ℕ → ℕ = with_owner r.owner m.ticket id in
      let none : (j : ℕ) → OwnsTicket owned owner r.log j spent = λ j. ((λ _. refl), λ has. absurd (omega arith)) in
      let others : (j : ℕ) (u : View) → j ≢ id → get_elem? (set s.views other spent) j ≡ some u
      → OwnsTicket owned owner r.log j u = λ j u _ a.
      ⊎_elim (λ (t : (j ≡ other) × (spent ≡ u)). subst (OwnsTicket owned owner r.log j) t.1 (none j))
      (λ (t : (j ≢ other) × (get_elem? s.views j ≡ some u)).
      moved_other owned r.owner r.log other j id m u t.0 its (r.owners j u t.1))
      (at_set s.views other j spent u a) in
      let r2 = turns_view config history legal owned c passes before s1 r1 id v w here
      (record { number = refl; holds = refl; held = λ _. refl; top = λ _. refl; gathered = inl refl })
      (record {
        of = f.of;
        sees = f.sees;
        right = f.right;
        mine = f.mine;
        heard = λ _. (told.sees (inr live), (told.right (inr live)).1, (told.right (inr live)).0);
        opens = f.opens;
      })
      owner (moved_to owned r.owner r.log other id m its) others in
      subst (λ l. Rule record { words = s.words; homes = s.homes; views = l }) (set_comm s.views other id spent w ne) r2
