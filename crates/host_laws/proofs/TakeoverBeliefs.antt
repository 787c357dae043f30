-- Whoever is still believed of a slot is its holder.
use Rattle.nvme_model.specs.Tickets
use Rattle.std.proofs.Common.{◌≡◌, ℕ, suc, Bool, true, false, not, ◌&&◌, [], ◌∷◌, ◌++◌, refl, sym, ap}
use Rattle.std.proofs.Common.{◌∙◌, subst, Some, inl, inr, arith, eq-eqb, eqb, eqb-true}
use Rattle.std.proofs.lemmas.Bool.{and_from, and_parts, not-true}
use Rattle.nvme_model.specs.History.{Past}
use Rattle.nvme_model.specs.Legal.{IsLegal}
use Rattle.nvme_model.specs.Slots.{Name, Swap, holder, name_of, reaped_success, releases, same_name, swaps}
use Rattle.nvme_model.specs.Verdict.{taken_entries}
use Rattle.nvme_model.specs.declared.array.Range.{Range}
use Rattle.nvme_model.specs.declared.config.ConfigNumbers.{ConfigNumbers}
use Rattle.nvme_model.specs.declared.entry.BlockLine.{BlockLine}
use Rattle.nvme_model.specs.declared.entry.Entry.{Entry}
use Rattle.nvme_model.proofs.Rules.{follows}
use Rattle.nvme_model.proofs.Cut.{clash}
use Rattle.host_laws.specs.Calls.{PairSwaps}
use Rattle.host_laws.proofs.Calls.{takes_from}
use Rattle.host_laws.proofs.Discipline.{InArea, released, released_before}
use Rattle.host_laws.proofs.Elements.{In, any_in, each_in, none_in, same_some}
use Rattle.host_laws.proofs.Names.{name_eq, name_same, zeros_unnamed}
use Rattle.host_laws.proofs.PairCalls.{pair_swaps}
use Rattle.host_laws.proofs.Successes.{success_reaped}
use Rattle.host_laws.proofs.SwapTickets.{SwapTicket, on_one}
use Rattle.host_laws.proofs.TicketsApart.{taken_some}
use Rattle.host_laws.proofs.Won.{won}
use Rattle.host_laws.specs.Rules.{takeover_disciplined}
use Rattle.host_laws.specs.Takeovers.{Takeover, is_kept, is_taken, moves, still_believed, takeovers}
use Rattle.host_laws.proofs.TakeoverChanges.{Change, change, change_yes}
use Rattle.host_laws.proofs.TakeoverDiscipline.{kept_before}
use Rattle.host_laws.proofs.Effects.{takes_over}
use Rattle.host_laws.proofs.Entries.{TakeoverOf, move_cases, takeovers_are}
use Rattle.host_laws.proofs.Movers.{MoveTicket, TakeoverTicket}
use Rattle.host_laws.proofs.Taking.{taken_from, took_from, untaken_before}

-- ---- a holder stays until a release of its name, or a takeover of it

-- a Block that is a takeover's effect
pub taken_here : (past : Past) (b : BlockLine) (l : ℕ) (n : Name) (x : Change past b l)
    (t : TakeoverTicket past b.ticket l) → holder past l ≡ Some n → is_taken (Entry.Block b ∷ past) l n ≡ true
taken_here past b l n x t h =
    let same = same_some n t.takeover.dead (holder past l) h (ap name_of x.old ∙ t.bytes.dead) in
    let some = taken_some (Tickets.ticket past b.ticket).verdict in
    taken_from (Entry.Block b ∷ past) l n (record {
      takeover = t.takeover;
      there = t.there;
      lba = t.lba;
      dead = sym same;
      took = took_from (Entry.Block b ∷ past) t.takeover.queue t.takeover.number (record {
        ticket = b.ticket;
        takes = takes_from (Entry.Block b ∷ past) b.ticket t.takeover.queue t.takeover.number
            (taken_entries (Tickets.ticket past b.ticket).verdict) x.some x.known (sym t.queue) refl
            (omega (arith, t.number)) (omega (arith, t.number, some));
        pair = x.op;
        yes = change_yes past b l x;
      });
    })

by_swap : (past : Past) (b : BlockLine) (l : ℕ) (n : Name) (x : Change past b l) (t : SwapTicket past b.ticket l)
    → holder past l ≡ Some n → released past l n ≡ false → holder (Entry.Block b ∷ past) l ≡ Some n
by_swap past b l n x t h r = by_claim t.swap.claims refl
  where
    by_claim : (y : Bool) → t.swap.claims ≡ y → holder (Entry.Block b ∷ past) l ≡ Some n
    by_claim true e = absurd (zeros_unnamed n (sym (ap name_of (x.old ∙ (t.bytes.claim e).0)) ∙ h))
    by_claim false e =
        let same = same_some n t.swap.name (holder past l) h (ap name_of x.old ∙ (t.bytes.release e).0) in
        let s = t.swap in
        let none = none_in (λ w. releases w l n) (swaps past) s r t.there in
        clash (not s.claims && eqb s.lba l && same_name s.name n)
        (and_from _ _ (and_from _ _ (ap not e) (eq-eqb s.lba l t.lba)) (name_same s.name n (sym same))) none

held_change : (past : Past) (b : BlockLine) (l : ℕ) (n : Name) (x : Change past b l) → MoveTicket past b.ticket l
    → holder past l ≡ Some n → released past l n ≡ false → is_taken (Entry.Block b ∷ past) l n ≡ false
    → holder (Entry.Block b ∷ past) l ≡ Some n
held_change past b l n x (inl t) h r u = by_swap past b l n x t h r
held_change past b l n x (inr t) h r u = clash (is_taken (Entry.Block b ∷ past) l n) (taken_here past b l n x t h) u

held_one : (c : ConfigNumbers) (slots : Range) (e : Entry) (past : Past) (l : ℕ) (n : Name) → IsLegal c (e ∷ past)
    → takeover_disciplined c slots past ≡ true → InArea slots l → released past l n ≡ false
    → is_taken (e ∷ past) l n ≡ false → holder past l ≡ Some n → holder (e ∷ past) l ≡ Some n
held_one c slots (Entry.Block b) past l n h d a r u o =
    elim (change c slots past b l h d a) [
      | inl e ↦ ap name_of e ∙ o
      | inr x ↦ held_change past b l n x x.ticket o r u
    ]
held_one c slots (Entry.Publish b) past l n h d a r u o = o
held_one c slots (Entry.Fetch b) past l n h d a r u o = o
held_one c slots (Entry.Grant b) past l n h d a r u o = o
held_one c slots (Entry.Post b) past l n h d a r u o = o
held_one c slots (Entry.Reap b) past l n h d a r u o = o

pub held_on : (c : ConfigNumbers) (slots : Range) (later past : Past) (l : ℕ) (n : Name) → IsLegal c (later ++ past)
    → takeover_disciplined c slots (later ++ past) ≡ true → InArea slots l → released (later ++ past) l n ≡ false
    → is_taken (later ++ past) l n ≡ false → holder past l ≡ Some n → holder (later ++ past) l ≡ Some n
held_on c slots [] past l n h d a r u o = o
held_on c slots (e ∷ later) past l n h d a r u o =
    let before = (follows c (later ++ past) e h).before in
    let kept = kept_before c slots e (later ++ past) d in
    let none = released_before e (later ++ past) l n r in
    let untaken = untaken_before c e (later ++ past) l n h u in
    held_one c slots e (later ++ past) l n h kept a none u
    (held_on c slots later past l n before kept a none untaken o)

-- ---- whoever is still believed

-- what its own host believes
pub record Kept (c : ConfigNumbers) (past : Past) (l : ℕ) (n : Name) : Type 0 where
  pub move : Swap
  pub there : In move (moves past)
  pub claims : move.claims ≡ true
  pub lba : move.lba ≡ l
  pub name : move.name ≡ n
  pub reaped : reaped_success c past move.queue (suc move.number) ≡ true
  pub unreleased : released past l n ≡ false

pub kept_parts : (c : ConfigNumbers) (past : Past) (l : ℕ) (n : Name) → is_kept c past l n ≡ true → Kept c past l n
kept_parts c past l n h =
    let a = and_parts _ _ h in
    let s = any_in (λ s. s.claims && eqb s.lba l && same_name s.name n && reaped_success c past s.queue (suc s.number))
    (moves past) a.0 in
    let b = and_parts _ _ s.2 in
    let d = and_parts _ _ b.0 in
    let e = and_parts _ _ d.0 in
    record {
      move = s.0;
      there = s.1;
      claims = e.0;
      lba = eqb-true _ _ e.1;
      name = name_eq s.0.name n d.1;
      reaped = b.1;
      unreleased = not-true _ a.1;
    }

-- from its effect on the name held the slot
pub record HeldFrom (past : Past) (l : ℕ) (n : Name) : Type 0 where
  pub later : Past
  pub from : Past
  pub is : past ≡ later ++ from
  pub holds : holder from l ≡ Some n

-- the pair of a takeover whose success was reaped
pub takeover_swaps : (c : ConfigNumbers) (past : Past) (w : Takeover) → IsLegal c past → In w (takeovers past)
    → reaped_success c past w.queue (suc w.number) ≡ true → PairSwaps past w.queue w.number
takeover_swaps c past w h i r =
    let s = success_reaped c past w.queue (suc w.number) h r in
    let g = (each_in (TakeoverOf past) (takeovers past) w (takeovers_are past) i).entries in
    pair_swaps c past w.queue w.number s.post g.new h g.second (on_one g.old g.new g.pair).second s.reaped s.says

pub held_from : (c : ConfigNumbers) (past : Past) (l : ℕ) (n : Name) → IsLegal c past → (k : Kept c past l n)
    → HeldFrom past l n
held_from c past l n h k = elim (move_cases past k.move k.there) [
  | inl i ↦
      let w = won c past k.move h i k.reaped in
      record {
        later = w.later;
        from = Entry.Block w.block ∷ w.before;
        is = w.is;
        holds = subst (λ (i : ℕ). holder (Entry.Block w.block ∷ w.before) i ≡ Some n) k.lba
            ((w.bytes.claim k.claims).1 ∙ ap Some k.name);
      }
  | inr i ↦
      let s = takeover_swaps c past i.0 h i.1
      (subst (λ (m : Swap). reaped_success c past m.queue (suc m.number) ≡ true) i.2 k.reaped) in
      let w = takes_over c past i.0 h i.1 s in
      record {
        later = w.later;
        from = Entry.Block w.block ∷ w.before;
        is = w.is;
        holds = subst (λ (i : ℕ). holder (Entry.Block w.block ∷ w.before) i ≡ Some n)
            (ap (λ (m : Swap). m.lba) (sym i.2) ∙ k.lba)
            (w.to ∙ ap Some (ap (λ (m : Swap). m.name) (sym i.2) ∙ k.name));
      }
]

pub believed_holds : (c : ConfigNumbers) (slots : Range) (past : Past) (l : ℕ) (n : Name) → IsLegal c past
    → takeover_disciplined c slots past ≡ true → InArea slots l → still_believed c past l n ≡ true
    → holder past l ≡ Some n
believed_holds c slots past l n h d a b =
    let p = and_parts (is_kept c past l n) (not (is_taken past l n)) b in
    let k = kept_parts c past l n p.0 in
    let w = held_from c past l n h k in
    subst (λ (x : Past). holder x l ≡ Some n) (sym w.is)
    (held_on c slots w.later w.from l n (subst (λ (x : Past). IsLegal c x) w.is h)
    (subst (λ (x : Past). takeover_disciplined c slots x ≡ true) w.is d) a
    (subst (λ (x : Past). released x l n ≡ false) w.is k.unreleased)
    (subst (λ (x : Past). is_taken x l n ≡ false) w.is (not-true _ p.1)) w.holds)

-- so no two names are believed of one slot
pub one_believed : (c : ConfigNumbers) (slots : Range) (past : Past) (l : ℕ) (n m : Name) → IsLegal c past
    → takeover_disciplined c slots past ≡ true → InArea slots l → still_believed c past l n ≡ true
    → still_believed c past l m ≡ true → n ≡ m
one_believed c slots past l n m h d a x y =
    same_some n m (holder past l) (believed_holds c slots past l n h d a x) (believed_holds c slots past l m h d a y)
