-- A name is given a slot once, and one that lost its slot never gets it back.
use Rattle.nvme_model.specs.Tickets
use Rattle.std.proofs.Common.{◌≡◌, ℕ, Bool, true, false, ◌||◌, [], ◌∷◌, ◌++◌, refl, sym}
use Rattle.std.proofs.Common.{ap, ◌∙◌, subst, Some, None, is_some, inl, inr, arith, length}
use Rattle.nvme_model.specs.Array.{has_block}
use Rattle.nvme_model.specs.History.{Past}
use Rattle.nvme_model.specs.Legal.{IsLegal}
use Rattle.nvme_model.specs.Placed.{effect}
use Rattle.nvme_model.specs.Queues.{published_entries}
use Rattle.nvme_model.specs.Slots.{Name, Swap, fetched_before, holder, in_area, name_of}
use Rattle.nvme_model.specs.declared.array.Range.{Range}
use Rattle.nvme_model.specs.declared.config.ConfigNumbers.{ConfigNumbers}
use Rattle.nvme_model.specs.declared.entry.BlockLine.{BlockLine}
use Rattle.nvme_model.specs.declared.entry.Entry.{Entry}
use Rattle.nvme_model.proofs.Placed.{effect_once}
use Rattle.nvme_model.proofs.Rules.{follows}
use Rattle.host_laws.proofs.Discipline.{InArea, has_area}
use Rattle.host_laws.proofs.Elements.{In, in_filter, same_some}
use Rattle.host_laws.proofs.Finds.{Came, came_later}
use Rattle.host_laws.proofs.Names.{zeros_unnamed}
use Rattle.host_laws.proofs.TicketsApart.{one_ticket}
use Rattle.host_laws.specs.Rules.{takeover_disciplined}
use Rattle.host_laws.specs.Takeovers.{giving, moves, moves_in}
use Rattle.host_laws.proofs.TakeoverChanges.{Change, change, change_effect}
use Rattle.host_laws.proofs.TakeoverDiscipline.{kept, kept_before, own_moves}
use Rattle.host_laws.proofs.Entries.{moves_later, moves_split, swap_moves, takeover_moves}
use Rattle.host_laws.proofs.Movers.{MoveTicket}
use Rattle.host_laws.proofs.UniqueNames.{fresh_one, fresh_same}

-- ---- a name is given a slot once

pub one_giver : (c : ConfigNumbers) (slots : Range) (past : Past) (k s : Swap)
    → takeover_disciplined c slots past ≡ true → In k (moves past) → In s (moves past) → k.claims ≡ true
    → s.claims ≡ true → k.name ≡ s.name
    → InArea slots k.lba → InArea slots s.lba → k ≡ s
one_giver c slots [] k s d i j a b e v w = absurd i
one_giver c slots (Entry.Publish p ∷ past) k s d i j a b e v w =
    let x = kept c slots past p d in
    let of = moves_in p.queue (length (published_entries past p.queue)) p.batch in
    let within = λ (y : Swap) (m : In y of) (z : InArea slots y.lba).
    in_filter (λ t. has_block slots t.lba) of y m (has_area slots y.lba z) in
    let before = λ (y : Swap) (m : In y (moves past)) (z : InArea slots y.lba).
    in_filter (λ t. has_block slots t.lba) (moves past) y m (has_area slots y.lba z) in
    elim (moves_split past p k i) [
      | inl n ↦ elim (moves_split past p s j) [
        | inl m ↦ fresh_same (own_moves slots past p) (in_area slots (moves past)) k s x.fresh (within k n v)
            (within s m w) a b (sym e)
        | inr m ↦ absurd (fresh_one (own_moves slots past p) (in_area slots (moves past)) k s x.fresh (within k n v)
            (before s m w) a b (sym e))
      ]
      | inr n ↦ elim (moves_split past p s j) [
        | inl m ↦ absurd (fresh_one (own_moves slots past p) (in_area slots (moves past)) s k x.fresh (within s m w)
            (before k n v) b a e)
        | inr m ↦ one_giver c slots past k s x.before n m a b e v w
      ]
    ]
one_giver c slots (Entry.Fetch p ∷ past) k s d i j a b e v w = one_giver c slots past k s d i j a b e v w
one_giver c slots (Entry.Grant p ∷ past) k s d i j a b e v w = one_giver c slots past k s d i j a b e v w
one_giver c slots (Entry.Block p ∷ past) k s d i j a b e v w = one_giver c slots past k s d i j a b e v w
one_giver c slots (Entry.Post p ∷ past) k s d i j a b e v w = one_giver c slots past k s d i j a b e v w
one_giver c slots (Entry.Reap p ∷ past) k s d i j a b e v w = one_giver c slots past k s d i j a b e v w

-- ---- whoever holds a slot was given it

-- the move that gave the slot at block l to this name, and its effect came
pub record Given (past : Past) (l : ℕ) (n : Name) : Type 0 where
  pub move : Swap
  pub there : In move (moves past)
  pub claims : move.claims ≡ true
  pub lba : move.lba ≡ l
  pub name : move.name ≡ n
  pub came : Came past move

given_later : (c : ConfigNumbers) (e : Entry) (past : Past) (l : ℕ) (n : Name) → IsLegal c (e ∷ past) → Given past l n
    → Given (e ∷ past) l n
given_later c e past l n h g =
    record {
      move = g.move;
      there = moves_later (e ∷ []) past g.move g.there;
      claims = g.claims;
      lba = g.lba;
      name = g.name;
      came = came_later c e past g.move h g.came;
    }

came_here : (past : Past) (b : BlockLine) (l : ℕ) (r : Swap) (x : Change past b l)
    → r.queue ≡ (Tickets.ticket past b.ticket).queue → r.number ≡ fetched_before past b.ticket
    → Came (Entry.Block b ∷ past) r
came_here past b l r x q n =
    record {
      ticket = b.ticket;
      some = x.some;
      known = x.known;
      queue = sym q;
      number = sym n;
      effect = ap is_some (change_effect past b l x);
    }

-- a Block that gives the slot is of such a move
given_here : (past : Past) (b : BlockLine) (l : ℕ) (n : Name) (x : Change past b l) → MoveTicket past b.ticket l
    → holder (Entry.Block b ∷ past) l ≡ Some n → Given (Entry.Block b ∷ past) l n
given_here past b l n x (inr t) o =
    let name = same_some t.takeover.name n (holder (Entry.Block b ∷ past) l) (ap name_of x.new ∙ t.bytes.name) o in
    record {
      move = giving t.takeover;
      there = takeover_moves past t.takeover t.there;
      claims = refl;
      lba = t.lba;
      name = name;
      came = came_here past b l (giving t.takeover) x t.queue t.number;
    }
given_here past b l n x (inl t) o = by_claim t.swap.claims refl
  where
    by_claim : (y : Bool) → t.swap.claims ≡ y → Given (Entry.Block b ∷ past) l n
    by_claim false e = absurd (zeros_unnamed n (sym (ap name_of (x.new ∙ (t.bytes.release e).1)) ∙ o))
    by_claim true e =
        record {
          move = t.swap;
          there = swap_moves past t.swap t.there;
          claims = e;
          lba = t.lba;
          name = same_some t.swap.name n (holder (Entry.Block b ∷ past) l) (ap name_of x.new ∙ (t.bytes.claim e).1) o;
          came = came_here past b l t.swap x t.queue t.number;
        }

pub given : (c : ConfigNumbers) (slots : Range) (past : Past) (l : ℕ) (n : Name) → IsLegal c past
    → takeover_disciplined c slots past ≡ true → InArea slots l → holder past l ≡ Some n → Given past l n
given c slots [] l n h d a o = absurd (zeros_unnamed n o)
given c slots (Entry.Block b ∷ past) l n h d a o =
    let before = (follows c past (Entry.Block b) h).before in
    elim (change c slots past b l h d a) [
      | inl e ↦ given_later c (Entry.Block b) past l n h
          (given c slots past l n before d a (sym (ap name_of e) ∙ o))
      | inr x ↦ given_here past b l n x x.ticket o
    ]
given c slots (Entry.Publish p ∷ past) l n h d a o =
    given_later c (Entry.Publish p) past l n h
    (given c slots past l n (follows c past (Entry.Publish p) h).before
    (kept_before c slots (Entry.Publish p) past d) a o)
given c slots (Entry.Fetch p ∷ past) l n h d a o =
    given_later c (Entry.Fetch p) past l n h (given c slots past l n (follows c past (Entry.Fetch p) h).before d a o)
given c slots (Entry.Grant p ∷ past) l n h d a o =
    given_later c (Entry.Grant p) past l n h (given c slots past l n (follows c past (Entry.Grant p) h).before d a o)
given c slots (Entry.Post p ∷ past) l n h d a o =
    given_later c (Entry.Post p) past l n h (given c slots past l n (follows c past (Entry.Post p) h).before d a o)
given c slots (Entry.Reap p ∷ past) l n h d a o =
    given_later c (Entry.Reap p) past l n h (given c slots past l n (follows c past (Entry.Reap p) h).before d a o)

-- ---- once it is lost, it never comes back

-- the move of a Block's ticket didn't have its effect before
not_before : (c : ConfigNumbers) (past : Past) (b : BlockLine) (l : ℕ) (r : Swap) → IsLegal c (Entry.Block b ∷ past)
    → (x : Change past b l) → r.queue ≡ (Tickets.ticket past b.ticket).queue → r.number ≡ fetched_before past b.ticket
    → Came past r → ⊥
not_before c past b l r h x q n k =
    let before = (follows c past (Entry.Block b) h).before in
    let same = one_ticket c past k.ticket b.ticket before k.some k.known x.some x.known (k.queue ∙ q) (k.number ∙ n) in
    let none = subst (λ (u : ℕ). effect past b.ticket u ≡ None) x.unit (effect_once c past b h x.effect) in
    let came = subst (λ (y : ℕ). is_some (effect past y 0) ≡ true) same k.effect in
    let f : false ≡ true = sym (ap is_some none) ∙ came in
    cc

-- a Block that gives a slot gives it to no name that was given it before
lost_one : (c : ConfigNumbers) (slots : Range) (past : Past) (b : BlockLine) (l : ℕ) (n : Name)
    → IsLegal c (Entry.Block b ∷ past) → takeover_disciplined c slots past ≡ true → InArea slots l
    → (x : Change past b l) → MoveTicket past b.ticket l → Given past l n
    → holder (Entry.Block b ∷ past) l ≡ Some n → ⊥
lost_one c slots past b l n h d a x (inr t) g o =
    let name = same_some t.takeover.name n (holder (Entry.Block b ∷ past) l) (ap name_of x.new ∙ t.bytes.name) o in
    let same = one_giver c slots past g.move (giving t.takeover) d g.there (takeover_moves past t.takeover t.there)
    g.claims refl (g.name ∙ sym name) (record { from = omega (arith, a.from, g.lba); to = omega (arith, a.to, g.lba) })
    (record { from = omega (arith, a.from, t.lba); to = omega (arith, a.to, t.lba) }) in
    not_before c past b l g.move h x (ap (λ (s : Swap). s.queue) same ∙ t.queue)
    (ap (λ (s : Swap). s.number) same ∙ t.number) g.came
lost_one c slots past b l n h d a x (inl t) g o = by_claim t.swap.claims refl
  where
    by_claim : (y : Bool) → t.swap.claims ≡ y → ⊥
    by_claim false e = zeros_unnamed n (sym (ap name_of (x.new ∙ (t.bytes.release e).1)) ∙ o)
    by_claim true e =
        let name = same_some t.swap.name n (holder (Entry.Block b ∷ past) l) (ap name_of x.new
        ∙ (t.bytes.claim e).1) o in
        let same = one_giver c slots past g.move t.swap d g.there (swap_moves past t.swap t.there) g.claims e
        (g.name ∙ sym name) (record { from = omega (arith, a.from, g.lba); to = omega (arith, a.to, g.lba) })
        (record { from = omega (arith, a.from, t.lba); to = omega (arith, a.to, t.lba) }) in
        not_before c past b l g.move h x (ap (λ (s : Swap). s.queue) same ∙ t.queue)
        (ap (λ (s : Swap). s.number) same ∙ t.number) g.came

-- a name that was given a slot, and doesn't hold it
pub record Lost (past : Past) (l : ℕ) (n : Name) : Type 0 where
  pub given : Given past l n
  pub lost : holder past l ≡ Some n → ⊥

lost_later : (c : ConfigNumbers) (slots : Range) (e : Entry) (past : Past) (l : ℕ) (n : Name) → IsLegal c (e ∷ past)
    → takeover_disciplined c slots past ≡ true → InArea slots l → Lost past l n → Lost (e ∷ past) l n
lost_later c slots (Entry.Block b) past l n h d a g =
    record {
      given = given_later c (Entry.Block b) past l n h g.given;
      lost = λ o. elim (change c slots past b l h d a) [
        | inl e ↦ g.lost (sym (ap name_of e) ∙ o)
        | inr x ↦ lost_one c slots past b l n h d a x x.ticket g.given o
      ];
    }
lost_later c slots (Entry.Publish p) past l n h d a g =
    record { given = given_later c (Entry.Publish p) past l n h g.given; lost = g.lost }
lost_later c slots (Entry.Fetch p) past l n h d a g =
    record { given = given_later c (Entry.Fetch p) past l n h g.given; lost = g.lost }
lost_later c slots (Entry.Grant p) past l n h d a g =
    record { given = given_later c (Entry.Grant p) past l n h g.given; lost = g.lost }
lost_later c slots (Entry.Post p) past l n h d a g =
    record { given = given_later c (Entry.Post p) past l n h g.given; lost = g.lost }
lost_later c slots (Entry.Reap p) past l n h d a g =
    record { given = given_later c (Entry.Reap p) past l n h g.given; lost = g.lost }

pub lost_on : (c : ConfigNumbers) (slots : Range) (later past : Past) (l : ℕ) (n : Name) → IsLegal c (later ++ past)
    → takeover_disciplined c slots (later ++ past) ≡ true → InArea slots l → Lost past l n → Lost (later ++ past) l n
lost_on c slots [] past l n h d a g = g
lost_on c slots (e ∷ later) past l n h d a g =
    let before = (follows c (later ++ past) e h).before in
    let kept = kept_before c slots e (later ++ past) d in
    lost_later c slots e (later ++ past) l n h kept a (lost_on c slots later past l n before kept a g)

-- a Block at which a name loses the slot
pub lost_at : (c : ConfigNumbers) (slots : Range) (past : Past) (b : BlockLine) (l : ℕ) (n m : Name)
    → IsLegal c (Entry.Block b ∷ past) → takeover_disciplined c slots past ≡ true → InArea slots l
    → holder past l ≡ Some n → holder (Entry.Block b ∷ past) l ≡ Some m → (n ≡ m → ⊥)
    → Lost (Entry.Block b ∷ past) l n
lost_at c slots past b l n m h d a o p apart =
    record {
      given = given_later c (Entry.Block b) past l n h
          (given c slots past l n (follows c past (Entry.Block b) h).before d a o);
      lost = λ q. apart (same_some n m (holder (Entry.Block b ∷ past) l) q p);
    }
