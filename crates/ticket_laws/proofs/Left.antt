-- The units that weren't opened are the cut of the blocks that are left.
use Rattle.std.proofs.Common.{◌≡◌, ℕ, zero, suc, ◌+◌, ◌-◌, ◌≤◌, Bool, true, false, ◌||◌, cond, List, [], ◌∷◌, length}
use Rattle.std.proofs.Common.{take, drop, refl, sym, ap, ap₂, ◌∙◌, subst, subst₂, Option, Some, None, is_none, inl, inr}
use Rattle.std.proofs.Common.{arith, eqb, ne_eqb, nat_le, le-leb, add-one, slice_get}
use Rattle.std.specs.List.{sum_by}
use Rattle.std.proofs.lemmas.List.Sums.{sum_by-cons}
use Rattle.std.proofs.lemmas.Bool.{cases_Bool, cases_lt, lt-leb}
use Rattle.plain_lemmas.proofs.Lists.{get_drop}
use Rattle.nvme_model.specs.declared.array.Range.{Range}
use Rattle.nvme_model.specs.declared.config.AtomicParameters.{AtomicParameters}
use Rattle.nvme_model.specs.declared.config.ConfigNumbers.{ConfigNumbers}
use Rattle.nvme_model.specs.declared.operation.Op.{Op}
use Rattle.nvme_model.specs.EntryBytes.{slba, block_count}
use Rattle.nvme_model.specs.Cut.{IsCut, cut}
use Rattle.nvme_model.specs.History.{Past}
use Rattle.nvme_model.specs.Tickets
use Rattle.nvme_model.specs.Tickets.{Ticket, first_fields}
use Rattle.nvme_model.specs.Operations.{op, units, units_by}
use Rattle.nvme_model.specs.Open.{grants_of, differed}
use Rattle.nvme_model.specs.Refusals.{next_unit, none_left}
use Rattle.ticket_laws.specs.Standing.{Standing, standing, had, remaining, blocks_left, next_of, without}
use Rattle.nvme_model.proofs.Cut.{cut-is, cut-unique}
use Rattle.nvme_model.proofs.StepCounts.{cut_sum}

-- the blocks of these ranges
abbrev pub blocks_of_all : List Range → ℕ
blocks_of_all rs = sum_by (λ r. r.blocks) rs

-- ---- a cut without its first ranges is a cut

cut_dropped : (g : ℕ) (u : AtomicParameters) (s n : ℕ) (rs : List Range) → IsCut u s n rs
    → IsCut u (s + blocks_of_all (take g rs)) (n - blocks_of_all (take g rs)) (drop g rs)
cut_dropped zero u s n rs h = subst₂ (λ (a b : ℕ). IsCut u a b rs) (plus s) (minus n) h
  where
    plus : (s : ℕ) → s ≡ s + 0
    plus s = omega arith

    minus : (n : ℕ) → n ≡ n - 0
    minus n = omega arith
cut_dropped (suc g) u s n [] h = omega (arith, h)
cut_dropped (suc g) u s n (r ∷ rs) h =
    let ih = cut_dropped g u (s + r.blocks) (n - r.blocks) rs h.4 in
    let sum = sum_by-cons (λ (x : Range). x.blocks) r (take g rs) in
    let a : s + r.blocks + blocks_of_all (take g rs) ≡ s + blocks_of_all (r ∷ take g rs) = omega (arith, sum) in
    let b : n - r.blocks - blocks_of_all (take g rs) ≡ n - blocks_of_all (r ∷ take g rs) = omega (arith, sum) in
    subst₂ (λ (x y : ℕ). IsCut u x y (drop g rs)) a b ih

sum_split : (g : ℕ) (rs : List Range) → blocks_of_all (take g rs) + blocks_of_all (drop g rs) ≡ blocks_of_all rs
sum_split zero rs = omega arith
sum_split (suc g) [] = refl
sum_split (suc g) (r ∷ rs) =
    omega (
      arith,
      sum_split g rs,
      sum_by-cons (λ (x : Range). x.blocks) r (take g rs),
      sum_by-cons (λ (x : Range). x.blocks) r rs,
    )

-- what is left of a cut
cut_left : (u : AtomicParameters) (s n g : ℕ)
    → drop g (cut u s n) ≡ cut u (s + blocks_of_all (take g (cut u s n))) (blocks_of_all (drop g (cut u s n)))
cut_left u s n g =
    let same : n - blocks_of_all (take g (cut u s n)) ≡ blocks_of_all (drop g (cut u s n)) =
    omega (arith, sum_split g (cut u s n), cut_sum u s n) in
    cut-unique u _ _ (drop g (cut u s n))
    (subst (λ (m : ℕ). IsCut u (s + blocks_of_all (take g (cut u s n))) m (drop g (cut u s n))) same
    (cut_dropped g u s n (cut u s n) (cut-is u s n)))

-- ---- the next unit

abbrev next_left : AtomicParameters → Option Op → ℕ → ℕ → ℕ → Type 0
next_left u o s n g =
    slice_get (units_by u o s n) g
    ≡ next_of u o (record {
      slba = s + blocks_of_all (take g (units_by u o s n));
      blocks = blocks_of_all (drop g (units_by u o s n));
    })

pair_next : (u : AtomicParameters) (s n g : ℕ) → 1 ≤ n → next_left u (Some Op.Pair) s n g
pair_next u s n zero l =
    let r : Range = record { slba = s; blocks = n } in
    let e : blocks_of_all (r ∷ []) ≡ n = omega (arith, sum_by-cons (λ (x : Range). x.blocks) r []) in
    let z : eqb n 0 ≡ false = ne_eqb n 0 (λ (q : n ≡ 0). omega (arith, q, l)) in
    let a : s ≡ s + 0 = omega arith in
    sym (ap (λ b. cond b None (Some (record { slba = s + 0; blocks = blocks_of_all (r ∷ []) })))
    (ap (λ m. eqb m 0) e ∙ z) ∙ (λ i. Some (record { slba = sym a i; blocks = e i })))
pair_next u s n (suc g) l = nothing g
  where
    nothing : (g : ℕ) → slice_get (units_by u (Some Op.Pair) s n) (suc g)
        ≡ next_of u (Some Op.Pair)
        (record {
          slba = s + blocks_of_all (take (suc g) (units_by u (Some Op.Pair) s n));
          blocks = blocks_of_all (drop (suc g) (units_by u (Some Op.Pair) s n));
        })
    nothing zero = refl
    nothing (suc g) = refl

cut_next : (u : AtomicParameters) (s n g : ℕ)
    → slice_get (cut u s n) g
    ≡ slice_get (cut u (s + blocks_of_all (take g (cut u s n))) (blocks_of_all (drop g (cut u s n)))) 0
cut_next u s n g = get_drop g (cut u s n) ∙ ap (λ rs. slice_get rs 0) (cut_left u s n g)

next_is : (u : AtomicParameters) (o : Option Op) (s n g : ℕ) → 1 ≤ n → next_left u o s n g
next_is u None s n g l = none g
  where
    none : (g : ℕ) → slice_get (units_by u None s n) g ≡ None
    none zero = refl
    none (suc g) = refl
next_is u (Some Op.Pair) s n g l = pair_next u s n g l
next_is u (Some Op.Read) s n g l = cut_next u s n g
next_is u (Some Op.Compare) s n g l = cut_next u s n g
next_is u (Some Op.Write) s n g l = cut_next u s n g
next_is u (Some Op.WriteZeroes) s n g l = cut_next u s n g

-- the unit that a Grant opens is the first of what is left
pub next_unit_left : (c : ConfigNumbers) (past : Past) (t : ℕ) → differed past t ≡ false
    → next_unit c past t ≡ next_of c.atomic (op (Tickets.ticket past t)) (blocks_left c (standing past t))
next_unit_left c past t d =
    let k = Tickets.ticket past t in
    next_is c.atomic (op k) (slba (first_fields k)) (block_count (first_fields k)) (grants_of past t) (omega arith)
    ∙ ap (λ b. next_of c.atomic (op k)
    (record {
      slba = slba (first_fields k) + had c (standing past t);
      blocks = cond b 0 (remaining c (standing past t));
    })) (sym d)

none_at : {X : Type 0} (xs : List X) (n : ℕ) → is_none (slice_get xs n) ≡ nat_le (length xs) n
none_at [] n = sym (le-leb 0 n (omega arith))
none_at (x ∷ xs) zero = sym (lt-leb (suc (length xs)) 0 (omega arith))
none_at (x ∷ xs) (suc n) = none_at xs n ∙ more (nat_le (length xs) n) (nat_le (suc (length xs)) (suc n)) refl refl
  where
    more : (a b : Bool) → nat_le (length xs) n ≡ a → nat_le (suc (length xs)) (suc n) ≡ b
        → nat_le (length xs) n ≡ nat_le (suc (length xs)) (suc n)
    more a b e f = elim (cases_lt n (length xs)) [
      | inl l ↦ lt-leb (length xs) n l ∙ sym (lt-leb (suc (length xs)) (suc n) (omega (arith, l)))
      | inr l ↦ le-leb (length xs) n l ∙ sym (le-leb (suc (length xs)) (suc n) (omega (arith, l)))
    ]

nothing_next : (u : AtomicParameters) (o : Option Op) (s : ℕ) → next_of u o (record { slba = s; blocks = 0 }) ≡ None
nothing_next u None s = refl
nothing_next u (Some Op.Pair) s = refl
nothing_next u (Some Op.Read) s = refl
nothing_next u (Some Op.Compare) s = refl
nothing_next u (Some Op.Write) s = refl
nothing_next u (Some Op.WriteZeroes) s = refl

-- no unit is left to open where nothing is left
pub none_left_is : (c : ConfigNumbers) (past : Past) (t : ℕ)
    → none_left c past t ≡ is_none (next_of c.atomic (op (Tickets.ticket past t)) (blocks_left c (standing past t)))
none_left_is c past t = elim (cases_Bool (differed past t)) [
  | inl d ↦ or_any (nat_le (length (units c k)) (grants_of past t)) (differed past t) d
      ∙ sym (ap is_none (ap (λ b.
      next_of c.atomic (op k) (record {
        slba = slba (first_fields k) + had c (standing past t);
        blocks = cond b 0 (remaining c (standing past t));
      })) d
      ∙ nothing_next c.atomic (op k) (slba (first_fields k) + had c (standing past t))))
  | inr d ↦ ap (λ b. nat_le (length (units c k)) (grants_of past t) || b) d
      ∙ or_none (nat_le (length (units c k)) (grants_of past t))
      ∙ sym (none_at (units c k) (grants_of past t)) ∙ ap is_none (next_unit_left c past t d)
]
  where
    k : Ticket
    k = Tickets.ticket past t

    or_any : (x y : Bool) → y ≡ true → (x || y) ≡ true
    or_any true y e = refl
    or_any false y e = e

    or_none : (x : Bool) → (x || false) ≡ x
    or_none true = refl
    or_none false = refl

-- ---- after the next unit is opened

-- the blocks of one more of them
pub take_one_more : (g : ℕ) (r : Range) (rs : List Range) → slice_get rs g ≡ Some r
    → blocks_of_all (take (g + 1) rs) ≡ blocks_of_all (take g rs) + r.blocks
take_one_more g r rs e = ap (λ n. blocks_of_all (take n rs)) (add-one g) ∙ go g rs e
  where
    some_inj : (x : Range) → Some x ≡ Some r → x ≡ r
    some_inj x h = cc

    go : (g : ℕ) (rs : List Range) → slice_get rs g ≡ Some r
        → blocks_of_all (take (suc g) rs) ≡ blocks_of_all (take g rs) + r.blocks
    go g [] e = absurd (let f : None ≡ Some r = e in cc)
    go zero (x ∷ rs) e = omega
        (arith, sum_by-cons (λ (y : Range). y.blocks) x [], ap (λ (y : Range). y.blocks) (some_inj x e))
    go (suc g) (x ∷ rs) e = omega (
      arith,
      go g rs e,
      sum_by-cons (λ (y : Range). y.blocks) x (take (suc g) rs),
      sum_by-cons (λ (y : Range). y.blocks) x (take g rs),
    )

-- what is left then
pub left_after : (c : ConfigNumbers) (s s' : Standing) (r : Range) → s'.ticket ≡ s.ticket → s'.opened ≡ s.opened + 1
    → s'.differs ≡ s.differs → s.differs ≡ false
    → slice_get (units c s.ticket) s.opened ≡ Some r → blocks_left c s' ≡ without (blocks_left c s) r.blocks
left_after c s s' r k o d n e =
    let us = units c s.ticket in
    let h : had c s' ≡ had c s + r.blocks = ap₂ (λ (x : Ticket) (y : ℕ). blocks_of_all (take y (units c x))) k o
    ∙ take_one_more s.opened r us e in
    let m : remaining c s' ≡ blocks_of_all (drop (s.opened + 1) us) =
    ap₂ (λ (x : Ticket) (y : ℕ). blocks_of_all (drop y (units c x))) k o in
    let a : slba (first_fields s'.ticket) + had c s' ≡ slba (first_fields s.ticket) + had c s + r.blocks =
    (λ i. slba (first_fields (k i)) + h i) ∙ sums (slba (first_fields s.ticket)) (had c s) r.blocks in
    let b : remaining c s' ≡ remaining c s - r.blocks =
    omega (arith, m, take_one_more s.opened r us e, sum_split s.opened us, sum_split (s.opened + 1) us) in
    (λ i. record {
      slba = a i;
      blocks = (ap (λ x. cond x 0 (remaining c s')) (d ∙ n) ∙ b
          ∙ sym (ap (λ x. cond x 0 (remaining c s) - r.blocks) n)) i;
    })
  where
    sums : (a b d : ℕ) → a + (b + d) ≡ a + b + d
    sums a b d = omega arith

-- ---- where the next unit begins

cut_starts : (u : AtomicParameters) (s n : ℕ) (rs : List Range) (x : Range) → IsCut u s n rs → slice_get rs 0 ≡ Some x
    → (x.slba ≡ s) × (x.blocks ≤ n)
cut_starts u s n [] x h e = absurd (let f : None ≡ Some x = e in cc)
cut_starts u s n (r ∷ rs) x h e =
    (ap (λ (y : Range). y.slba) (sym (some_inj e)) ∙ h.0, subst (λ (y : Range). y.blocks ≤ n) (some_inj e) h.1)
  where
    some_inj : Some r ≡ Some x → r ≡ x
    some_inj h = cc

-- it begins where what is left begins, and is no longer
pub next_starts : (u : AtomicParameters) (o : Option Op) (r x : Range) → next_of u o r ≡ Some x
    → (x.slba ≡ r.slba) × (x.blocks ≤ r.blocks)
next_starts u None r x e = absurd cc
next_starts u (Some Op.Pair) r x e = go (eqb r.blocks 0) e
  where
    some_inj : Some r ≡ Some x → r ≡ x
    some_inj h = cc

    go : (b : Bool) → cond b None (Some r) ≡ Some x → (x.slba ≡ r.slba) × (x.blocks ≤ r.blocks)
    go true e = absurd cc
    go false e = let same = some_inj e in
        (ap (λ (y : Range). y.slba) (sym same), subst (λ (y : Range). y.blocks ≤ r.blocks) same (omega arith))
next_starts u (Some Op.Read) r x e = cut_starts u r.slba r.blocks (cut u r.slba r.blocks) x (cut-is u r.slba r.blocks) e
next_starts u (Some Op.Compare) r x e =
    cut_starts u r.slba r.blocks (cut u r.slba r.blocks) x (cut-is u r.slba r.blocks) e
next_starts u (Some Op.Write) r x e =
    cut_starts u r.slba r.blocks (cut u r.slba r.blocks) x (cut-is u r.slba r.blocks) e
next_starts u (Some Op.WriteZeroes) r x e =
    cut_starts u r.slba r.blocks (cut u r.slba r.blocks) x (cut-is u r.slba r.blocks) e
