-- A Read's data, block by block, are the values at its effects.
use Rattle.nvme_model.specs.Tickets
use Rattle.std.proofs.Common.{◌≡◌, ℕ, zero, suc, ◌+◌, ◌-◌, ◌*◌, ◌≤◌, ◌<◌, Bool, true, false, ◌&&◌, cond, List, [], ◌∷◌}
use Rattle.std.proofs.Common.{◌++◌}
use Rattle.std.proofs.Common.{append_assoc, arith, drop, is_some, length, length-append, refl, slice_get, subst, sym}
use Rattle.std.proofs.Common.{take, ap}
use Rattle.std.proofs.Common.{◌∙◌, Option, Some, None, inl, inr, leb-true, ltb-true, nat_le, nat_lt}
use Rattle.std.specs.List.{flat_map}
use Rattle.std.proofs.lemmas.Bool.{and_parts, cases_eq}
use Rattle.std.proofs.lemmas.List.{length-replicate}
use Rattle.nvme_model.specs.Array.{blocks_from, has_block}
use Rattle.nvme_model.specs.Cut.{IsCut}
use Rattle.nvme_model.specs.EntryBytes.{block_count, slba}
use Rattle.nvme_model.specs.History.{Past}
use Rattle.nvme_model.specs.Legal.{IsLegal}
use Rattle.nvme_model.specs.Open.{unit_range}
use Rattle.nvme_model.specs.Operations.{has_write, op, units, units_by, write_data}
use Rattle.nvme_model.specs.Owed.{contents_at, numbered_units, read_data_by}
use Rattle.nvme_model.specs.Placed.{effect}
use Rattle.nvme_model.specs.Tickets.{Ticket, command, first_fields}
use Rattle.nvme_model.specs.Value.{value, writes}
use Rattle.nvme_model.specs.declared.array.Range.{Range}
use Rattle.nvme_model.specs.declared.config.AtomicParameters.{AtomicParameters}
use Rattle.nvme_model.specs.declared.config.ConfigNumbers.{ConfigNumbers}
use Rattle.nvme_model.specs.declared.entry.Entry.{Entry}
use Rattle.nvme_model.specs.declared.operation.Op.{Op}
use Rattle.nvme_model.proofs.Beginnings.{earlier}
use Rattle.nvme_model.proofs.Checked.{ticket_checked}
use Rattle.nvme_model.proofs.Cut.{clash, cut-is}
use Rattle.nvme_model.proofs.Lists.{each_get}
use Rattle.nvme_model.proofs.Rules.{follows}
use Rattle.ticket_laws.proofs.Lengths.{Within, units_lie, written_length}
use Rattle.host_laws.proofs.Elements.{same_some}
use Rattle.host_laws.proofs.Later.{block_facts, effect_at}
use Rattle.trace.specs.Observed.{observed}
use Rattle.trace.specs.declared.seen.ReapedLine.{ReapedLine}
use Rattle.refutation.specs.Told.{told_ticket, told_units}
use Rattle.refutation.proofs.Answered.{DoneCommand, TicketOf}
use Rattle.refutation.proofs.ToldTickets.{same_units, unit_inside, unit_of_entry}

-- ---- a block has 512 bytes

some_write : (o : Option Op) → has_write o ≡ true → is_some o ≡ true
some_write (Some o) w = refl
some_write None w = clash false w refl

pub value_length : (c : ConfigNumbers) (past : Past) (l : ℕ) → IsLegal c past → length (value past l) ≡ 512
value_length c [] l h = let z : ℕ = 0 in length-replicate 512 z
value_length c (Entry.Block b ∷ past) l h =
    let before = (follows c past (Entry.Block b) h).before in
    go (b.effect && has_block (unit_range past b.ticket b.unit) l
    && writes (value past) (Tickets.ticket past b.ticket) (unit_range past b.ticket b.unit)) refl before
    (value_length c past l before)
  where
    k : Ticket
    k = Tickets.ticket past b.ticket

    r : Range
    r = unit_range past b.ticket b.unit

    written : (b.effect && has_block r l && writes (value past) k r) ≡ true → IsLegal c past
        → length (write_data k l) ≡ 512
    written e before =
        let x = and_parts (b.effect && has_block r l) (writes (value past) k r) e in
        let y = and_parts (nat_le r.slba l) (nat_lt l (r.slba + r.blocks)) (and_parts b.effect (has_block r l) x.0).1 in
        let w = (and_parts (has_write (op k)) _ x.1).0 in
        let inside = each_get (Within (slba (first_fields k)) (block_count (first_fields k))) (units c k) b.unit r
        (units_lie c.atomic (op k) (slba (first_fields k)) (block_count (first_fields k)))
        (block_facts c past b h).range in
        let low = leb-true r.slba l y.0 in
        let high = ltb-true l (r.slba + r.blocks) y.1 in
        written_length c k l (ticket_checked c past b.ticket before (some_write (op k) w)) w
        (omega (arith, low, inside.low)) (omega (arith, high, inside.high))

    go : (x : Bool) → (b.effect && has_block r l && writes (value past) k r) ≡ x → IsLegal c past
        → length (value past l) ≡ 512 → length (cond x (write_data k l) (value past l)) ≡ 512
    go true e before ih = written e before
    go false e before ih = ih
value_length c (Entry.Publish e ∷ past) l h = value_length c past l (follows c past (Entry.Publish e) h).before
value_length c (Entry.Fetch e ∷ past) l h = value_length c past l (follows c past (Entry.Fetch e) h).before
value_length c (Entry.Grant e ∷ past) l h = value_length c past l (follows c past (Entry.Grant e) h).before
value_length c (Entry.Post e ∷ past) l h = value_length c past l (follows c past (Entry.Post e) h).before
value_length c (Entry.Reap e ∷ past) l h = value_length c past l (follows c past (Entry.Reap e) h).before

-- ---- the blocks of a range behind one another

take_front : (xs ys : List ℕ) (n : ℕ) → length xs ≡ n → take n (xs ++ ys) ≡ xs
take_front [] ys zero e = refl
take_front [] ys (suc n) e = absurd (omega (arith, e))
take_front (x ∷ xs) ys zero e = absurd (omega (arith, e))
take_front (x ∷ xs) ys (suc n) e = ap (λ (l : List ℕ). x ∷ l) (take_front xs ys n (omega (arith, e)))

drop_front : (xs ys : List ℕ) (n m : ℕ) → n ≡ length xs + m → drop n (xs ++ ys) ≡ drop m ys
drop_front [] ys n m e = let same : n ≡ m = omega (arith, e) in ap (λ (i : ℕ). drop i ys) same
drop_front (x ∷ xs) ys zero m e = absurd (omega (arith, e))
drop_front (x ∷ xs) ys (suc n) m e = drop_front xs ys n m (omega (arith, e))

run_length : (f : ℕ → List ℕ) (s n : ℕ) → ((l : ℕ) → length (f l) ≡ 512)
    → length (flat_map f (blocks_from s n)) ≡ 512 * n
run_length f s zero h = refl
run_length f s (suc n) h =
    omega (arith, length-append (f s) (flat_map f (blocks_from (suc s) n)), h s, run_length f (suc s) n h)

run_block : (f : ℕ → List ℕ) (s n l : ℕ) (rest : List ℕ) → ((i : ℕ) → length (f i) ≡ 512) → s ≤ l → l < s + n
    → take 512 (drop (512 * (l - s)) (flat_map f (blocks_from s n) ++ rest)) ≡ f l
run_block f s zero l rest h a b = absurd (omega (arith, a, b))
run_block f s (suc n) l rest h a b =
    let more = flat_map f (blocks_from (suc s) n) in
    ap (λ (xs : List ℕ). take 512 (drop (512 * (l - s)) xs)) (append_assoc (f s) more rest)
    ∙ elim (cases_eq l s) [
      | inl e ↦
          let none : 512 * (l - s) ≡ 0 = omega (arith, e) in
          ap (λ (i : ℕ). take 512 (drop i (f s ++ (more ++ rest)))) none
          ∙ take_front (f s) (more ++ rest) 512 (h s) ∙ ap f (sym e)
      | inr e ↦
          let first = h s in
          let part : 512 * (l - s) ≡ length (f s) + 512 * (l - suc s) = omega (arith, e, a, first) in
          ap (take 512) (drop_front (f s) (more ++ rest) (512 * (l - s)) (512 * (l - suc s)) part)
          ∙ run_block f (suc s) n l rest h (omega (arith, e, a)) (omega (arith, b))
    ]

-- ---- the units of a cut behind one another

cut_above : (a : AtomicParameters) (s n i : ℕ) (us : List Range) (x : Range) → IsCut a s n us
    → slice_get us i ≡ Some x → s ≤ x.slba
cut_above a s n i [] x h e = absurd (let f : None ≡ Some x = e in cc)
cut_above a s n zero (y ∷ us) x h e =
    let same = same_some y x (Some y) refl e in
    omega (arith, h.0, ap (λ (r : Range). r.slba) same)
cut_above a s n (suc i) (y ∷ us) x h e = omega (arith, cut_above a (s + y.blocks) (n - y.blocks) i us x h.4 e)

abbrev joined : (ℕ → ℕ → List ℕ) → ℕ → List Range → List ℕ
joined g k us = flat_map (λ u. flat_map (g u.0) (blocks_from u.1.slba u.1.blocks)) (numbered_units k us)

units_block : (g : ℕ → ℕ → List ℕ) (a : AtomicParameters) (s n k i l : ℕ) (us : List Range) (x : Range) → IsCut a s n us
    → ((m : ℕ) (y : Range) → slice_get us m ≡ Some y → (b : ℕ) → length (g (k + m) b) ≡ 512)
    → slice_get us i ≡ Some x → x.slba ≤ l → l < x.slba + x.blocks
    → take 512 (drop (512 * (l - s)) (joined g k us)) ≡ g (k + i) l
units_block g a s n k i l [] x h f e low high = absurd (let z : None ≡ Some x = e in cc)
units_block g a s n k zero l (y ∷ us) x h f e low high =
    let same = same_some y x (Some y) refl e in
    let at : k + 0 ≡ k = omega arith in
    let len : (b : ℕ) → length (g k b) ≡ 512 = λ b. subst (λ (j : ℕ). length (g j b) ≡ 512) at (f 0 y refl b) in
    ap (λ (j : ℕ). take 512 (drop (512 * (l - j)) (joined g k (y ∷ us)))) (sym h.0)
    ∙ run_block (g k) y.slba y.blocks l (joined g (suc k) us) len
    (omega (arith, low, ap (λ (r : Range). r.slba) same))
    (omega (arith, high, ap (λ (r : Range). r.slba) same, ap (λ (r : Range). r.blocks) same))
    ∙ ap (λ (j : ℕ). g j l) (sym at)
units_block g a s n k (suc i) l (y ∷ us) x h f e low high =
    let at : k + 0 ≡ k = omega arith in
    let next : suc k + i ≡ k + suc i = omega arith in
    let len : (b : ℕ) → length (g k b) ≡ 512 = λ b. subst (λ (j : ℕ). length (g j b) ≡ 512) at (f 0 y refl b) in
    let above = cut_above a (s + y.blocks) (n - y.blocks) i us x h.4 e in
    let first = run_length (g k) y.slba y.blocks len in
    let part : 512 * (l - s) ≡ length (flat_map (g k) (blocks_from y.slba y.blocks)) + 512 * (l - (s + y.blocks)) =
    omega (arith, first, above, low) in
    ap (take 512) (drop_front (flat_map (g k) (blocks_from y.slba y.blocks)) (joined g (suc k) us) (512 * (l - s))
    (512 * (l - (s + y.blocks))) part)
    ∙ units_block g a (s + y.blocks) (n - y.blocks) (suc k) i l us x h.4
    (λ m z q b. subst (λ (j : ℕ). length (g j b) ≡ 512) (omega arith) (f (suc m) z q b)) e low high
    ∙ ap (λ (j : ℕ). g j l) next

-- ---- what a Read found

pub read_block : (c : ConfigNumbers) (past : Past) (q j u l : ℕ) (r : ReapedLine) (x : Range) (before : Past)
    (k : TicketOf c past q j) → DoneCommand c past q j r k → IsLegal c past
    → op (told_ticket (observed c past) q j) ≡ Some Op.Read
    → slice_get (told_units c (observed c past) q j) u ≡ Some x → effect past k.ticket u ≡ Some before
    → x.slba ≤ l → l < x.slba + x.blocks
    → take 512 (drop (512 * (l - slba (first_fields (told_ticket (observed c past) q j)))) r.payload) ≡ value before l
read_block c past q j u l r x before k d h o e f low high =
    let m = told_ticket (observed c past) q j in
    let t = k.ticket in
    let n = Tickets.ticket past t in
    let same = unit_inside c (observed c past) q j u x e in
    let us = units c m in
    let s = slba (first_fields m) in
    let does : op n ≡ Some Op.Read = k.alike.op ∙ o in
    let all : r.payload ≡ joined (λ i. contents_at (effect past t i)) 0 us =
    d.reads o ∙ (ap (read_data_by c past t) does
    ∙ ap (joined (λ i. contents_at (effect past t i)) 0) (same_units c n m k.alike)) in
    let cut : IsCut c.atomic s (block_count (first_fields m)) us =
    subst (λ (p : Option Op). IsCut c.atomic s (block_count (first_fields m))
    (units_by c.atomic p s (block_count (first_fields m)))) (sym o)
    (cut-is c.atomic s (block_count (first_fields m))) in
    let zero_u : 0 + u ≡ u = omega arith in
    ap (λ (p : List ℕ). take 512 (drop (512 * (l - s)) p)) all
    ∙ units_block (λ i. contents_at (effect past t i)) c.atomic s (block_count (first_fields m)) 0 u l us x cut
    (λ i y g b. full i b (d.effects i y (ap (λ (xs : List Range). slice_get xs i) same ∙ g)))
    (unit_of_entry c (observed c past) q j u x e) low high
    ∙ ap (λ (i : ℕ). contents_at (effect past t i) l) zero_u
    ∙ ap (λ (p : Option Past). contents_at p l) f
  where
    full : (i b : ℕ) → (before : Past) × (effect past k.ticket i ≡ Some before)
        → length (contents_at (effect past k.ticket (0 + i)) b) ≡ 512
    full i b w =
        let at = effect_at past k.ticket i w.0 w.1 in
        let legal = earlier c at.later (Entry.Block at.block ∷ w.0) (subst (λ (p : Past). IsLegal c p) at.is h) in
        let z : 0 + i ≡ i = omega arith in
        ap (λ (n : ℕ). length (contents_at (effect past k.ticket n) b)) z
        ∙ ap (λ (p : Option Past). length (contents_at p b)) w.1
        ∙ value_length c w.0 b (follows c w.0 (Entry.Block at.block) legal).before
