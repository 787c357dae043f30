-- What each step does to where the tickets stand.
use Rattle.std.proofs.Common.{◌≡◌, ◌≢◌, ℕ, ◌+◌, Bool, true, false, not, ◌&&◌, ◌||◌, cond, List, [], ◌∷◌, ◌++◌, length}
use Rattle.std.proofs.Common.{option_map, refl, sym, ap, ◌∙◌, inl, inr, ◌⊎◌, arith, eqb, eqb-true, eq-eqb, ne_eqb}
use Rattle.std.proofs.Common.{add-one, ltb, Option, Some, None}
use Rattle.std.specs.List.{filter, find}
use Rattle.std.proofs.lemmas.List.{append-nil}
use Rattle.std.proofs.lemmas.Bool.{cond-true, cond-false, cases_Bool}
use Rattle.nvme_model.specs.declared.config.ConfigNumbers.{ConfigNumbers}
use Rattle.nvme_model.specs.declared.entry.GrantLine.{GrantLine}
use Rattle.nvme_model.specs.declared.entry.BlockLine.{BlockLine}
use Rattle.nvme_model.specs.declared.entry.PostLine.{PostLine}
use Rattle.nvme_model.specs.declared.entry.Entry.{Entry}
use Rattle.nvme_model.specs.History.{Past}
use Rattle.nvme_model.specs.Tickets
use Rattle.nvme_model.specs.Tickets.{Ticket, posts_of, in_flight}
use Rattle.nvme_model.specs.Open.{granted, grants_of, open_units, blocks_made, differed, is_differs, is_read_found}
use Rattle.nvme_model.specs.Medium.{medium}
use Rattle.nvme_model.specs.Legal.{IsLegal}
use Rattle.ticket_laws.specs.Standing.{bytes_read, rising, flying, OpenUnit, open_unit, unit_of, Standing, standing}
use Rattle.nvme_model.proofs.Lists.{each_all}
use Rattle.ticket_laws.proofs.TicketLists.{filter_each, filter_twice, find_filter}
use Rattle.nvme_model.proofs.Rules.{follows, may_grant}
use Rattle.nvme_model.proofs.Blocks.{MayBlock, not_made, same_made, no_blocks}
use Rattle.ticket_laws.proofs.Opening.{grant_open, ends_with, block_open_on, block_open_beside}

-- ---- a Grant

-- its ticket has one more unit, which is open and has no Block yet
pub grant_here : (c : ConfigNumbers) (past : Past) (g : GrantLine) → IsLegal c (Entry.Grant g ∷ past)
    → standing (Entry.Grant g ∷ past) g.ticket ≡ record (standing past g.ticket) {
      opened = grants_of past g.ticket + 1;
      unit = Some (record { line = g; made = 0 });
    }
grant_here c past g h =
    let t = g.ticket in
    let b = (follows c past (Entry.Grant g) h).before in
    let more : grants_of (Entry.Grant g ∷ past) t ≡ grants_of past t + 1 =
    ap length (cond-true (eqb t t) (g ∷ filter (λ x. eqb x.ticket t) (granted past)) _ (eq-eqb t t refl))
    ∙ sym (add-one (grants_of past t)) in
    let none : blocks_made past t g.unit ≡ [] =
    no_blocks c past t g.unit b (omega (arith, (may_grant c past g h).unit)) in
    let opens : open_unit (Entry.Grant g ∷ past) t ≡ Some (record { line = g; made = 0 }) =
    ap (λ gs. option_map (unit_of (Entry.Grant g ∷ past)) (find (λ (x : GrantLine). eqb x.ticket t) gs))
    (grant_open c past g h)
    ∙ ap (λ b. option_map (unit_of (Entry.Grant g ∷ past))
    (cond b (Some g) (find (λ (x : GrantLine). eqb x.ticket t) (open_units past)))) (eq-eqb t t refl)
    ∙ (λ i. Some (record { line = g; made = length (none i) })) in
    (λ i. record {
      ticket = Tickets.ticket past t;
      opened = more i;
      unit = opens i;
      differs = differed past t;
      posts = posts_of past t;
      read = bytes_read past t;
    })

-- each other ticket stands where it stood
pub grant_other : (c : ConfigNumbers) (past : Past) (g : GrantLine) (s : ℕ) → IsLegal c (Entry.Grant g ∷ past)
    → s ≢ g.ticket → standing (Entry.Grant g ∷ past) s ≡ standing past s
grant_other c past g s h ne =
    let apart : eqb g.ticket s ≡ false = ne_eqb g.ticket s (λ e. ne (sym e)) in
    let same : grants_of (Entry.Grant g ∷ past) s ≡ grants_of past s =
    ap length (cond-false (eqb g.ticket s) _ _ apart) in
    let opens : open_unit (Entry.Grant g ∷ past) s ≡ open_unit past s =
    ap (λ gs. option_map (unit_of past) (find (λ (x : GrantLine). eqb x.ticket s) gs)) (grant_open c past g h)
    ∙ ap (λ b. option_map (unit_of past) (cond b (Some g) (find (λ (x : GrantLine). eqb x.ticket s) (open_units past))))
    apart in
    (λ i. record {
      ticket = Tickets.ticket past s;
      opened = same i;
      unit = opens i;
      differs = differed past s;
      posts = posts_of past s;
      read = bytes_read past s;
    })

-- ---- a Block

-- where its ticket stands but for the open unit
abbrev pub after_block : Past → BlockLine → Option OpenUnit → Standing
after_block past b u =
    record (standing past b.ticket) {
      unit = u;
      differs = is_differs b.found || differed past b.ticket;
      read = bytes_read past b.ticket ++ cond (is_read_found b.found) (medium past b.lba) [];
    }

block_by : (past : Past) (b : BlockLine) (u : Option OpenUnit) → open_unit (Entry.Block b ∷ past) b.ticket ≡ u
    → standing (Entry.Block b ∷ past) b.ticket ≡ after_block past b u
block_by past b u opens =
    let t = b.ticket in
    (λ i. record {
      ticket = Tickets.ticket past t;
      opened = grants_of past t;
      unit = opens i;
      differs = (eq-eqb t t refl i && is_differs b.found) || differed past t;
      posts = posts_of past t;
      read = bytes_read past t ++ cond (eq-eqb t t refl i && is_read_found b.found) (medium past b.lba) [];
    })

-- where the unit goes on it has one more Block
pub block_on : (c : ConfigNumbers) (past : Past) (b : BlockLine) (g : GrantLine) → IsLegal c (Entry.Block b ∷ past)
    → find (λ x. eqb x.ticket b.ticket) (open_units past) ≡ Some g → MayBlock past b g
    → ends_with past b ≡ false
    → standing (Entry.Block b ∷ past) b.ticket
    ≡ after_block past b (Some (record { line = g; made = length (blocks_made past g.ticket g.unit) + 1 }))
block_on c past b g h found m on =
    let before = (follows c past (Entry.Block b) h).before in
    block_by past b _ (
    ap (λ gs. option_map (unit_of (Entry.Block b ∷ past)) (find (λ (x : GrantLine). eqb x.ticket b.ticket) gs))
    (block_open_on c past b before on)
    ∙ ap (option_map (unit_of (Entry.Block b ∷ past))) found
    ∙ (λ i. Some (record {
      line = g;
      made = (ap length (same_made b g.ticket g.unit (blocks_made past g.ticket g.unit) (sym m.ticket) m.unit)
          ∙ sym (add-one _)) i;
    })))

pub find_apart : (t : ℕ) (gs : List GrantLine)
    → find (λ x. eqb x.ticket t) (filter (λ x. not (eqb x.ticket t)) gs) ≡ None
find_apart t [] = refl
find_apart t (g ∷ gs) = by (find_apart t gs) (eqb g.ticket t) refl
  where
    by : find (λ x. eqb x.ticket t) (filter (λ x. not (eqb x.ticket t)) gs) ≡ None → (b : Bool) → eqb g.ticket t ≡ b
        → find (λ x. eqb x.ticket t)
        (cond (not b) (g ∷ filter (λ x. not (eqb x.ticket t)) gs) (filter (λ x. not (eqb x.ticket t)) gs)) ≡ None
    by ih true e = ih
    by ih false e = cond-false (eqb g.ticket t) _ _ e ∙ ih

-- and where it ends none is open
pub block_off : (c : ConfigNumbers) (past : Past) (b : BlockLine) → IsLegal c (Entry.Block b ∷ past)
    → ends_with past b ≡ true
    → standing (Entry.Block b ∷ past) b.ticket ≡ after_block past b None
block_off c past b h off =
    block_by past b None (
    ap (λ gs. option_map (unit_of (Entry.Block b ∷ past)) (find (λ (x : GrantLine). eqb x.ticket b.ticket) gs))
    (block_open_beside c past b h off)
    ∙ ap (option_map (unit_of (Entry.Block b ∷ past))) (find_apart b.ticket (open_units past)))

unit_apart : (past : Past) (b : BlockLine) (s : ℕ) (o : Option GrantLine) → s ≢ b.ticket
    → ((g : GrantLine) → o ≡ Some g → g.ticket ≡ s)
    → option_map (unit_of (Entry.Block b ∷ past)) o ≡ option_map (unit_of past) o
unit_apart past b s None ne f = refl
unit_apart past b s (Some g) ne f =
    (λ i. Some (record {
      line = g;
      made = length (not_made b g.ticket g.unit (blocks_made past g.ticket g.unit) (λ e _. ne (sym (e ∙ f g refl))) i);
    }))

found_ticket : (s : ℕ) (gs : List GrantLine) (g : GrantLine) → find (λ x. eqb x.ticket s) gs ≡ Some g → g.ticket ≡ s
found_ticket s [] g e = absurd (let f : None ≡ Some g = e in cc)
found_ticket s (x ∷ gs) g e = by (found_ticket s gs g) (eqb x.ticket s) refl e
  where
    some_inj : Some x ≡ Some g → x ≡ g
    some_inj h = cc

    by : (find (λ x. eqb x.ticket s) gs ≡ Some g → g.ticket ≡ s) → (b : Bool) → eqb x.ticket s ≡ b
        → cond b (Some x) (find (λ x. eqb x.ticket s) gs) ≡ Some g → g.ticket ≡ s
    by ih true q e = ap (λ (y : GrantLine). y.ticket) (sym (some_inj e)) ∙ eqb-true _ _ q
    by ih false q e = ih e

-- each other ticket stands where it stood
pub block_other : (c : ConfigNumbers) (past : Past) (b : BlockLine) (s : ℕ) → IsLegal c (Entry.Block b ∷ past)
    → s ≢ b.ticket → standing (Entry.Block b ∷ past) s ≡ standing past s
block_other c past b s h ne =
    let before = (follows c past (Entry.Block b) h).before in
    let apart : eqb b.ticket s ≡ false = ne_eqb b.ticket s (λ e. ne (sym e)) in
    let finds : find (λ x. eqb x.ticket s) (open_units (Entry.Block b ∷ past))
    ≡ find (λ x. eqb x.ticket s) (open_units past) =
    elim (cases_Bool (ends_with past b)) [
      | inr e ↦ ap (find (λ (x : GrantLine). eqb x.ticket s)) (block_open_on c past b before e)
      | inl e ↦ ap (find (λ (x : GrantLine). eqb x.ticket s)) (block_open_beside c past b h e)
          ∙ find_filter (λ x. eqb x.ticket s) (λ x. not (eqb x.ticket b.ticket)) (open_units past)
          (each_all (λ x. eqb x.ticket s ≡ true → not (eqb x.ticket b.ticket) ≡ true)
          (λ x q. ap not (ne_eqb x.ticket b.ticket (λ r. ne (sym (eqb-true _ _ q) ∙ r)))) (open_units past))
    ] in
    let opens : open_unit (Entry.Block b ∷ past) s ≡ open_unit past s =
    ap (option_map (unit_of (Entry.Block b ∷ past))) finds
    ∙ unit_apart past b s (find (λ x. eqb x.ticket s) (open_units past)) ne (found_ticket s (open_units past)) in
    let read : bytes_read (Entry.Block b ∷ past) s ≡ bytes_read past s =
    ap (λ x. bytes_read past s ++ cond (x && is_read_found b.found) (medium past b.lba) []) apart
    ∙ append-nil (bytes_read past s) in
    (λ i. record {
      ticket = Tickets.ticket past s;
      opened = grants_of past s;
      unit = opens i;
      differs = (apart i && is_differs b.found) || differed past s;
      posts = posts_of past s;
      read = read i;
    })

-- ---- a Post

-- its ticket has one more Post
pub post_here : (past : Past) (p : PostLine)
    → standing (Entry.Post p ∷ past) p.ticket ≡ record (standing past p.ticket) { posts = posts_of past p.ticket + 1 }
post_here past p =
    let t = p.ticket in
    (λ i. record {
      ticket = Tickets.ticket past t;
      opened = grants_of past t;
      unit = open_unit past t;
      differs = differed past t;
      posts = posts_of past t + cond (eq-eqb t t refl i) 1 0;
      read = bytes_read past t;
    })

posts_apart : (past : Past) (p : PostLine) (s : ℕ) → s ≢ p.ticket → posts_of (Entry.Post p ∷ past) s ≡ posts_of past s
posts_apart past p s ne = ap (λ b. posts_of past s + cond b 1 0) (ne_eqb p.ticket s (λ e. ne (sym e))) ∙ omega arith

-- each other ticket stands where it stood
pub post_other : (past : Past) (p : PostLine) (s : ℕ) → s ≢ p.ticket
    → standing (Entry.Post p ∷ past) s ≡ standing past s
post_other past p s ne =
    (λ i. record {
      ticket = Tickets.ticket past s;
      opened = grants_of past s;
      unit = open_unit past s;
      differs = differed past s;
      posts = posts_apart past p s ne i;
      read = bytes_read past s;
    })

still_flies : (past : Past) (p : PostLine) (s : ℕ) → s ≢ p.ticket → in_flight (Entry.Post p ∷ past) s ≡ in_flight past s
still_flies past p s ne = ap (λ n. ltb n (length (Tickets.ticket past s).commands)) (posts_apart past p s ne)

-- the tickets in flight after a Post that isn't its ticket's last
pub post_flying_on : (past : Past) (p : PostLine) → in_flight past p.ticket ≡ true
    → in_flight (Entry.Post p ∷ past) p.ticket ≡ true → flying (Entry.Post p ∷ past) ≡ flying past
post_flying_on past p e f =
    filter_each (in_flight (Entry.Post p ∷ past)) (in_flight past) (rising (Tickets.tickets past))
    (each_all _ (λ s. by s (cases_Bool (eqb s p.ticket))) (rising (Tickets.tickets past)))
  where
    by : (s : ℕ) → ((eqb s p.ticket ≡ true) ⊎ (eqb s p.ticket ≡ false))
        → in_flight (Entry.Post p ∷ past) s ≡ in_flight past s
    by s (inl q) = ap (in_flight (Entry.Post p ∷ past)) (eqb-true _ _ q) ∙ f ∙ sym e
        ∙ ap (in_flight past) (sym (eqb-true _ _ q))
    by s (inr q) = still_flies past p s (λ r. absurd (let x : true ≡ false = sym (eq-eqb _ _ r) ∙ q in cc))

-- and after one that is
pub post_flying_off : (past : Past) (p : PostLine) → in_flight (Entry.Post p ∷ past) p.ticket ≡ false
    → flying (Entry.Post p ∷ past) ≡ filter (λ s. not (eqb s p.ticket)) (flying past)
post_flying_off past p f =
    filter_each (in_flight (Entry.Post p ∷ past)) (λ s. in_flight past s && not (eqb s p.ticket))
    (rising (Tickets.tickets past))
    (each_all _ (λ s. by s (cases_Bool (eqb s p.ticket))) (rising (Tickets.tickets past)))
    ∙ sym (filter_twice (in_flight past) (λ s. not (eqb s p.ticket)) (rising (Tickets.tickets past)))
  where
    and_not : (a k : Bool) → k ≡ true → (a && not k) ≡ false
    and_not true true e = refl
    and_not false true e = refl
    and_not a false e = absurd cc

    and_yes : (a k : Bool) → k ≡ false → (a && not k) ≡ a
    and_yes true false e = refl
    and_yes false false e = refl
    and_yes a true e = absurd cc

    by : (s : ℕ) → ((eqb s p.ticket ≡ true) ⊎ (eqb s p.ticket ≡ false))
        → in_flight (Entry.Post p ∷ past) s ≡ (in_flight past s && not (eqb s p.ticket))
    by s (inl q) = ap (in_flight (Entry.Post p ∷ past)) (eqb-true _ _ q) ∙ f ∙ sym (and_not _ _ q)
    by s (inr q) = still_flies past p s (λ r. absurd (let x : true ≡ false = sym (eq-eqb _ _ r) ∙ q in cc))
        ∙ sym (and_yes _ _ q)
