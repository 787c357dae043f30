-- How far a Read has come: its open unit's next block lies right behind what it has read.
use Rattle.std.proofs.Common.{◌≡◌, ◌≢◌, ℕ, suc, ◌+◌, ◌-◌, ◌*◌, ◌≤◌, ◌<◌, Bool, true, false, ◌&&◌, ◌||◌, cond, List, []}
use Rattle.std.proofs.Common.{◌∷◌, ◌++◌, length, take, option_map, refl, sym, ap, ap₂, ◌∙◌, subst, Option, Some, None}
use Rattle.std.proofs.Common.{inl, inr, arith, eqb, eqb-true, eq-eqb, ne_eqb, leb-true, leb-false, nat_le}
use Rattle.std.proofs.Common.{length-append}
use Rattle.std.specs.List.{list_any, sum_by}
use Rattle.std.proofs.lemmas.Bool.{or_parts, or_from, or_cases, cases_Bool, cases_eq, cond-false}
use Rattle.nvme_model.specs.declared.array.Range.{Range}
use Rattle.nvme_model.specs.declared.config.ConfigNumbers.{ConfigNumbers}
use Rattle.nvme_model.specs.declared.operation.Op.{Op}
use Rattle.nvme_model.specs.declared.operation.Found.{Found}
use Rattle.nvme_model.specs.declared.entry.GrantLine.{GrantLine}
use Rattle.nvme_model.specs.declared.entry.BlockLine.{BlockLine}
use Rattle.nvme_model.specs.declared.entry.Entry.{Entry}
use Rattle.nvme_model.specs.History.{Past}
use Rattle.nvme_model.specs.Tickets
use Rattle.nvme_model.specs.Tickets.{Ticket}
use Rattle.nvme_model.specs.Operations.{op, is_pair, units}
use Rattle.nvme_model.specs.Open.{grants_of, blocks_of, blocks_made, open_units, steps_needed, is_differs}
use Rattle.nvme_model.specs.Open.{is_read_found, unit_range}
use Rattle.nvme_model.specs.Answered.{may_find}
use Rattle.nvme_model.specs.Medium.{medium}
use Rattle.nvme_model.specs.Legal.{IsLegal}
use Rattle.ticket_laws.specs.Standing.{OpenUnit, Standing, standing, open_unit, unit_of, had, bytes_read}
use Rattle.nvme_model.proofs.Rules.{follows, may_grant, fetch_number}
use Rattle.nvme_model.proofs.Apart.{ticket_kept}
use Rattle.nvme_model.proofs.Blocks.{MayBlock, may_block, same_made}
use Rattle.ticket_laws.proofs.TicketLists.{find_none}
use Rattle.ticket_laws.proofs.Unfetched.{fetch_other, fetch_here}
use Rattle.ticket_laws.proofs.Opening.{ends_with}
use Rattle.ticket_laws.proofs.Standings.{grant_here, grant_other, block_on, block_off, block_other}
use Rattle.nvme_model.proofs.Holding.{range_of_entry}
use Rattle.nvme_model.proofs.Pairs.{goes_on}
use Rattle.nvme_model.proofs.Cut.{clash}
use Rattle.ticket_laws.proofs.Left.{take_one_more}
use Rattle.ticket_laws.proofs.Lengths.{medium_length}

-- what a Read's Block says
pub read_word : (n j : ℕ) (f : Found) → may_find (Some Op.Read) n j f ≡ true
    → (is_read_found f ≡ true) × (is_differs f ≡ false)
read_word n j Found.Read h = (refl, refl)
read_word n j Found.Equal h = absurd cc
read_word n j Found.Differs h = absurd cc
read_word n j Found.Written h = absurd cc

own_word : (past : Past) (b : BlockLine) (g : GrantLine) → MayBlock past b g
    → op (Tickets.ticket past b.ticket) ≡ Some Op.Read → (is_read_found b.found ≡ true) × (is_differs b.found ≡ false)
own_word past b g m p =
    read_word g.range.blocks (length (blocks_made past g.ticket g.unit)) b.found
    (subst (λ (o : Option Op). may_find o g.range.blocks (length (blocks_made past g.ticket g.unit)) b.found ≡ true)
    p m.word)

-- ---- what is read is a block for each Block

no_blocks_of : (c : ConfigNumbers) (past : Past) (t : ℕ) → IsLegal c past → Tickets.tickets past < t
    → blocks_of past t ≡ 0
no_blocks_of c [] t h l = refl
no_blocks_of c (Entry.Fetch f ∷ past) t h l =
    no_blocks_of c past t (follows c past (Entry.Fetch f) h).before (omega (arith, l))
no_blocks_of c (Entry.Block b ∷ past) t h l =
    let m = may_block c past b h in
    (λ i. no_blocks_of c past t (follows c past (Entry.Block b) h).before l i
    + cond (ne_eqb b.ticket t (λ (e : b.ticket ≡ t). omega (arith, e, l, m.2.ticket, m.2.unended.facts.known)) i) 1
    0)
no_blocks_of c (Entry.Publish e ∷ past) t h l = no_blocks_of c past t (follows c past (Entry.Publish e) h).before l
no_blocks_of c (Entry.Grant e ∷ past) t h l = no_blocks_of c past t (follows c past (Entry.Grant e) h).before l
no_blocks_of c (Entry.Post e ∷ past) t h l = no_blocks_of c past t (follows c past (Entry.Post e) h).before l
no_blocks_of c (Entry.Reap e ∷ past) t h l = no_blocks_of c past t (follows c past (Entry.Reap e) h).before l

nothing_read_of : (c : ConfigNumbers) (past : Past) (t : ℕ) → IsLegal c past → blocks_of past t ≡ 0
    → bytes_read past t ≡ []
nothing_read_of c [] t h e = refl
nothing_read_of c (Entry.Block b ∷ past) t h e =
    go (eqb b.ticket t) e (nothing_read_of c past t (follows c past (Entry.Block b) h).before)
  where
    go : (x : Bool) → blocks_of past t + cond x 1 0 ≡ 0 → (blocks_of past t ≡ 0 → bytes_read past t ≡ [])
        → bytes_read past t ++ cond (x && is_read_found b.found) (medium past b.lba) [] ≡ []
    go true e ih = absurd (omega (arith, e))
    go false e ih = (λ i. ih (omega (arith, e)) i ++ [])
nothing_read_of c (Entry.Publish x ∷ past) t h e =
    nothing_read_of c past t (follows c past (Entry.Publish x) h).before e
nothing_read_of c (Entry.Fetch x ∷ past) t h e = nothing_read_of c past t (follows c past (Entry.Fetch x) h).before e
nothing_read_of c (Entry.Grant x ∷ past) t h e = nothing_read_of c past t (follows c past (Entry.Grant x) h).before e
nothing_read_of c (Entry.Post x ∷ past) t h e = nothing_read_of c past t (follows c past (Entry.Post x) h).before e
nothing_read_of c (Entry.Reap x ∷ past) t h e = nothing_read_of c past t (follows c past (Entry.Reap x) h).before e

pub read_length : (c : ConfigNumbers) (past : Past) (t : ℕ) → IsLegal c past → op (Tickets.ticket past t) ≡ Some Op.Read
    → length (bytes_read past t) ≡ 512 * blocks_of past t
read_length c [] t h p = refl
read_length c (Entry.Fetch f ∷ past) t h p =
    let before = (follows c past (Entry.Fetch f) h).before in
    elim (cases_Bool (eqb f.ticket t)) [
      | inl e ↦
          let none = no_blocks_of c past t before (omega (arith, fetch_number c past f h, eqb-true _ _ e)) in
          ap length (nothing_read_of c past t before none) ∙ omega (arith, none)
      | inr e ↦ read_length c past t before (ap op (sym (cond-false (eqb f.ticket t) _ _ e)) ∙ p)
    ]
read_length c (Entry.Block b ∷ past) t h p =
    let before = (follows c past (Entry.Block b) h).before in
    let m = may_block c past b h in
    go (eqb b.ticket t) refl (read_length c past t before p)
    (λ e. (own_word past b m.0 m.2 (ap (λ (s : ℕ). op (Tickets.ticket past s)) (eqb-true _ _ e) ∙ p)).0)
    (medium_length c past b.lba before)
  where
    go : (x : Bool) → eqb b.ticket t ≡ x → length (bytes_read past t) ≡ 512 * blocks_of past t
        → (eqb b.ticket t ≡ true → is_read_found b.found ≡ true) → length (medium past b.lba) ≡ 512
        → length (bytes_read past t ++ cond (x && is_read_found b.found) (medium past b.lba) []) ≡ 512
        * (blocks_of past t + cond x 1 0)
    go true e ih w l =
        ap (λ x. length (bytes_read past t ++ cond x (medium past b.lba) [])) (w e)
        ∙ length-append (bytes_read past t) (medium past b.lba) ∙ omega (arith, ih, l)
    go false e ih w l = length-append (bytes_read past t) [] ∙ omega (arith, ih)
read_length c (Entry.Publish e ∷ past) t h p = read_length c past t (follows c past (Entry.Publish e) h).before p
read_length c (Entry.Grant e ∷ past) t h p = read_length c past t (follows c past (Entry.Grant e) h).before p
read_length c (Entry.Post e ∷ past) t h p = read_length c past t (follows c past (Entry.Post e) h).before p
read_length c (Entry.Reap e ∷ past) t h p = read_length c past t (follows c past (Entry.Reap e) h).before p

-- ---- the units before the open one are read whole

-- what the open unit still has to make
abbrev pub rest_of : Option OpenUnit → ℕ
rest_of None = 0
rest_of (Some u) = u.line.range.blocks - u.made

-- the unit of a Read ends with its last block
read_ends : (past : Past) (b : BlockLine) (g : GrantLine) → MayBlock past b g
    → op (Tickets.ticket past b.ticket) ≡ Some Op.Read → ends_with past b ≡ true
    → g.range.blocks ≤ length (blocks_made past g.ticket g.unit) + 1
read_ends past b g m q off =
    elim (or_cases (nat_le (steps_needed k n) (suc (length made)))
    (is_differs b.found || list_any (λ x. is_differs x.found) made) now) [
      | inl e ↦ omega (arith, leb-true _ _ e, needs, range, ap length same)
      | inr e ↦ clash _ e (or_from _ _ (own_word past b g m q).1 (or_parts _ _ (goes_on past b g m)).1)
    ]
  where
    k : Ticket
    k = Tickets.ticket past b.ticket

    n : ℕ
    n = (unit_range past b.ticket b.unit).blocks

    made : List BlockLine
    made = blocks_made past b.ticket b.unit

    range : n ≡ g.range.blocks
    range = ap (λ (r : Range). r.blocks) (range_of_entry past b g m)

    same : blocks_made past g.ticket g.unit ≡ made
    same = ap₂ (λ (t u : ℕ). blocks_made past t u) m.ticket (sym m.unit)

    needs : steps_needed k n ≡ n
    needs = ap (λ o. cond (is_pair o) (2 * n) n) q

    now : (nat_le (steps_needed k n) (suc (length made))
        || (is_differs b.found || list_any (λ x. is_differs x.found) made)) ≡ true
    now = ap (λ (xs : List BlockLine). nat_le (steps_needed k n) (length xs) || list_any (λ x. is_differs x.found) xs)
        (sym (same_made b b.ticket b.unit made refl refl)) ∙ off

abbrev Placed : ConfigNumbers → Past → ℕ → Standing → Type 0
Placed c past t s = blocks_of past t + rest_of s.unit ≡ had c s

-- the Block entries of a Read and what its open unit still has to make are the blocks of the units that were opened
pub read_placed : (c : ConfigNumbers) (past : Past) (t : ℕ) → IsLegal c past → t ≤ Tickets.tickets past
    → op (Tickets.ticket past t) ≡ Some Op.Read → Placed c past t (standing past t)
read_placed c [] t h l p = absurd cc
read_placed c (Entry.Publish e ∷ past) t h l p = read_placed c past t (follows c past (Entry.Publish e) h).before l p
read_placed c (Entry.Post e ∷ past) t h l p = read_placed c past t (follows c past (Entry.Post e) h).before l p
read_placed c (Entry.Reap e ∷ past) t h l p = read_placed c past t (follows c past (Entry.Reap e) h).before l p
read_placed c (Entry.Fetch f ∷ past) t h l p =
    let before = (follows c past (Entry.Fetch f) h).before in
    let n = fetch_number c past f h in
    elim (cases_eq t f.ticket) [
      | inl e ↦ subst (λ (s : ℕ). Placed c past s (standing (Entry.Fetch f ∷ past) s)) (sym e)
          (subst (Placed c past f.ticket) (sym (fetch_here c past f h))
          (omega (arith, no_blocks_of c past f.ticket before (omega (arith, n)))))
      | inr e ↦
          let k : t ≤ Tickets.tickets past = omega (arith, l, n, e) in
          subst (Placed c past t) (sym (fetch_other c past f t h k))
          (read_placed c past t before k (ap op (sym (ticket_kept c past f t h k)) ∙ p))
    ]
read_placed c (Entry.Grant g ∷ past) t h l p =
    let before = (follows c past (Entry.Grant g) h).before in
    elim (cases_eq t g.ticket) [
      | inl e ↦ subst (λ (s : ℕ). Placed c past s (standing (Entry.Grant g ∷ past) s)) (sym e)
          (subst (Placed c past g.ticket) (sym (grant_here c past g h))
          (own (read_placed c past g.ticket before (omega (arith, l, e))
          (ap (λ (s : ℕ). op (Tickets.ticket past s)) (sym e) ∙ p))))
      | inr e ↦ subst (Placed c past t) (sym (grant_other c past g t h e)) (read_placed c past t before l p)
    ]
  where
    own : Placed c past g.ticket (standing past g.ticket)
        → blocks_of past g.ticket + (g.range.blocks - 0)
        ≡ sum_by (λ r. r.blocks) (take (grants_of past g.ticket + 1) (units c (Tickets.ticket past g.ticket)))
    own ih =
        let m = may_grant c past g h in
        let none : rest_of (open_unit past g.ticket) ≡ 0 =
        ap (λ o. rest_of (option_map (unit_of past) o))
        (find_none (λ x. eqb x.ticket g.ticket) (open_units past) m.closed) in
        omega (
          arith,
          ih,
          none,
          take_one_more (grants_of past g.ticket) g.range (units c (Tickets.ticket past g.ticket))
              m.range,
        )
read_placed c (Entry.Block b ∷ past) t h l p =
    let before = (follows c past (Entry.Block b) h).before in
    elim (cases_eq t b.ticket) [
      | inl e ↦ subst (λ (s : ℕ). Placed c (Entry.Block b ∷ past) s (standing (Entry.Block b ∷ past) s)) (sym e)
          (let q = ap (λ (s : ℕ). op (Tickets.ticket past s)) (sym e) ∙ p in
          own q (read_placed c past b.ticket before (omega (arith, l, e)) q))
      | inr e ↦ subst (λ (s : Standing). blocks_of (Entry.Block b ∷ past) t + rest_of s.unit ≡ had c s)
          (sym (block_other c past b t h e))
          (apart e (read_placed c past t before l p))
    ]
  where
    apart : t ≢ b.ticket → Placed c past t (standing past t)
        → blocks_of past t + cond (eqb b.ticket t) 1 0 + rest_of (open_unit past t) ≡ had c (standing past t)
    apart e ih = ap (λ x. blocks_of past t + cond x 1 0 + rest_of (open_unit past t))
        (ne_eqb b.ticket t (λ q. e (sym q))) ∙ omega (arith, ih)

    own : op (Tickets.ticket past b.ticket) ≡ Some Op.Read → Placed c past b.ticket (standing past b.ticket)
        → Placed c (Entry.Block b ∷ past) b.ticket (standing (Entry.Block b ∷ past) b.ticket)
    own q ih =
        let m = may_block c past b h in
        let made = length (blocks_made past m.0.ticket m.0.unit) in
        let now : rest_of (open_unit past b.ticket) ≡ m.0.range.blocks - made =
        ap (λ o. rest_of (option_map (unit_of past) o)) m.1 in
        let needs : steps_needed (Tickets.ticket past m.0.ticket) m.0.range.blocks ≡ m.0.range.blocks =
        ap (λ (s : ℕ). cond (is_pair (op (Tickets.ticket past s))) (2 * m.0.range.blocks) m.0.range.blocks) m.2.ticket
        ∙ ap (λ o. cond (is_pair o) (2 * m.0.range.blocks) m.0.range.blocks) q in
        let below : made < m.0.range.blocks =
        omega (
          arith,
          needs,
          leb-false (steps_needed (Tickets.ticket past m.0.ticket) m.0.range.blocks) made
              (or_parts _ _ m.2.unended.goes_on).0,
        ) in
        let one : blocks_of (Entry.Block b ∷ past) b.ticket ≡ blocks_of past b.ticket + 1 =
        ap (λ x. blocks_of past b.ticket + cond x 1 0) (eq-eqb b.ticket b.ticket refl) in
        elim (cases_Bool (ends_with past b)) [
          | inr on ↦ subst (Placed c (Entry.Block b ∷ past) b.ticket) (sym (block_on c past b m.0 h m.1 m.2 on))
              (omega (arith, ih, now, below, one))
          | inl off ↦ subst (Placed c (Entry.Block b ∷ past) b.ticket) (sym (block_off c past b h off))
              (omega (arith, ih, now, below, one, read_ends past b m.0 m.2 q off))
        ]
