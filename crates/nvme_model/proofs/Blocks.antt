-- What is known of a Block entry that may follow, and of the Block entries of a unit.
use Rattle.std.proofs.Common.{◌≡◌, ℕ, zero, suc, ◌+◌, ◌%◌, ◌≤◌, Bool, true, false, not, ◌&&◌, cond, List, [], ◌∷◌, ◌++◌}
use Rattle.std.proofs.Common.{length, map, refl, sym, ap, ap₂, ◌∙◌, subst, Option, Some, None, inl, inr, arith, eq-eqb}
use Rattle.std.proofs.Common.{ne_eqb, eqb-true, eqb}
use Rattle.std.specs.List.{filter, find}
use Rattle.std.proofs.lemmas.Bool.{and_parts, and_from, and_left, and_right, cond-true, cond-false, cases_Bool}
use Rattle.std.proofs.lemmas.Bool.{not-true}
use Rattle.nvme_model.specs.declared.config.ConfigNumbers.{ConfigNumbers}
use Rattle.nvme_model.specs.Tickets
use Rattle.nvme_model.specs.History.{Past}
use Rattle.nvme_model.specs.Operations.{op}
use Rattle.nvme_model.specs.Open.{grants_of, granted, open_units, has_ended, blocks_made, unit_range, range_of}
use Rattle.nvme_model.specs.Placed.{effect}
use Rattle.nvme_model.specs.Legal.{IsLegal, block_fits}
use Rattle.nvme_model.specs.Answered.{may_find, right_answers}
use Rattle.nvme_model.specs.declared.array.Range.{Range}
use Rattle.nvme_model.specs.declared.entry.GrantLine.{GrantLine}
use Rattle.nvme_model.specs.declared.entry.BlockLine.{BlockLine}
use Rattle.nvme_model.specs.declared.entry.Entry.{Entry}
use Rattle.nvme_model.proofs.Lists.{Each, each_filter, each_find}
use Rattle.nvme_model.proofs.Rules.{follows, may_grant}
use Rattle.nvme_model.proofs.Granted.{GrantFacts, granted_facts}

-- an open unit
pub record OpenFacts (past : Past) (g : GrantLine) : Type 0 where
  pub facts : GrantFacts past g
  pub goes_on : has_ended past g.ticket g.unit g.range.blocks ≡ false

pub open_facts : (c : ConfigNumbers) (past : Past) → IsLegal c past → Each (OpenFacts past) (open_units past)
open_facts c past h =
    each_filter (GrantFacts past) (OpenFacts past) (λ g. not (has_ended past g.ticket g.unit g.range.blocks))
    (λ g f e. record { facts = f; goes_on = not-true _ e }) (granted past) (granted_facts c past h)

-- A Block entry b of the open unit g.
pub record MayBlock (past : Past) (b : BlockLine) (g : GrantLine) : Type 0 where
  pub ticket : g.ticket ≡ b.ticket
  pub unit : b.unit ≡ g.unit
  pub unended : OpenFacts past g
  pub lba : b.lba ≡ g.range.slba + length (blocks_made past g.ticket g.unit) % g.range.blocks
  pub word : may_find (op (Tickets.ticket past b.ticket)) g.range.blocks (length (blocks_made past g.ticket g.unit))
      b.found ≡ true
  pub right : right_answers (effect (Entry.Block b ∷ past) b.ticket b.unit) (Tickets.ticket past b.ticket)
      (blocks_made (Entry.Block b ∷ past) b.ticket b.unit) ≡ true

block_parts : (past : Past) (b : BlockLine) (g : GrantLine) → block_fits past b (Some g) ≡ true → OpenFacts past g
    → eqb g.ticket b.ticket ≡ true → MayBlock past b g
block_parts past b g h o t =
    let d = and_parts _ _ h in
    let e = and_parts _ _ d.0 in
    let f = and_parts _ _ e.0 in
    let a = and_parts _ _ f.0 in
    record {
      ticket = eqb-true _ _ t;
      unit = eqb-true _ _ a.0;
      unended = o;
      lba = eqb-true _ _ a.1;
      word = f.1;
      right = d.1;
    }

by_found : (past : Past) (b : BlockLine) (o : Option GrantLine)
    → find (λ g. eqb g.ticket b.ticket) (open_units past) ≡ o → Each (OpenFacts past) (open_units past)
    → block_fits past b o ≡ true
    → (g : GrantLine) × (find (λ g. eqb g.ticket b.ticket) (open_units past) ≡ Some g) × MayBlock past b g
by_found past b None e f h = absurd (let d : false ≡ true = h in cc)
by_found past b (Some g) e f h =
    let m = each_find (OpenFacts past) (λ x. eqb x.ticket b.ticket) (open_units past) g f e in
    (g, e, block_parts past b g h m.0 m.1)

pub may_block : (c : ConfigNumbers) (past : Past) (b : BlockLine) → IsLegal c (Entry.Block b ∷ past)
    → (g : GrantLine) × (find (λ g. eqb g.ticket b.ticket) (open_units past) ≡ Some g) × MayBlock past b g
may_block c past b h =
    let f = follows c past (Entry.Block b) h in
    by_found past b _ refl (open_facts c past f.before) f.fits

-- ---- a unit that isn't granted has no Block

pub apart_key : (b : BlockLine) (t u : ℕ) → (b.ticket ≡ t → b.unit ≡ u → ⊥) → (eqb b.ticket t && eqb b.unit u) ≡ false
apart_key b t u f =
    elim (cases_Bool (eqb b.ticket t)) [
      | inl e ↦ and_right _ _ (ne_eqb b.unit u (f (eqb-true b.ticket t e)))
      | inr e ↦ and_left _ _ e
    ]

pub not_made : (b : BlockLine) (t u : ℕ) (made : List BlockLine) → (b.ticket ≡ t → b.unit ≡ u → ⊥)
    → cond (eqb b.ticket t && eqb b.unit u) (b ∷ []) [] ++ made ≡ made
not_made b t u made f = ap (λ (xs : List BlockLine). xs ++ made)
    (cond-false (eqb b.ticket t && eqb b.unit u) (b ∷ []) [] (apart_key b t u f))

fewer_grants : (b : Bool) (g : GrantLine) (gs : List GrantLine) (n : ℕ) → length (cond b (g ∷ gs) gs) ≤ n
    → length gs ≤ n
fewer_grants true g gs n l = omega (arith, l)
fewer_grants false g gs n l = l

pub no_blocks : (c : ConfigNumbers) (past : Past) (t u : ℕ) → IsLegal c past → grants_of past t ≤ u
    → blocks_made past t u ≡ []
no_blocks c [] t u h l = refl
no_blocks c (Entry.Grant g ∷ past) t u h l =
    no_blocks c past t u (follows c past (Entry.Grant g) h).before
    (fewer_grants (eqb g.ticket t) g (filter (λ x. eqb x.ticket t) (granted past)) u l)
no_blocks c (Entry.Block b ∷ past) t u h l =
    let m = may_block c past b h in
    let f = m.2.unended.facts.number in
    not_made b t u (blocks_made past t u)
    (λ e d. omega (arith, f, l, m.2.unit, d, ap (grants_of past) (m.2.ticket ∙ e)))
    ∙ no_blocks c past t u (follows c past (Entry.Block b) h).before l
no_blocks c (e ∷ past) t u h l = no_blocks c past t u (follows c past e h).before l

-- ---- the blocks of a unit, in order

-- of a unit from s of n blocks, the blocks of its first j Block entries, the newest first
abbrev pub lbas : ℕ → ℕ → ℕ → List ℕ
lbas s n zero = []
lbas s n (suc j) = (s + j % n) ∷ lbas s n j

abbrev pub made_lbas : List BlockLine → List ℕ
made_lbas made = map (λ b. b.lba) made

pub same_made : (b : BlockLine) (t u : ℕ) (made : List BlockLine) → b.ticket ≡ t → b.unit ≡ u
    → cond (eqb b.ticket t && eqb b.unit u) (b ∷ []) [] ++ made ≡ b ∷ made
same_made b t u made e d =
    ap (λ (xs : List BlockLine). xs ++ made)
    (cond-true (eqb b.ticket t && eqb b.unit u) (b ∷ []) []
    (and_from _ _ (eq-eqb b.ticket t e) (eq-eqb b.unit u d)))

-- a Block entry names the block that is due, by its own unit's range
pub due_lba : (past : Past) (b : BlockLine) (g : GrantLine) → MayBlock past b g
    → b.lba ≡ (unit_range past b.ticket b.unit).slba
    + length (blocks_made past b.ticket b.unit) % (unit_range past b.ticket b.unit).blocks
due_lba past b g m = m.lba ∙ due m.ticket m.unit
  where
    due : g.ticket ≡ b.ticket → b.unit ≡ g.unit
        → g.range.slba + length (blocks_made past g.ticket g.unit) % g.range.blocks
        ≡ (unit_range past b.ticket b.unit).slba
        + length (blocks_made past b.ticket b.unit) % (unit_range past b.ticket b.unit).blocks
    due e d = rw (← e, d, m.unended.facts.range) refl

pub at_key : (P : ℕ → ℕ → Type 0) (b : BlockLine) (t u : ℕ) → (eqb b.ticket t && eqb b.unit u) ≡ true
    → P b.ticket b.unit → P t u
at_key P b t u e p =
    let a = and_parts (eqb b.ticket t) (eqb b.unit u) e in
    subst (λ (x : ℕ). P x u) (eqb-true b.ticket t a.0) (subst (λ (x : ℕ). P b.ticket x) (eqb-true b.unit u a.1) p)

abbrev pub InOrder : Past → ℕ → ℕ → List BlockLine → Type 0
InOrder past t u made = made_lbas made ≡ lbas (unit_range past t u).slba (unit_range past t u).blocks (length made)

pub one_more : (past : Past) (b : BlockLine) (g : GrantLine) → MayBlock past b g
    → InOrder past b.ticket b.unit (blocks_made past b.ticket b.unit)
    → InOrder past b.ticket b.unit (b ∷ blocks_made past b.ticket b.unit)
one_more past b g m ih =
    ap₂ (λ (x : ℕ) (xs : List ℕ). x ∷ xs) (due_lba past b g m) ih

pub grants_before : (c : ConfigNumbers) (past : Past) (g : GrantLine) (t u : ℕ) → IsLegal c (Entry.Grant g ∷ past)
    → (eqb g.ticket t && eqb g.unit u) ≡ true → grants_of past t ≤ u
grants_before c past g t u h e =
    let a = and_parts (eqb g.ticket t) (eqb g.unit u) e in
    omega (arith, (may_grant c past g h).unit, eqb-true g.unit u a.1, ap (grants_of past) (eqb-true g.ticket t a.0))

pub range_before : (past : Past) (g : GrantLine) (t u : ℕ) → (eqb g.ticket t && eqb g.unit u) ≡ false
    → unit_range (Entry.Grant g ∷ past) t u ≡ unit_range past t u
range_before past g t u e =
    ap range_of (cond-false (eqb g.ticket t && eqb g.unit u) (Some g)
    (find (λ x. eqb x.ticket t && eqb x.unit u) (granted past)) e)

pub made_in_order : (c : ConfigNumbers) (past : Past) (t u : ℕ) → IsLegal c past
    → InOrder past t u (blocks_made past t u)
made_in_order c [] t u h = refl
made_in_order c (Entry.Grant g ∷ past) t u h =
    let b = (follows c past (Entry.Grant g) h).before in
    grant_step (eqb g.ticket t && eqb g.unit u) refl (made_in_order c past t u b)
    (λ e. no_blocks c past t u b (grants_before c past g t u h e))
  where
    grant_step : (x : Bool) → (eqb g.ticket t && eqb g.unit u) ≡ x → InOrder past t u (blocks_made past t u)
        → ((eqb g.ticket t && eqb g.unit u) ≡ true → blocks_made past t u ≡ [])
        → InOrder (Entry.Grant g ∷ past) t u (blocks_made past t u)
    grant_step true e ih f = rw (f e) refl
    grant_step false e ih f =
        subst (λ (r : Range). made_lbas (blocks_made past t u) ≡ lbas r.slba r.blocks (length (blocks_made past t u)))
        (sym (range_before past g t u e)) ih
made_in_order c (Entry.Block b ∷ past) t u h =
    let m = may_block c past b h in
    let p = (follows c past (Entry.Block b) h).before in
    block_step (eqb b.ticket t && eqb b.unit u) refl (made_in_order c past t u p)
    (one_more past b m.0 m.2 (made_in_order c past b.ticket b.unit p))
  where
    block_step : (x : Bool) → (eqb b.ticket t && eqb b.unit u) ≡ x → InOrder past t u (blocks_made past t u)
        → InOrder past b.ticket b.unit (b ∷ blocks_made past b.ticket b.unit)
        → InOrder past t u (cond x (b ∷ []) [] ++ blocks_made past t u)
    block_step true e ih f = at_key (λ x y. InOrder past x y (b ∷ blocks_made past x y)) b t u e f
    block_step false e ih f = ih
made_in_order c (e ∷ past) t u h = made_in_order c past t u (follows c past e h).before
