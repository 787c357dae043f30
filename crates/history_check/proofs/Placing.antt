-- The units of a ticket that have their effect, and what of them stays.
use Rattle.std.proofs.Common.{◌≡◌, ℕ, ◌+◌, ◌-◌, ◌≤◌, ◌<◌, Bool, true, false, not, ◌&&◌, ◌||◌, cond, [], ◌∷◌, refl, sym}
use Rattle.std.proofs.Common.{ap, ap₂, ◌∙◌, is_some, inl, inr, ◌⊎◌, arith, eqb, eqb-true, nat_lt}
use Rattle.std.proofs.Common.{ltb-true}
use Rattle.std.specs.List.{find}
use Rattle.std.proofs.lemmas.Bool.{and_parts, cond-false, cases_Bool, cases_lt}
use Rattle.std.proofs.lemmas.Bool.Decides.{nat_tests}
use Rattle.nvme_model.specs.declared.config.ConfigNumbers.{ConfigNumbers}
use Rattle.nvme_model.specs.declared.entry.BlockLine.{BlockLine}
use Rattle.nvme_model.specs.declared.entry.Entry.{Entry}
use Rattle.nvme_model.specs.History.{Past}
use Rattle.nvme_model.specs.Legal.{IsLegal, block_fits}
use Rattle.nvme_model.specs.Open.{blocks_made, grants_of, open_units, unit_range}
use Rattle.nvme_model.specs.Placed.{effect, may_be_effect}
use Rattle.nvme_model.specs.Tickets
use Rattle.history_check.specs.Effects.{placed}
use Rattle.nvme_model.proofs.Rules.{follows}
use Rattle.nvme_model.proofs.Apart.{ticket_kept}
use Rattle.nvme_model.proofs.Blocks.{no_blocks, grants_before, range_before}
use Rattle.nvme_model.proofs.Pairs.{no_blocks_yet}
use Rattle.nvme_model.proofs.Effects.{no_effect, some_cond}
use Rattle.nvme_model.proofs.Once.{marked_may as may_parts}
use Rattle.nvme_model.proofs.Cut.{clash}

-- ---- numbers

next_only : (u p : ℕ) → (not (nat_lt u p) && (eqb u 0 || nat_lt (u - 1) p)) ≡ eqb u p
next_only u p = grind (arith, nat_tests)

one_below : (v u p : ℕ) → v ≡ p → (eqb v u || nat_lt u p) ≡ nat_lt u (p + 1)
one_below v u p e = grind (arith, nat_tests, e)

no_more : (u p : ℕ) → nat_lt u p ≡ nat_lt u (p + 0)
no_more u p = grind (arith, nat_tests)

nothing_below : (u : ℕ) → false ≡ nat_lt u 0
nothing_below u = grind (arith, nat_tests)

-- ---- an effect may stand exactly at the first unit without one

may_by : (past : Past) (t : ℕ) → ((u : ℕ) → is_some (effect past t u) ≡ nat_lt u (placed past t)) → (u : ℕ)
    → may_be_effect past t u ≡ eqb u (placed past t)
may_by past t h u = ap₂ (λ x y. not x && (eqb u 0 || y)) (h u) (h (u - 1)) ∙ next_only u (placed past t)

pub effect_placed : (c : ConfigNumbers) (past : Past) (t u : ℕ) → IsLegal c past
    → is_some (effect past t u) ≡ nat_lt u (placed past t)
effect_placed c [] t u h = nothing_below u
effect_placed c (Entry.Block b ∷ past) t u h =
    let w = follows c past (Entry.Block b) h in
    some_cond (b.effect && eqb b.ticket t && eqb b.unit u) past (effect past t u)
    ∙ ap (λ x. (b.effect && eqb b.ticket t && eqb b.unit u) || x) (effect_placed c past t u w.before)
    ∙ go (b.effect && eqb b.ticket t) refl (λ e. own e w.fits (λ v. effect_placed c past b.ticket v w.before))
  where
    own : (b.effect && eqb b.ticket t) ≡ true
        → block_fits past b (find (λ g. eqb g.ticket b.ticket) (open_units past)) ≡ true
        → ((v : ℕ) → is_some (effect past b.ticket v) ≡ nat_lt v (placed past b.ticket)) → b.unit ≡ placed past t
    own e f ih =
        let a = and_parts b.effect (eqb b.ticket t) e in
        eqb-true _ _ (sym (may_by past b.ticket ih b.unit) ∙ may_parts past b _ f a.0)
        ∙ ap (placed past) (eqb-true b.ticket t a.1)

    go : (x : Bool) → (b.effect && eqb b.ticket t) ≡ x → ((b.effect && eqb b.ticket t) ≡ true → b.unit ≡ placed past t)
        → ((x && eqb b.unit u) || nat_lt u (placed past t)) ≡ nat_lt u (placed past t + cond x 1 0)
    go true e f = one_below b.unit u (placed past t) (f e)
    go false e f = no_more u (placed past t)
effect_placed c (e ∷ past) t u h = effect_placed c past t u (follows c past e h).before

-- the rule, by the count
pub may_is : (c : ConfigNumbers) (past : Past) (t u : ℕ) → IsLegal c past
    → may_be_effect past t u ≡ eqb u (placed past t)
may_is c past t u h = may_by past t (λ v. effect_placed c past t v h) u

pub marked_may : (c : ConfigNumbers) (past : Past) (b : BlockLine) → IsLegal c (Entry.Block b ∷ past) → b.effect ≡ true
    → b.unit ≡ placed past b.ticket
marked_may c past b h e =
    let w = follows c past (Entry.Block b) h in
    eqb-true _ _ (sym (may_is c past b.ticket b.unit w.before) ∙ may_parts past b _ w.fits e)

-- ---- what an effect speaks of stays

-- a unit with an effect has a Block
pub effect_made : (past : Past) (t u : ℕ) → is_some (effect past t u) ≡ true → blocks_made past t u ≡ [] → ⊥
effect_made past t u e m = clash _ e (ap is_some (no_effect past t u m))

-- and is granted
pub effect_granted : (c : ConfigNumbers) (past : Past) (t u : ℕ) → IsLegal c past → is_some (effect past t u) ≡ true
    → u < grants_of past t
effect_granted c past t u h e = elim (cases_lt u (grants_of past t)) [
  | inl l ↦ l
  | inr l ↦ absurd (effect_made past t u e (no_blocks c past t u h l))
]

-- and of a ticket that was fetched
pub effect_known : (c : ConfigNumbers) (past : Past) (t u : ℕ) → IsLegal c past → is_some (effect past t u) ≡ true
    → t ≤ Tickets.tickets past
effect_known c past t u h e = elim (cases_lt (Tickets.tickets past) t) [
  | inl l ↦ absurd (effect_made past t u e (no_blocks_yet c past t u h l))
  | inr l ↦ l
]

-- the effect, the ticket and the blocks of a unit are the same in both
pub record Same (past later : Past) (t u : ℕ) : Type 0 where
  pub effect : effect later t u ≡ effect past t u
  pub ticket : Tickets.ticket later t ≡ Tickets.ticket past t
  pub range : unit_range later t u ≡ unit_range past t u

pub stays : (c : ConfigNumbers) (past : Past) (e : Entry) (t u : ℕ) → IsLegal c (e ∷ past)
    → is_some (effect past t u) ≡ true → Same past (e ∷ past) t u
stays c past (Entry.Publish p) t u h s = record { effect = refl; ticket = refl; range = refl }
stays c past (Entry.Fetch f) t u h s =
    record {
      effect = refl;
      ticket =
          ticket_kept c past f t h (effect_known c past t u (follows c past (Entry.Fetch f) h).before s);
      range = refl;
    }
stays c past (Entry.Grant g) t u h s =
    record {
      effect = refl;
      ticket = refl;
      range = elim (cases_Bool (eqb g.ticket t && eqb g.unit u)) [
        | inl e ↦ absurd (effect_made past t u s
            (no_blocks c past t u (follows c past (Entry.Grant g) h).before (grants_before c past g t u h e)))
        | inr e ↦ range_before past g t u e
      ];
    }
stays c past (Entry.Block b) t u h s =
    record {
      effect = cond-false _ _ _ (apart (cases_Bool (b.effect && eqb b.ticket t && eqb b.unit u)));
      ticket = refl;
      range = refl;
    }
  where
    apart : ((b.effect && eqb b.ticket t && eqb b.unit u) ≡ true)
        ⊎ ((b.effect && eqb b.ticket t && eqb b.unit u) ≡ false) → (b.effect && eqb b.ticket t && eqb b.unit u) ≡ false
    apart (inr e) = e
    apart (inl e) =
        let a = and_parts (b.effect && eqb b.ticket t) (eqb b.unit u) e in
        let d = and_parts b.effect (eqb b.ticket t) a.0 in
        let at : u ≡ placed past t = sym (eqb-true b.unit u a.1) ∙ marked_may c past b h d.0
        ∙ ap (placed past) (eqb-true b.ticket t d.1) in
        let below = ltb-true _ _ (sym (effect_placed c past t u (follows c past (Entry.Block b) h).before) ∙ s) in
        absurd (omega (arith, at, below))
stays c past (Entry.Post p) t u h s = record { effect = refl; ticket = refl; range = refl }
stays c past (Entry.Reap r) t u h s = record { effect = refl; ticket = refl; range = refl }
