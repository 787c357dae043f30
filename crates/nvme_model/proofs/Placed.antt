-- Each effect stands between its ticket's Fetch and first Post, once, and none is missing.
use Rattle.std.proofs.Common.{◌≡◌, ℕ, ◌-◌, ◌≤◌, Bool, true, false, not, ◌&&◌, ◌||◌, cond, List, [], ◌∷◌, length, refl}
use Rattle.std.proofs.Common.{sym, ap, ◌∙◌, subst, Option, Some, None, is_some, inl, inr, ◌⊎◌, arith, eqb, slice_get}
use Rattle.std.proofs.Common.{ltb-true}
use Rattle.std.specs.List.{list_any, find}
use Rattle.std.proofs.lemmas.Bool.{and_parts, and_right, cases_eq, cond-false, not-false}
use Rattle.nvme_model.specs.declared.config.ConfigNumbers.{ConfigNumbers}
use Rattle.nvme_model.specs.History.{Past}
use Rattle.nvme_model.specs.Tickets
use Rattle.nvme_model.specs.Tickets.{Ticket, posts_of, in_flight, first_fields}
use Rattle.nvme_model.specs.Operations.{op, op_by, has_compare}
use Rattle.nvme_model.specs.Open.{open_units, unit_range}
use Rattle.nvme_model.specs.Value.{value, all_equal, writes}
use Rattle.nvme_model.specs.Array.{has_block}
use Rattle.nvme_model.specs.Placed.{effect, may_be_effect}
use Rattle.nvme_model.specs.Owed.{owed, owed_after, owed_by, some_no, all_ended, all_done}
use Rattle.nvme_model.specs.Legal.{IsLegal, post_fits, block_fits}
use Rattle.nvme_model.specs.declared.operation.Op.{Op}
use Rattle.nvme_model.specs.declared.status.Status.{Status}
use Rattle.nvme_model.specs.declared.status.Verdict.{Verdict}
use Rattle.nvme_model.specs.declared.entry.GrantLine.{GrantLine}
use Rattle.nvme_model.specs.declared.entry.BlockLine.{BlockLine}
use Rattle.nvme_model.specs.declared.entry.PostLine.{PostLine}
use Rattle.nvme_model.specs.declared.entry.Entry.{Entry}
use Rattle.nvme_model.proofs.Lists.{each_find}
use Rattle.nvme_model.proofs.Rules.{follows}
use Rattle.nvme_model.proofs.Apart.{fetched_if}
use Rattle.nvme_model.proofs.Blocks.{may_block}
use Rattle.nvme_model.proofs.Finished.{posted_finished}
use Rattle.nvme_model.proofs.NeverStuck.{open_flying, zero_ticket}
use Rattle.nvme_model.proofs.Cut.{clash}

-- the ticket of a Block is in flight
block_flying : (c : ConfigNumbers) (past : Past) (b : BlockLine) → IsLegal c (Entry.Block b ∷ past)
    → in_flight past b.ticket ≡ true
block_flying c past b h = not-false _ (follows c past (Entry.Block b) h).allowed.0

pub block_fetched : (c : ConfigNumbers) (past : Past) (b : BlockLine) → IsLegal c (Entry.Block b ∷ past)
    → (1 ≤ b.ticket) × (b.ticket ≤ Tickets.tickets past)
block_fetched c past b h =
    let before = (follows c past (Entry.Block b) h).before in
    let i = block_flying c past b h in
    (some before i, fetched_if c past b.ticket before i)
  where
    some : IsLegal c past → in_flight past b.ticket ≡ true → 1 ≤ b.ticket
    some k i = elim (cases_eq b.ticket 0) [
      | inl e ↦ absurd (omega (
        arith,
        ltb-true _ _ i,
        ap (λ (u : ℕ). length (Tickets.ticket past u).commands) e
            ∙ ap length (zero_ticket c past k),
      ))
      | inr e ↦ omega (arith, e)
    ]

pub block_unposted : (c : ConfigNumbers) (past : Past) (b : BlockLine) → IsLegal c (Entry.Block b ∷ past)
    → posts_of past b.ticket ≡ 0
block_unposted c past b h =
    let before = (follows c past (Entry.Block b) h).before in
    let m = may_block c past b h in
    let o = each_find (λ x. (in_flight past x.ticket ≡ true)
    × (list_any (λ y. eqb y.ticket x.ticket) (open_units past) ≡ true)) (λ x. eqb x.ticket b.ticket)
    (open_units past) m.0 (open_flying c past before) m.1 in
    elim (cases_eq (posts_of past b.ticket) 0) [
      | inl e ↦ e
      | inr e ↦ clash _ (subst (λ (t : ℕ). list_any (λ y. eqb y.ticket t) (open_units past) ≡ true) m.2.ticket o.0.1)
          (posted_finished c past b.ticket before (omega (arith, e))).closed
    ]

-- a marked entry is the first of its unit
once_by : (past : Past) (b : BlockLine) (o : Option GrantLine) → block_fits past b o ≡ true → b.effect ≡ true
    → effect past b.ticket b.unit ≡ None
once_by past b None f e = clash false f refl
once_by past b (Some g) f e =
    let a = and_parts _ _ f in
    let d = and_parts _ _ a.0 in
    none_of (effect past b.ticket b.unit) (unmarked (may_be_effect past b.ticket b.unit) b.effect e d.1)
  where
    unmarked : (x y : Bool) → y ≡ true → (not y || x) ≡ true → x ≡ true
    unmarked x true p q = q
    unmarked x false p q = clash true refl (sym p)

    none_of : (o : Option Past)
        → (not (is_some o) && (eqb b.unit 0 || is_some (effect past b.ticket (b.unit - 1)))) ≡ true → o ≡ None
    none_of None q = refl
    none_of (Some before) q = clash false q refl

pub effect_once : (c : ConfigNumbers) (past : Past) (b : BlockLine) → IsLegal c (Entry.Block b ∷ past) → b.effect ≡ true
    → effect past b.ticket b.unit ≡ None
effect_once c past b h e =
    once_by past b (find (λ g. eqb g.ticket b.ticket) (open_units past)) (follows c past (Entry.Block b) h).fits e

-- what differs writes nothing
pub no_writes_nothing : (past : Past) (b : BlockLine) (l : ℕ) → has_compare (op (Tickets.ticket past b.ticket)) ≡ true
    → all_equal (value past) (Tickets.ticket past b.ticket) (unit_range past b.ticket b.unit) ≡ false
    → value (Entry.Block b ∷ past) l ≡ value past l
no_writes_nothing past b l p e =
    let k = Tickets.ticket past b.ticket in
    cond-false _ _ _ (and_right (b.effect && has_block (unit_range past b.ticket b.unit) l)
    (writes (value past) k (unit_range past b.ticket b.unit)) (and_right _ _ (neither _ _ p e)))
  where
    neither : (x y : Bool) → x ≡ true → y ≡ false → (not x || y) ≡ false
    neither true y p e = e
    neither false y p e = clash true refl (sym p)

-- ---- a ticket that posts

one : (x d : Bool) (a b : List Status) (i : ℕ) (s : Status) → slice_get (cond x a (cond d b [])) i ≡ Some s
    → (x ≡ true) ⊎ (d ≡ true)
one true d a b i s e = inl refl
one false true a b i s e = inr refl
one false false a b i s e = absurd (let f : None ≡ Some s = e in cc)

some_status : (c : ConfigNumbers) (past : Past) (t : ℕ) (o : Option Op) (i : ℕ) (s : Status) → is_some o ≡ true
    → slice_get (owed_by c past t o) i ≡ Some s → (some_no c past t ≡ true) ⊎ (all_done c past t ≡ true)
some_status c past t None i s p e = clash false p refl
some_status c past t (Some Op.Pair) i s p e = go (some_no c past t) (all_ended c past t) (all_done c past t) _ _ e
  where
    go : (x z d : Bool) (a b : List Status) → slice_get (cond (x && z) a (cond d b [])) i ≡ Some s
        → (x ≡ true) ⊎ (d ≡ true)
    go true z d a b e = inl refl
    go false z true a b e = inr refl
    go false z false a b e = absurd (let f : None ≡ Some s = e in cc)
some_status c past t (Some Op.Read) i s p e = one (some_no c past t) (all_done c past t) _ _ i s e
some_status c past t (Some Op.Compare) i s p e = one (some_no c past t) (all_done c past t) _ _ i s e
some_status c past t (Some Op.Write) i s p e = one (some_no c past t) (all_done c past t) _ _ i s e
some_status c past t (Some Op.WriteZeroes) i s p e = one (some_no c past t) (all_done c past t) _ _ i s e

by_verdict : (c : ConfigNumbers) (past : Past) (t : ℕ) (k : Ticket) (v : Verdict) (i : ℕ) (s : Status)
    → is_some (op_by v (first_fields k)) ≡ true → is_some (op k) ≡ true → slice_get (owed_after c past t k v) i ≡ Some s
    → (some_no c past t ≡ true) ⊎ (all_done c past t ≡ true)
by_verdict c past t k Verdict.Single i s p q e = some_status c past t (op k) i s q e
by_verdict c past t k Verdict.Pair i s p q e = some_status c past t (op k) i s q e
by_verdict c past t k (Verdict.SingleFailed r) i s p q e = clash false p refl
by_verdict c past t k (Verdict.PairFailed r w) i s p q e = clash false p refl

pub posted_served : (c : ConfigNumbers) (past : Past) (p : PostLine) → IsLegal c (Entry.Post p ∷ past)
    → is_some (op (Tickets.ticket past p.ticket)) ≡ true
    → (some_no c past p.ticket ≡ true) ⊎ (all_done c past p.ticket ≡ true)
posted_served c past p h o =
    let k = Tickets.ticket past p.ticket in
    go (slice_get (owed c past p.ticket) (posts_of past p.ticket)) refl (follows c past (Entry.Post p) h).fits
    (λ s e. by_verdict c past p.ticket k k.verdict (posts_of past p.ticket) s o o e)
  where
    go : (q : Option Status) → slice_get (owed c past p.ticket) (posts_of past p.ticket) ≡ q
        → post_fits c past p q ≡ true
        → ((s : Status) → slice_get (owed c past p.ticket) (posts_of past p.ticket) ≡ Some s
        → (some_no c past p.ticket ≡ true) ⊎ (all_done c past p.ticket ≡ true))
        → (some_no c past p.ticket ≡ true) ⊎ (all_done c past p.ticket ≡ true)
    go None e f g = clash false f refl
    go (Some s) e f g = g s e
