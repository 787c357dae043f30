-- The stage of a ticket whose next unit can be opened.
use Rattle.std.proofs.Common.{◌≡◌, ◌==◌, ◌⊎◌, ◌≤◌, Bool, None, Option, Some, ap, arith, cond, eqb-true, false, inl, inr}
use Rattle.std.proofs.Common.{is_some, ne_eqb, refl, slice_get, subst, sym, true, ◌∙◌}
use Rattle.nvme_model.specs.Cut.{cut}
use Rattle.nvme_model.specs.declared.array.Range.{Range}
use Rattle.nvme_model.specs.declared.config.AtomicParameters.{AtomicParameters}
use Rattle.nvme_model.specs.declared.config.ConfigNumbers.{ConfigNumbers}
use Rattle.nvme_model.specs.declared.operation.Op.{Op}
use Rattle.ticket_laws.specs.Standing.{OpenUnit, Standing, blocks_left, next_of, still_owed}
use Rattle.ticket_laws.proofs.Left.{next_starts}
use Rattle.job_table.specs.Shown.{stage_by}
use Rattle.job_table.specs.Stages.{IsFirstUnit, next_in}
use Rattle.job_table.specs.declared.progress.TicketStage.{TicketStage}
use Rattle.job_table.specs.declared.progress.TicketStage.TheVariants.{Owing, Waiting}

-- nothing is open, and this unit is the first of what is left
pub record Waits (c : ConfigNumbers) (s : Standing) (r : Range) (o : Option Op) (u : Option OpenUnit) : Type 0 where
  pub operation : Op
  pub is : o ≡ Some operation
  pub closed : u ≡ None
  pub next : next_of c.atomic (Some operation) (blocks_left c s) ≡ Some r
  pub stage : stage_by c s o u ≡ Waiting operation s.opened (blocks_left c s)

-- it is so where there is a next unit
pub waits : (c : ConfigNumbers) (s : Standing) (r : Range) (o : Option Op) (u : Option OpenUnit)
    → next_in c.atomic (stage_by c s o u) ≡ Some r → Waits c s r o u
waits c s r None u e = absurd (let f : None ≡ Some r = e in cc)
waits c s r (Some o) (Some u) e = absurd (let f : None ≡ Some r = e in cc)
waits c s r (Some o) None e = by ((blocks_left c s).blocks == 0) refl e
  where
    by : (b : Bool) → ((blocks_left c s).blocks == 0) ≡ b
        → next_in c.atomic (cond b (Owing (still_owed c s)) (Waiting o s.opened (blocks_left c s))) ≡ Some r
        → Waits c s r (Some o) None
    by true q e = absurd (let f : None ≡ Some r = e in cc)
    by false q e = record {
      operation = o;
      is = refl;
      closed = refl;
      next = e;
      stage = ap (λ (b : Bool). cond b (Owing (still_owed c s)) (Waiting o s.opened (blocks_left c s))) q;
    }

-- and where nothing is open and this is the next of what is left
pub opens : (c : ConfigNumbers) (s : Standing) (r : Range) (o : Option Op) (u : Option OpenUnit) → is_some o ≡ true
    → u ≡ None → next_of c.atomic o (blocks_left c s) ≡ Some r → 1 ≤ r.blocks → Waits c s r o u
opens c s r None u some closed next least = absurd cc
opens c s r (Some o) u some closed next least =
    let there : ((blocks_left c s).blocks == 0) ≡ false =
    ne_eqb (blocks_left c s).blocks 0
    (λ (e : (blocks_left c s).blocks
    ≡ 0). omega (arith, e, least, (next_starts c.atomic (Some o) (blocks_left c s) r next).1)) in
    record {
      operation = o;
      is = refl;
      closed = closed;
      next = next;
      stage = ap (stage_by c s (Some o)) closed
          ∙ ap (λ (b : Bool). cond b (Owing (still_owed c s)) (Waiting o s.opened (blocks_left c s))) there;
    }

-- no unit is next of no blocks
nothing_next : (a : AtomicParameters) (o : Op) (r : Range) → (r.blocks == 0) ≡ true → next_of a (Some o) r ≡ None
nothing_next a Op.Pair r e = ap (λ (b : Bool). cond b None (Some r)) e
nothing_next a Op.Read r e = ap (λ n. slice_get (cut a r.slba n) 0) (eqb-true r.blocks 0 e)
nothing_next a Op.Compare r e = ap (λ n. slice_get (cut a r.slba n) 0) (eqb-true r.blocks 0 e)
nothing_next a Op.Write r e = ap (λ n. slice_get (cut a r.slba n) 0) (eqb-true r.blocks 0 e)
nothing_next a Op.WriteZeroes r e = ap (λ n. slice_get (cut a r.slba n) 0) (eqb-true r.blocks 0 e)

-- where there is none, a unit is open or nothing is left
pub no_next : (c : ConfigNumbers) (s : Standing) (o : Option Op) (u : Option OpenUnit)
    → next_in c.atomic (stage_by c s o u) ≡ None → (is_some u ≡ true) ⊎ (next_of c.atomic o (blocks_left c s) ≡ None)
no_next c s None u e = inr refl
no_next c s (Some o) (Some u) e = inl refl
no_next c s (Some o) None e = inr (by ((blocks_left c s).blocks == 0) refl e)
  where
    by : (b : Bool) → ((blocks_left c s).blocks == 0) ≡ b
        → next_in c.atomic (cond b (Owing (still_owed c s)) (Waiting o s.opened (blocks_left c s))) ≡ None
        → next_of c.atomic (Some o) (blocks_left c s) ≡ None
    by true q e = nothing_next c.atomic o (blocks_left c s) q
    by false q e = e

-- a pair's unit is all that is left
whole : (a : AtomicParameters) (l r : Range) → next_of a (Some Op.Pair) l ≡ Some r → r.blocks ≡ l.blocks
whole a l r e = go (l.blocks == 0) e
  where
    go : (b : Bool) → cond b None (Some l) ≡ Some r → r.blocks ≡ l.blocks
    go true e = absurd (let f : None ≡ Some r = e in cc)
    go false e = let same : Some r ≡ Some l = sym e in cc

-- the next unit may be opened
pub first_of : (c : ConfigNumbers) (s : Standing) (r : Range) (o : Option Op) (u : Option OpenUnit) → Waits c s r o u
    → 1 ≤ r.blocks → IsFirstUnit (stage_by c s o u) r
first_of c s r o u w least =
    let starts = next_starts c.atomic (Some w.operation) (blocks_left c s) r w.next in
    subst (λ (x : TicketStage). IsFirstUnit x r) (sym w.stage) (
      starts.0,
      least,
      starts.1,
      λ (e : w.operation ≡ Op.Pair).
          whole c.atomic (blocks_left c s) r (ap (λ (x : Op). next_of c.atomic (Some x) (blocks_left c s)) (sym e)
          ∙ w.next),
    )
