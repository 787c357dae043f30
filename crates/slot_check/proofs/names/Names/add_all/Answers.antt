use Rattle.std.proofs.Common.{arith, drop, suc, subst, sym, ℕ, ◌++◌, ◌-◌, ◌∙◌, ◌≡◌}
use Rattle.slot_check.specs.Names.{KnowsNames, names_in}
use Rattle.slot_check.proofs.Knowing.{added_at, fresh_is}
use Rattle.slot_check.proofs.names.Names.add_all.Goals as goal

pub loop-left-preserved : goal.loop-left-preserved
loop-left-preserved c =
    record {
      within = omega arith;
      claims = omega arith;
      won = omega arith;
      released = omega arith;
      knows = λ r of h f u.
          let e : suc (c.loop-left.left - 1) ≡ c.loop-left.left = omega (arith, c.loop-left-test.true) in
          added_at r of (names_in c.loop-left.self) (names_in c.add.new.self) c.args.swaps.now (c.loop-left.left - 1)
          c.index-swaps-left.result c.index-swaps-left.result
          (omega (arith, c.loop-left-test.true, c.loop-left.invariant.within)) c.index-swaps-left.is
          (sym (fresh_is r of (names_in c.args.self.now) c.args.swaps.now h) ∙ f) u
          (subst (λ (x : ℕ). KnowsNames r (drop x c.args.swaps.now ++ of) (names_in c.loop-left.self)) (sym e)
          (c.loop-left.invariant.knows r of h f u)) c.add.ensures.claims c.add.ensures.won c.add.ensures.released;
    }
