use Rattle.std.proofs.Common.{Option, Some, arith, cond, drop, suc, ap, ℕ, ◌-◌, ◌∙◌, ◌≡◌}
use Rattle.host_laws.specs.Takeovers.{Takeover}
use Rattle.slot_check.specs.Names.{names_in}
use Rattle.slot_check.specs.Takeovers.{begins_at, begun_by, cut_by, cuts_in, takeovers_kept}
use Rattle.slot_check.proofs.NewTakeovers.{begun_next, cut_next}
use Rattle.slot_check.proofs.takeovers.Takeovers.add_all.Goals as goal

pub loop-left-preserved : goal.loop-left-preserved
loop-left-preserved c =
    let w = c.index-takeovers-left.result in
    let e : c.loop-left.left ≡ suc (c.loop-left.left - 1) = omega (arith, c.loop-left-test.true) in
    record {
      within = omega arith;
      begun_room = omega arith;
      cut_room = omega arith;
      begun = λ q j. c.add.ensures.begun q j
          ∙ ap (λ (o : Option Takeover). cond (begins_at q j w) (Some w) o)
          (c.loop-left.invariant.begun q j
          ∙ ap (λ (n : ℕ). begun_by (drop n c.args.takeovers.now) (takeovers_kept c.args.self.now).begun q j) e)
          ∙ begun_next c.args.takeovers.now (c.loop-left.left - 1) w w (takeovers_kept c.args.self.now).begun q j
          (omega (arith, c.loop-left-test.true, c.loop-left.invariant.within)) c.index-takeovers-left.is;
      taken = λ i n. c.add.ensures.taken i n ∙ c.loop-left.invariant.taken i n;
      cut = λ q. c.add.ensures.cut q
          ∙ ap (λ (o : Option ℕ). cond (cuts_in c.args.config.now (names_in c.args.names.now) q w) (Some w.lba) o)
          (c.loop-left.invariant.cut q
          ∙ ap (λ (n : ℕ). cut_by c.args.config.now (names_in c.args.names.now) (drop n c.args.takeovers.now)
          (takeovers_kept c.args.self.now).cut q) e)
          ∙ cut_next c.args.config.now (names_in c.args.names.now) c.args.takeovers.now (c.loop-left.left - 1) w w
          (takeovers_kept c.args.self.now).cut q
          (omega (arith, c.loop-left-test.true, c.loop-left.invariant.within)) c.index-takeovers-left.is;
    }
