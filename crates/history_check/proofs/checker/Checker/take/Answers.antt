use Rattle.std.proofs.Common.{subst, ◌∷◌, ◌≡◌}
use Rattle.nvme_model.specs.Legal.{legal}
use Rattle.history_check.specs.Kept.{Stands, CheckerRun, checker_state_in}
use Rattle.history_check.proofs.Standing.{stands_next}
use Rattle.history_check.proofs.checker.Checker.take.Goals as goal

pub invariant_of-self-2 : goal.invariant_of-self-2
invariant_of-self-2 c =
    let past = c.self.invariant.0 in
    let s = c.self.invariant.1 in (
      c.args.entry.now ∷ past,
      (stands_next _ past _ c.args.entry.now c.in_ok-follows.follows (checker_state_in c.take_entry.new.fields) s
          c.if-not-self.false (c.in_ok-follows.ensures.took past (s.keeps c.if-not-self.false))).1,
    )

pub returns-clause-ok : goal.returns-clause-ok
returns-clause-ok c = λ past. subst (λ (x : CheckerRun). Stands x.config past x →
    (c.in_ok-follows.follows ≡ legal x.config (c.args.entry.now ∷ past))
    × Stands x.config (c.args.entry.now ∷ past)
    (record {
      config = c.self.inside.config;
      is_legal = c.in_ok-follows.follows;
      kept = checker_state_in c.take_entry.new.fields;
    })) c.self.view_is
    (λ s. stands_next _ past _ c.args.entry.now c.in_ok-follows.follows (checker_state_in c.take_entry.new.fields) s
    c.if-not-self.false (c.in_ok-follows.ensures.took past (s.keeps c.if-not-self.false)))
