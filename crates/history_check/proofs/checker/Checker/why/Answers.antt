use Rattle.std.proofs.Common.{subst, ◌∷◌, ◌≡◌}
use Rattle.std.specs.Prelude.{IfOk, is_none}
use Rattle.broken_rules.specs.Broken.{first_broken}
use Rattle.nvme_model.specs.Legal.{legal}
use Rattle.history_check.specs.Kept.{Stands, CheckerRun}
use Rattle.history_check.proofs.Explained.{broken_is}
use Rattle.history_check.proofs.Telling.{none_by}
use Rattle.history_check.proofs.checker.Checker.why.Goals as goal

pub returns-clause-first : goal.returns-clause-first
returns-clause-first c =
    λ past. subst (λ (x : CheckerRun). Stands x.config past x
    → IfOk c.why_broken.result (λ b. b ≡ first_broken x.config past c.args.entry.now)) c.self.view_is
    (λ s. let keeps = s.keeps c.if-not-self.false in
    rw (broken_is c.self.inside.config past c.args.entry.now keeps.legal_so_far)
    (c.why_broken.ensures.value past keeps))

pub returns-clause-none : goal.returns-clause-none
returns-clause-none c = λ past.
    subst (λ (x : CheckerRun). Stands x.config past x
    → IfOk c.why_broken.result (λ b. is_none b ≡ legal x.config (c.args.entry.now ∷ past))) c.self.view_is
    (λ s.
    let keeps = s.keeps c.if-not-self.false in
    let first : IfOk c.why_broken.result (λ b. b ≡ first_broken c.self.inside.config past c.args.entry.now) =
    rw (broken_is c.self.inside.config past c.args.entry.now keeps.legal_so_far)
    (c.why_broken.ensures.value past keeps) in
    none_by c.why_broken.result c.self.inside.config past c.args.entry.now first)
