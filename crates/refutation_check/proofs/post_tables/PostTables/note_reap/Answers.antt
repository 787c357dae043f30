use Rattle.std.proofs.Common.{Some, cond, eqb, ◌&&◌, ◌∙◌}
use Rattle.refutation_check.specs.Posts.{posts_in}
use Rattle.refutation_check.proofs.Steps.{on_ok}
use Rattle.refutation_check.proofs.post_tables.PostTables.note_reap.Goals as goal

pub returns-clause-reaps : goal.returns-clause-reaps
returns-clause-reaps c =
    on_ok _ c.add_one.result (λ n i. c.in_ok-insert.ensures.updates.0 (record { queue = n; number = i })
    ∙ (λ t. cond (eqb c.args.queue n && eqb (c.count_of-number.ensures.value t) i) (Some c.args.lines)
    ((posts_in c.args.self.now).reaps n i)))
