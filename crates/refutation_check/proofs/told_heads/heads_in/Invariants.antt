use Rattle.std.proofs.Common.{take, ◌≡◌}
use Rattle.std.specs.Prelude.{reverse}
use Rattle.refutation_check.specs.Answers.{KnowsAnswers, answers_in}
use Rattle.refutation_check.specs.Posts.{KnowsPosts, posts_in}
use Rattle.refutation_check.specs.ToldHeads.{heads_in}
use Rattle.refutation_check.proofs.told_heads.heads_in.Given as goal

abbrev pub invariant-loop-place : goal.invariant-loop-place
invariant-loop-place l =
    KnowsAnswers (reverse (take l.place l.trace)) (answers_in l.tables)
    × KnowsPosts l.config (reverse (take l.place l.trace)) (posts_in l.posts)
    × (l.heads.items ≡ heads_in l.config (reverse (take l.place l.trace)))
