use Rattle.std.proofs.Common.{ap, subst, take, ◌∙◌, ◌∷◌}
use Rattle.std.specs.Prelude.{reverse}
use Rattle.refutation_check.specs.Answers.{KnowsAnswers, answers_in}
use Rattle.refutation_check.specs.Posts.{KnowsPosts, posts_in}
use Rattle.refutation_check.specs.ToldHeads.{heads_in}
use Rattle.refutation_check.proofs.Steps.{line_number, one_line}
use Rattle.refutation_check.proofs.told_heads.heads_in.Goals as goal

pub loop-place-preserved : goal.loop-place-preserved
loop-place-preserved c =
    let xs = c.args.trace.now in
    let i = c.loop-place.place in
    let k = c.loop-place.invariant in
    let newest = ap (λ s. s ∷ reverse (take i xs)) c.index-trace-place.is
    ∙ one_line xs i c.index-trace-place.result c.loop-place-test.true in (
      subst (λ t. KnowsAnswers t (answers_in c.take.new.self)) newest
          (c.in_ok-take.ensures (reverse (take i xs)) k.0 (line_number xs i c.loop-place-test.true)),
      subst (λ t. KnowsPosts c.args.config.now t (posts_in c.add_head.new.posts)) newest
          (c.in_ok-add_head.ensures.knows k.0 k.1),
      c.in_ok-add_head.ensures.heads k.0 k.1 k.2 ∙ ap (heads_in c.args.config.now) newest,
    )
