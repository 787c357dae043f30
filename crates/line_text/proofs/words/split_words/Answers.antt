use Rattle.std.proofs.Common.{refl, ◌==◌}
use Rattle.std.specs.List.{slice_split}
use Rattle.line_text.proofs.WordLaws.{next_is, split_first, split_last, word_last, word_more}
use Rattle.line_text.proofs.words.split_words.Goals as goal

pub loop-end-preserved : goal.loop-end-preserved
loop-end-preserved c =
    let rest = c.loop-end.rest.now in
    let here = c.in-Some.ensures in
    let next = next_is rest c.split_at.result.1.now _ c.in-Some.end c.split_at.ensures.back refl in
    let split = split_first c.args.at rest c.split_at.result.0.now _ c.in-Some.end here.0 here.1
    c.split_at.ensures.front next in
    word_more (λ word. word.now) (slice_split (λ b. b == c.args.at)) c.loop-end.words.items _ c.split_at.result.0 rest _
    _ c.in_ok-push.ensures.items split c.loop-end.invariant

pub returns : goal.returns
returns c =
    word_last (λ word. word.now) (slice_split (λ b. b == c.args.at)) c.loop-end.words.items _ _ c.loop-end.rest.now _
    c.in_ok-push-2.ensures.items (split_last c.args.at c.loop-end.rest.now c.in_default.ensures) c.loop-end.invariant
