use Rattle.std.proofs.Common.{ap, arith, get_or, length, subst, ◌<◌, ◌≡◌, ◌∙◌}
use Rattle.refutation_check.specs.Answers.{answers_in}
use Rattle.refutation_check.proofs.Steps.{AddsOne, Partway, one_more, published_all}
use Rattle.refutation_check.proofs.tables.TraceAnswers.publish.Goals as goal

pub loop-place-preserved : goal.loop-place-preserved
loop-place-preserved c =
    let k = answers_in c.args.self.now in
    let old = answers_in c.loop-place.self in
    let new = answers_in c.publish_one.new.self in
    let line = c.args.number in
    let q = c.args.line.now.queue in
    let batch = c.args.line.now.batch in
    let i = c.loop-place.place in
    let d = c.index-batch-place.result in
    let items = c.loop-place.invariant.1 in
    let low : i < length batch = subst (λ xs. i < length xs) items c.loop-place-test.true in
    let same : d ≡ get_or batch i d = c.index-batch-place.is ∙ ap (λ xs. get_or xs i d) items in
    let adds : AddsOne old new line q i d = record {
      published = c.in_ok-publish_one.ensures.published;
      entries = c.in_ok-publish_one.ensures.entries;
      waiting = c.in_ok-publish_one.ensures.waiting;
      answers = c.in_ok-publish_one.ensures.answers;
      tidy = c.in_ok-publish_one.ensures.tidy;
      fits = c.in_ok-publish_one.ensures.fits;
      few = c.in_ok-publish_one.ensures.few;
    } in (
      one_more k old new line q batch i d low c.loop-place.invariant.0 (subst (AddsOne old new line q i) same adds),
      items,
    )

pub returns : goal.returns
returns c = λ trace is long.
    let k = answers_in c.args.self.now in
    let now = answers_in c.loop-place.self in
    let q = c.args.line.now.queue in
    let batch = c.args.line.now.batch in
    let items = c.loop-place.invariant.1 in
    let ended : c.loop-place.place ≡ length batch =
    omega (arith, c.loop-place-test.false, c.loop-place.auto.place-end, ap length items) in
    published_all k now c.args.line.now trace c.short_fits.ensures
    (subst (λ n. Partway k now n q batch (length batch)) long
    (subst (Partway k now c.args.number q batch) ended c.loop-place.invariant.0))
    is
