use Rattle.std.proofs.Common.{arith, false, sym, true, ◌≡◌, ◌∙◌}
use Rattle.trace.specs.Options.{ReadsEntry}
use Rattle.trace.proofs.Pointwise.{one_more, of_place, same_length}
use Rattle.witness_check.proofs.same.reads_items.Goals as goal

pub returns-then-some-told : goal.returns-then-some-told
returns-then-some-told c = record {
  value = (
    λ z. absurd (let w : false ≡ true = z in cc),
    λ h. absurd (c.if-some-told.true (same_length (ReadsEntry c.args.options.now) c.args.some.now c.args.told.now h)),
  );
}

pub returns-then-not-reads_item : goal.returns-then-not-reads_item
returns-then-not-reads_item c =
    let some = c.args.some.now in
    let told = c.args.told.now in
    let place = c.loop-place.place in record {
      value = (
        λ z. absurd (let w : false ≡ true = z in cc),
        λ h. sym c.if-not-reads_item.true
            ∙ c.reads_item.ensures.value.1
            (of_place (ReadsEntry c.args.options.now) some told place c.index-some-place.result
            c.index-told-place.result
            c.loop-place-test.true (omega (arith, c.loop-place-test.true, c.if-some-told.false)) c.index-some-place.is
            c.index-told-place.is h),
      );
    }

pub loop-place-preserved : goal.loop-place-preserved
loop-place-preserved c =
    let some = c.args.some.now in
    let told = c.args.told.now in
    let place = c.loop-place.place in
    one_more (ReadsEntry c.args.options.now) some told place c.index-some-place.result c.index-told-place.result
    c.loop-place-test.true (omega (arith, c.loop-place-test.true, c.if-some-told.false)) c.index-some-place.is
    c.index-told-place.is c.loop-place.invariant (c.reads_item.ensures.value.0 c.if-not-reads_item.false)
