use Rattle.std.proofs.Common.{arith, ◌∙◌}
use Rattle.history_check.proofs.Publishing.{publish_no, publish_yes}
use Rattle.history_check.proofs.publish.take_publish.Goals as goal

pub returns-in_default-publish-clause-took : goal.returns-in_default-publish-clause-took
returns-in_default-publish-clause-took c = λ n past k.
    publish_no n past _ k c.args.line.now c.in-Some.place
    (record {
      next = c.in-Some.ensures.value.0;
      within = omega (arith, c.in-Some.ensures.value.1, c.len.ensures, k.shows.sq_rings.size);
    })
    c.index_mut.result.now c.index_mut.ensures.value _
    (c.new.ensures ∙ c.in_ok-copy.ensures.same ∙ c.as_slice.ensures.value) _ _ c.in_default-publish.ensures.refused

pub returns-clause-took : goal.returns-clause-took
returns-clause-took c = λ n past k.
    publish_yes n past _ k c.args.line.now c.in-Some.place
    (record {
      next = c.in-Some.ensures.value.0;
      within = omega (arith, c.in-Some.ensures.value.1, c.len.ensures, k.shows.sq_rings.size);
    })
    c.index_mut.result.now c.index_mut.ensures.value _
    (c.new.ensures ∙ c.in_ok-copy.ensures.same ∙ c.as_slice.ensures.value) _ c.in-Ok.ensures.accepted
    c.in-Ok.ensures.ok
