use Rattle.std.proofs.Common.{IfOk, map, reverse, subst, sym}
use Rattle.std.specs.List.{AllZip}
use Rattle.hosts.specs.Returning.{GaveBack}
use Rattle.hosts.proofs.Ends.{gave_less, gave_one, gave_too}
use Rattle.hosts.proofs.crew.ended.Goals as goal

pub returns-clause-workers : goal.returns-clause-workers
returns-clause-workers g c =
    let b = c.join_each-ends.ensures.back in
    let kept = g.P.Promise.kept_by in
    let ps = reverse (map (λ h. h.promise) c.args.started.items) in (
      b.0,
      b.1,
      subst (λ r. AllZip (GaveBack kept r) ps b.0) (sym c.and-all.ensures)
          (gave_less kept c.and-joined.result c.fetched-caller.result.1 ps b.0
          (subst (λ r. AllZip (GaveBack kept r) ps b.0) (sym c.and-joined.ensures)
          (gave_too kept c.args.begun c.join_each-ends.result ps b.0 b.2))),
    )

pub returns-clause-fetcher : goal.returns-clause-fetcher
returns-clause-fetcher g c =
    subst (λ r. IfOk c.args.fetching (λ h. GaveBack g.Q.Promise.kept_by r h.promise c.fetched-caller.result.0))
    (sym c.and-all.ensures)
    (gave_one g.Q.Promise.kept_by (λ h. h.promise) c.args.fetching c.and-joined.result c.fetched-caller.result.1
    c.fetched-caller.result.0 c.fetched-caller.ensures.runs)
