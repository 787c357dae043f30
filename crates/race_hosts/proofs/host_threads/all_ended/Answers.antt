use Rattle.std.proofs.Common.{map, reverse, subst, sym}
use Rattle.std.specs.List.{AllZip}
use Rattle.hosts.specs.Returning.{GaveBack}
use Rattle.hosts.proofs.Ends.{gave_too}
use Rattle.race_hosts.proofs.host_threads.all_ended.Goals as goal

pub returns-clause-back : goal.returns-clause-back
returns-clause-back g c =
    let b = c.join_each-ends.ensures.back in
    let kept = g.P.Promise.kept_by in
    let ps = reverse (map (λ h. h.promise) c.args.started.items) in (
      b.0,
      b.1,
      subst (λ r. AllZip (GaveBack kept r) ps b.0) (sym c.and.ensures)
          (gave_too kept c.args.begun c.join_each-ends.result ps b.0 b.2),
    )
