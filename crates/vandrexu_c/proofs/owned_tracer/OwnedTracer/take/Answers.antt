use Rattle.std.proofs.Common.{Option, ap, subst, sym, ◌∙◌, ◌∷◌, ◌≡◌}
use Rattle.nvme_model.specs.Legal.{IsLegal}
use Rattle.trace.specs.Observed.{shown}
use Rattle.trace.specs.declared.seen.Seen.{Seen}
use Rattle.vandrexu_c.proofs.SeenTaken.{takes}
use Rattle.vandrexu_c.specs.Tracers.{FollowsTrace, TracerRun, published_or, reaped_of}
use Rattle.vandrexu_c.proofs.owned_tracer.OwnedTracer.take.Goals as goal

pub returns-clause-taken : goal.returns-clause-taken
returns-clause-taken c k past h =
    let s = c.self.inside in
    let old : TracerRun = record { waiting = s.observer; last = s.last } in
    let is : c.seen_of.result ≡ published_or c.args.entry (reaped_of c.in_ok-sight.sight) =
    c.seen_of.ensures ∙ ap (published_or c.args.entry) c.reaped-reaped.ensures in
    subst (λ (o : Option Seen). FollowsTrace k (c.args.entry ∷ past) (record { waiting = c.take.new.self; last = o })
    × (IsLegal k (c.args.entry ∷ past) → o ≡ shown k past c.args.entry)) (sym is)
    (takes old c.args.entry c.in_ok-sight.sight c.take.new.self c.in_ok-sight.ensures.seen c.in_ok-sight.ensures.waits
    k past (subst (FollowsTrace k past) (sym c.self.view_is) h))
