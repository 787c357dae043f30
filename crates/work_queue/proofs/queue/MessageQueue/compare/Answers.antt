use Rattle.std.proofs.Common.{ap, subst, sym, ◌<◌, ◌∙◌}
use Rattle.crossbeam_queue.specs.Passes.{view}
use Rattle.work_queue.specs.QueueSteps.{HasOwn, HearsPopped}
use Rattle.work_queue.specs.Queues.{hearing}
use Rattle.work_queue.specs.declared.message.QueueView.{QueueView}
use Rattle.work_queue.proofs.Dealing.{agrees, compares, hears, owns_popped, tells}
use Rattle.work_queue.proofs.queue.MessageQueue.compare.Goals as goal

pub another-told-requires-clause-rule : goal.another-told-requires-clause-rule
another-told-requires-clause-rule g c =
    tells g.T.Message.lock g.T.Message.ready c.args.popper.now.place.id (view c.args.popper.now.place)
    c.args.popper.now.is_bound c.args.popper.now.numbered

pub absorb-requires-clause-rule : goal.absorb-requires-clause-rule
absorb-requires-clause-rule g c =
    let is = c.another-told.ensures.rule.1 in
    hears g.T.Message.lock g.T.Message.ready c.args.pusher.now.place.id (view c.args.pusher.now.place)
    c.another-told.result.id (view c.another-told.result) c.args.pusher.now.is_bound
    (ap (λ (v : QueueView g.row.T.Denot). v.is_bound) is ∙ c.args.popper.now.is_bound)
    (ap (λ (v : QueueView g.row.T.Denot). v.number) is)

pub learn_as-requires-clause-rule : goal.learn_as-requires-clause-rule
learn_as-requires-clause-rule g c =
    compares g.T.Message.lock g.T.Message.ready c.absorb.new.pass.id (view c.absorb.new.pass)
    (subst (λ (v : QueueView g.row.T.Denot). 0 < v.number) (sym c.absorb.ensures.rule) c.args.pusher.now.numbered)

pub learn_as-requires-2-clause-rule : goal.learn_as-requires-2-clause-rule
learn_as-requires-2-clause-rule g c =
    owns_popped g.T.Message.lock g.T.Message.ready c.another-told.new.pass.id (view c.another-told.new.pass)
    (subst (λ (v : QueueView g.row.T.Denot). 0 < v.number) (sym c.another-told.ensures.rule.0)
    c.args.popper.now.numbered)

pub returns-clause-matched : goal.returns-clause-matched
returns-clause-matched g c = λ k e a.
    let was = view c.args.popper.now.place in
    let same = c.another-told.ensures.rule.0 in
    agrees was (view c.args.pusher.now.place) (view c.learn_as.new.pass) (view c.learn_as-2.new.pass)
    (c.learn_as.ensures.queue.1
    ∙ (c.absorb.ensures.rule ∙ ap (hearing (view c.args.pusher.now.place)) c.another-told.ensures.rule.1))
    (subst HearsPopped (sym c.learn_as.ensures.queue.1) c.learn_as.ensures.rule.1) (c.learn_as-2.ensures.queue.1 ∙ same)
    (subst HasOwn same c.learn_as-2.ensures.rule.1) k e a
