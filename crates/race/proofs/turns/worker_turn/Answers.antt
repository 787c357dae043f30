use Rattle.std.proofs.Common.{arith, vec_len, ℕ, ◌+◌, ◌≡◌}
use Rattle.std.proofs.lemmas.Option.{slice_get_read}
use Rattle.meet_lock.specs.Passes.{number}
use Rattle.shared_system.specs.Callers.{IsWorkerOf, WorkerContinues}
use Rattle.shared_system.specs.declared.system.WorkerPasses.{WorkerPasses}
use Rattle.race.specs.Ended.{HasEnded}
use Rattle.race.proofs.Callers.{served_on}
use Rattle.hosts.specs.Stages.{IsWorkTurn}
use Rattle.race.proofs.Each.{both_on, each_set, moves_set}
use Rattle.race.proofs.turns.worker_turn.Goals as goal

pub work_once-requires-clause-worker : goal.work_once-requires-clause-worker
work_once-requires-clause-worker g c =
    let long = c.args.workers.now.ok.0 in
    (c.requires.workers c.args.place c.index_mut.result.now (slice_get_read c.args.workers.now.items
    (vec_len c.args.workers.now) c.args.place c.index_mut.result.now (omega (arith, long)) c.requires.place.0
    c.index_mut.ensures.value)).2

pub returns-clause-workers : goal.returns-clause-workers
returns-clause-workers g c =
    let system = c.args.system.now in
    let play = c.args._play.now in
    let top = c.args._top in
    let long = c.args.workers.now.ok.0 in
    let old = c.index_mut.result.now in
    let was = c.requires.workers c.args.place old (slice_get_read c.args.workers.now.items
    (vec_len c.args.workers.now) c.args.place old (omega (arith, long)) c.requires.place.0
    c.index_mut.ensures.value) in
    let n = was.0 in
    let goes = c.work_once.ensures.worker in
    let same = goes.0.same.1 in
    each_set (λ (k : ℕ) (w : WorkerPasses). (number w.caller.pass + k ≡ top)
    × HasEnded system.engine play (top + 1) w.caller.pass × IsWorkerOf system w) c.args.workers.now.items c.args.place
    c.work_once.new.worker c.requires.workers (
      omega (arith, n, same),
      served_on system play (top + 1) old.caller c.work_once.new.worker.caller goes.0 (omega (arith, n)) was.1,
      goes.1,
    )

pub returns-clause-goes : goal.returns-clause-goes
returns-clause-goes g c =
    let long = c.args.workers.now.ok.0 in
    let old = c.index_mut.result.now in
    moves_set (WorkerContinues c.args.system.now) c.args.workers.now.items c.args.place old c.work_once.new.worker
    (slice_get_read c.args.workers.now.items (vec_len c.args.workers.now) c.args.place old (omega (arith, long))
    c.requires.place.0 c.index_mut.ensures.value) c.work_once.ensures.worker

pub returns-clause-next : goal.returns-clause-next
returns-clause-next g c =
    let long = c.args.working.now.ok.0 in
    let old = c.index_mut-2.result.now in
    both_on c.work_once.result c.work_once.ensures.next c.work_once.ensures.next (λ so _.
    moves_set IsWorkTurn c.args.working.now.items c.args.place old c.work_once.new.working
    (slice_get_read c.args.working.now.items (vec_len c.args.working.now) c.args.place old (omega (arith, long))
    c.requires.place.1 c.index_mut-2.ensures.value) so)
