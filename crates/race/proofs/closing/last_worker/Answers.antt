use Rattle.std.proofs.Common.{arith, vec_len}
use Rattle.shared_system.specs.declared.system.WorkerPasses.{WorkerPasses}
use Rattle.race.proofs.Ended.{popped_last, popped_rest}
use Rattle.race.proofs.closing.last_worker.Goals as goal

pub returns-clause-rest : goal.returns-clause-rest
returns-clause-rest c =
    popped_rest c.args._system.now.engine c.args._play.now c.args._servers (λ (w : WorkerPasses). w.caller.pass)
    c.args._top
    c.args.workers.now.items c.pop.new.self.items c.pop.result c.pop.ensures.items c.requires.workers

pub returns-clause-last : goal.returns-clause-last
returns-clause-last c =
    (popped_last c.args._system.now.engine c.args._play.now c.args._servers (λ (w : WorkerPasses). w.caller.pass)
    c.args._top
    (vec_len c.pop.new.self) c.args.workers.now.items c.pop.new.self.items c.unwrap.result
    (omega (arith, c.pop.new.self.ok.0)) (rw c.unwrap.ensures at c.pop.ensures.items) c.requires.workers).1

pub returns-clause-number : goal.returns-clause-number
returns-clause-number c =
    (popped_last c.args._system.now.engine c.args._play.now c.args._servers (λ (w : WorkerPasses). w.caller.pass)
    c.args._top
    (vec_len c.pop.new.self) c.args.workers.now.items c.pop.new.self.items c.unwrap.result
    (omega (arith, c.pop.new.self.ok.0)) (rw c.unwrap.ensures at c.pop.ensures.items) c.requires.workers).0
