use Rattle.std.proofs.Common.{ap, arith, length, refl}
use Rattle.shared_system.specs.declared.system.WorkerPasses.{WorkerPasses}
use Rattle.race.proofs.Ended.{down_from, none_ended}
use Rattle.race.proofs.closing.put_workers.Goals as goal

pub loop-init : goal.loop-init
loop-init c =
    let e = c.args.system.now.engine in
    let p = c.args.play.now in
    let s = c.args.servers in
    let same = c.len-top.ensures in
    let none = ap length c.requires.passes in
    let long = c.args.passes.now.ok.0 in
    let room = c.requires.room in (
      down_from e p s
          (λ (w : WorkerPasses). w.caller.pass) _ _ c.args.workers.items same c.requires.workers,
      none_ended e p s c.args.passes.now.items c.requires.passes,
      omega (arith, same),
      omega (arith, none, long),
      refl,
      omega (arith, same, room),
    )
