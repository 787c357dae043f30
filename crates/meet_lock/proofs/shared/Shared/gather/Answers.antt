use Rattle.std.proofs.Common.{rules}
use Rattle.meet_lock.proofs.Joining.{joins_pass}
use Rattle.meet_lock.specs.Lock.{boxed}
use Rattle.meet_lock.proofs.shared.Shared.gather.Goals as goal

pub join_seat-requires : goal.join_seat-requires
join_seat-requires g c =
    let idle = c.requires.idle in
    let pass = c.args.pass in (
      c.requires.own.0,
      c.requires.own.1,
      pass.idle,
      search rules,
      joins_pass (boxed g.M.Machine.config) (boxed g.M.Machine.history) g.M.Machine.legal g.K.StepRight.owned _ _ _ _
          _ _ _ idle.1
          idle.2 pass.free pass.numbered c.requires.later,
    )
