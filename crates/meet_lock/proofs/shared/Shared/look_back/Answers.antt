use Rattle.std.proofs.Common.{rules, subst, sym}
use Rattle.nvme_model.specs.History.{Past}
use Rattle.nvme_model.specs.Passes.{entries}
use Rattle.meet_lock.specs.Lock.{ExtendsByPasses, boxed, unmade}
use Rattle.meet_lock.specs.Passes.{opening_of}
use Rattle.meet_lock.proofs.Telling.{recalls}
use Rattle.meet_lock.proofs.Views.{Seated}
use Rattle.meet_lock.proofs.shared.Shared.look_back.Goals as goal

pub load-requires : goal.load-requires
load-requires g c = (
  c.requires.own,
  search rules,
  recalls (boxed g.M.Machine.config) (boxed g.M.Machine.history) g.M.Machine.legal g.K.StepRight.owned _ _ _ _ _ _ _
      c.requires.origin
      c.requires.named,
)

pub returns-clause-recalled : goal.returns-clause-recalled
returns-clause-recalled g c =
    let told = c.load.ensures.2 in
    let opens = subst (λ (past : Past). ExtendsByPasses c.args.seat.now.me.0.passes
    (unmade past) c.args.seat.now.me.0.seen)
    c.requires.origin told.2 in
    subst (λ (z : Seated g.row.M.Denot). g.M.Machine.legal z.0.config (entries z.0.seen)
    × ExtendsByPasses z.0.passes (unmade (opening_of g.M.Machine.history c.args.self.now)) z.0.seen) (sym told.0)
    (told.1, opens)
