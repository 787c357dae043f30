use Rattle.std.proofs.Common.{◌∙◌}
use Rattle.meet_lock.proofs.Told.{missed_knows, out_same, refused_knows}
use Rattle.meet_lock.specs.Lock.{boxed}
use Rattle.meet_lock.proofs.shared.Shared.forget.Goals as goal

pub give_same-requires-clause-out : goal.give_same-requires-clause-out
give_same-requires-clause-out g c =
    let o = out_same (boxed g.M.Machine.config) (boxed g.M.Machine.history) g.M.Machine.legal _ _ _
    c.in-Some.ensures.taken in
    record {
      out = o.out;
      holds = o.holds;
      at = (c.forgets.ensures.config ∙ o.at.0, c.forgets.ensures.history ∙ o.at.1);
      right = o.right;
    }

pub returns-clause-knows : goal.returns-clause-knows
returns-clause-knows g c =
    refused_knows (boxed g.M.Machine.config) (boxed g.M.Machine.history) g.M.Machine.legal _ _ _ _
    c.in-Some.ensures.taken c.give_same.ensures.shown

pub returns-in_default-clause-knows : goal.returns-in_default-clause-knows
returns-in_default-clause-knows g c =
    missed_knows (boxed g.M.Machine.config) (boxed g.M.Machine.history) g.M.Machine.legal _ _ c.in_default.ensures.taken
