use Rattle.std.proofs.Common.{subst, sym}
use Rattle.witness_check.specs.Followed.{Followed, FollowsHistory}
use Rattle.witness_check.proofs.Taking.{told_hidden}
use Rattle.witness_check.proofs.witness.Witness.take_hidden.Goals as goal

pub returns-clause-ok : goal.returns-clause-ok
returns-clause-ok c = λ o n past next f.
    told_hidden o n past c.args.entry.now
    (record { checker = c.self.inside.checker; waiting = c.self.inside.waiting.items }) c.take.new.self next
    c.in_ok-take.field-0
    c.requires.inner (subst (λ (x : Followed). FollowsHistory n past x) (sym c.self.view_is) f) c.if-not-branch.false
    c.in_ok-take.ensures.ok
