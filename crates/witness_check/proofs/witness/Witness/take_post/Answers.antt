use Rattle.std.proofs.Common.{ℕ, List, ◌≡◌, ◌<◌, ◌-◌, ◌%◌, length, subst, sym}
use Rattle.nvme_model.specs.EntryBytes.{cqe_fields}
use Rattle.witness_check.specs.Followed.{Followed, FollowsHistory}
use Rattle.witness_check.proofs.Taking.{told_posted}
use Rattle.witness_check.proofs.witness.Witness.take_post.Goals as goal

pub returns-clause-ok : goal.returns-clause-ok
returns-clause-ok c = λ o n past next f.
    told_posted o n past c.args.line.now c.args.entry.now
    (record { checker = c.self.inside.checker; waiting = c.self.inside.waiting.items }) c.take.new.self
    c.place_of-place.result c.push_at.new.queues.items next c.in_ok-take.field-0
    c.requires.same (subst (λ (x : Followed). FollowsHistory n past x) (sym c.self.view_is) f) c.if-not-branch.false
    c.in_ok-take.ensures.ok
    (subst (λ (ws : List (List (List ℕ))). 0 < length ws
    → c.place_of-place.result ≡ ((cqe_fields c.args.line.now.cqe).sqid - 1) % length ws) c.as_slice.ensures.value
    c.place_of-place.ensures.value)
    (rw c.as_slice-2.ensures at c.in_ok-push_at.ensures.ok)
