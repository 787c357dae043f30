use Rattle.std.proofs.Common.{List, length, subst, sym, ℕ, ◌%◌, ◌-◌, ◌<◌, ◌≡◌}
use Rattle.nvme_model.specs.EntryBytes.{cqe_fields}
use Rattle.witness_check.proofs.Taking.{IsWaiting, more_waits}
use Rattle.witness_check.proofs.observer.Observer.take_post.Goals as goal

pub returns-clause-ok : goal.returns-clause-ok
returns-clause-ok c = λ n past accepted l w.
    more_waits n past c.args.line.now c.place_of-place.result c.self.inside.waiting.items c.push_at.new.queues.items
    (subst (λ (ws : List (List (List ℕ))). 0 < length ws
    → c.place_of-place.result ≡ ((cqe_fields c.args.line.now.cqe).sqid - 1) % length ws) c.as_slice.ensures.value
    c.place_of-place.ensures.value)
    (rw c.as_slice-2.ensures at c.in_ok-push_at.ensures.ok) accepted l
    (subst (λ (ws : List (List (List ℕ))). IsWaiting n past ws) (sym c.self.view_is) w)
