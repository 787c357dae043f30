use Rattle.std.proofs.Common.{sym, ℕ, ◌+◌, ◌∙◌, ◌≡◌}
use Rattle.meet_lock.specs.Passes.{IsPassOfLock, number, passes_of}
use Rattle.work_queue.specs.Engines.{EnginePass}
use Rattle.engine_tests.proofs.Orders.{last_three}
use Rattle.engine_tests.proofs.passes.three_of.Goals as goal

pub returns : goal.returns
returns c =
    last_three (λ (k : ℕ) (p : EnginePass). IsPassOfLock c.args._shared.now p × (number p ≡ k + 1)
    × (passes_of p ≡ 3)) _ _ _ _
    _ _ _
    c.in_ok-one.ensures.items c.in_ok-two.ensures.items c.in_ok-three.ensures.items
    (sym c.args.passes.now.ok.0 ∙ c.requires.count) c.requires.each
