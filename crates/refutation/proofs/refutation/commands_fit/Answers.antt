use Rattle.std.proofs.Common.{List, [], arith, below_more, get_or, length, suc, ℕ, ◌<◌, ◌^◌, ◌∷◌}
use Rattle.std.specs.List.{AllByRecursion}
use Rattle.refutation.proofs.refutation.commands_fit.Goals as goal

pub loop-queue-preserved : goal.loop-queue-preserved
loop-queue-preserved c = below_more _ _ c.loop-queue.invariant c.command_fits.ensures

each : (ms : List (ℕ × ℕ))
    → ((k : ℕ) → k < length ms → ((get_or ms k (0, 0)).0 < 2 ^ 16) × ((get_or ms k (0, 0)).1 < 2 ^ 64))
    → AllByRecursion (λ m. (m.0 < 2 ^ 16) × (m.1 < 2 ^ 64)) ms
each [] f = tt
each (m ∷ ms) f = (f 0 (omega arith), each ms (λ k l. f (suc k) (omega arith)))

pub returns : goal.returns
returns c = each c.args.commands.now (λ k l. c.loop-queue.invariant k (omega (arith, c.loop-queue-test.false)))
