-- The weights of a race by turns.
use Rattle.std.specs.Prelude.{Bool, not, ℕ, ◌&&◌}
use Rattle.nvme_model.specs.Config.{is_outside}
use Rattle.race_numbers.specs.declared.bias.Bias.{Bias}

-- those of a host, of a worker and of the fetcher, in this order
abbrev pub weights_of : Bias → ℕ × ℕ × ℕ
weights_of b = (b.host, b.worker, b.fetcher)

-- each is in its range
abbrev pub are_weights : ℕ → ℕ → ℕ → Bool
are_weights host worker fetcher =
    not (is_outside 1 100 host) && not (is_outside 1 100 worker) && not (is_outside 1 100 fetcher)
