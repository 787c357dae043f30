-- The numbers of a race.
use Rattle.std.specs.Prelude.{Bool, List, Option, [], nat_lt, ℕ, ◌*◌, ◌∷◌}
use Rattle.nvme_model.specs.Config.{is_outside}
use Rattle.nvme_model.specs.Tables.{first_row}
use Rattle.nvme_model.specs.declared.config.ConfigNumbers.{ConfigNumbers}
use Rattle.history.specs.Config.{config_numbers}
use Rattle.race_numbers.specs.declared.race.Race.{Race}
use Rattle.race_numbers.specs.declared.race.RaceUsage.{RaceUsage}

-- what is wrong with these numbers of hosts, workers, slots, rounds and submission queues of a host, the first fault
-- first
abbrev pub usages : (hosts workers slots rounds queues : ℕ) → List (Bool × RaceUsage)
usages hosts workers slots rounds queues =
    (is_outside 1 16 hosts, RaceUsage.Hosts)
    ∷ (is_outside 1 16 workers, RaceUsage.Workers)
    ∷ (is_outside 1 64 slots, RaceUsage.Slots)
    ∷ (is_outside 1 1000 rounds, RaceUsage.Rounds)
    ∷ (is_outside 1 16 queues, RaceUsage.Queues)
    ∷ (nat_lt 16 (hosts * queues), RaceUsage.TooManyQueues)
    ∷ []

-- the first fault of the numbers of a race
abbrev pub usage_of : (hosts workers slots rounds queues : ℕ) → Option RaceUsage
usage_of hosts workers slots rounds queues = first_row (usages hosts workers slots rounds queues)

-- its numbers in that order
abbrev pub numbers_of : Race → ℕ × ℕ × ℕ × ℕ × ℕ
numbers_of r = (r.hosts, r.workers, r.slots, r.rounds, r.queues)

-- the configuration of its controller: a completion queue for each host, which all its submission queues use
abbrev pub race_config : Race → ConfigNumbers
race_config r = config_numbers 64 1 1 0 0 (r.hosts * r.queues) 8 8 16 r.hosts
