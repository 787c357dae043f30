-- Which configurations are accepted, and which completion queue a submission queue uses.
use Rattle.std.specs.Prelude.{ℕ, ◌+◌, ◌-◌, ◌%◌, Bool, not, ◌&&◌, ◌||◌, ◌==◌, nat_lt, Option, List, [], ◌∷◌, ◌++◌}
use Rattle.std.specs.Prelude.{is_none}
use Rattle.nvme_model.specs.Tables.{first_row}
use Rattle.nvme_model.specs.declared.config.AtomicParameters.{AtomicParameters}
use Rattle.nvme_model.specs.declared.config.ConfigNumbers.{ConfigNumbers}
use Rattle.nvme_model.specs.declared.config.ConfigFault.{ConfigFault}

-- it isn't one of low to high
abbrev pub is_outside : (low high n : ℕ) → Bool
is_outside low high n = nat_lt n low || nat_lt high n

-- What is wrong with the numbers of the cut, the first fault first (NVM 1.0, Atomic Operation; the limit of 255 is this
-- profile's).
abbrev pub unit_faults : AtomicParameters → List (Bool × ConfigFault)
unit_faults u =
    (nat_lt 255 u.awun, ConfigFault.AwunTooLarge)
    ∷ (nat_lt 255 u.acwu, ConfigFault.AcwuTooLarge)
    ∷ (not (u.nabsn == 0) && (nat_lt u.nabsn u.awun || nat_lt u.nabsn u.acwu), ConfigFault.BoundaryBelowUnit)
    ∷ (nat_lt u.nabsn u.nabo, ConfigFault.OffsetPastBoundary)
    ∷ []

-- What is wrong with a configuration, the first fault first (this profile's limits).
abbrev pub config_faults : ConfigNumbers → List (Bool × ConfigFault)
config_faults c =
    unit_faults c.atomic
    ++ ((is_outside 1 65536 c.blocks, ConfigFault.Blocks)
    ∷ (is_outside 1 16 c.pairs, ConfigFault.Pairs)
    ∷ (is_outside 2 1024 c.sq_size, ConfigFault.SqSize)
    ∷ (is_outside 2 1024 c.cq_size, ConfigFault.CqSize)
    ∷ (is_outside 1 256 c.jobs, ConfigFault.Jobs)
    ∷ ((c.cqs == 0) || nat_lt c.pairs c.cqs, ConfigFault.CqCount)
    ∷ [])

-- the first fault of the numbers of the cut
abbrev pub unit_fault : AtomicParameters → Option ConfigFault
unit_fault u = first_row (unit_faults u)

-- the first fault of a configuration
abbrev pub config_fault : ConfigNumbers → Option ConfigFault
config_fault c = first_row (config_faults c)

-- it has no fault
abbrev pub is_accepted : ConfigNumbers → Bool
is_accepted c = is_none (config_fault c)

-- the number that texts give a fault
abbrev pub config_fault_number : ConfigFault → ℕ
config_fault_number ConfigFault.AwunTooLarge = 21
config_fault_number ConfigFault.AcwuTooLarge = 22
config_fault_number ConfigFault.BoundaryBelowUnit = 23
config_fault_number ConfigFault.OffsetPastBoundary = 24
config_fault_number ConfigFault.Blocks = 25
config_fault_number ConfigFault.Pairs = 26
config_fault_number ConfigFault.SqSize = 27
config_fault_number ConfigFault.CqSize = 28
config_fault_number ConfigFault.Jobs = 29
config_fault_number ConfigFault.CqCount = 30

-- the completion queue that submission queue q uses (Base 2.0, Create I/O Submission Queue; the assignment is this
-- profile's)
abbrev pub completion_queue : ConfigNumbers → ℕ → ℕ
completion_queue c q = (q - 1) % c.cqs + 1
