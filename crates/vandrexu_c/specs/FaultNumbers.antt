-- The numbers by which C knows what is wrong with a configuration.
use Rattle.std.specs.Prelude.{None, Option, Some, ℕ}
use Rattle.nvme_model.specs.Config.{config_fault_number}
use Rattle.nvme_model.specs.declared.config.ConfigFault.{ConfigFault}

-- the number of a fault, 0 where there is none
abbrev pub fault_number : Option ConfigFault → ℕ
fault_number None = 0
fault_number (Some fault) = config_fault_number fault
