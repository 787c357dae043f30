-- The numbers of a configuration in the order of its line, and the faults behind those of the cut.
use Rattle.std.specs.Prelude.{ℕ, Option, drop}
use Rattle.nvme_model.specs.Config.{config_faults}
use Rattle.nvme_model.specs.Tables.{first_row}
use Rattle.nvme_model.specs.declared.config.ConfigNumbers.{ConfigNumbers}
use Rattle.nvme_model.specs.declared.config.ConfigFault.{ConfigFault}

-- the numbers in the order of a configuration line
abbrev pub config_numbers : (blocks awun acwu nabsn nabo pairs sq cq jobs cqs : ℕ) → ConfigNumbers
config_numbers blocks awun acwu nabsn nabo pairs sq cq jobs cqs =
    record {
      blocks = blocks;
      atomic = record { awun = awun; acwu = acwu; nabsn = nabsn; nabo = nabo };
      pairs = pairs;
      sq_size = sq;
      cq_size = cq;
      jobs = jobs;
      cqs = cqs;
    }

-- the first fault behind the four of the cut
abbrev pub queue_fault : ConfigNumbers → Option ConfigFault
queue_fault c = first_row (drop 4 (config_faults c))
