-- Configurations as they lie in C.
use Rattle.nvme_model.specs.declared.config.ConfigNumbers.{ConfigNumbers}
use Rattle.c_handles.specs.declared.configuration.GivenConfig.{GivenConfig}

-- the same numbers, as definitions have them
abbrev pub given_numbers : GivenConfig → ConfigNumbers
given_numbers n = record {
  blocks = n.blocks;
  atomic = record { awun = n.awun; acwu = n.acwu; nabsn = n.nabsn; nabo = n.nabo };
  pairs = n.pairs;
  sq_size = n.sq_size;
  cq_size = n.cq_size;
  jobs = n.jobs;
  cqs = n.cqs;
}
