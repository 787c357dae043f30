-- Configurations that are accepted, and one that has each fault.
use Rattle.std.specs.Prelude.{ℕ, ◌≡◌, refl, true, Some}
use Rattle.nvme_model.specs.Config.{config_fault, is_accepted}
use Rattle.nvme_model.specs.Examples.{default}
use Rattle.nvme_model.specs.declared.config.AtomicParameters.{AtomicParameters}
use Rattle.nvme_model.specs.declared.config.ConfigFault.{ConfigFault}

-- the numbers of the cut, in the order of a configuration's line
abbrev units : (awun acwu nabsn nabo : ℕ) → AtomicParameters
units awun acwu nabsn nabo = record { awun = awun; acwu = acwu; nabsn = nabsn; nabo = nabo }

pub default_accepted : is_accepted default ≡ true
default_accepted = refl

pub awun_fault : config_fault (record default { atomic = units 256 1 0 0; jobs = 0 }) ≡ Some ConfigFault.AwunTooLarge
awun_fault = refl

pub acwu_fault : config_fault (record default { atomic = units 1 256 0 0 }) ≡ Some ConfigFault.AcwuTooLarge
acwu_fault = refl

pub boundary_fault : config_fault (record default { atomic = units 3 1 2 0 }) ≡ Some ConfigFault.BoundaryBelowUnit
boundary_fault = refl

pub offset_fault : config_fault (record default { atomic = units 1 1 0 1 }) ≡ Some ConfigFault.OffsetPastBoundary
offset_fault = refl

pub blocks_fault : config_fault (record default { blocks = 65537 }) ≡ Some ConfigFault.Blocks
blocks_fault = refl

pub pairs_fault : config_fault (record default { pairs = 17; cqs = 17 }) ≡ Some ConfigFault.Pairs
pairs_fault = refl

pub sq_fault : config_fault (record default { sq_size = 1 }) ≡ Some ConfigFault.SqSize
sq_fault = refl

pub cq_fault : config_fault (record default { cq_size = 1025 }) ≡ Some ConfigFault.CqSize
cq_fault = refl

pub jobs_fault : config_fault (record default { jobs = 257 }) ≡ Some ConfigFault.Jobs
jobs_fault = refl

pub cqs_fault : config_fault (record default { cqs = 3 }) ≡ Some ConfigFault.CqCount
cqs_fault = refl
