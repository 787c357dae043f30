-- The numbers of a cut as one record.
use Rattle.std.specs.Prelude.{ℕ}
use Rattle.nvme_model.specs.declared.config.AtomicParameters.{AtomicParameters}

-- these are AWUN, ACWU, NABSN and NABO
abbrev pub atomic_parameters : (awun acwu nabsn nabo : ℕ) → AtomicParameters
atomic_parameters awun acwu nabsn nabo = record { awun = awun; acwu = acwu; nabsn = nabsn; nabo = nabo }
