use Rattle.std.proofs.Common.{refl}
use Rattle.slot_log_laws.proofs.Counting.{claim_counted, release_counted}
use Rattle.slot_log_laws.proofs.log_laws.a_log_counts_its_claims.Goals as goal

pub returns : goal.returns
returns c = record {
  got = λ log cqe payload l. refl;
  claim = λ log q k first second m batch l x b. claim_counted log q k first second m batch l x b;
  release = λ log q k first second m batch l x b. release_counted log q k first second m batch l x b;
}
