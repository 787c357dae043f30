-- What an accepted configuration gives, row by row.
use Rattle.std.proofs.Common.{None, ap, is_none, ltb-false, zero, suc, arith, eqb, ℕ, ◌≡◌, ◌≤◌, false, Bool}
use Rattle.std.proofs.lemmas.Bool.{or_parts}
use Rattle.nvme_model.proofs.Rules.{none_holds}
use Rattle.nvme_model.specs.Config.{config_fault, config_faults}
use Rattle.nvme_model.specs.declared.config.ConfigNumbers.{ConfigNumbers}

pub record Accepted (c : ConfigNumbers) : Type 0 where
  pub some_blocks : 1 ≤ c.blocks
  pub most_blocks : c.blocks ≤ 65536
  pub some_pairs : 1 ≤ c.pairs
  pub most_pairs : c.pairs ≤ 16
  pub least_sq_slots : 2 ≤ c.sq_size
  pub most_sq_slots : c.sq_size ≤ 1024
  pub least_cq_slots : 2 ≤ c.cq_size
  pub most_cq_slots : c.cq_size ≤ 1024
  pub some_jobs : 1 ≤ c.jobs
  pub most_jobs : c.jobs ≤ 256
  pub some_cqs : 1 ≤ c.cqs
  pub most_cqs : c.cqs ≤ c.pairs

pub accepted : (c : ConfigNumbers) → config_fault c ≡ None → Accepted c
accepted c e =
    let rows = none_holds (config_faults c) (ap is_none e) in
    let blocks = or_parts _ _ rows.1.1.1.1.0 in
    let pairs = or_parts _ _ rows.1.1.1.1.1.0 in
    let sq = or_parts _ _ rows.1.1.1.1.1.1.0 in
    let cq = or_parts _ _ rows.1.1.1.1.1.1.1.0 in
    let jobs = or_parts _ _ rows.1.1.1.1.1.1.1.1.0 in
    let cqs = or_parts _ _ rows.1.1.1.1.1.1.1.1.1.0 in
    record {
      some_blocks = ltb-false _ _ blocks.0;
      most_blocks = ltb-false _ _ blocks.1;
      some_pairs = ltb-false _ _ pairs.0;
      most_pairs = ltb-false _ _ pairs.1;
      least_sq_slots = ltb-false _ _ sq.0;
      most_sq_slots = ltb-false _ _ sq.1;
      least_cq_slots = ltb-false _ _ cq.0;
      most_cq_slots = ltb-false _ _ cq.1;
      some_jobs = ltb-false _ _ jobs.0;
      most_jobs = ltb-false _ _ jobs.1;
      some_cqs = some c.cqs cqs.0;
      most_cqs = ltb-false _ _ cqs.1;
    }
  where
    some : (n : ℕ) → eqb n 0 ≡ false → 1 ≤ n
    some zero e = absurd cc
    some (suc n) e = omega arith
