-- What the configurations of random scripts are like.
use Rattle.std.specs.Prelude.{◌≤◌}
use Rattle.nvme_model.specs.declared.config.ConfigNumbers.{ConfigNumbers}
use Rattle.random_script.specs.declared.script_kind.ScriptKind.{ScriptKind}
use Rattle.random_script.specs.declared.script_kind.ScriptKind.TheVariants.{Hostile, Mixed, Pairs, Queues, Single}
use Rattle.random_script.specs.declared.script_kind.ScriptKind.TheVariants.{Slots, Units}

-- A small configuration: few blocks, short units, and few queues, slots of a ring and tickets.
pub record IsSmall (c : ConfigNumbers) : Type 0 where
  pub blocks : c.blocks ≤ 40
  pub units : c.atomic.awun ≤ 3
  pub pairs_units : c.atomic.acwu ≤ 3
  pub boundaries : c.atomic.nabsn ≤ 6
  pub pairs : c.pairs ≤ 3
  pub submissions : c.sq_size ≤ 8
  pub completions : c.cq_size ≤ 7
  pub tickets : c.jobs ≤ 6

-- It suits a kind: rings that are soon full for `queues`, a volume with room for commands of twelve blocks for `units`,
-- and for the others submission queues with room for a fused pair.
abbrev pub Suits : ScriptKind → ConfigNumbers → Type 0
Suits Single c = 4 ≤ c.sq_size
Suits Pairs c = 4 ≤ c.sq_size
Suits Units c = 12 ≤ c.blocks
Suits Queues c = (c.sq_size ≤ 4) × (c.cq_size ≤ 4)
Suits Hostile c = 4 ≤ c.sq_size
Suits Slots c = 4 ≤ c.sq_size
Suits Mixed c = 4 ≤ c.sq_size
