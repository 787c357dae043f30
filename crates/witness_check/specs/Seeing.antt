-- What hosts see of one more entry, by what an observer gives.
use Rattle.std.specs.Prelude.{List, None, Option, Some, suc, ℕ}
use Rattle.nvme_model.specs.History.{Past}
use Rattle.nvme_model.specs.declared.config.ConfigNumbers.{ConfigNumbers}
use Rattle.rings.specs.Tables.{IsTable}
use Rattle.trace.specs.declared.seen.Seen.{Seen}
use Rattle.witness_check.specs.Waiting.{waiting_payloads}
use Rattle.witness_check.specs.declared.sight.Sight.{Sight}

-- by completion queue, this is the data of the completions of a history that wait
abbrev pub AreWaitingPayloads : ConfigNumbers → Past → List (List (List ℕ)) → Type 0
AreWaitingPayloads c past ws = IsTable (λ k. waiting_payloads c past (suc k)) c.cqs ws

-- what hosts see, where an observer gives this
abbrev pub seen_of : Sight → Option Seen
seen_of Sight.Hidden = None
seen_of (Sight.Published line) = Some (Seen.Published line.now)
seen_of (Sight.Reaped line) = Some (Seen.Reaped line)
