-- What callers get is what an array of blocks gives that serves one operation at a time.
use Rattle.std.specs.Prelude.{map, ◌++◌, ◌∷◌, ◌≡◌}
use Rattle.nvme_model.specs.Array.{blocks_from}
use Rattle.nvme_model.specs.History.{Past}
use Rattle.nvme_model.specs.Sequential.{IsPosted, IsReaped, effect_answers, sequential}
use Rattle.nvme_model.specs.Value.{value}
use Rattle.nvme_model.specs.declared.config.ConfigNumbers.{ConfigNumbers}
use Rattle.nvme_model.specs.declared.entry.Entry.{Entry}
use Rattle.nvme_model.specs.declared.entry.PostLine.{PostLine}
use Rattle.nvme_model.specs.declared.entry.ReapLine.{ReapLine}

-- An array that is asked the effects alone, in the order of the history and each done whole, has the value as its
-- contents and gives the answers of the history; each completion posted has the status and the data that its answers
-- make, and each completion reaped is, byte for byte, the posted one of its number.
pub record IsOneAtATime (c : ConfigNumbers) (past : Past) : Type 0 where
  pub contents : (sequential c past).contents ≡ map (value past) (blocks_from 0 c.blocks)
  pub replies : (sequential c past).replies ≡ effect_answers past
  pub posted : (later before : Past) (p : PostLine) → past ≡ later ++ (Entry.Post p ∷ before) → IsPosted c before p
  pub reaped : (later before : Past) (r : ReapLine) → past ≡ later ++ (Entry.Reap r ∷ before) → IsReaped c before r
