-- What a step makes of the seat that took the machine out, and gave it back then.
use Rattle.std.specs.Prelude.{Bool, Option, [], ◌≡◌, ◌∷◌}
use Rattle.atomic_table.specs.Table.{Me}
use Rattle.nvme_model.specs.History.{Past}
use Rattle.nvme_model.specs.Passes.{entries}
use Rattle.nvme_model.specs.declared.config.ConfigNumbers.{ConfigNumbers}
use Rattle.nvme_model.specs.declared.entry.Entry.{Entry}
use Rattle.nvme_model.specs.declared.step.Step.{Step}
use Rattle.controller_interface.specs.declared.answer.Answer.{Answer}
use Rattle.controller_interface.specs.declared.answer.Refused.{Refused}
use Rattle.meet_lock.specs.Lock.{grown, view_given_back}
use Rattle.meet_lock.specs.declared.view.View.{View}

module _ {M : Type 0} where
  -- it was accepted: the history has its entry
  pub record Made (legal : ConfigNumbers → Past → Type 0)
      (accepts : ConfigNumbers → Past → Step → Entry → Answer → Type 0) (owned : Bool) (step : Step)
      (m n : Me (Option M) View) (a : Answer) : Type 0 where
    pub entry : Entry
    pub says : accepts m.0.config (entries m.0.held) step entry a
    pub right : legal m.0.config (entry ∷ entries m.0.held)
    pub is : n ≡ (grown owned m.0 entry, [])

  -- it was refused: the history is as it was
  abbrev pub MadeNone : (ConfigNumbers → Past → Step → Refused → Type 0) → Step → Me (Option M) View
      → Me (Option M) View → Refused → Type 0
  MadeNone refuses step m n r = (n ≡ (view_given_back m.0, [])) × refuses m.0.config (entries m.0.held) step r
