-- One pass over a history: the tables entry by entry, or none from the first that may not follow.
use Rattle.std.specs.Prelude.{None, Option, Some, [], if◌then◌else◌, ◌∷◌}
use Rattle.nvme_model.specs.History.{Past}
use Rattle.nvme_model.specs.declared.config.ConfigNumbers.{ConfigNumbers}
use Rattle.nvme_model.specs.declared.entry.Entry.{Entry}
use Rattle.history_check.specs.Judged.{judged}
use Rattle.history_check.specs.Taken.{tables_after}
use Rattle.history_check.specs.Tables.{Tables, no_tables}

-- the tables after one more entry
abbrev pub take_entry : ConfigNumbers → Option Tables → Entry → Option Tables
take_entry c None e = None
take_entry c (Some s) e = if judged c s e then Some (tables_after c s e) else None

-- and after all of them, the newest first
abbrev pub pass : ConfigNumbers → Past → Option Tables
pass c [] = Some no_tables
pass c (e ∷ past) = take_entry c (pass c past) e
