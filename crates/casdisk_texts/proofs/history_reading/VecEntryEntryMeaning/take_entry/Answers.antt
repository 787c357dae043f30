use Rattle.std.proofs.Common.{◌∙◌}
use Rattle.casdisk_texts.proofs.Witnessed.{entry_more}
use Rattle.casdisk_texts.proofs.history_reading.VecEntryEntryMeaning.take_entry.Goals as goal

pub returns-clause-taken : goal.returns-clause-taken
returns-clause-taken c k past h = c.in_ok-push.ensures.items ∙ entry_more _ c.args.entry past h
