use Rattle.casdisk_texts.proofs.history_reading.read_history.Goals as goal

pub returns-in-Ok-clause-whole : goal.returns-in-Ok-clause-whole
returns-in-Ok-clause-whole g c = c.in-Ok.ensures.takes _ c.in_ok-lines.ensures.begun c.new-entries.ensures.items

pub returns-clause-unread : goal.returns-clause-unread
returns-clause-unread g c = c.in-Err.ensures.takes _ c.in_ok-lines.ensures.begun c.new-entries.ensures.items
