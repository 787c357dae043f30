-- The discipline, entry by entry.
use Rattle.std.proofs.Common.{◌≡◌, [], ◌&&◌, ◌∷◌, ◌∙◌, is_none, length, refl}
use Rattle.host_laws.specs.Discipline.{keeps_at}
use Rattle.nvme_model.specs.History.{Past}
use Rattle.nvme_model.specs.Queues.{published_entries}
use Rattle.nvme_model.specs.declared.array.Range.{Range}
use Rattle.nvme_model.specs.declared.config.ConfigNumbers.{ConfigNumbers}
use Rattle.nvme_model.specs.declared.entry.Entry.{Entry}
use Rattle.host_laws.specs.Rules.{takeover_disciplined}
use Rattle.host_laws.specs.Takeovers.{takeovers, takeovers_in}
use Rattle.host_laws.proofs.Without.{keeps_as_before, no_parts}
use Rattle.slot_check.specs.Broken.{discipline_broken, keeps_takeovers_at}
use Rattle.slot_check.proofs.Judging.{keeps_is}
use Rattle.slot_check.proofs.Knowing.{and_true}

pub none_broken_at : (c : ConfigNumbers) (slots : Range) (past : Past) (e : Entry)
    → is_none (discipline_broken c slots past e) ≡ keeps_takeovers_at c slots past e
none_broken_at c slots past (Entry.Publish p) = keeps_is c slots past p
none_broken_at c slots past (Entry.Fetch p) = refl
none_broken_at c slots past (Entry.Grant p) = refl
none_broken_at c slots past (Entry.Block p) = refl
none_broken_at c slots past (Entry.Post p) = refl
none_broken_at c slots past (Entry.Reap p) = refl

pub folds : (c : ConfigNumbers) (slots : Range) (past : Past) (e : Entry)
    → takeover_disciplined c slots (e ∷ past)
    ≡ (takeover_disciplined c slots past && keeps_takeovers_at c slots past e)
folds c slots past (Entry.Publish p) = refl
folds c slots past (Entry.Fetch p) = and_true (takeover_disciplined c slots past)
folds c slots past (Entry.Grant p) = and_true (takeover_disciplined c slots past)
folds c slots past (Entry.Block p) = and_true (takeover_disciplined c slots past)
folds c slots past (Entry.Post p) = and_true (takeover_disciplined c slots past)
folds c slots past (Entry.Reap p) = and_true (takeover_disciplined c slots past)

-- without a takeover none is broken exactly where the discipline of claims and releases is kept
pub none_broken_without : (c : ConfigNumbers) (slots : Range) (past : Past) (e : Entry) → takeovers (e ∷ past) ≡ []
    → is_none (discipline_broken c slots past e) ≡ keeps_at c slots past e
none_broken_without c slots past (Entry.Publish p) n =
    let x = no_parts (takeovers_in p.queue (length (published_entries past p.queue)) p.batch) (takeovers past) n in
    keeps_is c slots past p ∙ keeps_as_before c slots past p x.1 x.0
none_broken_without c slots past (Entry.Fetch p) n = refl
none_broken_without c slots past (Entry.Grant p) n = refl
none_broken_without c slots past (Entry.Block p) n = refl
none_broken_without c slots past (Entry.Post p) n = refl
none_broken_without c slots past (Entry.Reap p) n = refl
