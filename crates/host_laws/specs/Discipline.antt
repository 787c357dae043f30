-- Whose Publishes keep the discipline of the slot area, where several callers share one history.
use Rattle.std.specs.Prelude.{Bool, [], not, true, ℕ, ◌&&◌, ◌==◌, ◌||◌, ◌∷◌}
use Rattle.nvme_model.specs.History.{Past}
use Rattle.nvme_model.specs.Passes.{SharedPast, entries}
use Rattle.nvme_model.specs.Slots.{keeps_discipline}
use Rattle.nvme_model.specs.declared.array.Range.{Range}
use Rattle.nvme_model.specs.declared.config.ConfigNumbers.{ConfigNumbers}
use Rattle.nvme_model.specs.declared.entry.Entry.{Entry}

-- the entry is no Publish, or one that keeps the discipline behind what is before it
abbrev pub keeps_at : ConfigNumbers → Range → Past → Entry → Bool
keeps_at c slots past (Entry.Publish p) = keeps_discipline c slots past p
keeps_at c slots past _ = true

-- each Publish by a pass that is picked keeps the discipline at its own place
abbrev pub passes_keep : ConfigNumbers → Range → (ℕ → Bool) → SharedPast → Bool
passes_keep c slots picks [] = true
passes_keep c slots picks (m ∷ shared) =
    passes_keep c slots picks shared && (not (picks m.0) || keeps_at c slots (entries shared) m.1)

-- each Publish by pass p does
abbrev pub pass_keeps : ConfigNumbers → Range → ℕ → SharedPast → Bool
pass_keeps c slots p shared = passes_keep c slots (λ m. m == p) shared

-- each Publish by another pass does
abbrev pub others_keep : ConfigNumbers → Range → ℕ → SharedPast → Bool
others_keep c slots p shared = passes_keep c slots (λ m. not (m == p)) shared
