-- No place of a legal history is bad.
use Rattle.std.proofs.Common.{Err, List, Option, [], ◌++◌, ap, append-nil, reverse, subst, sym, ℕ, ◌∙◌, ◌≡◌}
use Rattle.std.proofs.lemmas.List.{reverse-reverse}
use Rattle.std.specs.Io.KnownBytes.{Appends}
use Rattle.nvme_model.specs.Legal.{IsLegalFile}
use Rattle.nvme_model.specs.declared.array.Range.{Range}
use Rattle.nvme_model.specs.declared.config.ConfigNumbers.{ConfigNumbers}
use Rattle.nvme_model.specs.declared.entry.Entry.{Entry}
use Rattle.race.specs.Faults.{IsLate}
use Rattle.race.specs.Races.{Races, TellsHistory}
use Rattle.many_host_laws.specs.Closing.{HasRounds, KeepsSlots}
use Rattle.race.specs.Slots.{PrintsRounds, PrintsSlots}
use Rattle.history.specs.Texts.{history_text}
use Rattle.race.specs.declared.fault.RaceFault.{RaceFault}
use Rattle.race.specs.declared.fault.RaceFault.TheVariants.{BadAt, Forgotten, NoMemory, Output}

-- where the check had no memory, the whole text was written
pub unjudged : (c : ConfigNumbers) (entries : List Entry) (f : RaceFault) (old new : Option (List ℕ))
    → IsLegalFile c entries → Appends old new (history_text c entries) → f ≡ NoMemory → Races c (Err f) old new
unjudged c entries f old new legal written is =
    let same : history_text c (reverse (reverse entries)) ≡ history_text c entries ++ [] =
    ap (history_text c) (reverse-reverse entries) ∙ sym (append-nil (history_text c entries)) in
    subst (λ (x : RaceFault). Races c (Err x) old new) (sym is)
    (reverse entries, legal, record { front = history_text c entries; rest = []; whole = same; written = written })

-- what isn't written is so for want of memory, or since writing failed
pub told_late : (c : ConfigNumbers) (entries : List Entry) (f : RaceFault) (old new : Option (List ℕ))
    → TellsHistory c entries (Err f) old new → IsLate f
told_late c entries (BadAt k) old new told = told
told_late c entries Forgotten old new told = absurd told
told_late c entries Output old new told = tt
told_late c entries NoMemory old new told = tt

-- what was written whole keeps its slots
pub kept_slots : (c : ConfigNumbers) (slots : Range) (entries : List Entry) (old new : Option (List ℕ))
    → IsLegalFile c entries → KeepsSlots c slots (reverse entries) → Appends old new (history_text c entries)
    → PrintsSlots c slots old new
kept_slots c slots entries old new legal keeps written = (
  reverse entries,
  legal,
  keeps,
  subst (λ l. Appends old new (history_text c l)) (sym (reverse-reverse entries)) written,
)

-- and has its rounds
pub kept_rounds : (c : ConfigNumbers) (slots : Range) (rounds : ℕ) (entries : List Entry) (old new : Option (List ℕ))
    → IsLegalFile c entries → HasRounds c slots rounds (reverse entries) → Appends old new (history_text c entries)
    → PrintsRounds c slots rounds old new
kept_rounds c slots rounds entries old new legal has written = (
  reverse entries,
  legal,
  has,
  subst (λ l. Appends old new (history_text c l)) (sym (reverse-reverse entries)) written,
)

-- for what is written and judged
pub ruleset finishing = (unjudged, kept_slots, told_late)
