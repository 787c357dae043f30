-- What the command `race` writes.
use Rattle.std.specs.Prelude.{Err, List, None, Ok, Option, Result, Some, [], codes, ℕ, ◌∷◌}
use Rattle.casdisk_texts.specs.Objects.{AnswerFields, place_fields, plain_fields, with_rule}
use Rattle.race.specs.Crashes.{Crashes}
use Rattle.race.specs.Races.{Races}
use Rattle.race.specs.Slots.{PrintsRounds, PrintsSlots, slots_of}
use Rattle.race_numbers.specs.Races.{race_config}
use Rattle.race_numbers.specs.declared.race.Race.{Race}
use Rattle.casdisk_program.specs.declared.seed_objects.SeedAnswer.{SeedAnswer}
use Rattle.casdisk_program.specs.declared.seeding.RaceEnd.{RaceEnd}
use Rattle.casdisk_program.specs.declared.seeding.Turns.{Turns}

-- how many hosts die, where some do
abbrev pub deaths_in : Turns → Option ℕ
deaths_in Turns.Threads = None
deaths_in (Turns.Seed seed draws) = draws.crash

-- A race wrote its whole history, in which no slot has two believers and each host began all rounds.
pub record WritesRace (race : Race) (old new : Option (List ℕ)) : Type 0 where
  pub legal : Races (race_config race) (Ok tt) old new
  pub slots : PrintsSlots (race_config race) (slots_of race) old new
  pub rounds : PrintsRounds (race_config race) (slots_of race) race.rounds old new

-- What was written, and answered, of a race in which so many hosts die, or none: what the race of that kind promises.
abbrev pub WritesInto : Race → Option ℕ → Result (Unit {0}) RaceEnd → Option (List ℕ) → Option (List ℕ) → Type 0
WritesInto race None (Ok x) old new = WritesRace race old new
WritesInto race None (Err (RaceEnd.Race f)) old new = Races (race_config race) (Err f) old new
WritesInto race None (Err (RaceEnd.Crash f)) old new = ⊥
WritesInto race (Some dead) (Ok x) old new = Crashes (race_config race) (slots_of race) (Ok x) old new
WritesInto race (Some dead) (Err (RaceEnd.Race f)) old new = ⊥
WritesInto race (Some dead) (Err (RaceEnd.Crash f)) old new =
    Crashes (race_config race) (slots_of race) (Err f) old new

-- the answer on a race
abbrev pub race_fields : SeedAnswer → AnswerFields
race_fields SeedAnswer.Legal = plain_fields (codes "legal")
race_fields (SeedAnswer.BadAt place) = place_fields (codes "bad") place
race_fields (SeedAnswer.SlotsAt place) = place_fields (codes "slots bad") place

-- The fields of what is said of the race of a seed, which stands in the numbers.
abbrev pub seed_fields : ℕ → SeedAnswer → AnswerFields
seed_fields seed answer = with_rule (race_fields answer) None (seed ∷ [])
