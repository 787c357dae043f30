-- The fields of answers beside an area of slots as JSON objects.
use Rattle.std.specs.Prelude.{List, None, Some, [], codes, ℕ, ◌-◌, ◌∷◌}
use Rattle.casdisk_texts.specs.AnswerObjects.{answer_fields, step_fields}
use Rattle.casdisk_texts.specs.Files.{bad_text, legal_text}
use Rattle.casdisk_texts.specs.Objects.{AnswerFields, place_fields, with_rule}
use Rattle.slot_check.specs.Broken.{broken_at}
use Rattle.slot_check.specs.declared.broken.BrokenDiscipline.{BrokenDiscipline}
use Rattle.slot_check.specs.declared.broken.BrokenDiscipline.TheVariants.{ClaimedTwice, CutOff, NeverGiven, NoSwap}
use Rattle.slot_check.specs.declared.broken.BrokenDiscipline.TheVariants.{OtherQueue, OwnQueue, TakenOver, Unbelieved}
use Rattle.file_commands.specs.Texts.{wrong_text}
use Rattle.file_commands.specs.declared.explaining.ExplainedSlots.{ExplainedSlots}
use Rattle.file_commands.specs.declared.explaining.ExplainedSlots.TheVariants.{BadAt, Legal, SlotsBadAt}
use Rattle.file_commands.specs.declared.judging.WrongStep.{WrongStep}

-- the discipline is broken at a place
abbrev pub wrong_fields : ℕ → AnswerFields
wrong_fields place = place_fields (codes "slots bad") place

-- the answer on a history beside slots
abbrev pub found_fields : ExplainedSlots → AnswerFields
found_fields Legal = answer_fields None
found_fields (BadAt step) = answer_fields (Some step.place)
found_fields (SlotsBadAt step) = wrong_fields step.place

-- its line
abbrev pub found_said : ExplainedSlots → List ℕ
found_said Legal = legal_text
found_said (BadAt step) = bad_text step.place
found_said (SlotsBadAt step) = wrong_text step.place

-- the name of a rule of the discipline
abbrev pub discipline_name : BrokenDiscipline → List ℕ
discipline_name (NoSwap l) = codes "no swap"
discipline_name (ClaimedTwice l) = codes "claimed twice"
discipline_name (Unbelieved l) = codes "unbelieved"
discipline_name (TakenOver l) = codes "taken over"
discipline_name (OtherQueue l) = codes "other queue"
discipline_name (NeverGiven l) = codes "never given"
discipline_name (OwnQueue l) = codes "own queue"
discipline_name (CutOff l) = codes "cut off"

-- an entry that breaks the discipline of slots from this block on; the numbers are those of the slot and of its block
abbrev pub wrong_step_fields : ℕ → WrongStep → AnswerFields
wrong_step_fields first step =
    with_rule (wrong_fields step.place) (Some (discipline_name step.broken))
    ((broken_at step.broken - first) ∷ broken_at step.broken ∷ [])

-- what is said of a history beside slots from this block on
abbrev pub slots_fields : ℕ → ExplainedSlots → AnswerFields
slots_fields first Legal = answer_fields None
slots_fields first (BadAt step) = step_fields step
slots_fields first (SlotsBadAt step) = wrong_step_fields first step
