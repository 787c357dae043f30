use Rattle.file_commands.proofs.slot_objects.slots_answer_object.Goals as goal

pub returns-in-Legal : goal.returns-in-Legal
returns-in-Legal c = rw c.in-Legal.is (record { value = c.answer_object.ensures.value })

pub returns-in-BadAt : goal.returns-in-BadAt
returns-in-BadAt c = rw c.in-BadAt.is (record { value = c.answer_object-in-BadAt.ensures.value })

pub returns-in-SlotsBadAt : goal.returns-in-SlotsBadAt
returns-in-SlotsBadAt c = rw c.in-SlotsBadAt.is (record { value = c.wrong_object.ensures.value })
