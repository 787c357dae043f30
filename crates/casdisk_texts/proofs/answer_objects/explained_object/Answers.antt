use Rattle.casdisk_texts.proofs.answer_objects.explained_object.Goals as goal

pub returns-in-BadAt : goal.returns-in-BadAt
returns-in-BadAt c = rw c.in-BadAt.is (record { value = c.step_object.ensures.value })
