-- What a reaped completion is answered as.
use Rattle.controller_interface.specs.declared.answer.Answer.{Answer}
use Rattle.rings.specs.declared.completion_ring.Completion.{Completion}

-- the answer to the Reap of this completion
abbrev pub reaped_answer : Completion → Answer
reaped_answer c = Answer.Reaped c.cqe c.payload
