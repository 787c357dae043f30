-- What a granted unit is answered as.
use Rattle.controller_interface.specs.declared.answer.Answer.{Answer}
use Rattle.controller_interface.specs.declared.answer.UnitGranted.{UnitGranted}

-- the answer to the Grant of this unit
abbrev pub granted_answer : UnitGranted → Answer
granted_answer g = Answer.Granted g.unit g.range g.mode
