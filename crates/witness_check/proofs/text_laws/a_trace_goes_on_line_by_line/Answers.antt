use Rattle.witness_check.proofs.Growing.{text_later, text_more, text_none}
use Rattle.witness_check.proofs.text_laws.a_trace_goes_on_line_by_line.Goals as goal

pub returns-clause-begins : goal.returns-clause-begins
returns-clause-begins c = text_none

pub returns-clause-grows : goal.returns-clause-grows
returns-clause-grows c = text_more

pub returns-clause-later : goal.returns-clause-later
returns-clause-later c = text_later
