use Rattle.trace.proofs.OptionsRead.{written_back}
use Rattle.trace.proofs.line_laws.option_lines_have_one_spelling.Goals as goal

pub returns : goal.returns
returns c = written_back
