use Rattle.script_lines.proofs.LineRead.{line_again}
use Rattle.script_lines.proofs.laws.written_lines_are_read.Goals as goal

pub returns : goal.returns
returns c = record { read = line_again }
