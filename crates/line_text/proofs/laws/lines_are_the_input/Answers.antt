use Rattle.line_text.proofs.LineLaws.{lines_joined, lines_plain, lines_again}
use Rattle.line_text.proofs.laws.lines_are_the_input.Goals as goal

pub returns : goal.returns
returns c = record { joined_again = lines_joined; no_feed = lines_plain; split_again = lines_again }
