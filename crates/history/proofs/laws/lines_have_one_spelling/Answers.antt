use Rattle.std.proofs.Common.{sym, ap, ◌∙◌}
use Rattle.history.specs.Lines.{entry_in, entry_line}
use Rattle.history.proofs.LinesAgain.{entry_again}
use Rattle.history.proofs.LinesRead.{entry_is}
use Rattle.history.proofs.OneSpelling.{one_of}
use Rattle.history.proofs.laws.lines_have_one_spelling.Goals as goal

pub returns : goal.returns
returns c = record {
  read_back = entry_again;
  one_entry = λ a b p q e. one_of (entry_in (entry_line a)) a b (entry_again a p) (ap entry_in e ∙ entry_again b q);
  written_back = λ line e h. sym (entry_is line e h);
}
