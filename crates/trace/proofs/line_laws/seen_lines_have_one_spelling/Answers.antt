use Rattle.std.proofs.Common.{sym, ap, ◌∙◌}
use Rattle.history.proofs.OneSpelling.{one_of}
use Rattle.trace.specs.SeenLines.{seen_in, seen_line}
use Rattle.trace.proofs.SeenAgain.{seen_again}
use Rattle.trace.proofs.SeenRead.{seen_is}
use Rattle.trace.proofs.line_laws.seen_lines_have_one_spelling.Goals as goal

pub returns : goal.returns
returns c = record {
  read_back = seen_again;
  one_seen = λ s t p q e. one_of (seen_in (seen_line s)) s t (seen_again s p) (ap seen_in e ∙ seen_again t q);
  written_back = λ line s h. sym (seen_is line s h);
}
