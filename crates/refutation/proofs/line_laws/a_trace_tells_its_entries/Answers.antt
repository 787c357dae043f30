use Rattle.refutation.proofs.Lines.{answer_post, finds_waiting, no_answer_post, published_seen, reaped_seen}
use Rattle.refutation.proofs.Lines.{tidy_before, tidy_each}
use Rattle.trace.specs.Observed.{observed}
use Rattle.refutation.proofs.line_laws.a_trace_tells_its_entries.Goals as goal

pub returns : goal.returns
returns c = record {
  published = published_seen;
  reaped = reaped_seen;
  begins = tidy_before;
  waits = λ n past q cid j h d. finds_waiting n past q h (tidy_each q (observed n past) d) cid j;
  answered = λ n past q j r h d. answer_post n past q j r h (tidy_each q (observed n past) d);
  unanswered = λ n past q j h d. no_answer_post n past q j h (tidy_each q (observed n past) d);
}
