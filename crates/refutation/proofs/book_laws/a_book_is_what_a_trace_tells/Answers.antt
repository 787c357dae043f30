use Rattle.refutation.proofs.BookAnswers.{answers_are}
use Rattle.refutation.proofs.QueueBooks.{entries_are, least_is, starts_are, waits_are}
use Rattle.refutation.proofs.book_laws.a_book_is_what_a_trace_tells.Goals as goal

pub returns : goal.returns
returns c = record {
  entries = entries_are;
  starts = starts_are;
  answers = answers_are;
  waiting = waits_are;
  least = least_is;
}
