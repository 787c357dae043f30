use Rattle.refutation.proofs.BookAnswers.{bad_is, bad_read_is, tidy_is}
use Rattle.refutation.proofs.book_laws.a_book_judges_the_next_line.Goals as goal

pub returns : goal.returns
returns c = record { tidy = tidy_is; bad = bad_is; read = bad_read_is }
