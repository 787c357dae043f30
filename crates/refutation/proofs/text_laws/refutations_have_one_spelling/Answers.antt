use Rattle.refutation.proofs.TextAgain.{read_back}
use Rattle.refutation.proofs.TextRead.{written_back}
use Rattle.refutation.proofs.text_laws.refutations_have_one_spelling.Goals as goal

pub returns : goal.returns
returns c = record { read_back = read_back; written_back = written_back }
