use Rattle.std.proofs.Common.{refl, sym}
use Rattle.std.specs.Prelude.{decimal}
use Rattle.line_text.proofs.NumberLaws.{number_some, number_is, decimal_one}
use Rattle.line_text.proofs.laws.numbers_have_one_spelling.Goals as goal

pub returns : goal.returns
returns c = record {
  read_back = λ bits n small fits. number_some bits n (decimal n) small fits refl;
  one_number = decimal_one;
  written_back = λ bits n word e. sym (number_is bits n word e).0;
}
