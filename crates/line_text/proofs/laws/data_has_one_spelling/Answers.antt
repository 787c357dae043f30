use Rattle.std.proofs.Common.{refl, sym, arith}
use Rattle.line_text.specs.Data.{data_text}
use Rattle.line_text.proofs.DataLaws.{data_again, data_is}
use Rattle.line_text.proofs.Spelling.{spelling_one}
use Rattle.line_text.proofs.laws.data_has_one_spelling.Goals as goal

pub returns : goal.returns
returns c = record {
  read_back = λ bytes fits. data_again 512 (data_text 512 bytes) bytes (omega arith) fits refl;
  one_list = λ a b fits fits' e.
      spelling_one (data_again 512 (data_text 512 a) a (omega arith) fits refl)
      (data_again 512 (data_text 512 a) b (omega arith) fits' e);
  written_back = λ bytes word e. sym (data_is 512 word bytes (omega arith) e);
}
